use Rattle.std.proofs.Common.{◌≡◌, length, true, rules}
use Rattle.std.specs.List.{list_all}
use Rattle.hv_expr.specs.declared.ready_pred.ReadyPred.{the_lemmas}
use Rattle.hv_expr.specs.Ready.{is_pred_within}
use Rattle.hv_expr.proofs.ReadyLemmas.{and-ready, and-ready-memory, and-within, or-ready, or-ready-memory, or-within, not-within}
use Rattle.hv_expr.proofs.ready_pred.+decide.Goals as goal

pub ReadyPred::decide-all_hold-requires : goal.ReadyPred::decide-all_hold-requires
ReadyPred::decide-all_hold-requires g t c κs within =
    let parts : list_all (is_pred_within (length (g.T.Table.columns c.args.table.now))) c.as_slice.result.now ≡ true =
    rw (c.as_slice.ensures, ← and-within, ← c.in-And.is) c.requires.within in
    search (rules, the_lemmas)

pub ReadyPred::decide-one_holds-requires : goal.ReadyPred::decide-one_holds-requires
ReadyPred::decide-one_holds-requires g t c κs within =
    let parts : list_all (is_pred_within (length (g.T.Table.columns c.args.table.now))) c.as_slice-in-Or.result.now ≡ true =
    rw (c.as_slice-in-Or.ensures, ← or-within, ← c.in-Or.is) c.requires.within in
    search (rules, the_lemmas)

pub ReadyPred::decide-decide-requires : goal.ReadyPred::decide-decide-requires
ReadyPred::decide-decide-requires g t c κs within =
    let of : is_pred_within (length (g.T.Table.columns c.args.table.now)) c.get.result.now ≡ true =
    rw (c.get.ensures, ← not-within, ← c.in-Not.is) c.requires.within in
    search (rules, the_lemmas)

pub ReadyPred::decide-returns-in-And : goal.ReadyPred::decide-returns-in-And
ReadyPred::decide-returns-in-And g t c =
    λ found there. rw (c.in-And.is, and-ready, and-ready-memory, ← c.as_slice.ensures) (c.all_hold.ensures found there)

pub ReadyPred::decide-returns-in-Or : goal.ReadyPred::decide-returns-in-Or
ReadyPred::decide-returns-in-Or g t c =
    λ found there. rw (c.in-Or.is, or-ready, or-ready-memory, ← c.as_slice-in-Or.ensures) (c.one_holds.ensures found there)
