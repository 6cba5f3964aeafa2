use Rattle.std.proofs.Common.{sym, ◌∙◌, arith}
use Rattle.std.proofs.lemmas.List.{nil_from_length}
use Rattle.hv_sketch.proofs.JoinFacts.{first_greater, first_left, first_less, first_tied, front_at}
use Rattle.hv_sketch.proofs.ranking.first_of.Goals as goal
use Rattle.hv_sketch.proofs.ranking.first_of.Goals.{in-Less+in_ok-copy-in-Less, in-Equal+in_ok-join-in-Equal, in-Greater+in_ok-copy-in-Greater}

pub returns-in_default-b-2-clause-some : goal.returns-in_default-b-2-clause-some
returns-in_default-b-2-clause-some g c =
    let ranking = c.args.ranking.now in
    rw c.in_ok-item-2.ensures
    (first_left _ _ (g.R.Ranking.may_join ranking) (g.met.R.Ranking.order ranking) (g.met.R.Ranking.ties ranking) _ _ _ _
    (front_at _ _ c.in-len1-up.len_at_least c.x-item.is)
    (nil_from_length c.args.b.now (omega (arith, c.in_default-b-2.len_below))) c.requires.left c.requires.joinable)

pub returns-clause-some : goal.returns-clause-some
returns-clause-some g c =
    let ranking = c.args.ranking.now in
    let front = front_at _ _ c.in-len1-up.len_at_least c.x-item.is in
    let other = front_at _ _ c.in-len1-up-b-2.len_at_least c.y-item-2.is in
    let order = g.met.R.Ranking.order ranking in
    let ties = g.met.R.Ranking.ties ranking in
    elim c.match-compare.branch [
      | in-Less+in_ok-copy-in-Less w ↦
          rw (w.item-is, w.in_ok-copy-in-Less.ensures)
          (first_less _ _ _ order ties _ _ _ _ _ _ front other c.requires.left c.requires.right c.requires.joinable (sym c.compare.ensures ∙ w.in-Less.is))
      | in-Equal+in_ok-join-in-Equal w ↦
          rw (w.item-is, w.in_ok-join-in-Equal.ensures)
          (first_tied _ _ _ order ties _ _ _ _ _ _ front other c.requires.left c.requires.right c.requires.joinable (sym c.compare.ensures ∙ w.in-Equal.is))
      | in-Greater+in_ok-copy-in-Greater w ↦
          rw (w.item-is, w.in_ok-copy-in-Greater.ensures)
          (first_greater _ _ _ order ties _ _ _ _ _ _ front other c.requires.left c.requires.right c.requires.joinable (sym c.compare.ensures ∙ w.in-Greater.is))
    ]
