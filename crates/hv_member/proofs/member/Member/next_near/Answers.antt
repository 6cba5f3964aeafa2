use Rattle.std.proofs.Common.{sym, ap, ◌∙◌}
use Rattle.hv_member.specs.Sets.{next_from}
use Rattle.hv_member.proofs.SearchLemmas.{next_from-numbers, next_from-past}
use Rattle.hv_member.proofs.KeptLemmas.{opened_full}
use Rattle.hv_member.proofs.member.Member.next_near.Goals as goal

pub returns-in-Full : goal.returns-in-Full
returns-in-Full c =
    let seen = opened_full _ _ _ c.self.view_is c.self.invariant c.in-Full.is in
    sym (next_from-numbers _ _ c.if-from-self.true) ∙ ap (next_from c.args.from) seen.rows_is

pub returns-in-Full-2 : goal.returns-in-Full-2
returns-in-Full-2 c =
    let seen = opened_full _ _ _ c.self.view_is c.self.invariant c.in-Full.is in
    sym (next_from-past _ _ c.if-from-self.false) ∙ ap (next_from c.args.from) seen.rows_is
