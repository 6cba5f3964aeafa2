use Rattle.std.proofs.Common.{sym, ap, ◌∙◌}
use Rattle.hv_member.specs.Sets.{is_in}
use Rattle.hv_member.proofs.MembershipLemmas.{is_in-numbers}
use Rattle.hv_member.proofs.KeptLemmas.{opened_full}
use Rattle.hv_member.proofs.member.Member.contains.Goals as goal

pub returns-in-Full : goal.returns-in-Full
returns-in-Full c =
    let seen = opened_full _ _ _ c.self.view_is c.self.invariant c.in-Full.is in
    sym (is_in-numbers c.args.row _) ∙ ap (is_in c.args.row) seen.rows_is
