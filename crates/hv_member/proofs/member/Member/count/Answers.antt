use Rattle.std.proofs.Common.{sym, ap, ◌∙◌, arith, length}
use Rattle.hv_member.proofs.RisingLemmas.{length-numbers, length-set_below}
use Rattle.hv_member.proofs.KeptLemmas.{opened_full, opened_listed}
use Rattle.hv_member.proofs.member.Member.count.Goals as goal

pub overflow_cast-result : goal.overflow_cast-result
overflow_cast-result c =
    let seen = opened_listed _ _ _ c.self.view_is c.self.invariant _ c.in-Listed.is in
    omega (arith, length-set_below _ _ seen.set)

pub returns-in-Full-clause-value : goal.returns-in-Full-clause-value
returns-in-Full-clause-value c =
    let seen = opened_full _ _ _ c.self.view_is c.self.invariant c.in-Full.is in
    sym (length-numbers _) ∙ ap length seen.rows_is

pub returns-in-Full-clause-within : goal.returns-in-Full-clause-within
returns-in-Full-clause-within c =
    let seen = opened_full _ _ _ c.self.view_is c.self.invariant c.in-Full.is in
    omega (arith, length-set_below _ _ seen.set, ap length seen.rows_is)

pub returns-in-Listed-clause-within : goal.returns-in-Listed-clause-within
returns-in-Listed-clause-within c =
    let seen = opened_listed _ _ _ c.self.view_is c.self.invariant _ c.in-Listed.is in
    omega (arith, length-set_below _ _ seen.set, ap length seen.rows_is)
