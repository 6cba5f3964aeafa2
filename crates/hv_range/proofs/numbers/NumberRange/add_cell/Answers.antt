use Rattle.std.proofs.Common.{rules, ◌≡◌}
use Rattle.std.specs.Prelude.{pos}
use Rattle.hv_range.specs.NumberRange.{with_number}
use Rattle.hv_range.proofs.NumberFacts.{kept-day, kept-int, kept-missing}
use Rattle.hv_range.proofs.numbers.NumberRange.add_cell.Goals as goal

pub returns-in-Int-clause-value : goal.returns-in-Int-clause-value
returns-in-Int-clause-value c = λ k free fits.
    let told : c.add_number.new.self ≡ with_number c.in-Int.n c.in-Int.n c.args.self.now = search rules in
    rw (c.in-Int.is, told) (kept-int k c.in-Int.n c.args.self.now free (rw c.in-Int.is at fits))

pub returns-in-Date-clause-value : goal.returns-in-Date-clause-value
returns-in-Date-clause-value c = λ k free fits.
    let told : c.add_number-in-Date.new.self ≡ with_number c.in-Date.day (pos 0) c.args.self.now = search rules in
    rw (c.in-Date.is, told) (kept-day k c.in-Date.day c.args.self.now free (rw c.in-Date.is at fits))

pub returns-in-Missing-clause-value : goal.returns-in-Missing-clause-value
returns-in-Missing-clause-value c = λ k free fits. rw c.in-Missing.is (kept-missing k c.args.self.now)
