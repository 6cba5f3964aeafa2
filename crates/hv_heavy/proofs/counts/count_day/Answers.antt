use Rattle.std.proofs.Common.{◌≡◌, ◌∙◌, arith, ℤ, None, Some, ap, subst, sym, of_z, to_z, w32}
use Rattle.std.specs.HashMap.{PutsEntry, get}
use Rattle.std.specs.Map.{lookup}
use Rattle.std.specs.Ordering.{int_eq}
use Rattle.std.proofs.lemmas.Bool.Decides.{Decides-int_eq}
use Rattle.std.proofs.lemmas.Int.{to_z-of_z}
use Rattle.hv_value.specs.declared.cell.Cell.TheVariants as cell
use Rattle.hv_heavy.proofs.CountFacts.{counts-entered, counts-raised, raised-fits}
use Rattle.hv_heavy.proofs.counts.count_day.Goals as goal

pub overflow_add-count : goal.overflow_add-count
overflow_add-count c =
    let found : lookup (int_eq (to_z w32 (of_z w32 c.args.day))) c.args.counts.now.entries ≡ Some c.in-Some.count.now = sym c.in-Some.ensures.value in
    omega (arith, raised-fits cell.Date (int_eq (to_z w32 (of_z w32 c.args.day))) c.args.counts.now.entries c.in-Some.count.now found c.requires)

-- the number is there, and its count rises
pub returns-in-Some : goal.returns-in-Some
returns-in-Some c =
    let key : ℤ = to_z w32 (of_z w32 c.args.day) in
    let key_is : to_z w32 (of_z w32 c.args.day) ≡ c.args.day = to_z-of_z w32 c.args.day c.ranges.day in
    let found : lookup (int_eq (to_z w32 (of_z w32 c.args.day))) c.args.counts.now.entries ≡ Some c.in-Some.count.now = sym c.in-Some.ensures.value in
    counts-raised cell.Date (cell.Date c.args.day) c.in-Some.count.now (int_eq (to_z w32 (of_z w32 c.args.day)))
    (λ other same. ap cell.Date (sym ((Decides-int_eq key other).0 same) ∙ key_is))
    c.args.counts.now.entries _ found (c.get_mut.follows.holds _).0

-- or it comes in
pub returns-in_ok-insert-in-None : goal.returns-in_ok-insert-in-None
returns-in_ok-insert-in-None c =
    let key : ℤ = to_z w32 (of_z w32 c.args.day) in
    let key_is : to_z w32 (of_z w32 c.args.day) ≡ c.args.day = to_z-of_z w32 c.args.day c.ranges.day in
    let none : lookup (int_eq (to_z w32 (of_z w32 c.args.day))) c.args.counts.now.entries ≡ None = sym c.in-None.ensures.value in
    let old : c.in_ok-insert-in-None.field-0 ≡ None = c.in_ok-insert-in-None.ensures.old ∙ ap (λ m. get int_eq m key) c.get_mut.follows.holds-at-none ∙ none in
    let put : PutsEntry int_eq c.args.counts.now c.insert.new.self key 1 c.in_ok-insert-in-None.field-0 =
    subst (λ m. PutsEntry int_eq m c.insert.new.self key 1 c.in_ok-insert-in-None.field-0) c.get_mut.follows.holds-at-none c.in_ok-insert-in-None.ensures.entries in
    counts-entered cell.Date (cell.Date c.args.day) key (ap cell.Date key_is) c.args.counts.now.entries c.insert.new.self.entries c.in_ok-insert-in-None.field-0 _ old put
