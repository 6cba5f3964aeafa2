-- The values of a count that is planned are values of their column's kind.
use Rattle.std.proofs.Common.{◌≡◌, ◌∙◌, refl, sym, ap, subst, List, [], ◌∷◌, Bool, true, false, Some, Result, Ok, Err}
use Rattle.std.specs.Prelude.{ℕ, if◌then◌else◌}
use Rattle.std.specs.List.{list_all}
use Rattle.hv_value.specs.declared.cell.Cell.{Cell}
use Rattle.hv_value.specs.declared.cell.Cell.TheVariants as cell
use Rattle.hv_value.specs.declared.cell.Kind.{Kind}
use Rattle.hv_value.specs.declared.cell.Kind.TheVariants as kind
use Rattle.hv_value.specs.Schema.{Columns}
use Rattle.hv_sketch.specs.Columns.{IsColumnOf}
use Rattle.hv_heavy.specs.CountOf.{fits_count}
use Rattle.hv_heavy.specs.CountOf as count
use Rattle.hv_asked.specs.declared.asked.CellAsked.{CellAsked}
use Rattle.hv_asked.specs.declared.why.Why.{Why}
use Rattle.hv_asked.specs.declared.why.Why.TheVariants as why
use Rattle.hv_asked.specs.Constants.{cell_beside}
use Rattle.hv_asked.specs.Flaws.{all_meant, and_then, map_ok}
use Rattle.hv_asked.specs.Values.{is_value_of, value_beside, value_of}

-- both tests of a value are one
same-test : (k : Kind) (c : Cell) → is_value_of k c ≡ count.is_value_of k c
same-test kind.Int cell.Missing = refl
same-test kind.Int (cell.Int n) = refl
same-test kind.Int (cell.Date day) = refl
same-test kind.Int (cell.Text text) = refl
same-test kind.Date cell.Missing = refl
same-test kind.Date (cell.Int n) = refl
same-test kind.Date (cell.Date day) = refl
same-test kind.Date (cell.Text text) = refl
same-test kind.Text cell.Missing = refl
same-test kind.Text (cell.Int n) = refl
same-test kind.Text (cell.Date day) = refl
same-test kind.Text (cell.Text text) = refl

-- what is taken for a value is one
value-is : (k : Kind) (c v : Cell) → value_of k c ≡ Ok v → count.is_value_of k v ≡ true
value-is k c v is = by (is_value_of k c) refl is
  where
    by : (b : Bool) → is_value_of k c ≡ b → ◌≡◌ {A = Result Cell Why} (if b then Ok c else Err why.Kind) (Ok v) → count.is_value_of k v ≡ true
    by true e is = let same : c ≡ v = cc is in subst (λ w. count.is_value_of k w ≡ true) same (sym (same-test k c) ∙ e)
    by false e is = absurd (cc is)

-- so all of them are
all-values : (k : Kind) (asked : List CellAsked) (values : List Cell) → all_meant (value_beside k) asked ≡ Ok values → list_all (count.is_value_of k) values ≡ true
all-values k [] values is = let none : [] ≡ values = cc is in subst (λ l. list_all (count.is_value_of k) l ≡ true) none refl
all-values k (x ∷ asked) values is = by (value_beside k x) refl (all_meant (value_beside k) asked) (all-values k asked) is
  where
    by : (r : Result Cell Why) → value_beside k x ≡ r → (s : Result (List Cell) Why) → ((rest : List Cell) → s ≡ Ok rest → list_all (count.is_value_of k) rest ≡ true)
        → and_then (λ first. map_ok (λ rest. first ∷ rest) s) r ≡ Ok values → list_all (count.is_value_of k) values ≡ true
    by (Ok v) e (Ok rest) more is =
        let made : v ∷ rest ≡ values = cc is in
        subst (λ l. list_all (count.is_value_of k) l ≡ true) made (rw (value-is k (cell_beside (Some k) x) v e) (more rest refl))
    by (Ok v) e (Err word) more is = absurd (cc is)
    by (Err word) e s more is = absurd (cc is)

-- and the count fits the columns
pub count-fits : (columns : Columns) (col : ℕ) (k : Kind) (asked : List CellAsked) (values : List Cell) → IsColumnOf columns col k
    → all_meant (value_beside k) asked ≡ Ok values → fits_count columns col values ≡ true
count-fits columns col k asked values there is = rw there (all-values k asked values is)
