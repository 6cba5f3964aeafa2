-- The columns of a schema, taken one after another by their names and kinds.
use Rattle.std.proofs.Common.{◌≡◌, ℕ, zero, suc, List, [], ◌∷◌, ◌++◌, take, Some, option_map, slice_get, refl, ap}
use Rattle.hv_value.specs.Schema.{Columns}
use Rattle.hv_value.specs.declared.cell.Kind.{Kind}

pub one_more : (columns : Columns) (k : ℕ) (name : List ℕ) (kind : Kind)
    → option_map (λ (column : List ℕ × Kind). column.0) (slice_get columns k) ≡ Some name
    → option_map (λ (column : List ℕ × Kind). column.1) (slice_get columns k) ≡ Some kind
    → take (suc k) columns ≡ take k columns ++ (name, kind) ∷ []
one_more [] k name kind named kinded = absurd (cc named)
one_more (c ∷ columns) zero name kind named kinded =
    let a : c.0 ≡ name = cc named in
    let b : c.1 ≡ kind = cc kinded in
    rw (← a, ← b) refl
one_more (c ∷ columns) (suc k) name kind named kinded = ap (λ r. c ∷ r) (one_more columns k name kind named kinded)
