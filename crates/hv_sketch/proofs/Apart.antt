-- When no tagged row is in two lists.
use Rattle.std.proofs.Common.{List, [], ◌∷◌}
use Rattle.std.specs.List.{AllByRecursion}
use Rattle.hv_value.specs.Rows.{Row}
use Rattle.hv_sketch.specs.Merging.{HaveOneTag, IsApart}

-- a row has not the tag of any of the rows of another sort
apart_one : (G : Row → Type 0) (x : Row) → ((y : Row) → G y → ¬ HaveOneTag x y) → (b : List Row)
    → AllByRecursion G b → AllByRecursion (λ y. ¬ HaveOneTag x y) b
apart_one G x differ [] all = tt
apart_one G x differ (y ∷ b) all = (differ y all.0, apart_one G x differ b all.1)

-- rows of two sorts that share no tag are apart
pub apart_by : (F G : Row → Type 0) → ((x y : Row) → F x → G y → ¬ HaveOneTag x y) → (a b : List Row)
    → AllByRecursion F a → AllByRecursion G b → IsApart a b
apart_by F G differ [] b first second = tt
apart_by F G differ (x ∷ a) b first second =
    (apart_one G x (λ y. differ x y first.0) b second, apart_by F G differ a b first.1 second)
