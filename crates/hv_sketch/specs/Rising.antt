-- Lists that rise strictly in an order, and the rising list of a list's elements.
use Rattle.std.specs.Prelude.{ℕ, List, [], ◌∷◌, ◌++◌, ◌≡◌, take}
use Rattle.std.specs.Ordering.{match_ordering}
use Rattle.std.specs.declared.cmp.Ordering.{Ordering}
use Rattle.std.specs.declared.cmp.Ordering.TheVariants.{Less, Equal}

-- an element is below the first of a list, where there is one
abbrev pub IsAbove : {X : Type 0} → (X → X → Ordering) → X → List X → Type 0
IsAbove cmp x [] = Unit {0}
IsAbove cmp x (y ∷ ys) = cmp x y ≡ Less

-- each element is below the next
abbrev pub IsRising : {X : Type 0} → (X → X → Ordering) → List X → Type 0
IsRising cmp [] = Unit {0}
IsRising cmp (x ∷ xs) = IsAbove cmp x xs × IsRising cmp xs

module _ {X : Type 0} (cmp : X → X → Ordering) (join : X → X → X) where
  -- an element put at its place into a rising list, joined with the one that ties with it
  abbrev pub put : X → List X → List X
  put x [] = x ∷ []
  put x (y ∷ ys) = match_ordering (cmp x y) (x ∷ y ∷ ys) (join x y ∷ ys) (y ∷ put x ys)

  -- the elements of a list put into a rising list
  abbrev pub put_all : List X → List X → List X
  put_all [] ys = ys
  put_all (x ∷ xs) ys = put x (put_all xs ys)

  -- the rising list of a list's elements, those that tie joined
  abbrev pub rising : List X → List X
  rising xs = put_all xs []

  -- the least k of them
  abbrev pub least : ℕ → List X → List X
  least k xs = take k (rising xs)

  -- the least of joined lists are the least of the least of both
  abbrev pub LeastOfPieces : Type 0
  LeastOfPieces = (k : ℕ) (a b : List X) → least k (a ++ b) ≡ least k (least k a ++ least k b)

  -- and the least of those joined
  abbrev pub LeastOfJoined : Type 0
  LeastOfJoined = (k : ℕ) (a b : List X) → least k (a ++ b) ≡ take k (put_all (least k a) (least k b))

-- joining two elements that tie keeps their place in the order, in any order and any grouping
pub record JoinsTies {X : Type 0} (cmp : X → X → Ordering) (join : X → X → X) : Type 0 where
  pub same : (x y z : X) → cmp x y ≡ Equal → cmp (join x y) z ≡ cmp x z
  pub turn : (x y : X) → cmp x y ≡ Equal → join x y ≡ join y x
  pub regroup : (x y z : X) → cmp x y ≡ Equal → cmp y z ≡ Equal → join x (join y z) ≡ join (join x y) z
