-- Two rising lists, joined by their least elements in turn.
use Rattle.std.specs.Prelude.{◌≡◌, ◌<◌, ◌+◌, List, ◌∷◌, length}
use Rattle.std.specs.List.{Contains}
use Rattle.std.specs.declared.cmp.Ordering.{Ordering}
use Rattle.std.specs.declared.cmp.Ordering.TheVariants.{Equal}
use Rattle.hv_sketch.specs.Rising.{IsRising, put_all}

-- each element of the one list may be joined with one of the other that ties with it
abbrev pub AreJoinable : {X : Type 0} → (X → X → Ordering) → (X → X → Type 0) → List X → List X → Type 0
AreJoinable {X} cmp may_join a b = (x y : X) → Contains a x → Contains b y → cmp x y ≡ Equal → may_join x y

-- the element is the first of both lists joined, and the rest that of what is left of both
pub record IsFirst {X : Type 0} (cmp : X → X → Ordering) (join : X → X → X) (may_join : X → X → Type 0) (a b : List X) (first : X) (more_a more_b : List X) : Type 0 where
  pub is : put_all cmp join a b ≡ first ∷ put_all cmp join more_a more_b
  pub left : IsRising cmp more_a
  pub right : IsRising cmp more_b
  pub joinable : AreJoinable cmp may_join more_a more_b
  pub fewer : length more_a + length more_b < length a + length b
