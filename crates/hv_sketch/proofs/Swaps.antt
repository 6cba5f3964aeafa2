-- What doesn't depend on the order of a list: a value that adds up over joined lists, and a fact of each element.
use Rattle.std.proofs.Common.{◌≡◌, List, [], ◌∷◌, ◌++◌, sym, ap, ◌∙◌}
use Rattle.std.specs.List.{AllByRecursion}

-- a value that adds up over joined lists, by an addition that may be regrouped and turned, is that of the swapped list
pub sum-swap : {X S : Type 0} (of : List X → S) (add : S → S → S)
    → ((x y z : S) → add (add x y) z ≡ add x (add y z)) → ((x y : S) → add x y ≡ add y x)
    → ((a b : List X) → of (a ++ b) ≡ add (of a) (of b))
    → (a b c : List X) → of (a ++ b ++ c) ≡ of (a ++ c ++ b)
sum-swap of add regroup turn join a b c =
    join (a ++ b) c ∙ ap (λ s. add s (of c)) (join a b) ∙ regroup (of a) (of b) (of c)
    ∙ ap (add (of a)) (turn (of b) (of c)) ∙ sym (regroup (of a) (of c) (of b))
    ∙ ap (λ s. add s (of b)) (sym (join a c)) ∙ sym (join (a ++ c) b)

module _ {X : Type 0} (P : X → Type 0) where
  -- what holds of each element of two lists holds of each of both
  pub all-join : (a b : List X) → AllByRecursion P a → AllByRecursion P b → AllByRecursion P (a ++ b)
  all-join [] b first second = second
  all-join (x ∷ a) b first second = (first.0, all-join a b first.1 second)

  -- and the other way round, of the first
  pub all-front : (a b : List X) → AllByRecursion P (a ++ b) → AllByRecursion P a
  all-front [] b both = tt
  all-front (x ∷ a) b both = (both.0, all-front a b both.1)

  -- and of the second
  pub all-back : (a b : List X) → AllByRecursion P (a ++ b) → AllByRecursion P b
  all-back [] b both = both
  all-back (x ∷ a) b both = all-back a b both.1

  -- and of each of the swapped list
  pub all-swap : (a b c : List X) → AllByRecursion P (a ++ b ++ c) → AllByRecursion P (a ++ c ++ b)
  all-swap a b c all =
      let front = all-front (a ++ b) c all in
      all-join (a ++ c) b (all-join a c (all-front a b front) (all-back (a ++ b) c all)) (all-back a b front)
