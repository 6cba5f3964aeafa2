-- Sets of numbers as lists: of the rows of a partition, and of the partitions of a table. This project's own words.
--
-- Those of membership and their laws hold of all lists. The calls of the crate give rising lists, each of which is
-- the only rising list with its members.
use Rattle.std.specs.Prelude.{ℕ, ◌<◌, Bool, false, not, ◌&&◌, ◌||◌, List, [], ◌∷◌, Option, ◌==◌, nat_lt, nat_le, filter, find, if◌then◌else◌}
use Rattle.std.specs.List.{AllByRecursion, list_all, range_with_len}

-- whether x is in the list
abbrev pub is_in : ℕ → List ℕ → Bool
is_in x [] = false
is_in x (y ∷ ys) = x == y || is_in x ys

-- each number is below all that follow it
abbrev pub IsRising : List ℕ → Type 0
IsRising [] = Unit {0}
IsRising (x ∷ xs) = AllByRecursion (λ y. x < y) xs × IsRising xs

-- each number is below n
abbrev pub IsBelow : ℕ → List ℕ → Type 0
IsBelow n xs = AllByRecursion (λ x. x < n) xs

-- a set of numbers below n, as the rising list of them
pub record IsSetBelow (n : ℕ) (xs : List ℕ) : Type 0 where
  pub rising : IsRising xs
  pub below : IsBelow n xs

-- all the numbers below n
abbrev pub numbers : ℕ → List ℕ
numbers n = range_with_len 0 n

-- the rising list with x in its place, once
abbrev pub inserted : ℕ → List ℕ → List ℕ
inserted x [] = x ∷ []
inserted x (y ∷ ys) = if nat_lt y x then y ∷ inserted x ys else if x == y then y ∷ ys else x ∷ y ∷ ys

-- the list without x
abbrev pub removed : ℕ → List ℕ → List ℕ
removed x xs = filter (λ y. not (x == y)) xs

-- the first list with each number of the second in its place, once
abbrev pub joined : List ℕ → List ℕ → List ℕ
joined xs [] = xs
joined xs (y ∷ ys) = joined (inserted y xs) ys

-- what is in both lists
abbrev pub common : List ℕ → List ℕ → List ℕ
common xs ys = filter (λ x. is_in x ys) xs

-- what is in the first list and not in the second
abbrev pub minus : List ℕ → List ℕ → List ℕ
minus xs ys = filter (λ x. not (is_in x ys)) xs

-- whether each number of the first list is in the second
abbrev pub is_within : List ℕ → List ℕ → Bool
is_within xs ys = list_all (λ x. is_in x ys) xs

-- whether all the numbers below n are in the list
abbrev pub has_all : ℕ → List ℕ → Bool
has_all n xs = is_within (numbers n) xs

-- whether the first list has all that the second has, and more
abbrev pub exceeds : List ℕ → List ℕ → Bool
exceeds xs ys = is_within ys xs && not (is_within xs ys)

-- the first number in the list that is not below `from`
abbrev pub next_from : ℕ → List ℕ → Option ℕ
next_from from xs = find (λ x. nat_le from x) xs
