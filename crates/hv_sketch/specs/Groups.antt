-- Rows by groups: each row is in one group, numbered from 0, or in none.
use Rattle.std.specs.Prelude.{◌≡◌, ◌++◌, ℕ, List, Bool, false, Option, Some, None, length, map, is_none, nat_eq, nat_le, slice_get}
use Rattle.std.specs.List.{count_by, filter, find}
use Rattle.hv_value.specs.Rows.{Row}
use Rattle.hv_sketch.specs.Merging.{CanMerge}

-- whether a group is the one that was found
abbrev pub is_group : ℕ → Option ℕ → Bool
is_group g None = false
is_group g (Some h) = nat_eq g h

-- the rows of a group, in their order
abbrev pub group_rows : (Row → Option ℕ) → ℕ → List Row → List Row
group_rows group g rows = filter (λ row. is_group g (group row)) rows

-- how many rows are in no group
abbrev pub ungrouped : (Row → Option ℕ) → List Row → ℕ
ungrouped group rows = count_by (λ row. is_none (group row)) rows

-- the rows' numbers
abbrev pub numbers_of : List Row → List ℕ
numbers_of rows = map (λ row. row.number) rows

-- the first of some numbers at or above one
abbrev pub first_number : ℕ → List ℕ → Option ℕ
first_number from numbers = find (λ n. nat_le from n) numbers

-- so many were made, and each is right for its place
pub record AreMade {X : Type 0} (P : ℕ → X → Type 0) (count : ℕ) (made : List X) : Type 0 where
  pub many : length made ≡ count
  pub each : (place : ℕ) (x : X) → slice_get made place ≡ Some x → P place x

-- the summaries stand for the rows of the groups, each for those of one
abbrev pub StandForEach : {S : Type 0} → (Row → Option ℕ) → ℕ → (List Row → S → Type 0) → List Row → List S → Type 0
StandForEach group count stands rows summaries = AreMade (λ g s. stands (group_rows group g rows) s) count summaries

-- the lists are the numbers of the groups' rows, each of those of one
abbrev pub AreNumbersOfEach : (Row → Option ℕ) → ℕ → List Row → List (List ℕ) → Type 0
AreNumbersOfEach group count rows lists = AreMade (λ g numbers. numbers ≡ numbers_of (group_rows group g rows)) count lists

-- the same, and the rest is how many rows are in none
pub record StandForGroups {S : Type 0} (group : Row → Option ℕ) (count : ℕ) (stands : List Row → S → Type 0) (rows : List Row) (summaries : List S) (rest : ℕ) : Type 0 where
  pub each : StandForEach group count stands rows summaries
  pub others : rest ≡ ungrouped group rows

-- the lists are the numbers of the groups' rows, and the rest is how many rows are in none
pub record AreListed (group : Row → Option ℕ) (count : ℕ) (rows : List Row) (lists : List (List ℕ)) (rest : ℕ) : Type 0 where
  pub each : AreNumbersOfEach group count rows lists
  pub others : rest ≡ ungrouped group rows

-- what holds of the element at a place of a list
abbrev pub OfPlace : {X : Type 0} → List X → ℕ → (X → Type 0) → Type 0
OfPlace {X} xs place P = (x : X) → slice_get xs place ≡ Some x → P x

-- one summary stands for all rows for which another does
abbrev pub IsCopy : {S : Type 0} → (List Row → S → Type 0) → S → S → Type 0
IsCopy stands s t = (rows : List Row) → stands rows s → stands rows t

-- two summaries stand for rows that may be merged
abbrev pub CanSum : {S : Type 0} → (List Row → S → Type 0) → S → S → Type 0
CanSum stands s more = (a : List Row) × (b : List Row) × stands a s × stands b more × CanMerge a b

-- one summary stands for all rows for which two others do together
abbrev pub IsSum : {S : Type 0} → (List Row → S → Type 0) → S → S → S → Type 0
IsSum stands s more t = (a b : List Row) → stands a s → stands b more → CanMerge a b → stands (a ++ b) t

-- each summary of a list stands for all rows for which the one at its place in another does
abbrev pub AreCopies : {S : Type 0} → (List Row → S → Type 0) → List S → List S → Type 0
AreCopies stands summaries made = AreMade (λ place t. OfPlace summaries place (λ s. IsCopy stands s t)) (length summaries) made

-- at each place two lists have summaries that can be merged
abbrev pub CanSumEach : {S : Type 0} → (List Row → S → Type 0) → List S → List S → Type 0
CanSumEach stands summaries others = (place : ℕ) → OfPlace summaries place (λ s. OfPlace others place (λ more. CanSum stands s more))

-- the summary stands for all rows for which those at its place in two lists do together
abbrev pub IsSumAt : {S : Type 0} → (List Row → S → Type 0) → List S → List S → ℕ → S → Type 0
IsSumAt stands summaries others place t = OfPlace summaries place (λ s. OfPlace others place (λ more. IsSum stands s more t))

-- and so does each of a list
abbrev pub AreSums : {S : Type 0} → (List Row → S → Type 0) → List S → List S → List S → Type 0
AreSums stands summaries others made = AreMade (λ place t. IsSumAt stands summaries others place t) (length summaries) made
