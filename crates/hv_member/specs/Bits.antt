-- Words of 64 bits as a set of numbers. Only the model of `PartSet` and private calls name this; no clause of a public call
-- does.
use Rattle.std.specs.Prelude.{◌≡◌, ℕ, ◌/◌, ◌%◌, ◌^◌, ◌<◌, ◌≤◌, Bool, true, false, List, length, ◌==◌, slice_index, filter, Option, None, Some}
use Rattle.std.specs.Int.{bit_at, div_ceil}
use Rattle.hv_member.specs.Sets.{numbers}

-- bit n of the words, counted from the lowest bit of the first
abbrev pub bit_of : List ℕ → ℕ → Bool
bit_of words n = bit_at (slice_index words (n / 64)) (n % 64) == 1

-- the numbers below the size whose bits are set
abbrev pub members_of : ℕ → List ℕ → List ℕ
members_of size words = filter (bit_of words) (numbers size)

-- what a `PartSet` keeps of the partitions below its size
pub record IsKept (size count : ℕ) (words : List ℕ) : Type 0 where
  pub small : size < 2 ^ 32
  -- one word for each 64 partitions
  pub room : length words ≡ div_ceil size 64
  -- no bit is set past the size
  pub clear : (p : ℕ) → size ≤ p → bit_of words p ≡ false
  pub counted : count ≡ length (members_of size words)

-- the first bit that is set, from bit `from` on
abbrev pub IsFirstBit : List ℕ → ℕ → Option ℕ → Type 0
IsFirstBit words from None = (p : ℕ) → from ≤ p → bit_of words p ≡ false
IsFirstBit words from (Some q) = (from ≤ q) × (bit_of words q ≡ true) × ((p : ℕ) → from ≤ p → p < q → bit_of words p ≡ false)
