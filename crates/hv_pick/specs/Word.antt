-- The words that pick sampled rows: the 32-bit words of the generator Lcg64Xsh32 of the crate
-- rand_pcg (O'Neill, "PCG: a family of simple fast space-efficient statistically good algorithms
-- for random number generation").
use Rattle.std.specs.Prelude.{ℕ, Bool, nat_lt}
use Rattle.rand_pcg.specs.Lcg.{Lcg, advance, increment_of, started}
use Rattle.rand_pcg.specs.Pcg.{multiplier_64, pcg32}

-- the generator of a partition before any step: it starts at the seed, on the partition's stream
abbrev pub generator_of : ℕ → ℕ → Lcg
generator_of seed part = started 64 multiplier_64 seed (increment_of 64 part)

-- the generator of a partition at a row: after as many steps as the row's number
abbrev pub generator_at : ℕ → ℕ → ℕ → Lcg
generator_at seed part row = advance 64 multiplier_64 row (generator_of seed part)

-- the word of a row: the next one that the generator gives at that row
unfoldable pub word_of : ℕ → ℕ → ℕ → ℕ
word_of seed part row = (pcg32 (generator_at seed part row)).0

-- whether a row is picked: its word is below the threshold
abbrev pub is_picked : ℕ → ℕ → ℕ → ℕ → Bool
is_picked seed threshold part row = nat_lt (word_of seed part row) threshold
