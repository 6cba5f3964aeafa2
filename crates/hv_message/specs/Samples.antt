-- The numbers of samples and their limits.
use Rattle.std.specs.Prelude.{ℤ, pos, int_le, Bool, true, ◌&&◌, Option, Some, None}
use Rattle.hv_asked.specs.declared.limits.TheConstants.{MAX_SEED, MAX_THRESHOLD}

-- whether a whole number is a seed: one from 0 to 2^64 - 1
abbrev pub is_seed : ℤ → Bool
is_seed n = int_le (pos 0) n && int_le n (pos MAX_SEED)

-- whether it is a threshold: one from 0 to 2^32
abbrev pub is_threshold : ℤ → Bool
is_threshold n = int_le (pos 0) n && int_le n (pos MAX_THRESHOLD)

-- whether what is given for a seed is one: it may be absent
abbrev pub is_seed_if_given : Option ℤ → Bool
is_seed_if_given None = true
is_seed_if_given (Some seed) = is_seed seed
