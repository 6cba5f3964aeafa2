-- What buckets keep of themselves.
use Rattle.std.specs.Prelude.{◌≡◌, ℕ, List, Bool, true}
use Rattle.hv_bucket.specs.declared.numbers.IntLimits.{IntLimits}
use Rattle.hv_bucket.specs.Buckets.{are_int_buckets, are_text_buckets}
use Rattle.hv_bucket.specs.Keys.{AreKeys}

-- the limits are those of buckets
abbrev pub are_int_limits : IntLimits → Bool
are_int_limits limits = are_int_buckets limits.lo limits.hi limits.n

-- the left boundaries are those of buckets
abbrev pub are_text_limits : List (List ℕ) → Bool
are_text_limits bounds = are_text_buckets bounds

-- the left boundaries are those of buckets, and the numbers are the keys of the first ones
pub record AreKeyedLimits (bounds : List (List ℕ)) (keys : List ℕ) : Type 0 where
  pub sound : are_text_limits bounds ≡ true
  pub keyed : AreKeys bounds keys
