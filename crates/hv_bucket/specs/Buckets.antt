-- Buckets of whole numbers and of texts: this project's own rule.
use Rattle.std.specs.Prelude.{ℕ, zero, suc, ◌+◌, ◌*◌, ◌/◌, ℤ, ◌-ℤ◌, unsigned_abs, int_le, nat_lt, nat_le, Bool, true, not, ◌&&◌, List, [], ◌∷◌, length, if◌then◌else◌, codes}
use Rattle.std.specs.Cmp.Lexicographic.{slice_cmp}
use Rattle.std.specs.List.{count_by}
use Rattle.std.specs.Ordering.{nat_cmp, is_lt, is_gt}
use Rattle.hv_bucket.specs.declared.buckets.Place.{Place}
use Rattle.hv_bucket.specs.declared.buckets.Place.TheVariants as place
use Rattle.hv_bucket.specs.declared.error.BucketErr.{BucketErr}
use Rattle.hv_bucket.specs.declared.error.BucketErr.TheVariants.{BadBuckets, Memory}
use Rattle.hv_bucket.specs.declared.error.TheConstants.{MAX_BUCKETS}

-- whether there is one bucket to the most
abbrev pub is_bucket_count : ℕ → Bool
is_bucket_count n = nat_lt 0 n && nat_le n MAX_BUCKETS

-- whether there are so many buckets of the whole numbers from one to another
abbrev pub are_int_buckets : ℤ → ℤ → ℕ → Bool
are_int_buckets lo hi n = int_le lo hi && is_bucket_count n

-- the bucket of a whole number between the least and the greatest, over unbounded whole numbers
abbrev pub int_bucket : ℤ → ℤ → ℕ → ℤ → ℕ
int_bucket lo hi n x = unsigned_abs (x -ℤ lo) * n / (unsigned_abs (hi -ℤ lo) + 1)

-- where a whole number is put
abbrev pub number_place : ℤ → ℤ → ℕ → ℤ → Place
number_place lo hi n x = if int_le lo x && int_le x hi then place.In (int_bucket lo hi n x) else place.Outside

-- whether a text is below the first of some, where there is one
abbrev pub is_below_first : List ℕ → List (List ℕ) → Bool
is_below_first text [] = true
is_below_first text (first ∷ rest) = is_lt (slice_cmp nat_cmp text first)

-- whether each left boundary is below the next
abbrev pub bounds_rise : List (List ℕ) → Bool
bounds_rise [] = true
bounds_rise (bound ∷ bounds) = is_below_first bound bounds && bounds_rise bounds

-- whether there are buckets with these left boundaries
abbrev pub are_text_buckets : List (List ℕ) → Bool
are_text_buckets bounds = is_bucket_count (length bounds) && bounds_rise bounds

-- whether a left boundary isn't above a text
abbrev pub is_reached : List ℕ → List ℕ → Bool
is_reached text bound = not (is_gt (slice_cmp nat_cmp bound text))

-- the last of so many buckets
abbrev pub last_place : ℕ → Place
last_place zero = place.Outside
last_place (suc bucket) = place.In bucket

-- where a text is put: into the bucket of the last left boundary that isn't above it
abbrev pub text_place : List (List ℕ) → List ℕ → Place
text_place bounds text = last_place (count_by (is_reached text) bounds)

-- what an error says
abbrev pub bucket_err_text : BucketErr → List ℕ
bucket_err_text BadBuckets = codes "there are no such buckets"
bucket_err_text Memory = codes "out of memory"
