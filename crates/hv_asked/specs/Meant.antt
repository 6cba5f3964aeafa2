-- What the values that the code reads mean.
use Rattle.std.specs.Prelude.{◌≡◌, Option, Some, None, Result, Ok, Err}
use Rattle.hv_bucket.specs.declared.buckets.Axis.{Axis}
use Rattle.hv_bucket.specs.declared.buckets.Buckets.TheVariants as buckets
use Rattle.hv_asked.specs.Axes.{bucket_count}
use Rattle.hv_asked.specs.declared.axes.AxisFound.{AxisFound}
use Rattle.hv_asked.specs.declared.axes.AxisFound.TheVariants.{Numbers, Texts}
use Rattle.hv_asked.specs.declared.refused.Refused.{Refused}
use Rattle.hv_asked.specs.declared.refused.Refused.TheVariants.{Word, Memory}
use Rattle.hv_asked.specs.declared.why.Why.{Why}
use Rattle.hv_asked.specs.declared.why.Why.TheVariants as why

-- what is read is wanted, or want of memory
abbrev pub Tells : {A : Type 0} → Result A Refused → Result A Why → Type 0
Tells (Ok x) wanted = wanted ≡ Ok x
Tells (Err (Word word)) wanted = wanted ≡ Err word
Tells (Err Memory) wanted = Unit {0}

-- what has to be there
abbrev pub needed : {A : Type 0} → Option A → Result A Refused
needed None = Err (Word why.Field)
needed (Some x) = Ok x

-- a field that has to be there is read, or want of memory
abbrev pub IsField : {A : Type 0} → Result A Refused → Option A → Type 0
IsField (Ok x) found = found ≡ Some x
IsField (Err (Word word)) found = (found ≡ None) × (word ≡ why.Field)
IsField (Err Memory) found = Unit {0}

-- the axis that the code found, whether there are such buckets or not
abbrev pub axis_found : AxisFound → Axis
axis_found (Numbers col lo hi n) = record { col = col; buckets = buckets.Int (record { lo = lo; hi = hi; n = bucket_count n }) }
axis_found (Texts col bounds) = record { col = col; buckets = buckets.Text bounds }
