-- What the hashes of buckets write.
use Rattle.std.specs.Prelude.{◌++◌}
use Rattle.std.specs.Hash as fed
use Rattle.hv_bucket.specs.declared.buckets.Axis.{Axis}
use Rattle.hv_bucket.specs.declared.buckets.Buckets.{Buckets}
use Rattle.hv_bucket.specs.declared.buckets.Buckets.TheVariants as buckets
use Rattle.hv_bucket.specs.declared.numbers.IntLimits.{IntLimits}

-- of numbers the two ends and the number of buckets
abbrev pub limits_writes : IntLimits → fed.HashWrites
limits_writes limits = fed.i64 limits.lo ++ fed.i64 limits.hi ++ fed.u32 limits.n

-- of buckets a number for their kind, and then the limits or the left boundaries
abbrev pub buckets_writes : Buckets → fed.HashWrites
buckets_writes (buckets.Int limits) = fed.u8 0 ++ limits_writes limits
buckets_writes (buckets.Text bounds) = fed.u8 1 ++ fed.slice fed.str bounds

-- of an axis the column and the buckets
abbrev pub axis_writes : Axis → fed.HashWrites
axis_writes axis = fed.u32 axis.col ++ buckets_writes axis.buckets
