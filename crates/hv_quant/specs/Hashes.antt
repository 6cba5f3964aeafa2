-- What the hashes of views of samples write: functions of the value, so that the same ones write the same.
use Rattle.std.specs.Prelude.{◌++◌}
use Rattle.std.specs.Hash as fed
use Rattle.hv_value.specs.Hashes.{order_writes}
use Rattle.hv_quant.specs.declared.sample.Sample.{Sample}

-- of a view its order, its seed, how many rows are sampled, and how many quantiles it has
abbrev pub sample_writes : Sample → fed.HashWrites
sample_writes view = order_writes view.order ++ fed.u64 view.seed ++ fed.u32 view.k ++ fed.u32 view.q
