-- What the hashes of views write: functions of the value, so that the same ones write the same.
use Rattle.std.specs.Prelude.{◌++◌}
use Rattle.std.specs.Hash as fed
use Rattle.hv_value.specs.Hashes.{cell_writes}
use Rattle.hv_heavy.specs.declared.count_of.CountOf.{CountOf}

-- of a count of values its column and the values
abbrev pub count_writes : CountOf → fed.HashWrites
count_writes view = fed.u32 view.col ++ fed.slice cell_writes view.values
