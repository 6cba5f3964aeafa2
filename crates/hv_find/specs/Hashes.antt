-- What a hash of a search writes: a function of the value, so that the same ones write the same.
use Rattle.std.specs.Prelude.{◌++◌}
use Rattle.std.specs.Hash as fed
use Rattle.hv_expr.specs.Hashes.{test_writes}
use Rattle.hv_next.specs.Hashes.{after_writes}
use Rattle.hv_value.specs.Hashes.{order_writes}
use Rattle.hv_find.specs.declared.find.Find.{Find}

-- the columns, the test, the order, and the key above which rows are
abbrev pub find_writes : Find → fed.HashWrites
find_writes find = fed.slice fed.u32 find.cols ++ test_writes find.test ++ order_writes find.order ++ after_writes find.after
