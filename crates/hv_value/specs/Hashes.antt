-- What the hashes of cells and of orders write: functions of the value, so that the same ones write the same.
use Rattle.std.specs.Prelude.{◌++◌, List}
use Rattle.std.specs.Hash as fed
use Rattle.hv_value.specs.declared.cell.Cell.{Cell}
use Rattle.hv_value.specs.declared.orders.OrderKey.{OrderKey}
use Rattle.hv_value.specs.Order.{order_bytes, order_number}

-- of a cell its number and its bytes
abbrev pub cell_writes : Cell → fed.HashWrites
cell_writes c = fed.i64 (order_number c) ++ fed.str (order_bytes c)

-- of a column of an order its place and its direction
abbrev pub column_writes : OrderKey → fed.HashWrites
column_writes key = fed.u32 key.col ++ fed.bool key.down

-- of an order its columns
abbrev pub order_writes : List OrderKey → fed.HashWrites
order_writes keys = fed.slice column_writes keys
