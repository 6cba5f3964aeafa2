use Rattle.std.proofs.Common.{arith, ap, length}
use Rattle.hv_column.proofs.OptionLists.{length-options_of}
use Rattle.hv_column.proofs.nullable.Nullable.len.Goals as goal

-- there are as many options as values
pub returns : goal.returns
returns g c = omega (arith, length-options_of c.self.inside.present.items c.self.inside.values.items c.self.invariant, ap length c.self.view_is)
