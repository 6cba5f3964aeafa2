use Rattle.std.proofs.Common.{◌≡◌, take}
use Rattle.std.specs.Prelude.{map}
use Rattle.hv_quant.specs.Pairs.{unpacked}
use Rattle.hv_quant.proofs.keyed.keyed_rows.Given as goal

-- the rows of the pairs so far are there
abbrev pub invariant-loop-pair : goal.invariant-loop-pair
invariant-loop-pair g l = l.rows ≡ map (unpacked l.order (g.T.Table.part_number l.table) (g.T.Table.rows l.table)) (take l.pair-index l.pairs)
