use Rattle.std.proofs.Common.{◌≡◌, ◌<◌, ap, arith, length, map, slice_get, Some, sym}
use Rattle.std.specs.Arc.{arc_value}
use Rattle.std.proofs.lemmas.List.{length-map}
use Rattle.hv_part.specs.Part.{HoldPart, PartRows}
use Rattle.hv_part.proofs.RowsThere.{long-at, made-at, some-cols}
use Rattle.hv_part.proofs.part_table.PartTable.height.Goals as goal

-- a table has a first column
pub index-requires : goal.index-requires
index-requires c =
    let kept = c.self.inside in
    let table : PartRows = record { columns = kept.schema; part = kept.part; cols = map arc_value kept.cols.items; member = kept.member } in
    omega (arith, some-cols table c.self.invariant, length-map kept.cols.items arc_value)

-- which has as many cells as each
pub returns-clause-value : goal.returns-clause-value
returns-clause-value c =
    let kept = c.self.inside in
    let table : PartRows = record { columns = kept.schema; part = kept.part; cols = map arc_value kept.cols.items; member = kept.member } in
    let some : 0 < length kept.cols.items = omega (arith, some-cols table c.self.invariant, length-map kept.cols.items arc_value) in
    let at : slice_get table.cols 0 ≡ Some c.deref.result.now = rw c.deref.ensures (made-at arc_value kept.cols.items 0 c.index.result.now some c.index.ensures) in
    let long = long-at table.member.size table.cols 0 c.deref.result.now c.self.invariant.agree.lengths at in
    rw (← c.self.view_is) (omega (arith, long, c.len.ensures.value))
