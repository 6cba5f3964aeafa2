use Rattle.std.proofs.Common.{arith, refl, ap, length, ◌<◌, true, false}
use Rattle.hv_column.proofs.OptionLists.{length-options_of, slice_get-absent, slice_get-present, slice_get-read}
use Rattle.hv_column.proofs.nullable.Nullable.get.Goals as goal

-- the place is one of the marks, and of the values
pub index-requires : goal.index-requires
index-requires g c = omega (arith, length-options_of c.self.inside.present.items c.self.inside.values.items c.self.invariant, ap length c.self.view_is)

pub index-requires-then-index : goal.index-requires-then-index
index-requires-then-index g c = omega (arith, length-options_of c.self.inside.present.items c.self.inside.values.items c.self.invariant, ap length c.self.view_is)

-- a mark that says so goes with the value
pub returns-then-index : goal.returns-then-index
returns-then-index g c =
    let marks = c.self.inside.present.items in
    let values = c.self.inside.values.items in
    let within : c.args.i < length values = omega (arith, length-options_of marks values c.self.invariant, ap length c.self.view_is) in
    let marked : c.args.i < length marks = omega (arith, within, c.self.invariant) in
    rw (← c.self.view_is) (slice_get-present marks values c.args.i c.index-then-index.result.now
    (slice_get-read marks c.args.i c.index.result.now true c.index.ensures c.if-index.true marked)
    (slice_get-read values c.args.i c.index-then-index.result.now c.index-then-index.result.now c.index-then-index.ensures refl within))

-- else none
pub returns-else-index : goal.returns-else-index
returns-else-index g c =
    let marks = c.self.inside.present.items in
    let values = c.self.inside.values.items in
    let within : c.args.i < length values = omega (arith, length-options_of marks values c.self.invariant, ap length c.self.view_is) in
    let marked : c.args.i < length marks = omega (arith, within, c.self.invariant) in
    rw (← c.self.view_is) (slice_get-absent marks values c.args.i
    (slice_get-read marks c.args.i c.index.result.now false c.index.ensures c.if-index.false marked) within)
