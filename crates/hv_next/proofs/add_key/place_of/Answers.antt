use Rattle.std.proofs.Common.{◌∙◌, arith}
use Rattle.hv_next.specs.KeyOrder.{rows_total}
use Rattle.hv_next.specs.Next.{added, compare_rows, one_row}
use Rattle.hv_next.proofs.KeyFacts.{as_cells}
use Rattle.hv_next.proofs.PlaceFacts.{between-end, between-higher, between-lower, tied-at}
use Rattle.hv_next.proofs.add_key.place_of.Goals as goal

pub loop-low-preserved-in-Less : goal.loop-low-preserved-in-Less
loop-low-preserved-in-Less g c =
    let keys = c.args.order.now in
    record {
      ordered = omega arith;
      within = omega (arith, c.loop-low.invariant.within);
      parted = λ found there.
          between-lower (compare_rows keys) (rows_total keys) (one_row keys found) c.args.rows.now _ _ c.requires.kept.rising
          _ c.index-rows-middle.result _ c.index-rows-middle.is (omega (arith, c.loop-low.invariant.within))
          (as_cells keys found _ _ _ _ c.index-rows-middle.is c.as_slice.ensures (c.compare_row.ensures found there) ∙ c.in-Less.is)
          (c.loop-low.invariant.parted found there);
    }

pub returns-in-Equal-clause-value : goal.returns-in-Equal-clause-value
returns-in-Equal-clause-value g c = λ found there.
    let keys = c.args.order.now in
    tied-at (compare_rows keys) (rows_total keys) added (one_row keys found) c.args.rows.now c.requires.kept.rising
    _ c.index-rows-middle.result _ c.index-rows-middle.is (omega (arith, c.loop-low.invariant.within))
    (as_cells keys found _ _ _ _ c.index-rows-middle.is c.as_slice.ensures (c.compare_row.ensures found there) ∙ c.in-Equal.is)

pub loop-low-preserved : goal.loop-low-preserved
loop-low-preserved g c =
    let keys = c.args.order.now in
    record {
      ordered = omega arith;
      within = c.loop-low.invariant.within;
      parted = λ found there.
          between-higher (compare_rows keys) (rows_total keys) (one_row keys found) c.args.rows.now _ _ c.requires.kept.rising
          _ c.index-rows-middle.result _ c.index-rows-middle.is (omega (arith, c.loop-low.invariant.within))
          (as_cells keys found _ _ _ _ c.index-rows-middle.is c.as_slice.ensures (c.compare_row.ensures found there) ∙ c.in-Greater.is)
          (c.loop-low.invariant.parted found there);
    }

pub returns-clause-value : goal.returns-clause-value
returns-clause-value g c = λ found there.
    let keys = c.args.order.now in
    between-end (compare_rows keys) (rows_total keys) added (one_row keys found) c.args.rows.now c.requires.kept.rising
    _ _ c.loop-low.invariant.ordered c.loop-low.invariant.within c.loop-low-test.false (c.loop-low.invariant.parted found there)
