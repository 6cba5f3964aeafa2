use Rattle.std.proofs.Common.{◌≡◌, None, ap, arith, refl, sym}
use Rattle.std.specs.Prelude.{option_map}
use Rattle.std.proofs.lemmas.List.{append-nil}
use Rattle.hv_expr.specs.Holds.{holds}
use Rattle.hv_value.specs.Rows.{Row}
use Rattle.hv_member.specs.Sets.{next_from}
use Rattle.hv_member.proofs.SearchLemmas.{left-none, left-start}
use Rattle.hv_column.specs.Rows.{cells_across, row_across}
use Rattle.hv_made.specs.Steps.{passing}
use Rattle.hv_made.proofs.RowSteps.{next-fewer, next-left, next-small, row-there, walk-offered}
use Rattle.hv_made.proofs.filter.passing_rows.Goals as goal

-- nothing is kept at the start, and all is left
pub loop-row-init : goal.loop-row-init
loop-row-init c = record {
  sofar = rw (c.new-kept.ensures, left-start) refl;
  prepared = rw c.schema.ensures.value at c.in_ok-ready.ensures;
}

-- the number that is found is that of a row
pub eval-requires-clause-row_there : goal.eval-requires-clause-row_there
eval-requires-clause-row_there c =
    let table = c.args.table.now in
    let next = next-left table c.member.result.now c.loop-row.from c.in-Some.row c.member.ensures.whole c.member.ensures.value c.in-Some.ensures in
    ap (option_map (λ (row : Row). row.number)) (row-there table c.in-Some.row c.member.ensures.whole next.there)

pub eval-requires-clause-within : goal.eval-requires-clause-within
eval-requires-clause-within c = c.loop-row.invariant.prepared.within

-- and is small
pub overflow_add-from : goal.overflow_add-from
overflow_add-from c =
    let table = c.args.table.now in
    let next = next-left table c.member.result.now c.loop-row.from c.in-Some.row c.member.ensures.whole c.member.ensures.value c.in-Some.ensures in
    omega (arith, next-small table c.loop-row.from c.in-Some.row c.member.ensures.whole next)

-- after it fewer are left
pub loop-row-smaller : goal.loop-row-smaller
loop-row-smaller c =
    let table = c.args.table.now in
    let next = next-left table c.member.result.now c.loop-row.from c.in-Some.row c.member.ensures.whole c.member.ensures.value c.in-Some.ensures in
    next-fewer table.member.rows c.loop-row.from c.in-Some.row next

-- it is kept where the predicate holds of its row
pub loop-row-preserved : goal.loop-row-preserved
loop-row-preserved c =
    let table = c.args.table.now in
    let n = c.in-Some.row in
    let next = next-left table c.member.result.now c.loop-row.from n c.member.ensures.whole c.member.ensures.value c.in-Some.ensures in
    let value : c.in_ok-passes.passes ≡ holds table.columns (cells_across table.cols n) c.args.pred.now =
    c.in_ok-passes.ensures c.args.pred.now (row_across table.part table.cols n) c.loop-row.invariant.prepared
    (row-there table n c.member.ensures.whole next.there) in
    record {
      sofar = rw c.in_ok-offer.ensures
          (walk-offered (λ m. holds table.columns (cells_across table.cols m) c.args.pred.now) c.loop-row.kept table.member.rows
          (passing c.args.pred.now table) c.loop-row.from n next c.loop-row.invariant.sofar c.in_ok-passes.passes value);
      prepared = c.loop-row.invariant.prepared;
    }

-- at the end none is left
pub returns : goal.returns
returns c =
    let none : next_from c.loop-row.from c.args.table.now.member.rows ≡ None = rw c.member.ensures.value at (sym c.in_default.ensures) in
    let left = left-none c.loop-row.from c.args.table.now.member.rows none in
    let all : c.loop-row.kept ≡ passing c.args.pred.now c.args.table.now = rw (left, append-nil) at c.loop-row.invariant.sofar in
    rw all at c.into_rows.ensures
