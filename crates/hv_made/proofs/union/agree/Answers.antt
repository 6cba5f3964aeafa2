use Rattle.std.proofs.Common.{◌≡◌, ◌<◌, ◌≤◌, ◌∙◌, arith, inl, inr, refl, sym}
use Rattle.std.proofs.lemmas.Bool.{cases_lt}
use Rattle.std.proofs.lemmas.Option.{get_or_from_slice_get}
use Rattle.hv_value.specs.declared.cell.Cell.TheVariants as cell
use Rattle.hv_value.specs.Cells.{cell_at, cell_lent}
use Rattle.hv_member.proofs.RisingLemmas.{all-in}
use Rattle.hv_member.proofs.SearchLemmas.{left-some}
use Rattle.hv_made.proofs.RowSteps.{next-fewer, next-least, next-none}
use Rattle.hv_made.proofs.union.agree.Goals as goal

-- each column has a cell in the row that is found
pub cell-requires : goal.cell-requires
cell-requires c =
    let rows = c.args.rows.now in
    let next = left-some c.loop-row.from c.in-Some.row rows.rows c.count.ensures.set.rising (sym c.in-Some.ensures) in
    let below : c.in-Some.row < rows.size = all-in (λ x. x < rows.size) rows.rows c.count.ensures.set.below c.in-Some.row next.there in
    omega (arith, below, c.requires.left)

pub cell-requires-in-Some : goal.cell-requires-in-Some
cell-requires-in-Some c =
    let rows = c.args.rows.now in
    let next = left-some c.loop-row.from c.in-Some.row rows.rows c.count.ensures.set.rising (sym c.in-Some.ensures) in
    let below : c.in-Some.row < rows.size = all-in (λ x. x < rows.size) rows.rows c.count.ensures.set.below c.in-Some.row next.there in
    omega (arith, below, c.requires.right)

-- and is small
pub overflow_add-from : goal.overflow_add-from
overflow_add-from c =
    let rows = c.args.rows.now in
    let next = left-some c.loop-row.from c.in-Some.row rows.rows c.count.ensures.set.rising (sym c.in-Some.ensures) in
    let below : c.in-Some.row < rows.size = all-in (λ x. x < rows.size) rows.rows c.count.ensures.set.below c.in-Some.row next.there in
    omega (arith, below, c.count.ensures.small)

-- after it fewer are left
pub loop-row-smaller : goal.loop-row-smaller
loop-row-smaller c =
    let rows = c.args.rows.now in
    next-fewer rows.rows c.loop-row.from c.in-Some.row
    (left-some c.loop-row.from c.in-Some.row rows.rows c.count.ensures.set.rising (sym c.in-Some.ensures))

-- both have the same cell in one more
pub loop-row-preserved : goal.loop-row-preserved
loop-row-preserved c = λ n below there.
    let rows = c.args.rows.now in
    let left = c.args.left.now in
    let right = c.args.right.now in
    let row = c.in-Some.row in
    let next = left-some c.loop-row.from row rows.rows c.count.ensures.set.rising (sym c.in-Some.ensures) in
    let one : cell_at left.cells row ≡ cell_lent c.cell.result =
    get_or_from_slice_get left.cells row (cell_lent c.cell.result) cell.Missing c.cell.ensures in
    let other : cell_at right.cells row ≡ cell_lent c.cell-in-Some.result =
    get_or_from_slice_get right.cells row (cell_lent c.cell-in-Some.result) cell.Missing c.cell-in-Some.ensures in
    let here : cell_at left.cells row ≡ cell_at right.cells row = one ∙ c.if-not-are_same.ensures refl ∙ sym other in
    elim (cases_lt n c.loop-row.from) [
      | inl low ↦ c.loop-row.invariant n low there
      | inr high ↦
          let least : row ≤ n = next-least rows.rows c.loop-row.from row next n there high in
          let same : n ≡ row = omega (arith, least, below) in
          rw same here
    ]

-- at the end none is left
pub returns : goal.returns
returns c = λ yes n there. c.loop-row.invariant n (next-none c.args.rows.now.rows c.loop-row.from (sym c.in_default.ensures) n there) there
