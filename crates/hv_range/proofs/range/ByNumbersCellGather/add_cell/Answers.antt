use Rattle.std.proofs.Common.{◌≡◌, subst, true}
use Rattle.hv_value.specs.Cells.{cell_lent, is_of_kind}
use Rattle.hv_range.proofs.RangeFacts.{IsCellRange-more, can_add_cell}
use Rattle.hv_range.proofs.range.ByNumbersCellGather.add_cell.Goals as goal

pub add_cell-requires : goal.add_cell-requires
add_cell-requires c = λ small.
    let so_far = c.requires.kept_so_far in
    let kind : is_of_kind c.args.self.now.kind (cell_lent c.args.cell) ≡ true =
    subst (λ k. is_of_kind k (cell_lent c.args.cell) ≡ true) c.requires.taken.1.0 c.requires.taken.2 in (
      c.args.self.now.kind,
      c.requires.taken.1.1,
      kind,
      can_add_cell _ _ _ _ so_far.1 so_far.2 record { kind_is = kind; small = small },
    )

-- the range of the cells so far and that of the cell are the range of both
pub returns : goal.returns
returns c = λ cells so_far few.
    let kind : is_of_kind c.args.self.now.kind (cell_lent c.args.cell) ≡ true =
    subst (λ k. is_of_kind k (cell_lent c.args.cell) ≡ true) c.requires.taken.1.0 c.requires.taken.2 in
    rw (c.add_cell.ensures.value c.args.self.now.kind c.requires.taken.1.1 kind)
    (IsCellRange-more _ cells _ _ so_far few record { kind_is = kind; small = c.add_cell.ensures.small })
