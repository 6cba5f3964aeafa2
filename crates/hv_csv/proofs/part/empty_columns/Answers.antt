use Rattle.std.proofs.Common.{ℕ, List, [], refl}
use Rattle.hv_value.specs.declared.cell.Kind.{Kind}
use Rattle.hv_column.specs.Column.{ColumnCells}
use Rattle.hv_csv.proofs.HeaderPlaces.{map-next}
use Rattle.hv_csv.proofs.part.empty_columns.Goals as goal

-- one more column is there
pub loop-j-preserved : goal.loop-j-preserved
loop-j-preserved c =
    let empty : Kind → ColumnCells = λ k. record { kind = k; cells = [] } in
    let more = map-next (λ (column : List ℕ × Kind). column.1) empty c.args.schema.now c.loop-j.j c.kind.result c.kind.ensures in
    rw (c.in_ok-push.ensures.items, c.loop-j.invariant, c.in_ok-new.ensures, more) refl
