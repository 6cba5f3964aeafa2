use Rattle.std.proofs.Common.{◌≡◌, Some, ap, sym}
use Rattle.std.specs.Prelude.{is_some}
use Rattle.hv_value.specs.Schema.{column_place}
use Rattle.hv_lineage.specs.Made.{column_named}
use Rattle.hv_lineage.specs.Refusals.{has_column}
use Rattle.hv_lineage.proofs.ColumnLemmas.{all-next, picked-next}
use Rattle.hv_lineage.proofs.columns.picked_columns.Goals as goal

-- one more name was found, and its column copied
pub loop-name-preserved : goal.loop-name-preserved
loop-name-preserved c =
    let schema = c.args.schema.now in
    let names = c.args.names.now in
    let place : column_place c.name-item.result schema ≡ Some c.in-Some.j = rw c.as_str.ensures at (sym c.in-Some.ensures) in
    let named : column_named schema c.name-item.result ≡ Some c.in_ok-copy_column.field-0 = rw place c.in_ok-copy_column.ensures in
    record {
      all = all-next (has_column schema) names c.loop-name.name-index c.name-item.result c.loop-name-test.true c.name-item.is
          c.loop-name.invariant.all (ap is_some place);
      made = rw (c.in_ok-push.ensures.items, c.loop-name.invariant.made)
          (sym (picked-next schema names c.loop-name.name-index c.name-item.result c.in_ok-copy_column.field-0 c.loop-name-test.true c.name-item.is named));
    }
