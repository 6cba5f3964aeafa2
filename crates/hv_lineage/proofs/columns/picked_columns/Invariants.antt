use Rattle.std.proofs.Common.{◌≡◌, take, true}
use Rattle.std.specs.List.{list_all}
use Rattle.hv_lineage.specs.Made.{picked}
use Rattle.hv_lineage.specs.Refusals.{has_column}
use Rattle.hv_lineage.proofs.columns.picked_columns.Given as goal

abbrev pub invariant-loop-name : goal.invariant-loop-name
invariant-loop-name l = record {
  all : list_all (has_column l.schema) (take l.name-index l.names) ≡ true;
  made : l.columns.items ≡ picked l.schema (take l.name-index l.names);
}
