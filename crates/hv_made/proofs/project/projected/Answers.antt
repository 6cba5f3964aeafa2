use Rattle.std.proofs.Common.{ap, arith, length, refl, List}
use Rattle.std.specs.Arc.{arc_value}
use Rattle.std.proofs.lemmas.List.{length-map}
use Rattle.hv_column.specs.Column.{ColumnCells}
use Rattle.hv_value.specs.Schema.{Columns}
use Rattle.hv_part.proofs.RowsThere.{wide}
use Rattle.hv_made.proofs.ColumnSteps.{agree-picked, chosen}
use Rattle.hv_made.proofs.project.projected.Goals as goal

-- there is one column for each of the schema's
pub named_columns-requires-clause-wide : goal.named_columns-requires-clause-wide
named_columns-requires-clause-wide c =
    let parts = c.into_parts-schema in
    omega (
      arith,
      ap length c.deref.ensures.value,
      length-map parts.result.1.items arc_value,
      ap (λ (cs : List ColumnCells). length cs) parts.ensures.cols,
      wide c.args.table parts.ensures.whole,
      ap (λ (cs : Columns). length cs) parts.ensures.schema,
    )

pub named_columns-requires-clause-named : goal.named_columns-requires-clause-named
named_columns-requires-clause-named c = rw c.into_parts-schema.ensures.schema (chosen c.args.table.columns c.args.names.now c.requires).0

-- the choice is one that isn't refused
pub schema_of-requires : goal.schema_of-requires
schema_of-requires c = rw c.into_parts-schema.ensures.schema c.requires

-- the chosen columns agree with the chosen schema
pub new-requires : goal.new-requires
new-requires c =
    let table = c.args.table in
    let parts = c.into_parts-schema.ensures in
    rw (c.in_ok-schema.ensures, c.in_ok-picked.ensures, c.deref.ensures.value, parts.schema, parts.cols, parts.member)
    (agree-picked table.columns table.cols table.member.size c.args.names.now parts.whole.agree (wide table parts.whole)
    (chosen table.columns c.args.names.now c.requires).0)

-- and are all that the table has
pub returns : goal.returns
returns c =
    let parts = c.into_parts-schema.ensures in
    record {
      wide = wide c.args.table parts.whole;
      same = rw (
        c.new.ensures,
        c.in_ok-schema.ensures,
        c.in_ok-picked.ensures,
        c.deref.ensures.value,
        parts.schema,
        parts.cols,
        parts.member,
        c.part-part.ensures,
      ) refl;
    }
