-- When a text may be searched for in a table.
use Rattle.std.specs.List.{All}
use Rattle.hv_value.specs.declared.cell.Kind.TheVariants as kind
use Rattle.hv_value.specs.Schema.{Columns}
use Rattle.hv_sketch.specs.Columns.{IsColumnOf}
use Rattle.hv_next.specs.Fits.{FitsNext}
use Rattle.hv_find.specs.declared.find.Find.{Find}

-- each named column is there and one of texts, each key's column is there, and the key above which the rows are is one
-- of theirs
pub record FitsFind (find : Find) (columns : Columns) : Type 0 where
  pub texts : All (λ col. IsColumnOf columns col kind.Text) find.cols
  pub keys : FitsNext find.order find.after columns
