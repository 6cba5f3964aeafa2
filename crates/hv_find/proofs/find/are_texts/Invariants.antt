use Rattle.std.proofs.Common.{ℕ, ◌<◌, slice_index_or}
use Rattle.hv_value.specs.declared.cell.Kind.TheVariants as kind
use Rattle.hv_sketch.specs.Columns.{IsColumnOf}
use Rattle.hv_find.proofs.find.are_texts.Given as goal

-- the columns so far are there and of texts
abbrev pub invariant-loop-col : goal.invariant-loop-col
invariant-loop-col l = (k d : ℕ) → k < l.col-index → IsColumnOf l.schema (slice_index_or l.cols k d) kind.Text
