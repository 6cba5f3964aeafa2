use Rattle.std.proofs.Common.{◌≡◌, ◌++◌, length}
use Rattle.std.specs.List.{All}
use Rattle.hv_value.specs.declared.cell.Kind.TheVariants as kind
use Rattle.hv_sketch.specs.Columns.{IsColumnOf}
use Rattle.hv_asked.specs.Flaws.{all_meant, map_ok}
use Rattle.hv_message.specs.Views.{text_named}
use Rattle.hv_message.proofs.views.text_columns.Given as goal

-- all are those found and then those of the rest, and those found are there
abbrev pub invariant-loop-rest : goal.invariant-loop-rest
invariant-loop-rest l =
    (all_meant (text_named l.schema) l.names ≡ map_ok (λ more. l.cols ++ more) (all_meant (text_named l.schema) l.rest))
    × All (λ col. IsColumnOf l.schema col kind.Text) l.cols

abbrev pub decreases-loop-rest : goal.decreases-loop-rest
decreases-loop-rest l = length l.rest
