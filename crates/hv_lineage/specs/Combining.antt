-- Samples of lineages and two lineages combined: what is made, and why it is refused.
use Rattle.std.specs.Prelude.{ℕ, ◌+◌, max, Option, Some, None, if◌then◌else◌}
use Rattle.std.specs.Option.{option_or}
use Rattle.hv_value.specs.Same.{same_by}
use Rattle.hv_lineage.specs.contracts.base.Base as base
use Rattle.hv_lineage.specs.declared.base.Base.{Base}
use Rattle.hv_lineage.specs.declared.error.LineageErr.{LineageErr}
use Rattle.hv_lineage.specs.declared.error.LineageErr.TheVariants as err
use Rattle.hv_lineage.specs.declared.how.How2.{How2}
use Rattle.hv_lineage.specs.declared.term.Term.TheVariants as term
use Rattle.hv_lineage.specs.Lineages.{TermOver, lineage_columns, room_refusal}
use Rattle.hv_lineage.specs.Refusals.{deep_refusal, how_refusal}
use Rattle.hv_lineage.specs.Sizes.{term_depth, term_size}

-- the rows of a lineage that are picked by a seed at a threshold
abbrev pub sampled : TermOver → ℕ → ℕ → TermOver
sampled lineage seed threshold = record lineage { term = term.Sample lineage.term seed threshold }

-- two lineages of one base, combined
abbrev pub combined : How2 → TermOver → TermOver → TermOver
combined how left right = record left { term = term.Combine how left.term right.term }

-- why a sample of a lineage is refused, none where it isn't
abbrev pub sample_refusal : TermOver → Option LineageErr
sample_refusal lineage = room_refusal lineage

-- why two bases can't be those of one lineage, none where they are the same
abbrev pub base_refusal : Base → Base → Option LineageErr
base_refusal a b = if same_by base.the_row.coded a b then None else Some err.NotSameBase

-- why one more node over two lineages makes it too deep or too large, none where it doesn't
abbrev pub pair_refusal : TermOver → TermOver → Option LineageErr
pair_refusal left right = deep_refusal (max (term_depth left.term) (term_depth right.term) + 1) (term_size left.term + term_size right.term + 1)

-- why two lineages can't be combined, none where they can: the bases are tested first, then the columns
abbrev pub combine_refusal : How2 → TermOver → TermOver → Option LineageErr
combine_refusal how left right =
    option_or (base_refusal left.base right.base) (option_or (how_refusal how (lineage_columns left) (lineage_columns right)) (pair_refusal left right))
