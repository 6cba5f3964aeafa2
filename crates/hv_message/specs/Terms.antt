-- What a message or a term of a lineage's text puts over a lineage: what it asks for, and what it means.
use Rattle.std.specs.Prelude.{Bool, true, ◌&&◌, unsigned_abs, Option, Some, None, option_and_then, Result, Ok, Err, codes}
use Rattle.serde_json.specs.Data.{Data}
use Rattle.hv_lineage.specs.Lineages.{TermOver, lineage_columns, filtered, projected, derived, filter_refusal, project_refusal, derive_refusal}
use Rattle.hv_lineage.specs.Combining.{combine_refusal, combined, sample_refusal, sampled}
use Rattle.hv_lineage.specs.declared.error.LineageErr.{LineageErr}
use Rattle.hv_lineage.specs.declared.error.LineageErr.TheVariants as err
use Rattle.hv_lineage.specs.declared.how.How2.{How2}
use Rattle.hv_message.specs.declared.asked.TermAsked.{TermAsked}
use Rattle.hv_message.specs.declared.asked.TermAsked.TheVariants.{Filter, Project, Derive, Sample}
use Rattle.hv_asked.specs.declared.why.Why.{Why}
use Rattle.hv_asked.specs.declared.why.Why.TheVariants as why
use Rattle.hv_asked.specs.Fields.{integer_at, text_at, texts_at}
use Rattle.hv_asked.specs.Flaws.{and_then, of_field, within}
use Rattle.hv_asked.specs.Trees.{dated_pred, expr_in, fits_expr, fits_pred, levels, pred_in, under}
use Rattle.hv_message.specs.Samples.{is_seed, is_threshold}

-- ---- what is asked for

abbrev pub filter_of : Data → Result TermAsked Why
filter_of value = of_field (under (pred_in levels) (codes "pred") value) (λ p. Ok (Filter p))

abbrev pub project_of : Data → Result TermAsked Why
project_of value = of_field (texts_at (codes "cols") value) (λ cols. Ok (Project cols))

abbrev pub derive_of : Data → Result TermAsked Why
derive_of value = of_field (text_at (codes "name") value) (λ name. of_field (under (expr_in levels) (codes "expr") value) (λ e. Ok (Derive name e)))

abbrev pub sample_of : Data → Result TermAsked Why
sample_of value = of_field (integer_at (codes "threshold") value) (λ threshold. of_field (integer_at (codes "seed") value) (λ seed. Ok (Sample threshold seed)))

-- ---- its limits: those of its tree, and of a sample's numbers

abbrev pub fits_term : TermAsked → Bool
fits_term (Filter p) = fits_pred p
fits_term (Project cols) = true
fits_term (Derive name e) = fits_expr e
fits_term (Sample threshold seed) = is_threshold threshold && is_seed seed

-- ---- what it means

-- the word of a lineage's refusal; want of memory has none
abbrev pub refusal_word : LineageErr → Option Why
refusal_word err.NoColumn = Some why.Column
refusal_word err.WrongKind = Some why.Kind
refusal_word err.TooDeep = Some why.Deep
refusal_word err.BadSchema = Some why.Schema
refusal_word err.NotSameBase = Some why.Base
refusal_word err.NameClash = Some why.Clash
refusal_word err.SchemaDiffers = Some why.Differs
refusal_word err.Deep = Some why.Depth
refusal_word err.Memory = None

-- a lineage, unless there is a word against it
abbrev pub unless_word : Option Why → TermOver → Result TermOver Why
unless_word None lineage = Ok lineage
unless_word (Some word) lineage = Err word

-- a lineage, unless it is refused: each refusal of a term has a word (the law `refusals_have_words`)
abbrev pub unless_refused : Option LineageErr → TermOver → Result TermOver Why
unless_refused refusal = unless_word (option_and_then refusal_word refusal)

-- a lineage with what is put over it
abbrev pub applied : TermAsked → TermOver → Result TermOver Why
applied (Filter p) lineage = let dated = dated_pred (lineage_columns lineage) p in unless_refused (filter_refusal lineage dated) (filtered lineage dated)
applied (Project cols) lineage = unless_refused (project_refusal lineage cols) (projected lineage cols)
applied (Derive name expr) lineage = unless_refused (derive_refusal lineage name expr) (derived lineage name expr)
applied (Sample threshold seed) lineage = unless_refused (sample_refusal lineage) (sampled lineage (unsigned_abs seed) (unsigned_abs threshold))

-- two lineages, combined
abbrev pub both_combined : How2 → TermOver → TermOver → Result TermOver Why
both_combined how left right = unless_refused (combine_refusal how left right) (combined how left right)

-- a lineage with what is read of a value over it, where that is within its limits
abbrev pub over : (Data → Result TermAsked Why) → Data → TermOver → Result TermOver Why
over read value lineage = and_then (λ asked. applied asked lineage) (and_then (within fits_term) (read value))
