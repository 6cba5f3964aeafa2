use Rattle.std.proofs.Common.{◌<◌, ◌^◌, ◌∙◌, [], ℕ, List, length}
use Rattle.hv_lineage.proofs.ColumnLemmas.{all-at, same-at}
use Rattle.hv_lineage.proofs.base.text_at.Goals as goal

-- the text that is lent is the one at the place
pub returns-clause-text : goal.returns-clause-text
returns-clause-text c =
    c.as_str.ensures ∙ same-at c.args.parts.now c.args.part c.index-parts-part.result [] c.requires.there c.index-parts-part.is

-- and is as short as each
pub returns-clause-short : goal.returns-clause-short
returns-clause-short c =
    rw c.as_str.ensures
    (all-at (λ (text : List ℕ). length text < 2 ^ 26) c.args.parts.now c.args.part c.index-parts-part.result c.requires.short c.requires.there
    c.index-parts-part.is)
