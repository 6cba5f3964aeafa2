use Rattle.std.specs.String.{string_eq}
use Rattle.hv_heavy.specs.Counting.{text_cell}
use Rattle.hv_heavy.proofs.CountFacts.{once-of, tied-texts}
use Rattle.hv_heavy.proofs.counts.push_texts.Goals as goal

-- no two keys of a map are equal
pub returns-clause-once : goal.returns-clause-once
returns-clause-once c = once-of text_cell string_eq tied-texts c.args.counts.entries c.into_iter-text-iterator.ensures.into_iter_gives.4
