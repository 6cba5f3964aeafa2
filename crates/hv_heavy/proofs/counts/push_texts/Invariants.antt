use Rattle.std.proofs.Common.{◌≡◌, ◌++◌}
use Rattle.hv_heavy.specs.Counting.{pairs_of, text_cell}
use Rattle.hv_heavy.proofs.counts.push_texts.Given as goal

-- the entries so far have been added
abbrev pub invariant-loop-text : goal.invariant-loop-text
invariant-loop-text l = l.pairs.items ++ pairs_of text_cell l.text-iterator ≡ l.fn.pairs.items ++ pairs_of text_cell l.fn.counts.entries
