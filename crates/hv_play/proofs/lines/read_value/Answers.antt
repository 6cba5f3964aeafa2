use Rattle.std.proofs.Common.{◌≡◌, sym, ◌∙◌, true, false}
use Rattle.hv_play.proofs.LineLemmas.{value_of_line-text, value_of_line-none}
use Rattle.hv_play.proofs.lines.read_value.Goals as goal

-- the bytes are a text, and JSON
pub returns-in-Ok-clause-value : goal.returns-in-Ok-clause-value
returns-in-Ok-clause-value c = sym (value_of_line-text c.args.line.now c.in-Ok.ensures.ok.0 ∙ c.in-Ok.ensures.ok.1)

-- the bytes are no text, or a text that isn't JSON
pub returns-else-is_memory-clause-value : goal.returns-else-is_memory-clause-value
returns-else-is_memory-clause-value c =
    sym (value_of_line-none c.args.line.now (c.in-Err.ensures.err (λ memory. let no : false ≡ true = c.if-is_memory.ensures.1 memory in cc)))
