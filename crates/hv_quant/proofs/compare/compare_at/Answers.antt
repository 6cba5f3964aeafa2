use Rattle.std.proofs.Common.{rules, sym, ◌∙◌, arith}
use Rattle.hv_next.proofs.KeyFacts.{at_key, at_none}
use Rattle.hv_quant.proofs.compare.compare_at.Goals as goal

pub returns-then-place-keys : goal.returns-then-place-keys
returns-then-place-keys c = c.compare_by_key.ensures ∙ sym (at_key c.args.keys.now c.args.place _ _ _ (omega arith))

pub returns-else-place-keys : goal.returns-else-place-keys
returns-else-place-keys c = rw (at_none c.args.keys.now c.args.place c.args.a.now c.args.b.now (omega arith)) (search rules)
