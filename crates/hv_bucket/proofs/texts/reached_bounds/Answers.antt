use Rattle.std.proofs.Common.{◌∙◌, subst}
use Rattle.hv_bucket.specs.Keys.{IsKey}
use Rattle.hv_bucket.proofs.Keyed.{short-counts}
use Rattle.hv_bucket.proofs.texts.reached_bounds.Goals as goal

-- the keys of the boundaries are counted in their place
pub returns-then-text-lt-LONG-clause-value : goal.returns-then-text-lt-LONG-clause-value
returns-then-text-lt-LONG-clause-value c =
    c.reached_keys.ensures
    ∙ short-counts c.args.text.now c.key_of-key.result
    (subst (λ t. IsKey t c.key_of-key.result) c.as_bytes.ensures.value c.key_of-key.ensures)
    c.if-text-lt-LONG.true c.args.bounds.now c.args.keys.now c.if-keys-bounds.false c.requires.keys
