use Rattle.hv_bucket.proofs.Keyed.{reached-apart}
use Rattle.hv_bucket.proofs.keys.is_reached.Goals as goal

-- keys that differ are in the order of their texts
pub returns-else-bound_key-key : goal.returns-else-bound_key-key
returns-else-bound_key-key c =
    reached-apart c.args.text.now c.args.bound.now c.args.key c.args.bound_key c.requires.text c.requires.bound c.if-bound_key-key.false
