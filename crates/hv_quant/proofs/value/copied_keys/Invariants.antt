use Rattle.std.proofs.Common.{◌≡◌, take}
use Rattle.hv_quant.proofs.value.copied_keys.Given as goal

-- the keys so far have been copied
abbrev pub invariant-loop-key : goal.invariant-loop-key
invariant-loop-key l = l.copy ≡ take l.key-index l.keys
