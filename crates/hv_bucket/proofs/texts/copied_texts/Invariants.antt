use Rattle.std.proofs.Common.{◌≡◌, take}
use Rattle.hv_bucket.proofs.texts.copied_texts.Given as goal

-- the texts so far have been copied
abbrev pub invariant-loop-text : goal.invariant-loop-text
invariant-loop-text l = l.copy.items ≡ take l.text-index l.texts
