use Rattle.std.proofs.Common.{◌≡◌, ◌<◌, ℕ, [], get_or, length}
use Rattle.hv_bucket.specs.Keys.{IsKey}
use Rattle.hv_bucket.proofs.texts.keys_of.Given as goal

-- the keys so far are those of their texts
abbrev pub invariant-loop-i : goal.invariant-loop-i
invariant-loop-i l = record {
  room : length l.keys ≡ 16;
  keyed : (k : ℕ) → k < l.i → IsKey (get_or l.texts k []) (get_or l.keys k 0);
}
