use Rattle.std.proofs.Common.{◌≡◌, ◌+◌, ◌<◌, ◌≤◌, ℕ, get_or}
use Rattle.hv_sketch.proofs.counts.add_each.Given as goal

-- the counts below a slot are added, and the others stand
abbrev pub invariant-loop-slot : goal.invariant-loop-slot
invariant-loop-slot l =
    record {
      done : (k : ℕ) → k < l.slot → get_or l.counts k 0 ≡ get_or l.initial.counts k 0 + get_or l.others k 0;
      left : (k : ℕ) → l.slot ≤ k → get_or l.counts k 0 ≡ get_or l.initial.counts k 0;
    }
