use Rattle.std.proofs.Common.{◌≡◌, ◌≤◌, ◌+◌, ◌++◌, length}
use Rattle.hv_sketch.specs.Joining.{AreJoinable}
use Rattle.hv_sketch.specs.Rising.{IsRising, put_all}
use Rattle.hv_sketch.proofs.ranking.joined.Given as goal

-- the items so far and what is left of both lists make the whole
abbrev pub invariant-loop-left : goal.invariant-loop-left
invariant-loop-left g l =
    record {
      whole : l.items.items ++ put_all (g.R.Ranking.cmp l.ranking) (g.R.Ranking.join l.ranking) l.left l.right
          ≡ put_all (g.R.Ranking.cmp l.ranking) (g.R.Ranking.join l.ranking) l.a l.b;
      few : length l.items.items ≤ l.most;
      left : IsRising (g.R.Ranking.cmp l.ranking) l.left;
      right : IsRising (g.R.Ranking.cmp l.ranking) l.right;
      joinable : AreJoinable (g.R.Ranking.cmp l.ranking) (g.R.Ranking.may_join l.ranking) l.left l.right;
    }

abbrev pub decreases-loop-left : goal.decreases-loop-left
decreases-loop-left g l = length l.left + length l.right
