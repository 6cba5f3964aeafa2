-- How pairs of values and estimates are joined, and cut to the largest.
use Rattle.std.specs.Prelude.{◌<◌, ◌+◌, ◌-◌, ◌^◌, ℕ, List, map, filter, nat_le, nat_lt, sum_by, if◌then◌else◌}
use Rattle.hv_heavy.specs.declared.summary.HeavyPair.{HeavyPair}

-- of two pairs of one value, the one that was there, with the estimates of both
abbrev pub added : HeavyPair → HeavyPair → HeavyPair
added new old = record { value = old.value; estimate = old.estimate + new.estimate }

-- the estimates of two pairs fit their type together
abbrev pub CanAdd : HeavyPair → HeavyPair → Type 0
CanAdd x y = y.estimate + x.estimate < 2 ^ 64

-- each estimate lowered by so much, without the pairs of which nothing is left
abbrev pub lowered : ℕ → List HeavyPair → List HeavyPair
lowered less pairs = map (λ pair. record { value = pair.value; estimate = pair.estimate - less }) (filter (λ pair. nat_lt less pair.estimate) pairs)

-- what that takes from the pairs at or above it, at the least
abbrev pub taken : ℕ → List HeavyPair → ℕ
taken less pairs = sum_by (λ pair. if nat_le less pair.estimate then less else 0) pairs
