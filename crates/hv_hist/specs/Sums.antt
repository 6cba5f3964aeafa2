-- Running sums of counts.
use Rattle.std.specs.Prelude.{ℕ, ◌+◌, List, length, map, take}
use Rattle.std.specs.List.{range_with_len, sum}

-- at each place the sum of the counts up to it, that one among them
abbrev pub running_sums : List ℕ → List ℕ
running_sums counts = map (λ b. sum (take (b + 1) counts)) (range_with_len 0 (length counts))
