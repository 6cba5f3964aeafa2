use Rattle.std.proofs.Common.{◌≡◌}
use Rattle.std.specs.Prelude.{map}
use Rattle.std.specs.List.{range_with_len}
use Rattle.hv_quant.specs.Quantiles.{quantile_at}
use Rattle.hv_quant.proofs.value.quantiles_in.Given as goal

-- the quantiles so far are there
abbrev pub invariant-loop-j : goal.invariant-loop-j
invariant-loop-j l = l.keys ≡ map (quantile_at l.q l.rows) (range_with_len 0 l.j)
