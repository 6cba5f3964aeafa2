-- The quantiles of a sample: keys at evenly spaced places among its rows by key. This project's own rule.
use Rattle.std.specs.Prelude.{◌-◌, ◌*◌, ◌/◌, ℕ, List, [], ◌∷◌, length, map, max, get_or}
use Rattle.std.specs.List.{range_with_len}
use Rattle.std.specs.Ordering.{nat_cmp, on, then_cmp}
use Rattle.std.specs.declared.cmp.Ordering.{Ordering}
use Rattle.hv_value.specs.declared.cell.Cell.{Cell}
use Rattle.hv_value.specs.declared.orders.OrderKey.{OrderKey}
use Rattle.hv_value.specs.Orders.{compare_keys}
use Rattle.hv_value.specs.Rows.{Row}
use Rattle.hv_sketch.specs.Rising.{rising}
use Rattle.hv_quant.specs.Sample.{by_place, kept, sample_of}
use Rattle.hv_quant.specs.declared.sample.Sample.{Sample}
use Rattle.hv_quant.specs.declared.value.SampleValue.{SampleValue}
use Rattle.hv_quant.specs.declared.summary.SampledRow.{SampledRow}

-- by key, then by place, and last by word, so that only equal ones tie
abbrev pub by_key : List OrderKey → SampledRow → SampledRow → Ordering
by_key keys = then_cmp (on (λ s. s.key) (compare_keys keys)) (then_cmp by_place (on (λ s. s.word) nat_cmp))

-- the place of quantile j of q among r rows: the first is the least row, the last the greatest, the others evenly between; a single one is the least
abbrev pub quantile_place : ℕ → ℕ → ℕ → ℕ
quantile_place q r j = j * (r - 1) / max 1 (q - 1)

-- the key at that place
abbrev pub quantile_at : ℕ → List SampledRow → ℕ → List Cell
quantile_at q sorted j = get_or (map (λ s. s.key) sorted) (quantile_place q (length sorted) j) []

-- the q quantiles of rows in order; none of no rows
abbrev pub quantiles_in : ℕ → List SampledRow → List (List Cell)
quantiles_in q [] = []
quantiles_in q (first ∷ rest) = map (quantile_at q (first ∷ rest)) (range_with_len 0 q)

-- the q quantiles of a sample
abbrev pub quantiles_of : List OrderKey → ℕ → List SampledRow → List (List Cell)
quantiles_of keys q sample = quantiles_in q (rising (by_key keys) kept sample)

-- with the number of its rows and its seed
abbrev pub value_of : ℕ → List OrderKey → ℕ → List SampledRow → SampleValue
value_of seed keys q sample = record { quantiles = quantiles_of keys q sample; rows = length sample; seed = seed }

-- the value of a view over a list of rows
abbrev pub value_over : Sample → List Row → SampleValue
value_over view rows = value_of view.seed view.order view.q (sample_of view.seed view.k view.order rows)
