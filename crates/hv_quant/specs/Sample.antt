-- The rows sampled of a list of rows: the k least by word. This project's own rule.
use Rattle.std.specs.Prelude.{◌≡◌, ◌≤◌, ◌^◌, ℕ, List, length, map, take}
use Rattle.std.specs.Ordering.{nat_cmp, on, then_cmp}
use Rattle.std.specs.declared.cmp.Ordering.{Ordering}
use Rattle.hv_value.specs.declared.orders.OrderKey.{OrderKey}
use Rattle.hv_value.specs.Orders.{compare_keys, key_of}
use Rattle.hv_value.specs.Rows.{Row}
use Rattle.hv_pick.specs.Word.{word_of}
use Rattle.hv_sketch.specs.Rising.{rising}
use Rattle.hv_quant.specs.declared.summary.SampledRow.{SampledRow}
use Rattle.hv_quant.specs.declared.summary.SampleSummary.{SampleSummary}

-- of two that tie, the one that was there
abbrev pub kept : {X : Type 0} → X → X → X
kept new old = old

-- a row with its word, its place and its key
abbrev pub sampled : ℕ → List OrderKey → Row → SampledRow
sampled seed keys row =
    record {
      word = word_of seed row.part row.number;
      part = row.part;
      row = row.number;
      key = key_of keys row;
    }

-- by partition, and then by the row's number
abbrev pub by_place : SampledRow → SampledRow → Ordering
by_place = then_cmp (on (λ s. s.part) nat_cmp) (on (λ s. s.row) nat_cmp)

-- by word, then by place, and last by key, so that only equal ones tie; no two rows of a table do
abbrev pub by_word : List OrderKey → SampledRow → SampledRow → Ordering
by_word keys = then_cmp (on (λ s. s.word) nat_cmp) (then_cmp by_place (on (λ s. s.key) (compare_keys keys)))

-- the k rows least by word, or all where there are fewer, rising
abbrev pub sample_of : ℕ → ℕ → List OrderKey → List Row → List SampledRow
sample_of seed k keys rows = take k (rising (by_word keys) kept (map (sampled seed keys) rows))

-- the summary is the sample of at most 2^42 rows
pub record IsSample (seed k : ℕ) (keys : List OrderKey) (rows : List Row) (summary : SampleSummary) : Type 0 where
  pub few : length rows ≤ 2 ^ 42
  pub is : summary.rows ≡ sample_of seed k keys rows
