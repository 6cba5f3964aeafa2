-- A row's word and its number as one number, by which rows of one partition compare as by their words, and the k least of such numbers.
use Rattle.std.specs.Prelude.{◌≡◌, ◌<◌, ◌+◌, ◌*◌, ◌/◌, ◌%◌, ◌^◌, ℕ, List, [], ◌∷◌, Option, Some, None, take}
use Rattle.std.specs.Ordering.{nat_cmp}
use Rattle.hv_value.specs.declared.cell.Cell.{Cell}
use Rattle.hv_value.specs.declared.orders.OrderKey.{OrderKey}
use Rattle.hv_value.specs.Orders.{key_of}
use Rattle.hv_value.specs.Rows.{Row}
use Rattle.hv_value.specs.Table.{row_from}
use Rattle.hv_pick.specs.Word.{word_of}
use Rattle.hv_sketch.specs.Rising.{put, rising}
use Rattle.hv_quant.specs.Sample.{kept}
use Rattle.hv_quant.specs.declared.nearest.Nearest.{Nearest}
use Rattle.hv_quant.specs.declared.summary.SampledRow.{SampledRow}

-- the word above the lower 32 bits, and the number in them
abbrev pub packed : ℕ → Row → ℕ
packed seed row = word_of seed row.part row.number * 2 ^ 32 + row.number

-- the key of a row that is found
abbrev pub found_key : List OrderKey → Option Row → List Cell
found_key keys None = []
found_key keys (Some row) = key_of keys row

-- the sampled row of a pair, of a table's rows
abbrev pub unpacked : List OrderKey → ℕ → List Row → ℕ → SampledRow
unpacked keys part rows pair =
    record {
      word = pair / 2 ^ 32;
      part = part;
      row = pair % 2 ^ 32;
      key = found_key keys (row_from (pair % 2 ^ 32) rows);
    }

-- the k least, rising, each once
abbrev pub least_pairs : ℕ → List ℕ → List ℕ
least_pairs k pairs = take k (rising nat_cmp kept pairs)

-- of the pairs so far the k least are among those kept, and a pair above the edge isn't among them
pub record AreNearest (k : ℕ) (pairs : List ℕ) (nearest : Nearest) : Type 0 where
  pub least : least_pairs k nearest.pairs.items ≡ least_pairs k pairs
  pub edge : (pair : ℕ) → nearest.edge < pair → pair < 2 ^ 64 → take k (put nat_cmp kept pair (rising nat_cmp kept pairs)) ≡ least_pairs k pairs
