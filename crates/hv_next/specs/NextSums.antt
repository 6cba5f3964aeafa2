-- How the next rows of two lists of rows are joined.
use Rattle.std.specs.Prelude.{◌<◌, ◌+◌, ◌^◌, ℕ, List, take}
use Rattle.hv_value.specs.declared.orders.OrderKey.{OrderKey}
use Rattle.hv_sketch.specs.Rising.{put_all}
use Rattle.hv_next.specs.Next.{added, compare_rows}
use Rattle.hv_next.specs.declared.summary.NextRow.{NextRow}
use Rattle.hv_next.specs.declared.summary.NextSummary.{NextSummary}

-- the numbers of rows of two keys fit their type together
abbrev pub CanAdd : NextRow → NextRow → Type 0
CanAdd x y = y.count + x.count < 2 ^ 64

-- the k least keys of both, equal keys with the rows of both
abbrev pub next_sum : List OrderKey → ℕ → NextSummary → NextSummary → NextSummary
next_sum keys k a b =
    record {
      before = a.before + b.before;
      rows = take k (put_all (compare_rows keys) added a.rows b.rows);
    }
