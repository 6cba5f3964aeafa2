use Rattle.std.proofs.Common.{ℕ, ◌<◌, length, slice_index_or}
use Rattle.hv_value.specs.declared.orders.OrderKey.{OrderKey}
use Rattle.hv_next.proofs.keys.are_in_columns.Given as goal

-- the columns of the keys so far are there
abbrev pub invariant-loop-key : goal.invariant-loop-key
invariant-loop-key l = (k : ℕ) (d : OrderKey) → k < l.key-index → (slice_index_or l.keys k d).col < length l.schema
