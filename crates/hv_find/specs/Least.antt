-- The least of some values in an order, where there is one: this project's own rule.
use Rattle.std.specs.Prelude.{List, Option, Some, None, slice_get, if◌then◌else◌}
use Rattle.std.specs.Ordering.{is_lt}
use Rattle.std.specs.declared.cmp.Ordering.{Ordering}
use Rattle.hv_sketch.specs.Rising.{rising}

-- of two values that tie, the one that was there
abbrev pub kept : {X : Type 0} → X → X → X
kept new old = old

-- the least of a list's values: the first of them, strictly rising; none of an empty list
abbrev pub least_of : {X : Type 0} → (X → X → Ordering) → List X → Option X
least_of cmp xs = slice_get (rising cmp kept xs) 0

-- the lesser of two values, where there are any; where they tie, the one that was there
abbrev pub lesser : {X : Type 0} → (X → X → Ordering) → Option X → Option X → Option X
lesser cmp None old = old
lesser cmp (Some new) None = Some new
lesser cmp (Some new) (Some old) = if is_lt (cmp new old) then Some new else Some old
