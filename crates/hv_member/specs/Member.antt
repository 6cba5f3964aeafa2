-- What contracts see of a `Member`, which holds rows of one partition.
use Rattle.std.specs.Prelude.{ℕ, List}

-- some of the rows below `size`, as a rising list
pub record RowSet : Type 0 where
  pub size : ℕ
  pub rows : List ℕ
