-- What contracts see of a `PartSet`, which holds partitions of one table.
use Rattle.std.specs.Prelude.{ℕ, List}

-- some of the partitions below `size`, as a rising list
pub record Parts : Type 0 where
  pub size : ℕ
  pub parts : List ℕ
