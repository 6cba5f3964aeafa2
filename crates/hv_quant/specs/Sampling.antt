-- What is kept while the rows of one partition come by.
use Rattle.std.specs.Prelude.{◌≡◌, ◌≤◌, ◌^◌, ℕ, List, length, map}
use Rattle.std.specs.List.{AllByRecursion}
use Rattle.hv_value.specs.Rows.{Row}
use Rattle.hv_sketch.specs.Gathering.{AreBelow}
use Rattle.hv_quant.specs.Pairs.{AreNearest, packed}
use Rattle.hv_quant.specs.declared.sampling.Sampling.{Sampling}

-- the least pairs of the rows so far, at most 2^42 of one partition, and a walk over its words that may still be asked for each row after them
pub record IsSampling (seed k part : ℕ) (rows : List Row) (sampling : Sampling) : Type 0 where
  pub few : length rows ≤ 2 ^ 42
  pub near : AreNearest k (map (packed seed) rows) sampling.nearest
  pub tagged : AllByRecursion (λ row. row.part ≡ part) rows
  pub walks_seed : sampling.walker.seed ≡ seed
  pub walks_part : sampling.walker.part ≡ part
  pub next : (top : ℕ) → AreBelow top rows → sampling.walker.next ≤ top
