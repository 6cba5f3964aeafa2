-- The rows of the partitions below a number, and those of the partition with that number.
use Rattle.std.proofs.Common.{◌≡◌, ◌≤◌, ◌<◌, ◌+◌, ◌^◌, ◌++◌, [], ◌∷◌, ℕ, List, arith, length-append}
use Rattle.std.specs.List.{AllByRecursion}
use Rattle.hv_value.specs.Rows.{Row}
use Rattle.hv_value.specs.Schema.{Columns}
use Rattle.hv_value.specs.Table.{IsTable}
use Rattle.hv_value.proofs.TableFacts.{few_rows, rows_tagged}
use Rattle.hv_sketch.proofs.Apart.{apart_by}
use Rattle.hv_sketch.proofs.Swaps.{all-join}
use Rattle.hv_sketch.specs.Merging.{CanMerge}
use Rattle.hv_sketch.specs.Parts.{AreBefore}

-- what holds of each element holds of each by a weaker fact
all-weaker : {X : Type 0} (F G : X → Type 0) → ((x : X) → F x → G x) → (xs : List X) → AllByRecursion F xs → AllByRecursion G xs
all-weaker F G weaker [] all = tt
all-weaker F G weaker (x ∷ xs) all = (weaker x all.0, all-weaker F G weaker xs all.1)

-- no rows are before every partition
pub before_none : (part : ℕ) → AreBefore part []
before_none part = record { lower = tt; few = omega arith }

-- rows before a partition are before a later one
pub before_later : (part later : ℕ) (rows : List Row) → part ≤ later → AreBefore part rows → AreBefore later rows
before_later part later rows le h =
    record { lower = all-weaker _ _ (λ row lt. omega (arith, lt)) rows h.lower; few = omega (arith, h.few) }

-- with a partition's own rows they are before the next one
pub before_more : (columns : Columns) (part : ℕ) (rows more : List Row)
    → AreBefore part rows → IsTable columns part more → AreBefore (part + 1) (rows ++ more)
before_more columns part rows more h table =
    record {
      lower =
          all-join (λ row. row.part < part + 1) rows more
          (all-weaker (λ row. row.part < part) (λ row. row.part < part + 1) (λ row lt. omega (arith, lt)) rows h.lower)
          (all-weaker (λ row. row.part ≡ part) (λ row. row.part < part + 1) (λ row is. omega (arith, is)) more (rows_tagged columns part 0 more table));
      few = simp length-append (omega (arith, h.few, few_rows columns part more table));
    }

-- the summaries of both may be merged, where there are at most 65,536 partitions
pub before_can_merge : (columns : Columns) (part : ℕ) (rows more : List Row) → part < 2 ^ 16
    → AreBefore part rows → IsTable columns part more → CanMerge rows more
before_can_merge columns part rows more low h table =
    record {
      apart =
          apart_by (λ row. row.part < part) (λ row. row.part ≡ part) (λ x y lt is tag. omega (arith, lt, is, tag.part))
          rows more h.lower (rows_tagged columns part 0 more table);
      few = omega (arith, h.few, few_rows columns part more table);
    }
