use Rattle.std.proofs.Common.{◌≡◌, ◌++◌, length, leb}
use Rattle.std.specs.List.{filter}
use Rattle.hv_pick.specs.Word.{is_picked}
use Rattle.hv_made.specs.Steps.{picked_rows}
use Rattle.hv_made.proofs.sample.picked_numbers.Given as goal

abbrev pub invariant-loop-row : goal.invariant-loop-row
invariant-loop-row l = record {
  sofar : l.kept ++ filter (λ n. is_picked l.seed l.threshold l.table.part n) (filter (leb l.from) l.table.member.rows)
      ≡ picked_rows l.seed l.threshold l.table;
  words : l.words ≡ record { seed = l.seed; part = l.table.part; next = l.from };
}

abbrev pub decreases-loop-row : goal.decreases-loop-row
decreases-loop-row l = length (filter (leb l.from) l.table.member.rows)
