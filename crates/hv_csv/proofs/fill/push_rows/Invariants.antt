use Rattle.std.proofs.Common.{length}
use Rattle.hv_csv.specs.Left.{IsSetUp, records_left}
use Rattle.hv_csv.proofs.Filling.{Pushes}
use Rattle.hv_csv.proofs.fill.push_rows.Given as goal

abbrev pub invariant-loop-cols : goal.invariant-loop-cols
invariant-loop-cols l = Pushes l.places (records_left l.initial.reader) l.initial.cols (records_left l.reader) l.cols × IsSetUp l.reader

abbrev pub decreases-loop-cols : goal.decreases-loop-cols
decreases-loop-cols l = length (records_left l.reader)
