use Rattle.csv.specs.Reading.{strip_bom}
use Rattle.hv_csv.specs.Left.{records_left}
use Rattle.hv_csv.proofs.RecordsLeft.{left-start}
use Rattle.hv_csv.proofs.reader.reader_of.Goals as goal

-- a reader at the start of its text has all records left
pub returns-clause-records : goal.returns-clause-records
unfolding records_left
returns-clause-records c = rw (c.from_reader.ensures.source, c.from_reader.ensures.state) (left-start (strip_bom c.args.bytes.now))
