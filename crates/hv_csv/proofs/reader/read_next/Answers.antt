use Rattle.std.proofs.Common.{Bool, ℕ, List, Bor, true, false, Some, ◌∙◌}
use Rattle.csv.specs.Reading.{ReadRecord, ReadsOn}
use Rattle.csv.specs.declared.reader.Reader.{Reader}
use Rattle.hv_csv.specs.Left.{IsNext, IsSetUp, records_left}
use Rattle.hv_csv.proofs.RecordsLeft.{next-found, next-none}
use Rattle.hv_csv.proofs.reader.read_next.Goals as goal

-- what a read says of the records that are left
read_is-next : (found : Bool) (old new : Reader (Bor (List ℕ))) (fields : List (List ℕ)) → IsSetUp old
    → ReadRecord (λ (s : Bor (List ℕ)). Some s.now) old new found fields → IsNext found (records_left old) fields (records_left new)
read_is-next true old new fields set_up reads = (next-found old new fields set_up reads).0
read_is-next false old new fields set_up reads = next-none old new fields set_up reads

-- a reader that found a record is set up for the next
read_is-set_up : (old new : Reader (Bor (List ℕ))) (fields : List (List ℕ)) → IsSetUp old
    → ReadRecord (λ (s : Bor (List ℕ)). Some s.now) old new true fields → ReadsOn old new → IsSetUp new
read_is-set_up old new fields set_up reads goes =
    let left = (next-found old new fields set_up reads).1 in
    record {
      ready = (goes.4 set_up.ready).0;
      untrimmed = goes.1 ∙ set_up.untrimmed;
      flexible = goes.2 ∙ set_up.flexible;
      dialect = goes.0 ∙ set_up.dialect;
      bytes = left.0;
      known = left.1;
    }

pub returns-in-Ok-clause-next : goal.returns-in-Ok-clause-next
returns-in-Ok-clause-next c =
    read_is-next c.in-Ok.found c.args.reader.now c.read_byte_record.new.self _ c.requires
    (c.in-Ok.ensures.reads c.requires.untrimmed c.requires.ready)

pub returns-in-Ok-clause-set_up : goal.returns-in-Ok-clause-set_up
returns-in-Ok-clause-set_up c = λ found.
    read_is-set_up c.args.reader.now c.read_byte_record.new.self _ c.requires
    (rw found at (c.in-Ok.ensures.reads c.requires.untrimmed c.requires.ready)) (c.in-Ok.ensures.reads_on found)
