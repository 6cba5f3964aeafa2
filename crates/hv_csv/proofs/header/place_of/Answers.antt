use Rattle.std.proofs.Common.{◌<◌, ◌∙◌, [], ap, sym, arith, length, below_more}
use Rattle.std.specs.Prelude.{bytes_eq}
use Rattle.csv.specs.Records.{fields_of}
use Rattle.csv.proofs.RecordFacts.{field-get, field-there}
use Rattle.hv_csv.proofs.HeaderPlaces.{position-found, position-none}
use Rattle.hv_csv.proofs.header.place_of.Goals as goal
use Rattle.hv_csv.proofs.header.place_of.Goals.{in-Some+else-eq, in_default}

-- the field is the first with the name
pub returns-then-eq : goal.returns-then-eq
returns-then-eq c =
    let fields = fields_of c.args.header.now in
    let within : c.loop-i.i < length fields = omega (arith, c.loop-i-test.true, c.len-i-end.ensures) in
    let there = field-get fields c.loop-i.i c.in-Some.field.now (sym c.in-Some.ensures.value) in
    position-found (bytes_eq c.args.name.now) fields c.loop-i.i [] within c.loop-i.invariant
    (ap (bytes_eq c.args.name.now) there ∙ sym c.eq.ensures ∙ c.if-eq.true)

-- a field with another name
pub loop-i-preserved : goal.loop-i-preserved
loop-i-preserved c =
    let fields = fields_of c.args.header.now in
    let within : c.loop-i.i < length fields = omega (arith, c.loop-i-test.true, c.len-i-end.ensures) in
    elim c.match-get.branch [
      | in-Some+else-eq w ↦
          let there = field-get fields c.loop-i.i w.in-Some.field.now (sym w.in-Some.ensures.value) in
          below_more _ _ c.loop-i.invariant (ap (bytes_eq c.args.name.now) there ∙ sym w.eq.ensures ∙ w.if-eq.false)
      | in_default w ↦ absurd (field-there fields c.loop-i.i within (sym w.in_default.ensures.value))
    ]

-- no field has the name
pub returns : goal.returns
returns c =
    let fields = fields_of c.args.header.now in
    position-none (bytes_eq c.args.name.now) fields [] (λ k below. c.loop-i.invariant k (omega (arith, below, c.loop-i-test.false, c.len-i-end.ensures)))
