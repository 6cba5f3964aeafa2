use Rattle.std.proofs.Common.{◌≡◌, ◌∙◌, ℕ, List, Option, ap, refl}
use Rattle.std.specs.Prelude.{bytes_eq, position}
use Rattle.csv.specs.Records.{fields_of}
use Rattle.hv_value.specs.declared.cell.Kind.{Kind}
use Rattle.hv_csv.proofs.HeaderPlaces.{map-next}
use Rattle.hv_csv.proofs.header.places_of.Goals as goal

-- one more column has its place
pub loop-j-preserved : goal.loop-j-preserved
loop-j-preserved c =
    let header = fields_of c.args.header.now in
    let place : List ℕ → Option ℕ = λ name. position (bytes_eq name) header in
    let found : c.place_of.result ≡ place c.name.result.now = c.place_of.ensures ∙ ap place c.as_bytes.ensures.value in
    let more = map-next (λ (column : List ℕ × Kind). column.0) place c.args.schema.now c.loop-j.j c.name.result.now c.name.ensures in
    rw (c.in_ok-push.ensures.items, c.loop-j.invariant, found, more) refl
