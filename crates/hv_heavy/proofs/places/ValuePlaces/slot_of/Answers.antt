use Rattle.std.proofs.Common.{◌≡◌, ◌+◌, ◌∙◌, ap, length, rules, to_z-of_z, SFits, w32, w64}
use Rattle.std.specs.Prelude.{unwrap_or}
use Rattle.hv_value.specs.declared.cell.Cell.TheVariants as cell
use Rattle.hv_heavy.specs.CountOf.{first_place}
use Rattle.hv_heavy.specs.ValuePlaces.{place_among}
use Rattle.hv_heavy.proofs.PlaceFacts.{place-first}
use Rattle.hv_heavy.proofs.places.ValuePlaces.slot_of.Goals as goal

pub returns-in-Missing : goal.returns-in-Missing
returns-in-Missing c = rw c.in-Missing.is (ap (λ values. length values + 1) c.self.view_is)

-- the map of the cell's kind tells its place, or that it has none
pub returns-in-Int : goal.returns-in-Int
returns-in-Int c =
    let values = c.self.inside.values.now in
    let fits : SFits w64 c.in-Int.n = search rules in
    let found : c.copied.result ≡ place_among values (cell.Int c.in-Int.n) =
    c.copied.ensures ∙ (rw (to_z-of_z fits) at c.get.ensures.value) ∙ c.self.invariant.ints c.in-Int.n in
    rw c.in-Int.is
    (c.unwrap_or.ensures ∙ ap (λ o. unwrap_or o (length values)) found ∙ place-first values (cell.Int c.in-Int.n)
    ∙ ap (λ l. first_place l (cell.Int c.in-Int.n)) c.self.view_is)

pub returns-in-Date : goal.returns-in-Date
returns-in-Date c =
    let values = c.self.inside.values.now in
    let fits : SFits w32 c.in-Date.day = search rules in
    let found : c.copied-in-Date.result ≡ place_among values (cell.Date c.in-Date.day) =
    c.copied-in-Date.ensures ∙ (rw (to_z-of_z fits) at c.get-in-Date.ensures.value) ∙ c.self.invariant.days c.in-Date.day in
    rw c.in-Date.is
    (c.unwrap_or-in-Date.ensures ∙ ap (λ o. unwrap_or o (length values)) found ∙ place-first values (cell.Date c.in-Date.day)
    ∙ ap (λ l. first_place l (cell.Date c.in-Date.day)) c.self.view_is)

pub returns-in-Text : goal.returns-in-Text
returns-in-Text c =
    let values = c.self.inside.values.now in
    let text = c.in-Text.text.now in
    let found : c.copied-in-Text.result ≡ place_among values (cell.Text text) =
    c.copied-in-Text.ensures ∙ c.get-in-Text.ensures.value ∙ c.self.invariant.texts text in
    rw c.in-Text.is
    (c.unwrap_or-in-Text.ensures ∙ ap (λ o. unwrap_or o (length values)) found ∙ place-first values (cell.Text text)
    ∙ ap (λ l. first_place l (cell.Text text)) c.self.view_is)
