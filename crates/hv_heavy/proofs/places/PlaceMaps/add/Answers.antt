use Rattle.std.proofs.Common.{refl, rules, to_z-of_z, SFits, w32, w64}
use Rattle.std.proofs.lemmas.Result.{on_ok_weaker}
use Rattle.hv_heavy.proofs.PlaceFacts.{mapped-day, mapped-int, mapped-missing, mapped-text}
use Rattle.hv_heavy.proofs.places.PlaceMaps.add.Goals as goal

pub returns-in-Missing : goal.returns-in-Missing
returns-in-Missing c = λ values at h. rw c.in-Missing.is (mapped-missing values c.args.place c.args.self.now c.args.self.now at h)

-- the map of the value's kind has one place more, and the other two stand
pub returns-in-Int : goal.returns-in-Int
returns-in-Int c =
    let fits : SFits w64 c.in-Int.n = search rules in
    let told = rw (to_z-of_z fits) at c.add_int.ensures in
    on_ok_weaker c.add_int.result (λ put values at h. rw c.in-Int.is (mapped-int values c.args.place c.args.self.now _ at h c.in-Int.n put refl refl)) told

pub returns-in-Date : goal.returns-in-Date
returns-in-Date c =
    let fits : SFits w32 c.in-Date.day = search rules in
    let told = rw (to_z-of_z fits) at c.add_day.ensures in
    on_ok_weaker c.add_day.result (λ put values at h. rw c.in-Date.is (mapped-day values c.args.place c.args.self.now _ at h c.in-Date.day put refl refl)) told

pub returns-in-Text : goal.returns-in-Text
returns-in-Text c =
    on_ok_weaker c.add_text.result (λ put values at h. rw c.in-Text.is (mapped-text values c.args.place c.args.self.now _ at h c.in-Text.text.now put refl refl)) c.add_text.ensures
