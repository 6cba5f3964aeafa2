use Rattle.std.proofs.Common.{◌≤◌, ◌∙◌, ap, sym, Some, to_z-of_z}
use Rattle.hv_value.specs.Civil.{text_of_day}
use Rattle.hv_value.proofs.CivilLemmas.{text_is}
use Rattle.hv_value.specs.Days.{day_of_text}
use Rattle.hv_value.proofs.DayLemmas.{numbered-year, text-printed, text-reads}
use Rattle.hv_value.proofs.day.date_text.Goals as goal

-- the year, the month and the day are those of the day number's date
pub returns-clause-text : goal.returns-clause-text
returns-clause-text c = record {
  date = c.date_of-date.result;
  number = c.date_of-date.ensures ∙ to_z-of_z c.ranges.day;
  printed = c.text_of_date.ensures ∙ text-printed c.date_of-date.result c.year_of.result c.year_of.ensures;
}

-- which read back as its number
pub returns-clause-reads_back : goal.returns-clause-reads_back
returns-clause-reads_back c =
    let number = c.date_of-date.ensures ∙ to_z-of_z c.ranges.day in
    let some : 1 ≤ c.year_of.result = numbered-year c.date_of-date.result c.args.day c.year_of.result number c.requires c.year_of.ensures in
    ap day_of_text c.text_of_date.ensures
    ∙ text-reads c.date_of-date.result c.year_of.result c.year_of.ensures some
    ∙ ap Some number

-- and are the number's civil year, month and day
pub returns-clause-value : goal.returns-clause-value
returns-clause-value c =
    let number = c.date_of-date.ensures ∙ to_z-of_z c.ranges.day in
    let some : 1 ≤ c.year_of.result = numbered-year c.date_of-date.result c.args.day c.year_of.result number c.requires c.year_of.ensures in
    c.text_of_date.ensures
    ∙ sym (text_is c.date_of-date.result c.year_of.result c.year_of.ensures some)
    ∙ ap text_of_day number
