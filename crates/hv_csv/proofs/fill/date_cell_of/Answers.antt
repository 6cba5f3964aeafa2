use Rattle.std.proofs.Common.{rules, sym, to_z-of_z, SFits, w32}
use Rattle.hv_value.proofs.DayLemmas.{found-is_day_number}
use Rattle.hv_csv.proofs.fill.date_cell_of.Goals as goal

-- the day of a text is a day number
pub returns-in-Some-clause-kind : goal.returns-in-Some-clause-kind
returns-in-Some-clause-kind c =
    let fits : SFits w32 c.in-Some.day = search rules in
    rw (to_z-of_z fits) (found-is_day_number c.args.field.now c.in-Some.day (sym c.in-Some.ensures))
