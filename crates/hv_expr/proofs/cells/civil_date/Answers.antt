use Rattle.std.proofs.Common.{◌≡◌, ◌∙◌}
use Rattle.std.proofs.Math.Facts.{to_z-of_z}
use Rattle.jiff_core.specs.Date.{epoch_day}
use Rattle.hv_expr.proofs.CivilLemmas.{year-of_date, month-of_date, day-of_date}
use Rattle.hv_expr.proofs.cells.civil_date.Goals as goal
use Rattle.hv_expr.proofs.cells.civil_date.Goals.{After-date_of}

-- the date is that of the day as passed
number : (c : After-date_of) → epoch_day c.date_of.result ≡ c.args.day
number c = c.date_of.ensures ∙ to_z-of_z c.ranges.day

pub returns-clause-year : goal.returns-clause-year
returns-clause-year c = year-of_date c.date_of.result c.args.day (number c) c.requires

pub returns-clause-month : goal.returns-clause-month
returns-clause-month c = month-of_date c.date_of.result c.args.day (number c) c.requires

pub returns-clause-day : goal.returns-clause-day
returns-clause-day c = day-of_date c.date_of.result c.args.day (number c) c.requires
