use Rattle.hv_value.proofs.DayLemmas.{year-fits, year-is}
use Rattle.hv_value.proofs.day.year_of.Goals as goal

-- the year is from 1 to 9999
pub overflow_cast-result : goal.overflow_cast-result
overflow_cast-result c = year-fits c.args.date.now c.requires

pub returns : goal.returns
returns c = year-is c.args.date.now c.requires
