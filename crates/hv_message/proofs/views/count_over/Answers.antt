use Rattle.hv_message.proofs.CountFacts.{count-fits}
use Rattle.hv_message.proofs.views.count_over.Goals as goal

pub returns-clause-fits : goal.returns-clause-fits
returns-clause-fits c =
    count-fits c.args.schema.now c.in_ok-col.col c.in_ok-col.kind c.args.asked.now c.in_ok-values.values c.in_ok-col.ensures.there c.in_ok-values.ensures
