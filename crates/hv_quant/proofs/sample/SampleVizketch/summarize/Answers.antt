use Rattle.std.proofs.Common.{◌∙◌, sym}
use Rattle.hv_quant.proofs.PairFacts.{pairs-sample, pairs-there}
use Rattle.hv_quant.proofs.sample.SampleVizketch.summarize.Goals as goal

pub keyed_rows-requires-clause-rows_there : goal.keyed_rows-requires-clause-rows_there
keyed_rows-requires-clause-rows_there g c =
    let view = c.args.self.now in
    let near = c.in_ok-nearest.ensures.near in
    pairs-there view.seed view.k view.order _ _ _ c.schema-columns.ensures.whole _ (c.as_slice.ensures.value ∙ c.cut.ensures.least ∙ near.least)

pub returns : goal.returns
returns g c =
    let view = c.args.self.now in
    let sampling = c.in_ok-nearest.ensures in
    record {
      few = sampling.few;
      is = c.in_ok-rows.ensures ∙ pairs-sample view.seed view.k view.order _ _ _ c.schema-columns.ensures.whole _ (c.as_slice.ensures.value ∙ c.cut.ensures.least ∙ sampling.near.least);
    }
