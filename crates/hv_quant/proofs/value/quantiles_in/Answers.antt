use Rattle.std.proofs.Common.{◌∙◌, get_or, refl}
use Rattle.hv_quant.proofs.QuantileFacts.{quantiles-more}
use Rattle.hv_quant.proofs.value.quantiles_in.Goals as goal

pub loop-j-preserved : goal.loop-j-preserved
loop-j-preserved c =
    c.in_ok-push.ensures.added
    ∙ quantiles-more c.args.q c.args.rows.now c.loop-j.j c.quantile_place-place.result c.index-rows-place.result (get_or c.args.rows.now c.quantile_place-place.result c.index-rows-place.result)
    c.loop-j.keys c.in_ok-copied_cells.field-0 c.quantile_place-place.ensures.value c.quantile_place-place.ensures.there
    refl (c.in_ok-copied_cells.ensures ∙ c.as_slice.ensures) c.loop-j.invariant
