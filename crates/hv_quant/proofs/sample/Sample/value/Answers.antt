use Rattle.std.proofs.Common.{◌≡◌, ◌∙◌, ap, length}
use Rattle.std.specs.Prelude.{IsPermutation}
use Rattle.hv_sketch.specs.Rising.{rising}
use Rattle.hv_quant.specs.Quantiles.{by_key, quantiles_in, quantiles_of}
use Rattle.hv_quant.specs.Sample.{kept, sample_of}
use Rattle.hv_quant.proofs.QuantileFacts.{same_value, sorted-is}
use Rattle.hv_quant.proofs.SampleFacts.{summary-rises}
use Rattle.hv_quant.proofs.sample.Sample.value.Goals as goal

-- no two rows of a sample tie, so that sorted they are its rising list by key
pub returns : goal.returns
returns c = λ rows h.
    let view = c.args.self.now in
    let sample = c.args.s.now.rows in
    let moved : IsPermutation sample c.in_ok-rows.rows.items = rw c.as_slice.ensures at c.in_ok-rows.ensures.same in
    let sorted = sorted-is view.order sample c.in_ok-rows.rows.items (summary-rises view.seed view.k view.order rows c.args.s.now h) moved c.in_ok-rows.ensures.sorted in
    let keys : c.in_ok-quantiles.quantiles ≡ quantiles_of view.order view.q (sample_of view.seed view.k view.order rows) =
    c.in_ok-quantiles.ensures ∙ ap (quantiles_in view.q) (c.as_slice-2.ensures.value ∙ sorted ∙ ap (rising (by_key view.order) kept) h.is) in
    let many : length c.as_slice-3.result.now ≡ length (sample_of view.seed view.k view.order rows) = ap length (c.as_slice-3.ensures ∙ h.is) in
    same_value _ _ _ _ view.seed keys many
