use Rattle.std.proofs.Common.{rules, ◌∙◌, ap}
use Rattle.std.specs.Prelude.{filter}
use Rattle.std.proofs.lemmas.Fn.{filter_same}
use Rattle.hv_view.specs.Frequent.{is_frequent}
use Rattle.hv_view.proofs.frequent.frequent_ones.Goals as goal

pub returns : goal.returns
returns c =
    c.from_vec.ensures
    ∙ filter_same _ (is_frequent c.args.k c.args.n) _ (λ pair told more called. search rules) _ _ c.retain.ensures.filtered
    ∙ ap (filter (is_frequent c.args.k c.args.n)) c.into_vec-pairs.ensures
