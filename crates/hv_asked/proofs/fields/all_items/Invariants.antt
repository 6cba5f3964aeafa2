use Rattle.std.proofs.Common.{◌≡◌, ◌++◌, length, option_map}
use Rattle.serde_json.specs.View.{items_view}
use Rattle.hv_asked.specs.Fields.{all_read}
use Rattle.hv_asked.proofs.fields.all_items.Given as goal

-- all are those found and then those of the rest
abbrev pub invariant-loop-rest : goal.invariant-loop-rest
invariant-loop-rest g l = all_read g.T.Item.read (items_view l.items) ≡ option_map (λ more. l.found ++ more) (all_read g.T.Item.read (items_view l.rest))

abbrev pub decreases-loop-rest : goal.decreases-loop-rest
decreases-loop-rest g l = length l.rest
