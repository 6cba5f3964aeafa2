use Rattle.std.proofs.Common.{◌≡◌, ◌+◌, ◌++◌, ◌∷◌, ◌∙◌, List, [], map, take, add-one, arith, ap}
use Rattle.std.proofs.lemmas.Grind.{common_steps}
use Rattle.std.proofs.lemmas.List.{take_all}
use Rattle.serde_json.specs.Data.{Data}
use Rattle.hv_value.specs.Schema.{Columns}
use Rattle.hv_reply.specs.Lineages.{column_data}
use Rattle.serde_json.proofs.Views.{view-Array}
use Rattle.hv_reply.specs.Values.{list_of}
use Rattle.hv_reply.proofs.ColumnLemmas.{one_more}
use Rattle.hv_reply.proofs.lineages.columns_value.Goals as goal

pub loop-place-preserved : goal.loop-place-preserved
loop-place-preserved c =
    let more : take (c.loop-place.place + 1) c.args.schema.now ≡ take c.loop-place.place c.args.schema.now ++ (c.name.result.now, c.kind.result) ∷ []
    = rw add-one (one_more c.args.schema.now c.loop-place.place c.name.result.now c.kind.result c.name.ensures c.kind.ensures) in
    grind (arith, common_steps, more)

pub returns : goal.returns
returns c =
    let all : take c.loop-place.place c.args.schema.now ≡ c.args.schema.now = take_all c.loop-place.place c.args.schema.now (omega arith) in
    view-Array c.loop-place.list ∙ ap (λ (ds : List Data). list_of ds) (c.loop-place.invariant ∙ ap (λ (cs : Columns). map column_data cs) all)
