use Rattle.std.proofs.Common.{◌≡◌, ◌∙◌, Some, None, ap, inl}
use Rattle.std.proofs.lemmas.Result.{err_from_is_err_and}
use Rattle.std.specs.Arc.{arc_value}
use Rattle.hv_expr.specs.Checks.{kind_of}
use Rattle.hv_lineage.specs.Lineages.{IsFitColumn, lineage_columns}
use Rattle.hv_lineage.specs.Made.{with_column}
use Rattle.hv_lineage.specs.Refusals.{name_refusal}
use Rattle.hv_lineage.proofs.TermNodes.{extends-Derive}
use Rattle.hv_lineage.proofs.Refused.{derive-no_room}
use Rattle.hv_lineage.proofs.lineage.Lineage.derive.Goals as goal

-- where there is no room, nothing before refuses the column
pub returns-in_err-room-clause-refused : goal.returns-in_err-room-clause-refused
returns-in_err-room-clause-refused c =
    let p = err_from_is_err_and c.from_residual-in_err-room.result c.from_residual-in_err-room.ensures.1 in
    let columns : c.get.result.now ≡ lineage_columns c.deref-lineage.result.now = c.get.ensures ∙ c.lineage.invariant.kept_columns ∙ ap lineage_columns c.lineage.view_is in
    let named : name_refusal c.get.result.now c.args.name (Some c.in_ok-kind.kind) ≡ None =
    rw (c.get-2.ensures, ← c.get.ensures) at c.in_ok-schema.ensures.fit in
    rw (p.1, p.2, ← c.deref-lineage.ensures)
    (inl (derive-no_room c.deref-lineage.result.now c.get.result.now c.args.name c.args.expr c.in_ok-kind.kind c.in_err-room.field-0.0
    columns c.in_ok-kind.ensures.ok c.in_ok-kind.ensures.kind named c.in_err-room.ensures.err))

-- a derived column is one more node
pub grown-requires-clause-longer : goal.grown-requires-clause-longer
grown-requires-clause-longer c =
    let kept = c.lineage.inside in
    let columns = kept.schema in
    let kind : kind_of columns c.args.expr ≡ Some c.in_ok-kind.kind = rw c.get.ensures at c.in_ok-kind.ensures.kind in
    let named : name_refusal columns c.args.name (Some c.in_ok-kind.kind) ≡ None = rw c.get-2.ensures at c.in_ok-schema.ensures.fit in
    let fit : IsFitColumn columns c.args.name c.args.expr = record {
      value = rw c.get.ensures at c.in_ok-kind.ensures.ok;
      named = rw kind named;
      factors = c.requires;
    } in
    let made : c.in_ok-schema-2.schema ≡ with_column columns c.args.name (kind_of columns c.args.expr) =
    c.in_ok-schema-2.ensures ∙ (rw (kind, ← c.get-2.ensures) c.in_ok-schema.ensures.ok) in
    rw (← c.lineage.view_is, c.in_ok-term.ensures, made)
    (extends-Derive (record { base = arc_value kept.base; term = kept.term }) columns kept.depth kept.size c.args.name c.args.expr c.lineage.invariant fit)
