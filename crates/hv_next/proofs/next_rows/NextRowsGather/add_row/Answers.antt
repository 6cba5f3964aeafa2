use Rattle.std.proofs.Common.{◌≡◌, ◌++◌, ◌∷◌, [], List, Some, take, sym, ◌∙◌}
use Rattle.std.proofs.lemmas.Result.{on_ok_weaker}
use Rattle.hv_value.specs.Rows.{Row}
use Rattle.hv_value.specs.Table.{row_from}
use Rattle.hv_sketch.specs.Gathering.{ComesNext}
use Rattle.hv_next.specs.AddKey.{with_key}
use Rattle.hv_next.specs.Next.{IsNext, one_row}
use Rattle.hv_next.proofs.NextFacts.{next-above, next-below, next-kept, next-past}
use Rattle.hv_next.proofs.next_rows.NextRowsGather.add_row.Goals as goal

pub is_past-requires-clause-kept : goal.is_past-requires-clause-kept
is_past-requires-clause-kept g c =
    let view = c.args.self.now in
    rw c.as_slice.ensures (next-kept view.order view.after view.k c.requires.kept_so_far.0 _ c.requires.kept_so_far.3)

pub returns-then-is_past : goal.returns-then-is_past
returns-then-is_past g c = λ rows found there so_far can.
    let view = c.args.self.now in
    next-past view.order view.after view.k rows found _ so_far can.merge
    (rw c.as_slice.ensures at c.is_past.ensures c.if-is_past.true found there)

pub add_key-requires-clause-kept : goal.add_key-requires-clause-kept
add_key-requires-clause-kept g c =
    let view = c.args.self.now in
    next-kept view.order view.after view.k c.requires.kept_so_far.0 _ c.requires.kept_so_far.3

pub returns-then-is_above : goal.returns-then-is_above
returns-then-is_above g c =
    let view = c.args.self.now in
    let step : ((found : Row) → row_from c.args.row (g.T.Table.rows c.args.table.now) ≡ Some found
    → c.add_key.new.rows ≡ take view.k (with_key view.order (one_row view.order found) c.args.kept.now.rows))
    → (rows : List Row) (found : Row) → row_from c.args.row (g.T.Table.rows c.args.table.now) ≡ Some found
    → IsNext view.order view.after view.k rows c.args.kept.now → ComesNext rows found
    → IsNext view.order view.after view.k (rows ++ found ∷ []) (record { before = c.args.kept.now.before; rows = c.add_key.new.rows }) =
    λ added rows found there so_far can.
    next-above view.order view.after view.k rows found _ so_far can.merge _
    (sym (c.is_above.ensures found there) ∙ c.if-is_above.true) (added found there) in
    on_ok_weaker c.add_key.result step c.add_key.ensures

pub returns : goal.returns
returns g c = λ rows found there so_far can.
    let view = c.args.self.now in
    next-below view.order view.after view.k rows found _ so_far can.merge (sym (c.is_above.ensures found there) ∙ c.if-is_above.false)
