use Rattle.std.proofs.Common.{◌≡◌, ◌++◌, ◌∷◌, [], List, Some, true, false, sym, ap, ◌∙◌, arith}
use Rattle.std.specs.List.{list_any}
use Rattle.std.proofs.lemmas.Result.{on_ok_weaker}
use Rattle.hv_value.specs.Cells.{cell_at}
use Rattle.hv_value.specs.Rows.{Row}
use Rattle.hv_value.specs.Table.{row_from}
use Rattle.hv_sketch.specs.Gathering.{ComesNext}
use Rattle.hv_expr.specs.Holds.{cell_meets}
use Rattle.hv_expr.specs.Ready.{IsReadyTest}
use Rattle.hv_find.specs.Find.{IsFound, is_match, split_at}
use Rattle.hv_find.specs.FindSums.{find_sum}
use Rattle.hv_find.proofs.FindFacts.{found-above, found-before, found-key, found-more, found-other}
use Rattle.hv_find.proofs.find.FindGather.add_row.Goals as goal

pub add_match-requires-clause-one_each : goal.add_match-requires-clause-one_each
add_match-requires-clause-one_each g c =
    let so_far = c.requires.kept_so_far in
    found-key c.args.self.now so_far.0 _ so_far.3.1

pub add_match-requires-clause-room_above : goal.add_match-requires-clause-room_above
add_match-requires-clause-room_above g c =
    let so_far = c.requires.kept_so_far in
    omega (arith, found-above c.args.self.now so_far.0 _ so_far.3.1)

pub add_match-requires-clause-room_before : goal.add_match-requires-clause-room_before
add_match-requires-clause-room_before g c =
    let so_far = c.requires.kept_so_far in
    omega (arith, found-before c.args.self.now so_far.0 _ so_far.3.1)

pub returns-then-not-branch : goal.returns-then-not-branch
returns-then-not-branch g c = λ rows found there so_far can.
    let view = c.args.self.now in
    let no : is_match view found ≡ false =
    ap (list_any (λ col. cell_meets view.test (cell_at found.cells col))) (sym c.as_slice.ensures)
    ∙ sym (c.in_ok-has_match.ensures view.test found so_far.0 there) ∙ c.if-not-branch.true in
    (so_far.0, found-other view rows found _ so_far.1 can.merge no)

pub returns : goal.returns
returns g c =
    let view = c.args.self.now in
    let kept = c.args.kept.now in
    let step : ((found : Row) → row_from c.args.row (g.T.Table.rows c.args.table.now) ≡ Some found
    → c.add_match.new.self ≡ find_sum view.order (split_at view.order view.after (found ∷ [])) kept.found)
    → (rows : List Row) (found : Row) → row_from c.args.row (g.T.Table.rows c.args.table.now) ≡ Some found
    → IsReadyTest view.test kept.ready × IsFound view rows kept.found → ComesNext rows found
    → IsReadyTest view.test kept.ready × IsFound view (rows ++ found ∷ []) c.add_match.new.self =
    λ added rows found there so_far can.
    let yes : is_match view found ≡ true =
    ap (list_any (λ col. cell_meets view.test (cell_at found.cells col))) (sym c.as_slice.ensures)
    ∙ sym (c.in_ok-has_match.ensures view.test found so_far.0 there) ∙ c.if-not-branch.false in
    (so_far.0, found-more view rows found _ so_far.1 can.merge _ yes (added found there)) in
    on_ok_weaker c.add_match.result step c.add_match.ensures
