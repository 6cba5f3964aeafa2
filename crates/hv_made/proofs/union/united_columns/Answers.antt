use Rattle.std.proofs.Common.{◌≡◌, ◌∙◌, ◌++◌, ◌∷◌, [], ap, map, sym}
use Rattle.std.specs.Arc.{arc_value}
use Rattle.std.proofs.lemmas.List.{map-append}
use Rattle.hv_value.specs.Schema.{Columns}
use Rattle.hv_column.specs.Column.{ColumnCells}
use Rattle.hv_part.proofs.RowsThere.{long-at}
use Rattle.hv_lineage.proofs.ColumnLemmas.{take-next}
use Rattle.hv_made.specs.Steps.{IsUnited}
use Rattle.hv_made.proofs.UnionSteps.{kinds-at, united-next}
use Rattle.hv_made.proofs.union.united_columns.Goals as goal

-- columns at one place are of one kind
pub united_column-requires-clause-kinds : goal.united_column-requires-clause-kinds
united_column-requires-clause-kinds c =
    let left = c.args.left.now in
    let right = c.args.right.now in
    let kinds : map (λ (k : ColumnCells). k.kind) right.cols ≡ map (λ (k : ColumnCells). k.kind) left.cols =
    c.height.ensures.whole.agree.kinds ∙ ap (λ (cs : Columns). map (λ k. k.1) cs) c.requires.columns ∙ sym c.member-held.ensures.whole.agree.kinds in
    kinds-at right.cols left.cols c.loop-j.j (arc_value c.column-in-loop-j.result.now) (arc_value c.column.result.now) kinds c.column-in-loop-j.ensures c.column.ensures

-- and have as many cells
pub united_column-requires-clause-left : goal.united_column-requires-clause-left
united_column-requires-clause-left c =
    long-at c.args.left.now.member.size c.args.left.now.cols c.loop-j.j (arc_value c.column.result.now) c.member-held.ensures.whole.agree.lengths
    c.column.ensures ∙ sym c.requires.rows

pub united_column-requires-clause-right : goal.united_column-requires-clause-right
united_column-requires-clause-right c =
    long-at c.args.right.now.member.size c.args.right.now.cols c.loop-j.j (arc_value c.column-in-loop-j.result.now) c.height.ensures.whole.agree.lengths
    c.column-in-loop-j.ensures ∙ c.requires.heights ∙ sym c.requires.rows

-- one more is united
pub loop-j-preserved : goal.loop-j-preserved
loop-j-preserved c =
    let left = c.args.left.now in
    let right = c.args.right.now in
    let one = arc_value c.column.result.now in
    let other = arc_value c.column-in-loop-j.result.now in
    let made = arc_value c.in_ok-column.column in
    let is : IsUnited one other left.member.rows c.args.alone.now.rows made = rw c.member-held.ensures.value at c.in_ok-column.ensures in
    let long = long-at left.member.size left.cols c.loop-j.j one c.member-held.ensures.whole.agree.lengths c.column.ensures in
    let more : map arc_value c.push.new.self.items ≡ map arc_value c.loop-j.united.items ++ made ∷ [] =
    ap (map arc_value) c.in_ok-push.ensures.items ∙ map-append arc_value c.loop-j.united.items (c.in_ok-column.column ∷ []) in
    rw (take-next left.cols c.loop-j.j one c.column.ensures, take-next right.cols c.loop-j.j other c.column-in-loop-j.ensures, more)
    (united-next _ _ _ left.member.rows c.args.alone.now.rows left.member.size one other made c.loop-j.invariant long is)
