use Rattle.std.proofs.Common.{◌≡◌, ◌∙◌, ◌++◌, ◌∷◌, [], Some, None, sym, subst, ap, refl, arith}
use Rattle.hv_value.specs.Table.{IsTable}
use Rattle.hv_member.specs.Sets.{numbers}
use Rattle.hv_part.specs.Part.{rows_of}
use Rattle.hv_sketch.specs.Parts.{AreBefore}
use Rattle.hv_sketch.proofs.PartsFacts.{before_none, before_more}
use Rattle.hv_lineage.specs.Flat.{Told, flat_rows}
use Rattle.hv_lineage.specs.Lineages.{lineage_columns, lineage_parts}
use Rattle.hv_view.specs.Plans.{AreRowsUnder}
use Rattle.hv_session.proofs.PartLemmas.{flat-more, numbers-more, under-append, under-table}
use Rattle.hv_session.proofs.last_words.summary_of.Goals as goal

-- no rows are those of no partitions
pub loop-part-init : goal.loop-part-init
loop-part-init g c told = record { rows = []; is = refl; under = tt; holds = c.in_ok-summary.ensures; before = before_none 0 }

-- the summary so far is of lower partitions
pub add_part-requires-clause-lower : goal.add_part-requires-clause-lower
add_part-requires-clause-lower g c =
    let nothing : Told = λ table part. None in
    let so_far = c.loop-part.invariant nothing in
    (so_far.rows, so_far.holds, subst (λ n. AreBefore n so_far.rows) (sym c.in_ok-rows.ensures.table.part_is) so_far.before)

-- it then stands for one partition more
pub loop-part-preserved : goal.loop-part-preserved
loop-part-preserved g c told =
    let lineage = c.args.lineage.now in
    let part = c.loop-part.part in
    let so_far = c.loop-part.invariant told in
    let table = c.in_ok-rows.rows in
    let more = rows_of table in
    let is = c.in_ok-rows.ensures.table in
    let one : flat_rows told lineage (part ∷ []) ≡ Some more = c.in_ok-rows.ensures.flat told (c.in_ok-bytes_of.ensures.told told) in
    let lower = subst (λ n. AreBefore n so_far.rows) (sym is.part_is) so_far.before in
    let whole = subst (λ n. IsTable table.columns n more) is.part_is c.in_ok-add_part.ensures.whole in
    let columns = lineage_columns lineage in
    let under = subst (λ cols. AreRowsUnder cols more) is.columns_are (under-table table.columns part 0 more whole) in
    record {
      rows = so_far.rows ++ more;
      is = ap (flat_rows told lineage) (numbers-more part) ∙ flat-more told lineage (numbers part) part so_far.rows more so_far.is one;
      under = under-append columns so_far.rows more so_far.under under;
      holds = c.in_ok-add_part.ensures.ok so_far.rows so_far.holds lower;
      before = before_more table.columns part so_far.rows more so_far.before whole;
    }

-- all partitions are the whole table
pub returns : goal.returns
returns g c told =
    let so_far = c.loop-part.invariant told in
    let all : c.loop-part.part ≡ lineage_parts c.args.lineage.now = omega arith in
    record {
      rows = so_far.rows;
      is = subst (λ n. flat_rows told c.args.lineage.now (numbers n) ≡ Some so_far.rows) all so_far.is;
      under = so_far.under;
      holds = so_far.holds;
    }
