use Rattle.std.proofs.Common.{◌≡◌, None, arith, refl, sym, ap, nat_lt}
use Rattle.std.proofs.lemmas.List.{append-nil}
use Rattle.hv_pick.specs.Walk.{Walk}
use Rattle.hv_pick.specs.Word.{is_picked}
use Rattle.hv_member.specs.Sets.{next_from}
use Rattle.hv_member.proofs.SearchLemmas.{left-none, left-start}
use Rattle.hv_made.specs.Steps.{picked_rows}
use Rattle.hv_made.proofs.RowSteps.{next-fewer, next-left, next-small, walk-offered}
use Rattle.hv_made.proofs.sample.picked_numbers.Goals as goal

-- nothing is kept at the start, and all is left
pub loop-row-init : goal.loop-row-init
loop-row-init c = record {
  sofar = rw (c.new-kept.ensures, left-start) refl;
  words = rw c.part.ensures at c.new-words.ensures;
}

-- the walk over the words is at the row or before it
pub at-word-requires : goal.at-word-requires
at-word-requires c =
    let table = c.args.table.now in
    let next = next-left table c.member.result.now c.loop-row.from c.in-Some.row c.member.ensures.whole c.member.ensures.value c.in-Some.ensures in
    let at_from : c.loop-row.words.next ≡ c.loop-row.from = ap (λ (w : Walk). w.next) c.loop-row.invariant.words in
    record { rising = omega (arith, at_from, next.low) }

-- the row's number is small
pub overflow_add-from : goal.overflow_add-from
overflow_add-from c =
    let table = c.args.table.now in
    let next = next-left table c.member.result.now c.loop-row.from c.in-Some.row c.member.ensures.whole c.member.ensures.value c.in-Some.ensures in
    omega (arith, next-small table c.loop-row.from c.in-Some.row c.member.ensures.whole next)

-- after it fewer are left
pub loop-row-smaller : goal.loop-row-smaller
loop-row-smaller c =
    let table = c.args.table.now in
    let next = next-left table c.member.result.now c.loop-row.from c.in-Some.row c.member.ensures.whole c.member.ensures.value c.in-Some.ensures in
    next-fewer table.member.rows c.loop-row.from c.in-Some.row next

-- it is kept where its word is below the threshold
pub loop-row-preserved : goal.loop-row-preserved
loop-row-preserved c =
    let table = c.args.table.now in
    let n = c.in-Some.row in
    let next = next-left table c.member.result.now c.loop-row.from n c.member.ensures.whole c.member.ensures.value c.in-Some.ensures in
    let value : nat_lt c.from.result c.args.threshold ≡ is_picked c.args.seed c.args.threshold table.part n =
    rw (c.from.ensures, c.at-word.ensures.word, c.loop-row.invariant.words) refl in
    record {
      sofar = rw c.in_ok-offer.ensures
          (walk-offered (λ m. is_picked c.args.seed c.args.threshold table.part m) c.loop-row.kept table.member.rows
          (picked_rows c.args.seed c.args.threshold table) c.loop-row.from n next c.loop-row.invariant.sofar (nat_lt c.from.result c.args.threshold) value);
      words = rw c.loop-row.invariant.words at c.at-word.ensures.next;
    }

-- at the end none is left
pub returns : goal.returns
returns c =
    let table = c.args.table.now in
    let none : next_from c.loop-row.from table.member.rows ≡ None = rw c.member.ensures.value at (sym c.in_default.ensures) in
    let left = left-none c.loop-row.from table.member.rows none in
    let all : c.loop-row.kept ≡ picked_rows c.args.seed c.args.threshold table = rw (left, append-nil) at c.loop-row.invariant.sofar in
    rw all at c.into_rows.ensures
