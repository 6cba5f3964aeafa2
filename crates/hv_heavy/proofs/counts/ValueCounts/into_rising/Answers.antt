use Rattle.std.proofs.Common.{◌≡◌, ◌∙◌, ◌++◌, List, ap, subst}
use Rattle.std.specs.Prelude.{IsPermutation}
use Rattle.std.proofs.lemmas.List.Sorted.{length_permutation}
use Rattle.hv_value.specs.declared.cell.Cell.TheVariants as cell
use Rattle.hv_heavy.specs.Counting.{counted, pairs_of, text_cell}
use Rattle.hv_heavy.specs.declared.summary.HeavyPair.{HeavyPair}
use Rattle.hv_heavy.proofs.CountFacts.{once-all, sorted-counts, written}
use Rattle.hv_heavy.proofs.counts.ValueCounts.into_rising.Goals as goal

-- each value is there once, so the sorted pairs rise
pub returns-clause-rises : goal.returns-clause-rises
returns-clause-rises c =
    let counts = c.args.self in
    let sorted : List HeavyPair = c.sort_by_value.new.pairs in
    let are : c.push_texts.new.pairs.items ≡ counted counts =
    c.in_ok-push_texts.ensures.added
    ∙ ap (λ l. l ++ pairs_of text_cell counts.texts.entries)
    (c.in_ok-push_days.ensures.added
    ∙ ap (λ l. l ++ pairs_of cell.Date counts.days.entries)
    (c.in_ok-push_ints.ensures.added ∙ ap (λ l. l ++ pairs_of cell.Int counts.ints.entries) c.new-pairs.ensures.items)) in
    let moved : IsPermutation (counted counts) sorted =
    subst (λ l. IsPermutation l sorted) (c.as_mut_slice.ensures.value ∙ are) c.sort_by_value.ensures.same in
    let once = once-all counts.ints.entries counts.days.entries _ counts.texts.entries c.in_ok-push_ints.ensures.once c.in_ok-push_days.ensures.once c.in_ok-push_texts.ensures.once in
    rw (written sorted c.push_texts.new.pairs.items c.push_texts.new.pairs.len (length_permutation c.as_mut_slice.result.now sorted c.sort_by_value.ensures.same ∙ c.as_mut_slice.ensures.len))
    (sorted-counts (counted counts) sorted moved c.sort_by_value.ensures.sorted once)
