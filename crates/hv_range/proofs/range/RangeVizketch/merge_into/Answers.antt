use Rattle.std.proofs.lemmas.Bool.{false≢true}
use Rattle.hv_range.proofs.RangeFacts.{IsRange-append, can_add_rows, no_texts}
use Rattle.hv_range.proofs.range.RangeVizketch.merge_into.Goals as goal

pub sum-requires : goal.sum-requires
sum-requires c = can_add_rows _ _ _ _ _ _ c.requires.2 c.requires.3 c.requires.4.few

pub returns-in_err-acc-clause-always : goal.returns-in_err-acc-clause-always
returns-in_err-acc-clause-always c = λ free.
    let some = no_texts _ _ _ free c.requires.2 in
    let others = no_texts _ _ _ free c.requires.3 in
    absurd (false≢true (c.in_err-acc.ensures.always some.least others.least some.greatest others.greatest))

pub returns-clause-ok : goal.returns-clause-ok
returns-clause-ok c = λ a b first second can.
    rw c.in_ok-acc.ensures.value (IsRange-append _ _ a b _ _ first second can.few)
