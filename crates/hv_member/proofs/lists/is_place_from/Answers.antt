use Rattle.std.proofs.Common.{◌-◌, ◌<◌, ◌≤◌, get_or, arith}
use Rattle.std.proofs.lemmas.Bool.{ltb-true}
use Rattle.hv_member.proofs.SearchLemmas.{IsNonDecreasing-rising, next_from-here}
use Rattle.hv_member.proofs.lists.is_place_from.Goals as goal

-- the number before the place is below `from`, and so are all before it
pub returns-else-place-eq0 : goal.returns-else-place-eq0
returns-else-place-eq0 c = λ less.
    let xs = c.args.numbers.now in
    let before : get_or xs (c.args.place - 1) 0 < c.args.from = ltb-true _ _ less in
    next_from-here c.args.from xs c.args.place c.requires c.if-place-numbers.false c.if-numbers-place.true
    (λ k lower.
    let order : get_or xs k 0 ≤ get_or xs (c.args.place - 1) 0 = IsNonDecreasing-rising xs c.requires k (c.args.place - 1) 0 (omega arith) (omega arith) in
    omega arith)
