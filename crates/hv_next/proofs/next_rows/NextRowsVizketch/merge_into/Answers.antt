use Rattle.std.proofs.Common.{refl}
use Rattle.hv_next.proofs.NextFacts.{next-can_add, next-rises, next-sum}
use Rattle.hv_next.specs.NextLaws.{same}
use Rattle.hv_next.proofs.next_rows.NextRowsVizketch.merge_into.Goals as goal

pub joined_keys-requires-clause-left : goal.joined_keys-requires-clause-left
joined_keys-requires-clause-left c =
    let view = c.args.self.now in
    rw c.as_slice.ensures (next-rises view.order view.after view.k c.requires.0 _ c.requires.2)

pub joined_keys-requires-clause-right : goal.joined_keys-requires-clause-right
joined_keys-requires-clause-right c =
    let view = c.args.self.now in
    rw c.as_slice-2.ensures (next-rises view.order view.after view.k c.requires.1 _ c.requires.3)

pub joined_keys-requires-clause-joinable : goal.joined_keys-requires-clause-joinable
joined_keys-requires-clause-joinable c =
    let view = c.args.self.now in
    rw (c.as_slice.ensures, c.as_slice-2.ensures) (λ x y first second tied.
    next-can_add view.order view.after view.k c.requires.0 c.requires.1 _ _ c.requires.2 c.requires.3 x y first second)

pub returns-clause-ok : goal.returns-clause-ok
returns-clause-ok c = λ a b first second can.
    let view = c.args.self.now in
    next-sum view.order view.after view.k a b _ _ _ first second can
    (same _ _ _ _ refl (rw (c.as_slice.ensures, c.as_slice-2.ensures) at c.in_ok-rows.ensures))
