use Rattle.std.proofs.Common.{◌≤◌, arith, ap}
use Rattle.hv_pick.specs.Walk.{Walk}
use Rattle.hv_pick.proofs.WordLemmas.{word_after_jump}
use Rattle.hv_pick.proofs.walker.Walker.at.Goals as goal

-- the word's step leaves the generator at the next row
pub invariant_of-self : goal.invariant_of-self
invariant_of-self c =
    let same_next = ap (λ (w : Walk). w.next) c.self.view_is in
    let below : c.self.inside.next ≤ c.from-row.result = omega arith in
    (word_after_jump c.self.inside.seed c.self.inside.part c.self.inside.next c.from-row.result _ _ _ _
    below c.self.invariant c.skip.ensures c.next_word.ensures).1

-- the word is the one at the row that was jumped to
pub returns-clause-word : goal.returns-clause-word
returns-clause-word c =
    let same_next = ap (λ (w : Walk). w.next) c.self.view_is in
    let below : c.self.inside.next ≤ c.from-row.result = omega arith in
    rw (← c.from-row.ensures, ← c.self.view_is)
    (word_after_jump c.self.inside.seed c.self.inside.part c.self.inside.next c.from-row.result _ _ _ _
    below c.self.invariant c.skip.ensures c.next_word.ensures).0
