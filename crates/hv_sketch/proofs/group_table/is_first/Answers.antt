use Rattle.std.proofs.Common.{inr, sym, ◌∙◌, arith}
use Rattle.std.proofs.lemmas.Bool.{ltb-true}
use Rattle.std.proofs.lemmas.Bool.Decides.{nat_tests}
use Rattle.hv_sketch.proofs.GroupRows.{first_number-here}
use Rattle.hv_sketch.proofs.group_table.is_first.Goals as goal
use Rattle.hv_sketch.proofs.group_table.is_first.Goals.{then-place-numbers, else-place-numbers}

pub returns-else-place-eq0 : goal.returns-else-place-eq0
returns-else-place-eq0 c = λ less.
    elim c.if-place-numbers.branch [
      | then-place-numbers w ↦
          first_number-here _ _ _ c.requires w.if-place-numbers.true (let e = c.if-numbers-place.true in let f = w.value-is in grind (arith, nat_tests)) (inr (grind (arith, nat_tests)))
      | else-place-numbers w ↦ absurd (omega (arith, ltb-true _ _ (sym w.value-is ∙ c.if-numbers-place.true), w.if-place-numbers.false))
    ]
