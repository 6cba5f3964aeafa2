-- The generator of a partition, moved from row to row.
use Rattle.std.proofs.Common.{◌≡◌, ℕ, zero, suc, ◌+◌, ◌-◌, ◌≤◌, sym, ap, ◌∙◌, arith, zero-add, suc-add}
use Rattle.rand_pcg.specs.Lcg.{Lcg, next, advance, next_state, state_after}
use Rattle.rand_pcg.specs.Pcg.{multiplier_64, pcg32}
use Rattle.hv_pick.specs.Word.{generator_of, generator_at, word_of}

-- a state after b steps and then a more is the state after all of them
state_after-state_after : (w m p a b s : ℕ) → state_after w m p a (state_after w m p b s) ≡ state_after w m p (b + a) s
unfolding state_after
state_after-state_after w m p a zero s = ap (λ (n : ℕ). state_after w m p n s) (sym (zero-add a))
state_after-state_after w m p a (suc b) s =
    state_after-state_after w m p a b (next_state w m p s)
    ∙ ap (λ (n : ℕ). state_after w m p n s) (sym (suc-add b a))

-- a jump of b and then one of a is one jump
advance-advance : (w m a b : ℕ) (g : Lcg) → advance w m a (advance w m b g) ≡ advance w m (b + a) g
advance-advance w m a b g =
    ap (λ (s : ℕ). record g { state = s }) (state_after-state_after w m g.increment a b g.state)

-- at a row, one step leads to the row after it
next-generator_at : (seed part row : ℕ)
    → next 64 multiplier_64 (generator_at seed part row) ≡ generator_at seed part (row + 1)
unfolding state_after
next-generator_at seed part row = advance-advance 64 multiplier_64 1 row (generator_of seed part)

-- at a row, a jump over the rows up to a later one leads there
advance-generator_at : (seed part from row : ℕ) → from ≤ row
    → advance 64 multiplier_64 (row - from) (generator_at seed part from) ≡ generator_at seed part row
advance-generator_at seed part from row below =
    let whole : from + (row - from) ≡ row = omega arith in
    advance-advance 64 multiplier_64 (row - from) from (generator_of seed part)
    ∙ ap (generator_at seed part) whole

-- what a generator at row `from` gives after a jump to `row`: that row's word, and the generator at the next
pub word_after_jump : (seed part from row word : ℕ) (g jumped after : Lcg) → from ≤ row
    → g ≡ generator_at seed part from → jumped ≡ advance 64 multiplier_64 (row - from) g
    → (word, after) ≡ pcg32 jumped
    → (word ≡ word_of seed part row) × (after ≡ generator_at seed part (row + 1))
unfolding word_of
word_after_jump seed part from row word g jumped after below is_at jump step =
    let there : jumped ≡ generator_at seed part row =
    jump ∙ ap (advance 64 multiplier_64 (row - from)) is_at ∙ advance-generator_at seed part from row below in (
      ap (λ (p : ℕ × Lcg). p.0) step ∙ ap (λ (h : Lcg). (pcg32 h).0) there,
      ap (λ (p : ℕ × Lcg). p.1) step ∙ ap (next 64 multiplier_64) there ∙ next-generator_at seed part row,
    )
