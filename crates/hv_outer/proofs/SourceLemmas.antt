-- What a buffer holds after a source in memory wrote to it.
use Rattle.std.proofs.Common.{◌≡◌, ℕ, ◌+◌, ◌<◌, min, List, [], ◌++◌, length, take, drop, sym, ap, ◌∙◌, arith, length-take, length-drop, take-append-drop}
use Rattle.std.proofs.lemmas.List.{take_at, take_min, drop-drop, nil_from_length}
use Rattle.hv_outer.specs.SourceState.{overwritten}

-- the front that was written is a front of the bytes
take-overwritten : (buf bytes : List ℕ) (n : ℕ) → n ≡ min (length buf) (length bytes) → take n (overwritten buf bytes) ≡ take n bytes
take-overwritten buf bytes n e =
    let front = take (length buf) bytes in
    let fits : length front ≡ n = omega (arith, length-take (length buf) bytes) in
    take_at front (drop (length bytes) buf) n fits ∙ sym (take_min (length buf) bytes) ∙ ap (λ k. take k bytes) (sym e)

-- what was left is the front that was written, and what is left now
pub given_and_left : (bytes buf new : List ℕ) (at n : ℕ) → n ≡ min (length buf) (length (drop at bytes)) → new ≡ overwritten buf (drop at bytes)
    → drop at bytes ≡ take n new ++ drop (at + n) bytes
given_and_left bytes buf new at n e written =
    let given = ap (take n) written ∙ take-overwritten buf (drop at bytes) n e in
    rw given (rw (← drop-drop n at bytes) (sym (take-append-drop n (drop at bytes))))

-- a call that gave nothing, though there was room, was at the end
pub nothing_left : (bytes buf : List ℕ) (at n : ℕ) → n ≡ min (length buf) (length (drop at bytes)) → n ≡ 0 → 0 < length buf → drop (at + n) bytes ≡ []
nothing_left bytes buf at n e none room =
    nil_from_length (drop (at + n) bytes) (omega (arith, length-drop at bytes, length-drop (at + n) bytes))
