-- The greatest of some numbers.
use Rattle.std.proofs.Common.{◌≡◌, ℕ, suc, ◌+◌, ◌<◌, ◌≤◌, max, List, [], ◌∷◌, ◌++◌, length, get_or, take, drop, map, ap, ◌∙◌, arith}
use Rattle.std.proofs.lemmas.List.{take_more}
use Rattle.std.proofs.Math.Seq.{split_at}
use Rattle.hv_expr.specs.Sizes.{greatest}

-- at a part of a list, the greatest is that of what stands before, the part's and that of what stands after
pub greatest-cut : {A : Type 0} (f : A → ℕ) (before : List A) (part : A) (after : List A)
    → greatest (map f (before ++ part ∷ after)) ≡ max (greatest (map f before)) (max (f part) (greatest (map f after)))
greatest-cut f [] part after = omega arith
greatest-cut f (x ∷ before) part after = omega (arith, greatest-cut f before part after)

module _ {A : Type 0} (f : A → ℕ) (parts : List A) (i : ℕ) (part : A) (within : i < length parts) (here : part ≡ get_or parts i part) where
  -- the greatest is not below that of a part
  pub greatest-at : f part ≤ greatest (map f parts)
  greatest-at =
      let cut = ap (λ ps. greatest (map f ps)) (split_at parts i part within) ∙ greatest-cut f (take i parts) (get_or parts i part) (drop (suc i) parts) in
      let same : f part ≡ f (get_or parts i part) = ap f here in
      omega (arith, cut, same)

  -- and the greatest up to a part is that of what stands before, or the part's
  pub greatest-more : greatest (map f (take (i + 1) parts)) ≡ max (greatest (map f (take i parts))) (f part)
  greatest-more =
      let cut = ap (λ ps. greatest (map f ps)) (take_more parts i part within) ∙ greatest-cut f (take i parts) (get_or parts i part) [] in
      let same : f part ≡ f (get_or parts i part) = ap f here in
      omega (arith, cut, same)
