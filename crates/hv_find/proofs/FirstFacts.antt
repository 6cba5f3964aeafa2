-- The first of the rows' keys, strictly rising, is the least of them.
use Rattle.std.proofs.Common.{◌≡◌, ◌≢◌, suc, List, [], ◌∷◌, Bool, true, false, Option, Some, None, refl, sym, ap, subst, arith, ◌∙◌}
use Rattle.std.specs.Prelude.{map}
use Rattle.std.specs.List.{AllByRecursion}
use Rattle.std.specs.Ordering.{is_gt, is_lt}
use Rattle.std.specs.declared.cmp.Ordering.{Ordering}
use Rattle.std.specs.declared.cmp.Ordering.TheVariants.{Less, Equal, Greater}
use Rattle.std.proofs.lemmas.Bool.{true≢false}
use Rattle.std.proofs.lemmas.Cmp.{tied_itself, upto}
use Rattle.hv_value.specs.declared.cell.Cell.{Cell}
use Rattle.hv_value.specs.declared.orders.OrderKey.{OrderKey}
use Rattle.hv_value.specs.OrderLaws.{keys_total}
use Rattle.hv_value.specs.Orders.{compare_keys, key_of}
use Rattle.hv_value.specs.Rows.{Row}
use Rattle.hv_sketch.specs.Rising.{rising}
use Rattle.hv_find.specs.First.{IsLeastKey}
use Rattle.hv_find.specs.Least.{kept, least_of, lesser}
use Rattle.hv_find.specs.LeastLaws.{back, first-put, is-new, is-old}

-- a comparison that isn't below, as a test
not-less : (o : Ordering) → is_lt o ≡ false → o ≢ Less
not-less o e less = absurd (true≢false (sym (ap is_lt less) ∙ e))

less-not : (o : Ordering) → (o ≢ Less) → is_lt o ≡ false
less-not Less e = absurd (e refl)
less-not Equal e = refl
less-not Greater e = refl

less-up : (o : Ordering) → is_lt o ≡ true → is_gt o ≡ false
less-up Less e = refl
less-up Equal e = refl
less-up Greater e = absurd (true≢false (sym e))

module _ (keys : List OrderKey) where
  abbrev cmp : List Cell → List Cell → Ordering
  cmp = compare_keys keys

  -- no row's key is below
  abbrev AreAbove : List Cell → List Row → Type 0
  AreAbove key rows = AllByRecursion (λ row. cmp (key_of keys row) key ≢ Less) rows

  itself : (key : List Cell) → cmp key key ≢ Less
  itself key = not-less (cmp key key) (ap is_lt (tied_itself (keys_total keys) key))

  -- what isn't below a key isn't below a lower one
  lower : (new old : List Cell) (rows : List Row) → is_lt (cmp new old) ≡ true → AreAbove old rows → AreAbove new rows
  lower new old [] below all = tt
  lower new old (row ∷ rows) below all =
      let key = key_of keys row in
      let up : is_gt (cmp old key) ≡ false = sym (back cmp (keys_total keys) key old) ∙ less-not (cmp key old) all.0 in
      let past : is_gt (cmp new key) ≡ false = upto (keys_total keys) new old key (less-up (cmp new old) below) up in
      (not-less (cmp key new) (back cmp (keys_total keys) key new ∙ past), lower new old rows below all.1)

  -- the lesser of a row's key and the least of others
  step : (row : Row) (rows : List Row) (old : Option (List Cell)) → IsLeastKey keys rows old
      → IsLeastKey keys (row ∷ rows) (lesser cmp (Some (key_of keys row)) old)
  step row rows None none = ((0, omega arith, refl), (itself (key_of keys row), subst (AreAbove (key_of keys row)) (sym none) tt))
  step row rows (Some old) h = by (is_lt (cmp (key_of keys row) old)) refl
    where
      by : (b : Bool) → is_lt (cmp (key_of keys row) old) ≡ b → IsLeastKey keys (row ∷ rows) (lesser cmp (Some (key_of keys row)) (Some old))
      by true e =
          subst (IsLeastKey keys (row ∷ rows)) (sym (is-new cmp (key_of keys row) old e))
          ((0, omega arith, refl), (itself (key_of keys row), lower (key_of keys row) old rows e h.1))
      by false e =
          subst (IsLeastKey keys (row ∷ rows)) (sym (is-old cmp (key_of keys row) old e))
          ((suc h.0.0, omega (arith, h.0.1), h.0.2), (not-less (cmp (key_of keys row) old) e, h.1))

  pub least-key : (rows : List Row) → IsLeastKey keys rows (least_of cmp (map (key_of keys) rows))
  least-key [] = refl
  least-key (row ∷ rows) =
      subst (IsLeastKey keys (row ∷ rows)) (sym (first-put cmp (key_of keys row) (rising cmp kept (map (key_of keys) rows))))
      (step row rows (least_of cmp (map (key_of keys) rows)) (least-key rows))
