-- Places of cells among values: of one value more, in maps by kind, and as slots.
use Rattle.std.proofs.Common.{◌≡◌, ◌≤◌, ◌<◌, ◌+◌, ◌++◌, ◌∙◌, ℕ, suc, ℤ, List, [], ◌∷◌, Bool, true, false, Option, Some, None, refl, sym, ap, subst, length, arith, bytes_eq}
use Rattle.std.specs.Prelude.{if◌then◌else◌, option_map, unwrap_or}
use Rattle.std.specs.Bool.{Decides, one_answer}
use Rattle.std.specs.HashMap.{get, get_by_text}
use Rattle.std.specs.Option.{option_or}
use Rattle.std.specs.Ordering.{int_eq, is_eq}
use Rattle.std.proofs.lemmas.Bool.Decides.{Decides-int_eq}
use Rattle.std.proofs.lemmas.Cmp.{tied_itself}
use Rattle.std.proofs.lemmas.Slice.Eq.{bytes_eq-Decides}
use Rattle.hv_value.specs.declared.cell.Cell.{Cell}
use Rattle.hv_value.specs.declared.cell.Cell.TheVariants as cell
use Rattle.hv_value.specs.CellOrder.{cells_total}
use Rattle.hv_value.specs.Order.{compare_cells}
use Rattle.hv_heavy.specs.CountOf.{first_place, slot_of}
use Rattle.hv_heavy.specs.Heavy.{is_same}
use Rattle.hv_heavy.specs.ValuePlaces.{AreMapped, place_among}
use Rattle.hv_heavy.specs.declared.places.PlaceMaps.{PlaceMaps}
use Rattle.hv_heavy.proofs.Near.{same-is}

-- the test finds exactly equal cells equal
pub same-itself : (c : Cell) → is_same c c ≡ true
same-itself c = ap is_eq (tied_itself cells_total c)

pub same-decides : (x y : Cell) → Decides (is_same x y) (x ≡ y)
same-decides x y = (same-is x y, λ e. subst (λ z. is_same x z ≡ true) e (same-itself x))

-- so it compares numbers, days and texts
same-ints : (m n : ℤ) → is_same (cell.Int m) (cell.Int n) ≡ int_eq m n
same-ints m n =
    one_answer _ _ (λ e. let same : cell.Int m ≡ cell.Int n = same-is (cell.Int m) (cell.Int n) e in cc same, λ e. (same-decides (cell.Int m) (cell.Int n)).1 (ap cell.Int e))
    (Decides-int_eq m n)

same-days : (m n : ℤ) → is_same (cell.Date m) (cell.Date n) ≡ int_eq m n
same-days m n =
    one_answer _ _ (λ e. let same : cell.Date m ≡ cell.Date n = same-is (cell.Date m) (cell.Date n) e in cc same, λ e. (same-decides (cell.Date m) (cell.Date n)).1 (ap cell.Date e))
    (Decides-int_eq m n)

same-texts : (s t : List ℕ) → is_same (cell.Text s) (cell.Text t) ≡ bytes_eq s t
same-texts s t =
    one_answer _ _ (λ e. let same : cell.Text s ≡ cell.Text t = same-is (cell.Text s) (cell.Text t) e in cc same, λ e. (same-decides (cell.Text s) (cell.Text t)).1 (ap cell.Text e))
    (bytes_eq-Decides s t)

-- a place among the values after the first is one more
more-or : (p : Option ℕ) (b : Bool) (n : ℕ) → option_map suc (option_or p (if b then Some n else None)) ≡ option_or (option_map suc p) (if b then Some (suc n) else None)
more-or (Some place) b n = refl
more-or None true n = refl
more-or None false n = refl

-- one value more has the last place, where the cell has none before
pub place-more : (values : List Cell) (value c : Cell)
    → place_among (values ++ value ∷ []) c ≡ option_or (place_among values c) (if is_same value c then Some (length values) else None)
place-more [] value c = by (is_same value c)
  where
    by : (b : Bool) → (if b then Some 0 else None) ≡ option_or {T = ℕ} None (if b then Some 0 else None)
    by true = refl
    by false = refl
place-more (x ∷ xs) value c = by (place-more xs value c) (is_same x c)
  where
    by : place_among (xs ++ value ∷ []) c ≡ option_or (place_among xs c) (if is_same value c then Some (length xs) else None)
        → (b : Bool) → (if b then Some 0 else option_map suc (place_among (xs ++ value ∷ []) c))
        ≡ option_or (if b then Some 0 else option_map suc (place_among xs c)) (if is_same value c then Some (suc (length xs)) else None)
    by rest true = refl
    by rest false = ap (option_map suc) rest ∙ more-or (place_among xs c) (is_same value c) (length xs)

-- a cell that isn't the further value has the place that it had
or-none : (p : Option ℕ) → option_or p None ≡ p
or-none (Some place) = refl
or-none None = refl

place-other : (values : List Cell) (value c : Cell) → is_same value c ≡ false → place_among (values ++ value ∷ []) c ≡ place_among values c
place-other values value c other =
    place-more values value c
    ∙ ap (λ b. option_or (place_among values c) (if b then Some (length values) else None)) other
    ∙ or-none (place_among values c)

-- where a map had the places of its cells, it has them with one value more
place-put : (values : List Cell) (value c : Cell) (place : ℕ) (same : Bool) (old new : Option ℕ) → place ≡ length values → is_same value c ≡ same
    → old ≡ place_among values c → new ≡ option_or old (if same then Some place else None) → new ≡ place_among (values ++ value ∷ []) c
place-put values value c place same old new at test was is =
    is
    ∙ ap (λ p. option_or p (if same then Some place else None)) was
    ∙ ap (λ n. option_or (place_among values c) (if same then Some n else None)) at
    ∙ ap (λ b. option_or (place_among values c) (if b then Some (length values) else None)) (sym test)
    ∙ sym (place-more values value c)

module _ (values : List Cell) (place : ℕ) (maps new : PlaceMaps) (at : place ≡ length values) (h : AreMapped values maps) where
  -- a missing value has no place
  pub mapped-missing : AreMapped (values ++ cell.Missing ∷ []) maps
  unfolding compare_cells
  mapped-missing =
      record {
        ints = λ n. h.ints n ∙ sym (place-other values cell.Missing (cell.Int n) refl);
        days = λ day. h.days day ∙ sym (place-other values cell.Missing (cell.Date day) refl);
        texts = λ text. h.texts text ∙ sym (place-other values cell.Missing (cell.Text text) refl);
      }

  pub mapped-int : (n : ℤ) → ((other : ℤ) → get int_eq new.ints other ≡ option_or (get int_eq maps.ints other) (if int_eq n other then Some place else None))
      → new.days ≡ maps.days → new.texts ≡ maps.texts → AreMapped (values ++ cell.Int n ∷ []) new
  unfolding compare_cells
  mapped-int n put days texts =
      record {
        ints = λ other. place-put values (cell.Int n) (cell.Int other) place (int_eq n other) _ _ at (same-ints n other) (h.ints other) (put other);
        days = λ day. ap (λ m. get int_eq m day) days ∙ h.days day ∙ sym (place-other values (cell.Int n) (cell.Date day) refl);
        texts = λ text. ap (λ m. get_by_text m text) texts ∙ h.texts text ∙ sym (place-other values (cell.Int n) (cell.Text text) refl);
      }

  pub mapped-day : (day : ℤ) → ((other : ℤ) → get int_eq new.days other ≡ option_or (get int_eq maps.days other) (if int_eq day other then Some place else None))
      → new.ints ≡ maps.ints → new.texts ≡ maps.texts → AreMapped (values ++ cell.Date day ∷ []) new
  unfolding compare_cells
  mapped-day day put ints texts =
      record {
        ints = λ n. ap (λ m. get int_eq m n) ints ∙ h.ints n ∙ sym (place-other values (cell.Date day) (cell.Int n) refl);
        days = λ other. place-put values (cell.Date day) (cell.Date other) place (int_eq day other) _ _ at (same-days day other) (h.days other) (put other);
        texts = λ text. ap (λ m. get_by_text m text) texts ∙ h.texts text ∙ sym (place-other values (cell.Date day) (cell.Text text) refl);
      }

  pub mapped-text : (text : List ℕ) → ((other : List ℕ) → get_by_text new.texts other ≡ option_or (get_by_text maps.texts other) (if bytes_eq text other then Some place else None))
      → new.ints ≡ maps.ints → new.days ≡ maps.days → AreMapped (values ++ cell.Text text ∷ []) new
  unfolding compare_cells
  mapped-text text put ints days =
      record {
        ints = λ n. ap (λ m. get int_eq m n) ints ∙ h.ints n ∙ sym (place-other values (cell.Text text) (cell.Int n) refl);
        days = λ day. ap (λ m. get int_eq m day) days ∙ h.days day ∙ sym (place-other values (cell.Text text) (cell.Date day) refl);
        texts = λ other. place-put values (cell.Text text) (cell.Text other) place (bytes_eq text other) _ _ at (same-texts text other) (h.texts other) (put other);
      }

-- the first place of a cell is its place among the values, else their number
one-more : (p : Option ℕ) (n : ℕ) → unwrap_or (option_map suc p) (suc n) ≡ suc (unwrap_or p n)
one-more (Some place) n = refl
one-more None n = refl

pub place-first : (values : List Cell) (c : Cell) → unwrap_or (place_among values c) (length values) ≡ first_place values c
place-first [] c = refl
place-first (x ∷ xs) c = by (place-first xs c) (is_same x c)
  where
    by : unwrap_or (place_among xs c) (length xs) ≡ first_place xs c → (b : Bool) → unwrap_or (if b then Some 0 else option_map suc (place_among xs c)) (suc (length xs)) ≡ (if b then 0 else suc (first_place xs c))
    by rest true = refl
    by rest false = one-more (place_among xs c) (length xs) ∙ ap suc rest

-- it is at most their number
pub first-le : (values : List Cell) (c : Cell) → first_place values c ≤ length values
first-le [] c = omega arith
first-le (x ∷ xs) c = by (first-le xs c) (is_same x c)
  where
    by : first_place xs c ≤ length xs → (b : Bool) → (if b then 0 else suc (first_place xs c)) ≤ suc (length xs)
    by rest true = omega arith
    by rest false = omega (arith, rest)

pub slot-below : (values : List Cell) (c : Cell) → slot_of values c < length values + 2
slot-below values cell.Missing = omega arith
slot-below values (cell.Int n) = omega (arith, first-le values (cell.Int n))
slot-below values (cell.Date day) = omega (arith, first-le values (cell.Date day))
slot-below values (cell.Text text) = omega (arith, first-le values (cell.Text text))
