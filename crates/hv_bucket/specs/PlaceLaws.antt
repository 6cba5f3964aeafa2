-- Each bucket that a cell is put into is one of the buckets, and the column of an axis that fits is there.
use Rattle.std.proofs.Common.{◌≡◌, ◌≤◌, ◌<◌, ◌+◌, ◌*◌, ◌/◌, refl, sym, ap, subst, ℕ, zero, suc, ℤ, Bool, true, false, List, length, Option, Some, None, ◌&&◌, T, ◌≤ℤ◌, arith, rules}
use Rattle.std.specs.Prelude.{◌-ℤ◌, int_le, unsigned_abs, if◌then◌else◌, nat_lt, nat_le, slice_get}
use Rattle.std.specs.Cmp.{first_so, second_so}
use Rattle.std.specs.List.{count_by}
use Rattle.std.proofs.lemmas.Bool.{ltb-true}
use Rattle.std.proofs.lemmas.List.Sums.{count_by-le-length}
use Rattle.std.proofs.lemmas.Option.{slice_get_within}
use Rattle.std.proofs.lemmas.Int.{ints}
use Rattle.hv_value.specs.declared.cell.Cell.{Cell}
use Rattle.hv_value.specs.declared.cell.Cell.TheVariants as cell
use Rattle.hv_value.specs.declared.cell.Kind.{Kind}
use Rattle.hv_value.specs.Schema.{Columns}
use Rattle.hv_bucket.specs.declared.buckets.Axis.{Axis}
use Rattle.hv_bucket.specs.declared.buckets.Place.TheVariants as place
use Rattle.hv_bucket.specs.declared.buckets.Buckets.{Buckets}
use Rattle.hv_bucket.specs.declared.buckets.Buckets.TheVariants as buckets
use Rattle.hv_bucket.specs.declared.error.TheConstants.{MAX_BUCKETS}
use Rattle.hv_bucket.specs.Buckets.{are_int_buckets, int_bucket, is_reached, last_place, number_place}
use Rattle.hv_bucket.specs.Places.{are_buckets, buckets_len, fits_axis, place_of, takes_column}

-- a part of a whole, in so many parts
part-below : (above last n : ℕ) → above ≤ last → 0 < n → above * n / (last + 1) < n
part-below above last n within some = search (rules, arith)

at-most : (a b : ℤ) → int_le a b ≡ true → a ≤ℤ b
at-most a b e = record { le = subst T (sym e) tt }

-- how far a number is above the least is at most how far the greatest is
between : (lo hi x : ℤ) → int_le lo x ≡ true → int_le x hi ≡ true → unsigned_abs (x -ℤ lo) ≤ unsigned_abs (hi -ℤ lo)
between lo hi x low high =
    let least : lo ≤ℤ x = at-most lo x low in
    let greatest : x ≤ℤ hi = at-most x hi high in
    omega (arith, ints, least, greatest)

counted : (n : ℕ) → nat_lt 0 n && nat_le n MAX_BUCKETS ≡ true → 0 < n
counted n h = ltb-true 0 n (first_so _ _ h)

number-below : (lo hi : ℤ) (n : ℕ) (x : ℤ) (bucket : ℕ) → are_int_buckets lo hi n ≡ true → number_place lo hi n x ≡ place.In bucket → bucket < n
number-below lo hi n x bucket h e = by (int_le lo x && int_le x hi) refl e
  where
    by : (t : Bool) → int_le lo x && int_le x hi ≡ t → (if t then place.In (int_bucket lo hi n x) else place.Outside) ≡ place.In bucket → bucket < n
    by true is e =
        let same : int_bucket lo hi n x ≡ bucket = cc e in
        subst (λ b. b < n) same
        (part-below _ _ n (between lo hi x (first_so _ _ is) (second_so (int_le lo x) _ is)) (counted n (second_so (int_le lo hi) _ h)))
    by false is e = cc e

last-below : (count bucket : ℕ) → last_place count ≡ place.In bucket → suc bucket ≡ count
last-below zero bucket e = cc e
last-below (suc b) bucket e = let same : b ≡ bucket = cc e in ap suc (sym same)

text-below : (bounds : List (List ℕ)) (text : List ℕ) (bucket : ℕ) → last_place (count_by (is_reached text) bounds) ≡ place.In bucket → bucket < length bounds
text-below bounds text bucket e = omega (arith, last-below _ bucket e, count_by-le-length (is_reached text) bounds)

-- the bucket that a cell is put into is below the number of buckets
pub place-below : (b : Buckets) (c : Cell) (bucket : ℕ) → are_buckets b ≡ true → place_of b c ≡ place.In bucket → bucket < buckets_len b
place-below (buckets.Int limits) cell.Missing bucket h e = cc e
place-below (buckets.Int limits) (cell.Int n) bucket h e = number-below limits.lo limits.hi limits.n n bucket h e
place-below (buckets.Int limits) (cell.Date day) bucket h e = number-below limits.lo limits.hi limits.n day bucket h e
place-below (buckets.Int limits) (cell.Text text) bucket h e = cc e
place-below (buckets.Text bounds) cell.Missing bucket h e = cc e
place-below (buckets.Text bounds) (cell.Int n) bucket h e = cc e
place-below (buckets.Text bounds) (cell.Date day) bucket h e = cc e
place-below (buckets.Text bounds) (cell.Text text) bucket h e = text-below bounds text bucket e

-- the column of an axis that fits is there
pub axis-there : (columns : Columns) (axis : Axis) → fits_axis columns axis ≡ true → axis.col < length columns
axis-there columns axis h = by (slice_get columns axis.col) refl h
  where
    by : (found : Option (List ℕ × Kind)) → slice_get columns axis.col ≡ found → takes_column axis.buckets found ≡ true → axis.col < length columns
    by None is taken = cc taken
    by (Some column) is taken = slice_get_within columns axis.col column is
