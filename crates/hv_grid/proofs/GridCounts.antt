-- The counts of the slots of a chart of two axes are the parts of its value.
use Rattle.std.proofs.Common.{◌≡◌, ◌<◌, ◌+◌, ◌*◌, ◌/◌, ◌%◌, ◌==◌, ◌∙◌, refl, sym, ap, ℕ, Bool, true, false, cond, not, ◌&&◌, eqb, List, [], ◌∷◌, map, get_or, arith}
use Rattle.std.specs.List.{count_by, range_with_len}
use Rattle.std.proofs.Math.Arith.{digits_div, digits_mod}
use Rattle.std.proofs.lemmas.Bool.{eq-eqb, eqb-false, eqb-true, ne_eqb}
use Rattle.std.proofs.lemmas.List.FromFn.{fill_by_all, get_or-map-range_with_len, length-map-range_with_len}
use Rattle.std.proofs.lemmas.List.Sums.{sum_by-cons}
use Rattle.hv_value.specs.Cells.{cell_at}
use Rattle.hv_value.specs.Rows.{Row}
use Rattle.hv_bucket.specs.declared.buckets.Axis.{Axis}
use Rattle.hv_bucket.specs.declared.buckets.Place.{Place}
use Rattle.hv_bucket.specs.declared.buckets.Place.TheVariants as place
use Rattle.hv_bucket.specs.Axes.{is_bucket, is_missing, is_outside, place_in}
use Rattle.hv_bucket.specs.PlaceLaws.{place-below}
use Rattle.hv_bucket.specs.Places.{are_buckets, buckets_len}
use Rattle.hv_sketch.specs.TallyLaws.{tally-at}
use Rattle.hv_grid.specs.declared.shown.HeatMapShown.{HeatMapShown}
use Rattle.hv_grid.specs.declared.shown.StackedShown.{StackedShown}
use Rattle.hv_grid.specs.Grids.{grid_counts, heat_map_of, is_placed, stacked_of}
use Rattle.hv_grid.specs.Slots.{IsHeatMapCounted, IsStackedCounted, column_in, heat_map_slot, heat_map_slot_in, heat_map_slots, stacked_slot, stacked_slot_in, stacked_slots}
use Rattle.hv_grid.proofs.GridLoops.{in-grid}

-- two tests that agree count alike
count_same : (p q : Row → Bool) → ((row : Row) → p row ≡ q row) → (rows : List Row) → count_by p rows ≡ count_by q rows
count_same p q h [] = refl
count_same p q h (row ∷ rows) =
    sum_by-cons (λ x. cond (p x) 1 0) row rows
    ∙ ap (λ b. cond b 1 0 + count_by p rows) (h row)
    ∙ ap (λ n. cond (q row) 1 0 + n) (count_same p q h rows)
    ∙ sym (sum_by-cons (λ x. cond (q x) 1 0) row rows)

-- two functions that agree make the same list
map_same : {X : Type 0} (f g : ℕ → X) (d : X) (n : ℕ) → ((i : ℕ) → i < n → f i ≡ g i) → map f (range_with_len 0 n) ≡ map g (range_with_len 0 n)
map_same f g d n h =
    fill_by_all g (map f (range_with_len 0 n)) n d (length-map-range_with_len f 0 n)
    (λ i within. get_or-map-range_with_len f 0 n i i d within (omega arith) ∙ h i within)

-- a place is below so many buckets
abbrev IsBelow : ℕ → Place → Type 0
IsBelow n p = (bucket : ℕ) → p ≡ place.In bucket → bucket < n

below-in : (axis : Axis) (row : Row) → are_buckets axis.buckets ≡ true → IsBelow (buckets_len axis.buckets) (place_in axis row)
below-in axis row sound bucket is = place-below axis.buckets (cell_at row.cells axis.col) bucket sound is

-- two slots of a grid are the same where their rows and their columns are
same-slot : (w a b c d : ℕ) → b < w → d < w → (a * w + b == c * w + d) ≡ (a == c && b == d)
same-slot w a b c d left right = by (eqb a c) (eqb b d) refl refl
  where
    rows-of : a * w + b ≡ c * w + d → a ≡ c
    rows-of same = sym (digits_div a left) ∙ ap (λ n. n / w) same ∙ digits_div c right

    columns-of : a * w + b ≡ c * w + d → b ≡ d
    columns-of same = sym (digits_mod a left) ∙ ap (λ n. n % w) same ∙ digits_mod c right

    by : (s t : Bool) → eqb a c ≡ s → eqb b d ≡ t → (a * w + b == c * w + d) ≡ (a == c && b == d)
    by true true first second =
        eq-eqb _ _ (ap (λ n. n * w + b) (eqb-true a c first) ∙ ap (λ n. c * w + n) (eqb-true b d second))
        ∙ sym (rw (first, second) refl)
    by true false first second = ne_eqb _ _ (λ same. eqb-false b d second (columns-of same)) ∙ sym (rw (first, second) refl)
    by false t first second = ne_eqb _ _ (λ same. eqb-false a c first (rows-of same)) ∙ sym (rw first refl)

-- a column of which it is known whether it is the second one
same-row : (w a b c d : ℕ) (t : Bool) → b < w → d < w → (b == d) ≡ t → (a * w + b == c * w + d) ≡ (a == c && t)
same-row w a b c d t left right is = same-slot w a b c d left right ∙ ap (λ t. a == c && t) is

-- the column of a place is one of the columns
column-below : (n : ℕ) (p : Place) → IsBelow n p → column_in n p < n + 1
column-below n (place.In bucket) below = omega (arith, below bucket refl)
column-below n place.Outside below = omega arith
column-below n place.Missing below = omega arith

-- no test holds together with one that doesn't
no-both : (t : Bool) → (t && false) ≡ false
no-both true = refl
no-both false = refl

-- the slot of two places in a stacked histogram tells what they are
stacked-both : (nx ny a b : ℕ) (p q : Place) → IsBelow ny q → a < nx → b < ny
    → (stacked_slot nx ny p q == a * (ny + 1) + b) ≡ (is_bucket a p && is_bucket b q)
stacked-both nx ny a b (place.In i) (place.In j) below row column =
    same-slot (ny + 1) i j a b (omega (arith, below j refl)) (omega (arith, column))
stacked-both nx ny a b (place.In i) place.Outside below row column =
    same-row (ny + 1) i ny a b false (omega arith) (omega (arith, column)) (ne_eqb ny b (λ same. omega (arith, same, column)))
stacked-both nx ny a b (place.In i) place.Missing below row column =
    same-row (ny + 1) i ny a b false (omega arith) (omega (arith, column)) (ne_eqb ny b (λ same. omega (arith, same, column)))
stacked-both nx ny a b place.Outside q below row column =
    let within = in-grid a b nx (ny + 1) row (omega (arith, column)) in ne_eqb _ _ (λ same. omega (arith, same, within))
stacked-both nx ny a b place.Missing q below row column =
    let within = in-grid a b nx (ny + 1) row (omega (arith, column)) in ne_eqb _ _ (λ same. omega (arith, same, within))

stacked-other : (nx ny a : ℕ) (p q : Place) → IsBelow ny q → a < nx
    → (stacked_slot nx ny p q == a * (ny + 1) + ny) ≡ (is_bucket a p && not (is_placed q))
stacked-other nx ny a (place.In i) (place.In j) below row =
    let within = below j refl in
    same-row (ny + 1) i j a ny false (omega (arith, within)) (omega arith) (ne_eqb j ny (λ same. omega (arith, same, within)))
stacked-other nx ny a (place.In i) place.Outside below row = same-row (ny + 1) i ny a ny true (omega arith) (omega arith) (eq-eqb ny ny refl)
stacked-other nx ny a (place.In i) place.Missing below row = same-row (ny + 1) i ny a ny true (omega arith) (omega arith) (eq-eqb ny ny refl)
stacked-other nx ny a place.Outside q below row =
    let within = in-grid a ny nx (ny + 1) row (omega arith) in ne_eqb _ _ (λ same. omega (arith, same, within))
stacked-other nx ny a place.Missing q below row =
    let within = in-grid a ny nx (ny + 1) row (omega arith) in ne_eqb _ _ (λ same. omega (arith, same, within))

stacked-outside : (nx ny : ℕ) (p q : Place) → IsBelow nx p → IsBelow ny q → (stacked_slot nx ny p q == nx * (ny + 1)) ≡ is_outside p
stacked-outside nx ny (place.In i) q row column =
    let within = in-grid i (column_in ny q) nx (ny + 1) (row i refl) (column-below ny q column) in ne_eqb _ _ (λ same. omega (arith, same, within))
stacked-outside nx ny place.Outside q row column = eq-eqb (nx * (ny + 1)) (nx * (ny + 1)) refl
stacked-outside nx ny place.Missing q row column = ne_eqb (nx * (ny + 1) + 1) (nx * (ny + 1)) (λ same. omega (arith, same))

stacked-missing : (nx ny : ℕ) (p q : Place) → IsBelow nx p → IsBelow ny q → (stacked_slot nx ny p q == nx * (ny + 1) + 1) ≡ is_missing p
stacked-missing nx ny (place.In i) q row column =
    let within = in-grid i (column_in ny q) nx (ny + 1) (row i refl) (column-below ny q column) in ne_eqb _ _ (λ same. omega (arith, same, within))
stacked-missing nx ny place.Outside q row column = ne_eqb (nx * (ny + 1)) (nx * (ny + 1) + 1) (λ same. omega (arith, same))
stacked-missing nx ny place.Missing q row column = eq-eqb (nx * (ny + 1) + 1) (nx * (ny + 1) + 1) refl

-- and so does that in a heat map
heat_map-both : (nx ny a b : ℕ) (p q : Place) → IsBelow ny q → a < nx → b < ny
    → (heat_map_slot nx ny p q == a * ny + b) ≡ (is_bucket a p && is_bucket b q)
heat_map-both nx ny a b (place.In i) (place.In j) below row column = same-slot ny i j a b (below j refl) column
heat_map-both nx ny a b (place.In i) place.Outside below row column =
    let within = in-grid a b nx ny row column in ne_eqb _ _ (λ same. omega (arith, same, within)) ∙ sym (no-both (i == a))
heat_map-both nx ny a b (place.In i) place.Missing below row column =
    let within = in-grid a b nx ny row column in ne_eqb _ _ (λ same. omega (arith, same, within)) ∙ sym (no-both (i == a))
heat_map-both nx ny a b place.Outside q below row column =
    let within = in-grid a b nx ny row column in ne_eqb _ _ (λ same. omega (arith, same, within))
heat_map-both nx ny a b place.Missing q below row column =
    let within = in-grid a b nx ny row column in ne_eqb _ _ (λ same. omega (arith, same, within))

heat_map-rest : (nx ny : ℕ) (p q : Place) → IsBelow nx p → IsBelow ny q
    → (heat_map_slot nx ny p q == nx * ny) ≡ not (is_placed p && is_placed q)
heat_map-rest nx ny (place.In i) (place.In j) row column =
    let within = in-grid i j nx ny (row i refl) (column j refl) in ne_eqb _ _ (λ same. omega (arith, same, within))
heat_map-rest nx ny (place.In i) place.Outside row column = eq-eqb (nx * ny) (nx * ny) refl
heat_map-rest nx ny (place.In i) place.Missing row column = eq-eqb (nx * ny) (nx * ny) refl
heat_map-rest nx ny place.Outside q row column = eq-eqb (nx * ny) (nx * ny) refl
heat_map-rest nx ny place.Missing q row column = eq-eqb (nx * ny) (nx * ny) refl

-- a grid as its counts are read, and one column of it
abbrev pub grid_read : List ℕ → ℕ → ℕ → ℕ → List (List ℕ)
grid_read counts rows width columns = map (λ a. map (λ b. get_or counts (a * width + b) 0) (range_with_len 0 columns)) (range_with_len 0 rows)

abbrev pub column_read : List ℕ → ℕ → ℕ → ℕ → List ℕ
column_read counts rows width column = map (λ a. get_or counts (a * width + column) 0) (range_with_len 0 rows)

module _ (x y : Axis) (rows : List Row) (counts : List ℕ) (x-sound : are_buckets x.buckets ≡ true) (y-sound : are_buckets y.buckets ≡ true) where
  abbrev nx : ℕ
  nx = buckets_len x.buckets

  abbrev ny : ℕ
  ny = buckets_len y.buckets

  -- the count of a slot of which it is known what is there
  stacked-count : IsStackedCounted x y rows counts → (s : ℕ) (p : Row → Bool) → s < stacked_slots x y
      → ((row : Row) → (stacked_slot_in x y row == s) ≡ p row) → get_or counts s 0 ≡ count_by p rows
  stacked-count h s p within told =
      ap (λ l. get_or l s 0) h.is ∙ tally-at (stacked_slots x y) (stacked_slot_in x y) rows s within
      ∙ count_same (λ row. stacked_slot_in x y row == s) p told rows

  heat_map-count : IsHeatMapCounted x y rows counts → (s : ℕ) (p : Row → Bool) → s < heat_map_slots x y
      → ((row : Row) → (heat_map_slot_in x y row == s) ≡ p row) → get_or counts s 0 ≡ count_by p rows
  heat_map-count h s p within told =
      ap (λ l. get_or l s 0) h.is ∙ tally-at (heat_map_slots x y) (heat_map_slot_in x y) rows s within
      ∙ count_same (λ row. heat_map_slot_in x y row == s) p told rows

  stacked-grid : IsStackedCounted x y rows counts → grid_read counts nx (ny + 1) ny ≡ grid_counts x y rows
  stacked-grid h =
      map_same _ _ [] nx
      (λ a row-there. map_same _ _ 0 ny
      (λ b column-there.
      let within = in-grid a b nx (ny + 1) row-there (omega (arith, column-there)) in
      stacked-count h (a * (ny + 1) + b) (λ row. is_bucket a (place_in x row) && is_bucket b (place_in y row)) (omega (arith, within))
      (λ row. stacked-both nx ny a b (place_in x row) (place_in y row) (below-in y row y-sound) row-there column-there)))

  stacked-others : IsStackedCounted x y rows counts → column_read counts nx (ny + 1) ny ≡ (stacked_of x y rows).other
  stacked-others h =
      map_same _ _ 0 nx
      (λ a row-there.
      let within = in-grid a ny nx (ny + 1) row-there (omega arith) in
      stacked-count h (a * (ny + 1) + ny) (λ row. is_bucket a (place_in x row) && not (is_placed (place_in y row))) (omega (arith, within))
      (λ row. stacked-other nx ny a (place_in x row) (place_in y row) (below-in y row y-sound) row-there))

  stacked-outsides : IsStackedCounted x y rows counts → get_or counts (nx * (ny + 1)) 0 ≡ (stacked_of x y rows).outside
  stacked-outsides h =
      stacked-count h (nx * (ny + 1)) (λ row. is_outside (place_in x row)) (omega arith)
      (λ row. stacked-outside nx ny (place_in x row) (place_in y row) (below-in x row x-sound) (below-in y row y-sound))

  stacked-missings : IsStackedCounted x y rows counts → get_or counts (nx * (ny + 1) + 1) 0 ≡ (stacked_of x y rows).missing
  stacked-missings h =
      stacked-count h (nx * (ny + 1) + 1) (λ row. is_missing (place_in x row)) (omega arith)
      (λ row. stacked-missing nx ny (place_in x row) (place_in y row) (below-in x row x-sound) (below-in y row y-sound))

  heat_map-grid : IsHeatMapCounted x y rows counts → grid_read counts nx ny ny ≡ grid_counts x y rows
  heat_map-grid h =
      map_same _ _ [] nx
      (λ a row-there. map_same _ _ 0 ny
      (λ b column-there.
      let within = in-grid a b nx ny row-there column-there in
      heat_map-count h (a * ny + b) (λ row. is_bucket a (place_in x row) && is_bucket b (place_in y row)) (omega (arith, within))
      (λ row. heat_map-both nx ny a b (place_in x row) (place_in y row) (below-in y row y-sound) row-there column-there)))

  heat_map-rests : IsHeatMapCounted x y rows counts → get_or counts (nx * ny) 0 ≡ (heat_map_of x y rows).rest
  heat_map-rests h =
      heat_map-count h (nx * ny) (λ row. not (is_placed (place_in x row) && is_placed (place_in y row))) (omega arith)
      (λ row. heat_map-rest nx ny (place_in x row) (place_in y row) (below-in x row x-sound) (below-in y row y-sound))

abbrev stacked_parts : List (List ℕ) → ℕ → List ℕ → ℕ → StackedShown
stacked_parts grid missing other outside = record { counts = grid; missing = missing; other = other; outside = outside }

abbrev heat_map_parts : List (List ℕ) → ℕ → HeatMapShown
heat_map_parts grid rest = record { counts = grid; rest = rest }

-- what is read of the counts is the value of either chart
pub stacked-is : (x y : Axis) (rows : List Row) (counts : List ℕ) (grid : List (List ℕ)) (missing : ℕ) (other : List ℕ) (outside : ℕ)
    → IsStackedCounted x y rows counts → are_buckets x.buckets ≡ true → are_buckets y.buckets ≡ true
    → grid ≡ grid_read counts (buckets_len x.buckets) (buckets_len y.buckets + 1) (buckets_len y.buckets)
    → missing ≡ get_or counts (buckets_len x.buckets * (buckets_len y.buckets + 1) + 1) 0
    → other ≡ column_read counts (buckets_len x.buckets) (buckets_len y.buckets + 1) (buckets_len y.buckets)
    → outside ≡ get_or counts (buckets_len x.buckets * (buckets_len y.buckets + 1)) 0
    → stacked_parts grid missing other outside ≡ stacked_of x y rows
stacked-is x y rows counts grid missing other outside h x-sound y-sound is-grid is-missing is-other is-outside =
    rw (
      is-grid ∙ stacked-grid x y rows counts x-sound y-sound h,
      is-missing ∙ stacked-missings x y rows counts x-sound y-sound h,
      is-other ∙ stacked-others x y rows counts x-sound y-sound h,
      is-outside ∙ stacked-outsides x y rows counts x-sound y-sound h,
    ) refl

pub heat_map-is : (x y : Axis) (rows : List Row) (counts : List ℕ) (grid : List (List ℕ)) (rest : ℕ)
    → IsHeatMapCounted x y rows counts → are_buckets x.buckets ≡ true → are_buckets y.buckets ≡ true
    → grid ≡ grid_read counts (buckets_len x.buckets) (buckets_len y.buckets) (buckets_len y.buckets)
    → rest ≡ get_or counts (buckets_len x.buckets * buckets_len y.buckets) 0
    → heat_map_parts grid rest ≡ heat_map_of x y rows
heat_map-is x y rows counts grid rest h x-sound y-sound is-grid is-rest =
    rw (
      is-grid ∙ heat_map-grid x y rows counts x-sound y-sound h,
      is-rest ∙ heat_map-rests x y rows counts x-sound y-sound h,
    ) refl
