-- Pairs in rising order: what a sort leaves, the k least so far and their edge, and what they are of a table's rows.
use Rattle.std.proofs.Common.{◌≡◌, ◌≤◌, ◌<◌, ◌*◌, ◌+◌, ◌^◌, ◌/◌, ◌%◌, ◌==◌, ◌++◌, ℕ, zero, suc, List, [], ◌∷◌, Bool, true, false, Some, refl, sym, ap, subst, length, get_or, take, nat_lt, nat_le, arith, ◌∙◌}
use Rattle.std.specs.Prelude.{map, option_map, IsPermutation}
use Rattle.std.specs.Cmp.{nat_cmp_is}
use Rattle.std.specs.FinMap.{nat_cmp-IsAntisymmetric}
use Rattle.std.specs.List.{AllByRecursion, items_where_true}
use Rattle.std.specs.List.Retain.{DiffersFromLast, IsFiltered, ReturnsInTurn}
use Rattle.std.specs.List.Sorted.{IsSorted}
use Rattle.std.specs.Ordering.{is_lt, match_ordering, nat_cmp, ordering_reverse}
use Rattle.std.specs.declared.cmp.Ordering.{Ordering}
use Rattle.std.specs.declared.cmp.Ordering.TheVariants.{Less, Equal, Greater}
use Rattle.std.proofs.lemmas.Bool.{true≢false, eqb-false, eqb-true, le-leb, leb-false, leb-true, lt-leb, ltb-false, ltb-true}
use Rattle.std.proofs.lemmas.Cmp.{nat_cmp_total}
use Rattle.std.proofs.lemmas.List.{map-append, take-take}
use Rattle.hv_value.specs.declared.orders.OrderKey.{OrderKey}
use Rattle.hv_value.specs.Rows.{Row}
use Rattle.hv_value.specs.Schema.{Columns}
use Rattle.hv_value.specs.Table.{AreRowsFrom, IsTable, row_from}
use Rattle.hv_value.proofs.TableFacts.{AreRowsFrom-lower}
use Rattle.hv_pick.specs.Word.{word_of}
use Rattle.hv_sketch.proofs.AnyOrder.{in_any_order}
use Rattle.hv_sketch.proofs.Least.{put-below, put-tied, put-turn, rising-more, rising-rises, rising-same, rising-swap, take-put, take-rises}
use Rattle.hv_sketch.specs.Rising.{IsRising, JoinsTies, put, rising}
use Rattle.hv_next.proofs.PlaceFacts.{put-out}
use Rattle.hv_quant.specs.Pairs.{AreNearest, least_pairs, packed, unpacked}
use Rattle.hv_quant.specs.Sample.{by_word, kept, sample_of, sampled}
use Rattle.hv_quant.specs.declared.nearest.Nearest.{Nearest}
use Rattle.hv_quant.specs.declared.summary.SampledRow.{SampledRow}
use Rattle.hv_quant.proofs.SampleFacts.{IsEarlier, all-take, higher, lower}

number_joins : JoinsTies nat_cmp kept
number_joins =
    record {
      same = λ x y z e. ap (λ n. nat_cmp n z) (sym (nat_cmp-IsAntisymmetric x y e));
      turn = λ x y e. sym (nat_cmp-IsAntisymmetric x y e);
      regroup = λ x y z e f. λ i. z;
    }

-- each number is no less than those before it
abbrev Climbs : ℕ → List ℕ → Type 0
Climbs y [] = Unit {0}
Climbs y (x ∷ xs) = (y ≤ x) × Climbs x xs

climbs : (y : ℕ) (xs : List ℕ) → IsSorted nat_cmp (y ∷ xs) → Climbs y xs
climbs y [] sorted = tt
climbs y (x ∷ xs) sorted = (by (nat_lt x y) refl, climbs x xs later)
  where
    later : IsSorted nat_cmp (x ∷ xs)
    later k d low high =
        let more : suc k + 1 ≡ suc (k + 1) = omega arith in
        rw more at (sorted (suc k) d (omega arith) (omega (arith, high)))

    turned : is_lt (nat_cmp x y) ≡ false
    turned = sorted 0 x (omega arith) (omega arith)

    by : (b : Bool) → nat_lt x y ≡ b → y ≤ x
    by true e = absurd (true≢false (ap is_lt (nat_cmp_is x y Less (ltb-true x y e)) ∙ turned))
    by false e = ltb-false x y e

-- what `dedup` leaves of numbers that don't fall, behind the first of them
dedup-from : (y : ℕ) (p : List ℕ) (bs : List Bool) (xs q : List ℕ) → length bs ≡ length xs → Climbs y xs
    → ReturnsInTurn (DiffersFromLast ◌==◌) (y ∷ p) bs xs q → rising nat_cmp kept (y ∷ xs) ≡ y ∷ items_where_true bs xs
dedup-from y p [] [] q len up told = refl
dedup-from y p [] (x ∷ xs) q len up told = absurd (omega (arith, len))
dedup-from y p (b ∷ bs) [] q len up told = absurd (omega (arith, len))
dedup-from y p (true ∷ bs) (x ∷ xs) q len up told =
    let after = dedup-from x [] bs xs q (omega (arith, len)) up.1 (subst (λ j. ReturnsInTurn (DiffersFromLast ◌==◌) j bs xs q) told.1.1 told.2) in
    let apart = eqb-false x y told.1.0 in
    ap (put nat_cmp kept y) after ∙ put-below nat_cmp kept y x (items_where_true bs xs) (sym (nat_cmp_is y x Less (omega (arith, up.0, apart))))
dedup-from y p (false ∷ bs) (x ∷ xs) q len up told =
    let same : x ≡ y = eqb-true x y told.1.0 in
    let after = dedup-from y p bs xs q (omega (arith, len)) (subst (λ n. Climbs n xs) same up.1) (subst (λ j. ReturnsInTurn (DiffersFromLast ◌==◌) j bs xs q) told.1.1 told.2) in
    ap (λ n. put nat_cmp kept y (rising nat_cmp kept (n ∷ xs))) same ∙ ap (put nat_cmp kept y) after
    ∙ put-tied nat_cmp kept y y (items_where_true bs xs) (sym (nat_cmp_is y y Equal refl))

dedup-is : (bs : List Bool) (xs q : List ℕ) → length bs ≡ length xs → IsSorted nat_cmp xs
    → ReturnsInTurn (DiffersFromLast ◌==◌) [] bs xs q → items_where_true bs xs ≡ rising nat_cmp kept xs
dedup-is [] [] q len sorted told = refl
dedup-is [] (x ∷ xs) q len sorted told = absurd (omega (arith, len))
dedup-is (b ∷ bs) [] q len sorted told = absurd (omega (arith, len))
dedup-is (true ∷ bs) (x ∷ xs) q len sorted told =
    sym (dedup-from x [] bs xs q (omega (arith, len)) (climbs x xs sorted) (subst (λ j. ReturnsInTurn (DiffersFromLast ◌==◌) j bs xs q) told.1.1 told.2))
dedup-is (false ∷ bs) (x ∷ xs) q len sorted told = absurd (true≢false (sym told.1.0))

-- numbers that were sorted, each left once, are their rising list
pub sort-is : (xs ys zs : List ℕ) → IsPermutation xs ys → IsSorted nat_cmp ys → IsFiltered (DiffersFromLast ◌==◌) [] ys zs → zs ≡ rising nat_cmp kept xs
sort-is xs ys zs moved sorted left =
    left.4 ∙ dedup-is left.0 ys left.1 left.2 sorted left.3
    ∙ sym (in_any_order (λ l. rising nat_cmp kept xs ≡ rising nat_cmp kept l)
    (λ a b c h. h ∙ rising-swap nat_cmp kept nat_cmp_total number_joins a b c) xs ys moved refl)

module _ (k : ℕ) (pairs : List ℕ) (old : Nearest) (h : AreNearest k pairs old) where
  -- a pair more, however it is kept
  edge-more : (pair above : ℕ) → old.edge < above → above < 2 ^ 64
      → take k (put nat_cmp kept above (rising nat_cmp kept (pairs ++ pair ∷ []))) ≡ least_pairs k (pairs ++ pair ∷ [])
  edge-more pair above past wide =
      let all = rising nat_cmp kept pairs in
      let more = rising-more nat_cmp kept nat_cmp_total number_joins pairs pair in
      ap (λ l. take k (put nat_cmp kept above l)) more
      ∙ ap (take k) (put-turn nat_cmp kept nat_cmp_total number_joins above pair all)
      ∙ take-put nat_cmp kept k pair (put nat_cmp kept above all)
      ∙ ap (λ l. take k (put nat_cmp kept pair l)) (h.edge above past wide)
      ∙ sym (take-put nat_cmp kept k pair all)
      ∙ sym (ap (take k) more)

  -- a pair above the edge is left out
  pub left_out-nearest : (pair : ℕ) → old.edge < pair → pair < 2 ^ 64 → AreNearest k (pairs ++ pair ∷ []) old
  left_out-nearest pair past wide =
      record {
        least = h.least ∙ sym (h.edge pair past wide) ∙ sym (ap (take k) (rising-more nat_cmp kept nat_cmp_total number_joins pairs pair));
        edge = edge-more pair;
      }

  -- any may be put behind the others
  pub pushed-nearest : (pair : ℕ) (new : Nearest) → new.edge ≡ old.edge → new.pairs.items ≡ old.pairs.items ++ pair ∷ []
      → AreNearest k (pairs ++ pair ∷ []) new
  pushed-nearest pair new edge is =
      record {
        least =
            ap (least_pairs k) is
            ∙ ap (take k) (rising-more nat_cmp kept nat_cmp_total number_joins old.pairs.items pair)
            ∙ take-put nat_cmp kept k pair (rising nat_cmp kept old.pairs.items)
            ∙ ap (λ l. take k (put nat_cmp kept pair l)) h.least
            ∙ sym (take-put nat_cmp kept k pair (rising nat_cmp kept pairs))
            ∙ sym (ap (take k) (rising-more nat_cmp kept nat_cmp_total number_joins pairs pair));
        edge = λ above past wide. edge-more pair above (omega (arith, past, edge)) wide;
      }

  -- the least may stay alone
  cut-least : (new : Nearest) → new.pairs.items ≡ least_pairs k old.pairs.items → least_pairs k new.pairs.items ≡ least_pairs k pairs
  cut-least new is =
      ap (least_pairs k) is
      ∙ ap (take k) (rising-same nat_cmp kept nat_cmp_total number_joins (least_pairs k old.pairs.items)
      (take-rises nat_cmp kept nat_cmp_total number_joins k (rising nat_cmp kept old.pairs.items) (rising-rises nat_cmp kept nat_cmp_total number_joins old.pairs.items)))
      ∙ take-take k k (rising nat_cmp kept old.pairs.items) (omega arith)
      ∙ h.least

  pub cut-nearest : (new : Nearest) → new.edge ≡ old.edge → new.pairs.items ≡ least_pairs k old.pairs.items → AreNearest k pairs new
  cut-nearest new edge is =
      record {
        least = cut-least new is;
        edge = λ above past wide. h.edge above (omega (arith, past, edge)) wide;
      }

  -- and the last of k is an edge
  pub cut-edge : (new : Nearest) (last d : ℕ) → new.pairs.items ≡ least_pairs k old.pairs.items → length new.pairs.items ≡ k
      → length new.pairs.items ≡ last + 1 → new.edge ≡ get_or new.pairs.items last d → AreNearest k pairs new
  cut-edge new last d is full many edge =
      record {
        least = cut-least new is;
        edge = λ above past wide.
            let rises : IsRising nat_cmp new.pairs.items = rw is (take-rises nat_cmp kept nat_cmp_total number_joins k (rising nat_cmp kept old.pairs.items) (rising-rises nat_cmp kept nat_cmp_total number_joins old.pairs.items)) in
            let all : take k (rising nat_cmp kept pairs) ≡ new.pairs.items = sym (is ∙ h.least) in
            take-put nat_cmp kept k above (rising nat_cmp kept pairs)
            ∙ ap (λ l. take k (put nat_cmp kept above l)) all
            ∙ put-out nat_cmp nat_cmp_total kept above new.pairs.items rises k last d full many
            (sym (nat_cmp_is above (get_or new.pairs.items last d) Greater (omega (arith, past, edge))))
            ∙ sym all;
      }

module _ {X Y : Type 0} (cmp : X → X → Ordering) (other : Y → Y → Ordering) (f : X → Y) where
  all-put : (P : X → Type 0) (x : X) (xs : List X) → P x → AllByRecursion P xs → AllByRecursion P (put cmp kept x xs)
  all-put P x [] one all = (one, tt)
  all-put P x (y ∷ ys) one all = by (cmp x y) (all-put P x ys one all.1)
    where
      by : (o : Ordering) → AllByRecursion P (put cmp kept x ys)
          → AllByRecursion P (match_ordering o (x ∷ y ∷ ys) (y ∷ ys) (y ∷ put cmp kept x ys))
      by Less more = (one, all)
      by Equal more = all
      by Greater more = (all.0, more)

  all-rising : (P : X → Type 0) (xs : List X) → AllByRecursion P xs → AllByRecursion P (rising cmp kept xs)
  all-rising P [] all = tt
  all-rising P (x ∷ xs) all = all-put P x (rising cmp kept xs) all.0 (all-rising P xs all.1)

  -- one that compares with each as its image does is put where its image is
  put-map : (x : X) (ys : List X) → AllByRecursion (λ y. other (f x) (f y) ≡ cmp x y) ys
      → put other kept (f x) (map f ys) ≡ map f (put cmp kept x ys)
  put-map x [] alike = refl
  put-map x (y ∷ ys) alike = rw alike.0 (by (cmp x y) (put-map x ys alike.1))
    where
      by : (o : Ordering) → put other kept (f x) (map f ys) ≡ map f (put cmp kept x ys)
          → match_ordering o (f x ∷ f y ∷ map f ys) (f y ∷ map f ys) (f y ∷ put other kept (f x) (map f ys))
          ≡ map f (match_ordering o (x ∷ y ∷ ys) (y ∷ ys) (y ∷ put cmp kept x ys))
      by Less more = refl
      by Equal more = refl
      by Greater more = ap (λ l. f y ∷ l) more

  -- each compares with those after it as its image does
  abbrev AreAlike : List X → Type 0
  AreAlike [] = Unit {0}
  AreAlike (x ∷ xs) = AllByRecursion (λ y. other (f x) (f y) ≡ cmp x y) xs × AreAlike xs

  rising-map : (xs : List X) → AreAlike xs → rising other kept (map f xs) ≡ map f (rising cmp kept xs)
  rising-map [] alike = refl
  rising-map (x ∷ xs) alike =
      ap (put other kept (f x)) (rising-map xs alike.1)
      ∙ put-map x (rising cmp kept xs) (all-rising (λ y. other (f x) (f y) ≡ cmp x y) xs alike.0)

map-take : {X Y : Type 0} (f : X → Y) (k : ℕ) (xs : List X) → take k (map f xs) ≡ map f (take k xs)
map-take f zero xs = refl
map-take f (suc k) [] = refl
map-take f (suc k) (x ∷ xs) = ap (λ l. f x ∷ l) (map-take f k xs)

module _ (seed k : ℕ) (keys : List OrderKey) (columns : Columns) (part : ℕ) where
  -- rows compare by their pairs
  abbrev by_pair : Row → Row → Ordering
  by_pair x y = nat_cmp (packed seed x) (packed seed y)

  -- a row from a number on
  record IsFrom (from : ℕ) (row : Row) : Type 0 where
    pub tagged : row.part ≡ part
    pub at_least : from ≤ row.number
    pub below : row.number < 2 ^ 26

  all-from : (from lower : ℕ) (rows : List Row) → lower ≤ from → AreRowsFrom columns part from rows → AllByRecursion (IsFrom lower) rows
  all-from from lower [] le h = tt
  all-from from lower (row ∷ rows) le h = (
    record { tagged = h.0.tagged; at_least = omega (arith, le, h.0.at_least); below = h.0.below },
    all-from (row.number + 1) lower rows (omega (arith, le, h.0.at_least)) h.1,
  )

  -- of two rows of a partition with rising numbers, words and places say what their pairs say
  pairs-alike : (x y : Row) → x.part ≡ part → IsFrom (x.number + 1) y → by_word keys (sampled seed keys x) (sampled seed keys y) ≡ by_pair x y
  pairs-alike x y tagged after = by (nat_le (word_of seed x.part x.number) (word_of seed y.part y.number)) refl
    where
      earlier : IsEarlier (sampled seed keys y) (sampled seed keys x)
      earlier = record { part = tagged ∙ sym after.tagged; before = omega (arith, after.at_least) }

      by : (b : Bool) → nat_le (word_of seed x.part x.number) (word_of seed y.part y.number) ≡ b
          → by_word keys (sampled seed keys x) (sampled seed keys y) ≡ by_pair x y
      by true e =
          let le = leb-true (word_of seed x.part x.number) (word_of seed y.part y.number) e in
          lower keys (sampled seed keys y) (sampled seed keys x) earlier le
          ∙ nat_cmp_is (packed seed x) (packed seed y) Less (omega (arith, le, after.at_least))
      by false e =
          let gt = leb-false (word_of seed x.part x.number) (word_of seed y.part y.number) e in
          higher keys (sampled seed keys y) (sampled seed keys x) gt
          ∙ nat_cmp_is (packed seed x) (packed seed y) Greater (omega (arith, gt, after.below))

  rows-alike : (from : ℕ) (rows : List Row) → AreRowsFrom columns part from rows → AreAlike by_pair (by_word keys) (sampled seed keys) rows
  rows-alike from [] h = tt
  rows-alike from (x ∷ xs) h = (each xs (all-from (x.number + 1) (x.number + 1) xs (omega arith) h.1), rows-alike (x.number + 1) xs h.1)
    where
      each : (ys : List Row) → AllByRecursion (IsFrom (x.number + 1)) ys
          → AllByRecursion (λ y. by_word keys (sampled seed keys x) (sampled seed keys y) ≡ by_pair x y) ys
      each [] all = tt
      each (y ∷ ys) all = (pairs-alike x y h.0.tagged all.0, each ys all.1)

  pairs-same : (rows : List Row) → AreAlike by_pair nat_cmp (packed seed) rows
  pairs-same [] = tt
  pairs-same (x ∷ xs) = (each xs, pairs-same xs)
    where
      each : (ys : List Row) → AllByRecursion (λ y. nat_cmp (packed seed x) (packed seed y) ≡ by_pair x y) ys
      each [] = tt
      each (y ∷ ys) = (refl, each ys)

  -- a row is found by its number among the rows
  record IsIn (rows : List Row) (row : Row) : Type 0 where
    pub tagged : row.part ≡ part
    pub below : row.number < 2 ^ 26
    pub found : row_from row.number rows ≡ Some row

  all-in : (from : ℕ) (rows : List Row) → AreRowsFrom columns part from rows → AllByRecursion (IsIn rows) rows
  all-in from [] h = tt
  all-in from (x ∷ xs) h = (
    record { tagged = h.0.tagged; below = h.0.below; found = rw (le-leb x.number x.number (omega arith)) refl },
    each xs (all-from (x.number + 1) (x.number + 1) xs (omega arith) h.1) (all-in (x.number + 1) xs h.1),
  )
    where
      each : (ys : List Row) → AllByRecursion (IsFrom (x.number + 1)) ys → AllByRecursion (IsIn xs) ys → AllByRecursion (IsIn (x ∷ xs)) ys
      each [] up all = tt
      each (y ∷ ys) up all = (
        record {
          tagged = all.0.tagged;
          below = all.0.below;
          found = rw (lt-leb y.number x.number (omega (arith, up.0.at_least))) all.0.found;
        },
        each ys up.1 all.1,
      )

  module _ (rows : List Row) (h : IsTable columns part rows) where
    -- the rows that are sampled
    abbrev chosen : List Row
    chosen = take k (rising by_pair kept rows)

    all-chosen : AllByRecursion (IsIn rows) chosen
    all-chosen = all-take (IsIn rows) k (rising by_pair kept rows) (all-rising by_pair nat_cmp (packed seed) (IsIn rows) rows (all-in 0 rows h))

    pairs-are : (pairs : List ℕ) → pairs ≡ least_pairs k (map (packed seed) rows) → pairs ≡ map (packed seed) chosen
    pairs-are pairs is =
        is ∙ ap (take k) (rising-map by_pair nat_cmp (packed seed) rows (pairs-same rows)) ∙ map-take (packed seed) k (rising by_pair kept rows)

    -- each pair is that of a row that is there
    pub pairs-there : (pairs : List ℕ) → pairs ≡ least_pairs k (map (packed seed) rows)
        → AllByRecursion (λ pair. option_map (λ found. found.number) (row_from (pair % 2 ^ 32) rows) ≡ Some (pair % 2 ^ 32)) pairs
    pairs-there pairs is = rw (pairs-are pairs is) (each chosen all-chosen)
      where
        each : (xs : List Row) → AllByRecursion (IsIn rows) xs
            → AllByRecursion (λ pair. option_map (λ found. found.number) (row_from (pair % 2 ^ 32) rows) ≡ Some (pair % 2 ^ 32)) (map (packed seed) xs)
        each [] all = tt
        each (x ∷ xs) all =
            let number : packed seed x % 2 ^ 32 ≡ x.number = omega (arith, all.0.below) in
            (rw (number, all.0.found) refl, each xs all.1)

    -- and the rows of the pairs are the sample
    pub pairs-sample : (pairs : List ℕ) → pairs ≡ least_pairs k (map (packed seed) rows)
        → map (unpacked keys part rows) pairs ≡ sample_of seed k keys rows
    pairs-sample pairs is =
        ap (map (unpacked keys part rows)) (pairs-are pairs is) ∙ each chosen all-chosen
        ∙ sym (ap (take k) (rising-map by_pair (by_word keys) (sampled seed keys) rows (rows-alike 0 rows h)) ∙ map-take (sampled seed keys) k (rising by_pair kept rows))
      where
        each : (xs : List Row) → AllByRecursion (IsIn rows) xs → map (unpacked keys part rows) (map (packed seed) xs) ≡ map (sampled seed keys) xs
        each [] all = refl
        each (x ∷ xs) all =
            let word : packed seed x / 2 ^ 32 ≡ word_of seed x.part x.number = omega (arith, all.0.below) in
            let number : packed seed x % 2 ^ 32 ≡ x.number = omega (arith, all.0.below) in
            let one : unpacked keys part rows (packed seed x) ≡ sampled seed keys x = rw (word, number, all.0.found, all.0.tagged) refl in
            (λ i. one i ∷ each xs all.1 i)
