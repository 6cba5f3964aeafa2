-- How sampled rows of one partition compare, samples of two lists of rows, and what is kept of one row more.
use Rattle.std.proofs.Common.{◌≡◌, ◌<◌, ◌≤◌, ◌+◌, ◌++◌, ℕ, zero, suc, List, [], ◌∷◌, Bool, true, false, refl, sym, ap, subst, take, nat_lt, arith, ◌∙◌}
use Rattle.std.specs.Prelude.{map}
use Rattle.std.specs.Cmp.{nat_cmp_is}
use Rattle.std.specs.List.{AllByRecursion}
use Rattle.std.specs.declared.cmp.Ordering.TheVariants.{Less, Equal, Greater}
use Rattle.std.proofs.lemmas.Bool.{ltb-false, ltb-true}
use Rattle.std.proofs.lemmas.List.{length-append, map-append}
use Rattle.hv_value.specs.declared.orders.OrderKey.{OrderKey}
use Rattle.hv_value.specs.Rows.{Row}
use Rattle.hv_pick.specs.Walk.{Walk}
use Rattle.hv_sketch.specs.Gathering.{AreBelow, ComesNext}
use Rattle.hv_sketch.specs.Merging.{CanMerge}
use Rattle.hv_sketch.specs.Rising.{IsRising, put_all, rising}
use Rattle.hv_sketch.proofs.Least.{rising-rises, take-rises}
use Rattle.hv_quant.specs.Pairs.{AreNearest, packed}
use Rattle.hv_quant.specs.Sample.{IsSample, by_place, by_word, kept, sample_of, sampled}
use Rattle.hv_quant.specs.SampleLaws.{sample-append}
use Rattle.hv_quant.specs.SampleOrder.{word_joins, words_total}
use Rattle.hv_quant.specs.Sampling.{IsSampling}
use Rattle.hv_quant.specs.declared.nearest.Nearest.{Nearest}
use Rattle.hv_quant.specs.declared.sampling.Sampling.{Sampling}
use Rattle.hv_quant.specs.declared.summary.SampledRow.{SampledRow}
use Rattle.hv_quant.specs.declared.summary.SampleSummary.{SampleSummary}

-- one is of the partition of another, and before it there
pub record IsEarlier (row one : SampledRow) : Type 0 where
  pub part : one.part ≡ row.part
  pub before : one.row < row.row

-- what holds of each element holds of them with one more where it holds of that, and then of the last
all-more : {X : Type 0} (P : X → Type 0) (xs : List X) (x : X) → AllByRecursion P xs → P x → AllByRecursion P (xs ++ x ∷ [])
all-more P [] x all one = (one, tt)
all-more P (y ∷ xs) x all one = (all.0, all-more P xs x all.1 one)

all-last : {X : Type 0} (P : X → Type 0) (xs : List X) (x : X) → AllByRecursion P (xs ++ x ∷ []) → P x
all-last P [] x all = all.0
all-last P (y ∷ xs) x all = all-last P xs x all.1

pub all-take : {X : Type 0} (P : X → Type 0) (k : ℕ) (xs : List X) → AllByRecursion P xs → AllByRecursion P (take k xs)
all-take P zero xs all = tt
all-take P (suc k) [] all = tt
all-take P (suc k) (x ∷ xs) all = (all.0, all-take P k xs all.1)

module _ (keys : List OrderKey) where
  module _ (row one : SampledRow) where
    before-row : IsEarlier row one → by_place one row ≡ Less
    before-row h = rw (sym (nat_cmp_is one.part row.part Equal h.part), sym (nat_cmp_is one.row row.row Less h.before)) refl

    -- an earlier row with no greater word is below
    pub lower : IsEarlier row one → one.word ≤ row.word → by_word keys one row ≡ Less
    lower h le = by (nat_lt one.word row.word) refl
      where
        by : (b : Bool) → nat_lt one.word row.word ≡ b → by_word keys one row ≡ Less
        by true e = rw (sym (nat_cmp_is one.word row.word Less (ltb-true one.word row.word e))) refl
        by false e =
            let same : one.word ≡ row.word = omega (arith, le, ltb-false one.word row.word e) in
            rw (sym (nat_cmp_is one.word row.word Equal same), before-row h) refl

    -- any with a greater word is above
    pub higher : row.word < one.word → by_word keys one row ≡ Greater
    higher lt = rw (sym (nat_cmp_is one.word row.word Greater lt)) refl

module _ (seed k : ℕ) (keys : List OrderKey) where
  -- the rows of a sample rise
  pub sample-rises : (rows : List Row) → IsRising (by_word keys) (sample_of seed k keys rows)
  sample-rises rows =
      take-rises (by_word keys) kept (words_total keys) (word_joins keys) k (rising (by_word keys) kept (map (sampled seed keys) rows))
      (rising-rises (by_word keys) kept (words_total keys) (word_joins keys) (map (sampled seed keys) rows))

  pub summary-rises : (rows : List Row) (s : SampleSummary) → IsSample seed k keys rows s → IsRising (by_word keys) s.rows
  summary-rises rows s h = rw h.is (sample-rises rows)

  -- the sample of the rows of both
  pub sample-sum : (a b : List Row) (s t u : SampleSummary) → IsSample seed k keys a s → IsSample seed k keys b t → CanMerge a b
      → u.rows ≡ take k (put_all (by_word keys) kept s.rows t.rows) → IsSample seed k keys (a ++ b) u
  sample-sum a b s t u left right merge is =
      record {
        few = simp length-append merge.few;
        is = is ∙ (λ i. take k (put_all (by_word keys) kept (left.is i) (right.is i))) ∙ sym (sample-append seed k keys a b);
      }

-- one row more of a partition
module _ (seed k part : ℕ) (rows : List Row) (found : Row) (s : Sampling) (h : IsSampling seed k part rows s) (comes : ComesNext rows found) (tag : found.part ≡ part) where
  pub sampling-more : (walker : Walk) (nearest : Nearest) → walker ≡ record { seed = s.walker.seed; part = s.walker.part; next = found.number + 1 }
      → AreNearest k (map (packed seed) rows ++ packed seed found ∷ []) nearest
      → IsSampling seed k part (rows ++ found ∷ []) (record { walker = walker; nearest = nearest })
  sampling-more walker nearest walked near =
      record {
        few = simp length-append comes.merge.few;
        near = subst (λ l. AreNearest k l nearest) (sym (map-append (packed seed) rows (found ∷ []))) near;
        tagged = all-more (λ row. row.part ≡ part) rows found h.tagged tag;
        walks_seed = ap (λ (w : Walk). w.seed) walked ∙ h.walks_seed;
        walks_part = ap (λ (w : Walk). w.part) walked ∙ h.walks_part;
        next = λ top below. omega (arith, ap (λ (w : Walk). w.next) walked, all-last (λ row. row.number < top) rows found below);
      }
