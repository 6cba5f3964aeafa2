-- The samples of joined lists of rows, in any order.
use Rattle.std.proofs.Common.{◌≡◌, ◌++◌, ℕ, List, sym, ap, ◌∙◌, arith}
use Rattle.std.specs.Prelude.{map, take}
use Rattle.std.proofs.lemmas.List.{length-append, map-append}
use Rattle.hv_value.specs.declared.orders.OrderKey.{OrderKey}
use Rattle.hv_value.specs.Rows.{Row}
use Rattle.hv_sketch.proofs.Least.{least-of_joined, rising-swap}
use Rattle.hv_sketch.specs.Rising.{put_all, rising}
use Rattle.hv_quant.specs.Sample.{IsSample, by_word, kept, sample_of, sampled}
use Rattle.hv_quant.specs.SampleOrder.{word_joins, words_total}
use Rattle.hv_quant.specs.declared.summary.SampleSummary.{SampleSummary}

module _ (seed k : ℕ) (keys : List OrderKey) where
  -- the sample of joined lists is that of both joined
  pub sample-append : (a b : List Row) → sample_of seed k keys (a ++ b) ≡ take k (put_all (by_word keys) kept (sample_of seed k keys a) (sample_of seed k keys b))
  sample-append a b =
      ap (λ l. take k (rising (by_word keys) kept l)) (map-append (sampled seed keys) a b)
      ∙ least-of_joined (by_word keys) kept (words_total keys) (word_joins keys) k (map (sampled seed keys) a) (map (sampled seed keys) b)

  three : (a b c : List Row) → map (sampled seed keys) (a ++ b ++ c) ≡ map (sampled seed keys) a ++ map (sampled seed keys) b ++ map (sampled seed keys) c
  three a b c = map-append (sampled seed keys) (a ++ b) c ∙ ap (λ l. l ++ map (sampled seed keys) c) (map-append (sampled seed keys) a b)

  -- two blocks at the end may change places
  sample-swap : (a b c : List Row) → sample_of seed k keys (a ++ b ++ c) ≡ sample_of seed k keys (a ++ c ++ b)
  sample-swap a b c =
      ap (take k)
      (ap (rising (by_word keys) kept) (three a b c)
      ∙ rising-swap (by_word keys) kept (words_total keys) (word_joins keys) (map (sampled seed keys) a) (map (sampled seed keys) b) (map (sampled seed keys) c)
      ∙ ap (rising (by_word keys) kept) (sym (three a c b)))

  pub IsSample-swap : (a b c : List Row) (s : SampleSummary) → IsSample seed k keys (a ++ b ++ c) s → IsSample seed k keys (a ++ c ++ b) s
  IsSample-swap a b c s h =
      record {
        few = simp length-append (omega (arith, simp length-append at h.few));
        is = h.is ∙ sample-swap a b c;
      }
