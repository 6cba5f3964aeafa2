-- The orders of sampled rows, by word and by key: both are total, and only equal ones tie.
use Rattle.std.proofs.Common.{◌≡◌, List, sym, ap}
use Rattle.std.specs.Cmp.{IsTotalOrder, on_total, then_total}
use Rattle.std.specs.FinMap.{nat_cmp-IsAntisymmetric}
use Rattle.std.specs.Ordering.{nat_cmp, ordering_then}
use Rattle.std.specs.declared.cmp.Ordering.TheVariants.{Equal}
use Rattle.std.proofs.lemmas.Cmp.{nat_cmp_total}
use Rattle.hv_value.specs.CellOrder.{then_first, then_second}
use Rattle.hv_value.specs.declared.orders.OrderKey.{OrderKey}
use Rattle.hv_value.specs.OrderLaws.{keys_same, keys_total}
use Rattle.hv_value.specs.Orders.{compare_keys}
use Rattle.hv_sketch.specs.Rising.{JoinsTies}
use Rattle.hv_quant.specs.Quantiles.{by_key}
use Rattle.hv_quant.specs.Sample.{by_place, by_word, kept}
use Rattle.hv_quant.specs.declared.summary.SampledRow.{SampledRow}

places_total : IsTotalOrder by_place
places_total = then_total (on_total (λ (s : SampledRow). s.part) nat_cmp_total) (on_total (λ (s : SampledRow). s.row) nat_cmp_total)

pub words_total : (keys : List OrderKey) → IsTotalOrder (by_word keys)
words_total keys =
    then_total (on_total (λ (s : SampledRow). s.word) nat_cmp_total)
    (then_total places_total (on_total (λ (s : SampledRow). s.key) (keys_total keys)))

pub by_key_total : (keys : List OrderKey) → IsTotalOrder (by_key keys)
by_key_total keys =
    then_total (on_total (λ (s : SampledRow). s.key) (keys_total keys))
    (then_total places_total (on_total (λ (s : SampledRow). s.word) nat_cmp_total))

-- sampled rows with equal parts are equal
pub same_row : (x y : SampledRow) → x.word ≡ y.word → x.part ≡ y.part → x.row ≡ y.row → x.key ≡ y.key → x ≡ y
same_row x y word part row key = λ i. record { word = word i; part = part i; row = row i; key = key i }

-- those that tie by word are equal
pub words_same : (keys : List OrderKey) (x y : SampledRow) → by_word keys x y ≡ Equal → x ≡ y
words_same keys x y e =
    let word = then_first (nat_cmp x.word y.word) (ordering_then (by_place x y) (compare_keys keys x.key y.key)) e in
    let rest = then_second (nat_cmp x.word y.word) (ordering_then (by_place x y) (compare_keys keys x.key y.key)) e in
    let place = then_first (by_place x y) (compare_keys keys x.key y.key) rest in
    let key = then_second (by_place x y) (compare_keys keys x.key y.key) rest in
    same_row x y
    (nat_cmp-IsAntisymmetric x.word y.word word)
    (nat_cmp-IsAntisymmetric x.part y.part (then_first (nat_cmp x.part y.part) (nat_cmp x.row y.row) place))
    (nat_cmp-IsAntisymmetric x.row y.row (then_second (nat_cmp x.part y.part) (nat_cmp x.row y.row) place))
    (keys_same keys x.key y.key key)

-- and those that tie by key
pub by_key_same : (keys : List OrderKey) (x y : SampledRow) → by_key keys x y ≡ Equal → x ≡ y
by_key_same keys x y e =
    let key = then_first (compare_keys keys x.key y.key) (ordering_then (by_place x y) (nat_cmp x.word y.word)) e in
    let rest = then_second (compare_keys keys x.key y.key) (ordering_then (by_place x y) (nat_cmp x.word y.word)) e in
    let place = then_first (by_place x y) (nat_cmp x.word y.word) rest in
    let word = then_second (by_place x y) (nat_cmp x.word y.word) rest in
    same_row x y
    (nat_cmp-IsAntisymmetric x.word y.word word)
    (nat_cmp-IsAntisymmetric x.part y.part (then_first (nat_cmp x.part y.part) (nat_cmp x.row y.row) place))
    (nat_cmp-IsAntisymmetric x.row y.row (then_second (nat_cmp x.part y.part) (nat_cmp x.row y.row) place))
    (keys_same keys x.key y.key key)

pub word_joins : (keys : List OrderKey) → JoinsTies (by_word keys) kept
word_joins keys =
    record {
      same = λ x y z e. ap (λ s. by_word keys s z) (sym (words_same keys x y e));
      turn = λ x y e. sym (words_same keys x y e);
      regroup = λ x y z e f. λ i. z;
    }

pub key_joins : (keys : List OrderKey) → JoinsTies (by_key keys) kept
key_joins keys =
    record {
      same = λ x y z e. ap (λ s. by_key keys s z) (sym (by_key_same keys x y e));
      turn = λ x y e. sym (by_key_same keys x y e);
      regroup = λ x y z e f. λ i. z;
    }
