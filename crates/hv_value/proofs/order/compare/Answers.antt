use Rattle.std.proofs.Common.{rules, ◌≡◌}
use Rattle.std.specs.Cmp.Lexicographic.{slice_cmp}
use Rattle.std.specs.Ordering.{int_cmp, nat_cmp}
use Rattle.hv_value.specs.CellOrder.{compare-days, compare-ints, compare-texts}
use Rattle.hv_value.proofs.order.compare.Goals as goal

pub returns-in-Int-Int : goal.returns-in-Int-Int
returns-in-Int-Int c =
    let told : c.by_number.result ≡ int_cmp c.in-Int-Int.m c.in-Int-Int.n = search rules in
    rw (c.in-Int-Int.is-0, c.in-Int-Int.is-1, compare-ints c.in-Int-Int.m c.in-Int-Int.n) told

pub returns-in-Date-Date : goal.returns-in-Date-Date
returns-in-Date-Date c =
    let told : c.by_number-in-Date-Date.result ≡ int_cmp c.in-Date-Date.m c.in-Date-Date.n = search rules in
    rw (c.in-Date-Date.is-0, c.in-Date-Date.is-1, compare-days c.in-Date-Date.m c.in-Date-Date.n) told

pub returns-in-Text-Text : goal.returns-in-Text-Text
returns-in-Text-Text c =
    let told : c.by_text.result ≡ slice_cmp nat_cmp c.in-Text-Text.s.now c.in-Text-Text.t.now = search rules in
    rw (c.in-Text-Text.is-0, c.in-Text-Text.is-1, compare-texts c.in-Text-Text.s.now c.in-Text-Text.t.now) told
