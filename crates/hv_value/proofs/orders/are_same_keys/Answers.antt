use Rattle.std.proofs.Common.{◌≡◌, ◌∙◌, ap}
use Rattle.std.specs.Prelude.{◌&&◌, nat_eq}
use Rattle.std.specs.Bool.{Decides}
use Rattle.std.specs.Cmp.{booleans_Decides, first_so, second_so}
use Rattle.std.specs.Cmp.Derive.{both_true}
use Rattle.std.proofs.lemmas.Bool.Decides.{Decides-eqb}
use Rattle.std.proofs.lemmas.Slice.Eq.{slice_eq-Decides}
use mathlib.Core.Bool.{beq}
use Rattle.hv_value.specs.declared.orders.OrderKey.{OrderKey}
use Rattle.hv_value.proofs.orders.are_same_keys.Goals as goal

-- the test of two keys is true exactly of one and itself
key-decides : (a b : OrderKey) → Decides (nat_eq a.col b.col && beq a.down b.down) (a ≡ b)
key-decides a b =
    let cols = nat_eq a.col b.col in
    let ways = beq a.down b.down in (
      λ e. (λ i. record { col = (Decides-eqb a.col b.col).0 (first_so cols ways e) i; down = (booleans_Decides a.down b.down).0 (second_so cols ways e) i }),
      λ e. both_true ((Decides-eqb a.col b.col).1 (ap (λ (k : OrderKey). k.col) e)) ((booleans_Decides a.down b.down).1 (ap (λ (k : OrderKey). k.down) e)),
    )

pub returns : goal.returns
returns c = slice_eq-Decides key-decides c.args.a.now c.args.b.now c.eq.result c.eq.ensures
