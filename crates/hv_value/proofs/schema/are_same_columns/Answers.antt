use denote.Enum.Bare.{sameb, same_true, true_same}
use Rattle.std.proofs.Common.{◌≡◌, ℕ, List, ap, ◌∙◌}
use Rattle.std.specs.Prelude.{bytes_eq, ◌&&◌}
use Rattle.std.specs.Bool.{Decides}
use Rattle.std.specs.Cmp.{first_so, second_so}
use Rattle.std.specs.Cmp.Derive.{both_true}
use Rattle.std.proofs.lemmas.Slice.Eq.{bytes_eq-Decides, slice_eq-Decides}
use Rattle.hv_value.specs.declared.cell.Kind.{Kind}
use Rattle.hv_value.specs.contracts.cell.Kind as kind
use Rattle.hv_value.proofs.schema.are_same_columns.Goals as goal

-- the test of two columns is true exactly of one and itself
column-decides : (a b : List ℕ × Kind) → Decides (bytes_eq a.0 b.0 && sameb kind.the_type a.1 b.1) (a ≡ b)
column-decides a b =
    let names = bytes_eq a.0 b.0 in
    let kinds = sameb kind.the_type a.1 b.1 in (
      λ e. ap (λ n. (n, a.1)) ((bytes_eq-Decides a.0 b.0).0 (first_so names kinds e)) ∙ ap (λ k. (b.0, k)) (same_true kind.the_type tt a.1 b.1 (second_so names kinds e)),
      λ e. both_true ((bytes_eq-Decides a.0 b.0).1 (ap (λ x. x.0) e)) (true_same kind.the_type a.1 b.1 (ap (λ x. x.1) e)),
    )

-- src/schema.rt:76:1
pub returns : goal.returns
returns c = slice_eq-Decides column-decides c.args.a.now c.args.b.now c.eq.result c.eq.ensures
