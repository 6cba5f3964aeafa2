-- What stands for the groups of some rows stands for them in another order too.
use Rattle.std.proofs.Common.{◌≡◌, ◌+◌, ◌++◌, ℕ, List, Option, subst, ap, ◌∙◌, arith}
use Rattle.std.proofs.lemmas.List.Elements.{filter-append}
use Rattle.std.proofs.lemmas.List.Sums.{sum_by-append}
use Rattle.hv_value.specs.Rows.{Row}
use Rattle.hv_sketch.specs.Groups.{StandForGroups, group_rows, is_group, ungrouped}

-- the rows of a group in two lists
pub group_rows-join : (group : Row → Option ℕ) (g : ℕ) (a b : List Row) → group_rows group g (a ++ b) ≡ group_rows group g a ++ group_rows group g b
group_rows-join group g a b = filter-append (λ row. is_group g (group row)) a b

-- and in three
group_rows-joined : (group : Row → Option ℕ) (g : ℕ) (a b c : List Row)
    → group_rows group g (a ++ b ++ c) ≡ group_rows group g a ++ group_rows group g b ++ group_rows group g c
group_rows-joined group g a b c = group_rows-join group g (a ++ b) c ∙ ap (λ rows. rows ++ group_rows group g c) (group_rows-join group g a b)

-- how many rows of two lists are in no group
pub ungrouped-join : (group : Row → Option ℕ) (a b : List Row) → ungrouped group (a ++ b) ≡ ungrouped group a + ungrouped group b
ungrouped-join group a b = sum_by-append _ a b

-- two blocks of rows may change places
pub StandForGroups-swap : {S : Type 0} (group : Row → Option ℕ) (count : ℕ) (stands : List Row → S → Type 0)
    → ((a b c : List Row) (s : S) → stands (a ++ b ++ c) s → stands (a ++ c ++ b) s)
    → (a b c : List Row) (summaries : List S) (rest : ℕ)
    → StandForGroups group count stands (a ++ b ++ c) summaries rest → StandForGroups group count stands (a ++ c ++ b) summaries rest
StandForGroups-swap {S} group count stands swap a b c summaries rest h =
    record {
      each = record {
        many = h.each.many;
        each = λ g s there.
            rw (group_rows-joined group g a c b)
            (swap (group_rows group g a) (group_rows group g b) (group_rows group g c) s
            (subst (λ rows. stands rows s) (group_rows-joined group g a b c) (h.each.each g s there)));
      };
      others =
          omega (arith, h.others, ungrouped-join group (a ++ b) c, ungrouped-join group a b, ungrouped-join group (a ++ c) b, ungrouped-join group a c);
    }
