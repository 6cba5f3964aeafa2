-- What is known of a `Member` by how it keeps its rows.
use Rattle.std.proofs.Common.{◌≡◌, ℕ, List, Vec, Global, refl, sym, ap, ◌∙◌, subst}
use Rattle.hv_member.specs.declared.member.Kept.{Kept}
use Rattle.hv_member.specs.declared.member.Kept.TheVariants.{Full, Listed}
use Rattle.hv_member.specs.Kept.{kept_rows}
use Rattle.hv_member.specs.Member.{RowSet}
use Rattle.hv_member.specs.Sets.{IsSetBelow, numbers}

-- the set has this size and these rows
pub record Opened (size : ℕ) (rows : List ℕ) (now : RowSet) : Type 0 where
  pub size_is : size ≡ now.size
  pub rows_is : rows ≡ now.rows
  pub set : IsSetBelow size rows

module _ (size : ℕ) (kept : Kept) (now : RowSet) (view_is : record { size = size; rows = kept_rows size kept } ≡ now) (invariant : IsSetBelow size (kept_rows size kept)) where
  opened_as : (rows : List ℕ) → kept_rows size kept ≡ rows → Opened size rows now
  opened_as rows same = record {
    size_is = ap (λ v. v.size) view_is;
    rows_is = sym same ∙ ap (λ v. v.rows) view_is;
    set = subst (IsSetBelow size) same invariant;
  }

  -- any has what it keeps
  pub opened : Opened size (kept_rows size kept) now
  opened = opened_as (kept_rows size kept) refl

  -- a full one has all the rows
  pub opened_full : kept ≡ Full → Opened size (numbers size) now
  opened_full is = opened_as (numbers size) (ap (kept_rows size) is)

  -- a listed one has those of its list
  pub opened_listed : (rows : Vec ℕ Global) → kept ≡ Listed rows → Opened size rows.items now
  opened_listed rows is = opened_as rows.items (ap (kept_rows size) is)

-- the same at a size that is equal
pub opened_at : (m n : ℕ) (rows : List ℕ) (now : RowSet) → Opened m rows now → m ≡ n → Opened n rows now
opened_at m n rows now seen same = subst (λ k. Opened k rows now) same seen

pub opened_full_at : (m n : ℕ) (now : RowSet) → Opened m (numbers m) now → m ≡ n → Opened n (numbers n) now
opened_full_at m n now seen same = subst (λ k. Opened k (numbers k) now) same seen
