-- Refusals told in order: the first reason that stands is the answer, and where none does the lineage is made.
use Rattle.std.proofs.Common.{◌≡◌, ◌∙◌, ℕ, List, Bool, true, false, Option, Some, None, Result, Ok, Err, inl, inr, refl, sym}
use Rattle.std.specs.Prelude.{◌↔◌, IfErr, IsTrue, if◌then◌else◌}
use mathlib.Core.Bool.{true≢false}
use Rattle.std.specs.Option.{option_or}
use Rattle.hv_value.specs.declared.cell.Kind.{Kind}
use Rattle.hv_value.specs.Same.{same_by}
use Rattle.hv_value.specs.SameLaws.{same_by-decides}
use Rattle.hv_value.specs.Schema.{Columns}
use Rattle.hv_expr.specs.declared.expr.Expr.{Expr}
use Rattle.hv_expr.specs.Checks.{expr_fault, kind_of}
use Rattle.hv_lineage.specs.contracts.base.Base as base
use Rattle.hv_lineage.specs.declared.base.Base.{Base}
use Rattle.hv_lineage.specs.declared.error.LineageErr.{LineageErr}
use Rattle.hv_lineage.specs.declared.error.LineageErr.TheVariants as err
use Rattle.hv_lineage.specs.Combining.{base_refusal}
use Rattle.hv_lineage.specs.Lineages.{IsRefusal, TermOver, derive_refusal, lineage_columns, room_refusal}
use Rattle.hv_lineage.specs.Refusals.{name_refusal}

-- the earlier reason is told
pub first-refused : (first later : Option LineageErr) (e : LineageErr) → IsRefusal first e → IsRefusal (option_or first later) e
first-refused (Some x) later e (inl is) = inl is
first-refused None later e (inl is) = absurd (cc is)
first-refused first later e (inr memory) = inr memory

-- where it doesn't stand, the later one is
pub later-refused : (first later : Option LineageErr) (e : LineageErr) → first ≡ None → IsRefusal later e → IsRefusal (option_or first later) e
later-refused None later e none is = is
later-refused (Some x) later e none is = absurd (cc none)

-- nothing is refused where neither stands
pub none-refused : (first later : Option LineageErr) → first ≡ None → later ≡ None → option_or first later ≡ None
none-refused None later none rest = rest
none-refused (Some x) later none rest = absurd (cc none)

-- of the whole answer
pub later-err : {X : Type 0} (r : Result X LineageErr) (first later : Option LineageErr) → first ≡ None → IfErr r (IsRefusal later) → IfErr r (IsRefusal (option_or first later))
later-err (Ok x) first later none is = tt
later-err (Err e) first later none is = later-refused first later e none is

-- where there is no room for a column that nothing else refuses, that is the answer
pub derive-no_room : (lineage : TermOver) (columns : Columns) (name : List ℕ) (expr : Expr) (k : Kind) (e : LineageErr)
    → columns ≡ lineage_columns lineage → expr_fault columns expr ≡ None → kind_of columns expr ≡ Some k → name_refusal columns name (Some k) ≡ None
    → room_refusal lineage ≡ Some e → derive_refusal lineage name expr ≡ Some e
derive-no_room lineage columns name expr k e same value kind named room = rw (← same, value, kind, named) room

-- the same base is no reason
pub base-same : (a b : Base) → a ≡ b → base_refusal a b ≡ None
base-same a b same = rw ((same_by-decides base.the_row.coded a b).1 same) refl

-- another one, as any test of sameness tells it, is
pub base-differs : (a b : Base) (result : Bool) → IsTrue result ↔ (a ≡ b) → result ≡ false → base_refusal a b ≡ Some err.NotSameBase
base-differs a b result decides unlike = by (same_by base.the_row.coded a b) refl
  where
    by : (s : Bool) → same_by base.the_row.coded a b ≡ s → (if s then None else Some err.NotSameBase) ≡ Some err.NotSameBase
    by false is = refl
    by true is = let yes : result ≡ true = decides.1 ((same_by-decides base.the_row.coded a b).0 is) in absurd (true≢false (sym yes ∙ unlike))
