-- Two tables of one partition combined, row by row.
use Rattle.std.proofs.Common.{◌≡◌, ◌∙◌, ◌++◌, ◌∷◌, [], ℕ, List, Bool, true, false, Option, Some, None, refl, sym, ap, map, length}
use Rattle.std.specs.Prelude.{◌&&◌, ◌||◌, not, if◌then◌else◌}
use Rattle.std.specs.List.{AllByRecursion}
use Rattle.std.proofs.lemmas.List.{map-append}
use Rattle.hv_value.specs.declared.cell.Cell.{Cell}
use Rattle.hv_value.specs.declared.cell.Kind.{Kind}
use Rattle.hv_value.specs.contracts.schema.Schema as schema
use Rattle.hv_value.specs.Cells.{cell_at}
use Rattle.hv_value.specs.Same.{same_by}
use Rattle.hv_value.specs.SameLaws.{same_by-true}
use Rattle.hv_value.specs.Schema.{Columns}
use Rattle.hv_member.specs.Member.{RowSet}
use Rattle.hv_member.specs.Sets.{is_in}
use Rattle.hv_column.specs.Column.{ColumnCells}
use Rattle.hv_column.specs.Rows.{cells_across}
use Rattle.hv_part.specs.Part.{Agree, PartRows}
use Rattle.hv_lineage.specs.declared.error.LineageErr.TheVariants as err
use Rattle.hv_lineage.specs.declared.how.How2.TheVariants as how2
use Rattle.hv_lineage.specs.Made.{cells_by}
use Rattle.hv_lineage.specs.Refusals.{how_refusal}
use Rattle.hv_made.specs.Steps.{AreUnited, IsCombined}

-- a row's cells where the row is there
abbrev where_there : Bool → List Cell → Option (List Cell)
where_there there cells = if there then Some cells else None

by-zip : (a b : Bool) (x y : List Cell) → where_there (a && b) (x ++ y) ≡ cells_by how2.Zip (where_there a x) (where_there b y)
by-zip true true x y = refl
by-zip true false x y = refl
by-zip false b x y = refl

by-union : (a b : Bool) (made x y : List Cell) → (a ≡ true → made ≡ x) → (a ≡ false → b ≡ true → made ≡ y)
    → where_there (a || b) made ≡ cells_by how2.Union (where_there a x) (where_there b y)
by-union true b made x y left right = ap Some (left refl)
by-union false true made x y left right = ap Some (right refl refl)
by-union false false made x y left right = refl

by-both : (a b : Bool) (x y : List Cell) → where_there (a && b) x ≡ cells_by how2.Both (where_there a x) (where_there b y)
by-both true true x y = refl
by-both true false x y = refl
by-both false true x y = refl
by-both false false x y = refl

by-minus : (a b : Bool) (x y : List Cell) → where_there (a && not b) x ≡ cells_by how2.Minus (where_there a x) (where_there b y)
by-minus true true x y = refl
by-minus true false x y = refl
by-minus false true x y = refl
by-minus false false x y = refl

module _ (left right : PartRows) (member : RowSet) (height : member.size ≡ left.member.size) where
  -- the rows of both, with the cells of both
  pub zip-combined : ((n : ℕ) → is_in n member.rows ≡ (is_in n left.member.rows && is_in n right.member.rows))
      → IsCombined how2.Zip left right (record { columns = left.columns ++ right.columns; part = left.part; cols = left.cols ++ right.cols; member = member })
  zip-combined members = record {
    columns_are = refl;
    part_is = refl;
    height_is = height;
    cells_are = λ n. rw (members n, map-append (λ (column : ColumnCells). cell_at column.cells n) left.cols right.cols)
        (by-zip (is_in n left.member.rows) (is_in n right.member.rows) (cells_across left.cols n) (cells_across right.cols n));
  }

  -- the rows of either, over columns that are united
  pub union-combined : (alone : List ℕ) (cols : List ColumnCells)
      → ((n : ℕ) → is_in n member.rows ≡ (is_in n left.member.rows || is_in n right.member.rows))
      → ((n : ℕ) → is_in n alone ≡ (is_in n right.member.rows && not (is_in n left.member.rows)))
      → AreUnited left.cols right.cols left.member.rows alone left.member.size cols
      → IsCombined how2.Union left right (record { columns = left.columns; part = left.part; cols = cols; member = member })
  union-combined alone cols members others united = record {
    columns_are = refl;
    part_is = refl;
    height_is = height;
    cells_are = λ n. rw (members n)
        (by-union (is_in n left.member.rows) (is_in n right.member.rows) (cells_across cols n) (cells_across left.cols n) (cells_across right.cols n)
        (united.held_are n) (λ out there. united.alone_are n out (rw (there, out) at (others n))));
  }

  -- the left's rows that are in both
  pub both-combined : ((n : ℕ) → is_in n member.rows ≡ (is_in n left.member.rows && is_in n right.member.rows))
      → IsCombined how2.Both left right (record left { member = member })
  both-combined members = record {
    columns_are = refl;
    part_is = refl;
    height_is = height;
    cells_are = λ n. rw (members n)
        (by-both (is_in n left.member.rows) (is_in n right.member.rows) (cells_across left.cols n) (cells_across right.cols n));
  }

  -- those that are in the left alone
  pub minus-combined : ((n : ℕ) → is_in n member.rows ≡ (is_in n left.member.rows && not (is_in n right.member.rows)))
      → IsCombined how2.Minus left right (record left { member = member })
  minus-combined members = record {
    columns_are = refl;
    part_is = refl;
    height_is = height;
    cells_are = λ n. rw (members n)
        (by-minus (is_in n left.member.rows) (is_in n right.member.rows) (cells_across left.cols n) (cells_across right.cols n));
  }

-- a union is of columns that are the same
pub same-columns : (left right : Columns) → how_refusal how2.Union left right ≡ None → right ≡ left
same-columns left right none = by (same_by schema.the_row.coded left right) refl none
  where
    by : (b : Bool) → same_by schema.the_row.coded left right ≡ b → (if b then None else Some err.SchemaDiffers) ≡ None → right ≡ left
    by true same none = sym (same_by-true schema.the_row.coded left right same)
    by false unlike none = absurd (cc none)

-- columns side by side agree with both schemas
pub agree-both : (columns others : Columns) (cols more : List ColumnCells) (size : ℕ) → Agree columns cols size → Agree others more size
    → Agree (columns ++ others) (cols ++ more) size
agree-both columns others cols more size one other = record {
  kinds = map-append (λ (c : ColumnCells). c.kind) cols more ∙ ap (λ (ks : List Kind). ks ++ map (λ (c : ColumnCells). c.kind) more) one.kinds
      ∙ ap (λ (ks : List Kind). map (λ c. c.1) columns ++ ks) other.kinds ∙ sym (map-append (λ c. c.1) columns others);
  lengths = lengths cols one.lengths;
}
  where
    lengths : (cs : List ColumnCells) → AllByRecursion (λ (c : ColumnCells). length c.cells ≡ size) cs
        → AllByRecursion (λ (c : ColumnCells). length c.cells ≡ size) (cs ++ more)
    lengths [] all = other.lengths
    lengths (c ∷ cs) all = (all.0, lengths cs all.1)
