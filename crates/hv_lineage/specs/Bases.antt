-- Bases: this project's own rule.
use Rattle.std.specs.Prelude.{ℕ, ◌<◌, ◌≤◌, ◌^◌, List, [], get_or, length, Option, Some, None}
use Rattle.std.specs.List.{AllByRecursion}
use Rattle.hv_value.specs.Schema.{Columns}
use Rattle.hv_lineage.specs.declared.base.Base.{Base}
use Rattle.hv_lineage.specs.declared.base.Base.TheVariants as base
use Rattle.hv_value.specs.declared.catalog.TheConstants.{MAX_PARTITIONS}

-- the columns of a base
abbrev pub base_columns : Base → Columns
base_columns (base.Inline schema parts) = schema
base_columns (base.Named schema table parts) = schema

-- the number of its partitions
abbrev pub base_parts : Base → ℕ
base_parts (base.Inline schema parts) = length parts
base_parts (base.Named schema table parts) = parts

-- a text by which bases are told apart at first sight: the first partition's, or the table's name
abbrev pub base_text : Base → List ℕ
base_text (base.Inline schema parts) = get_or parts 0 []
base_text (base.Named schema table parts) = table

-- the text of an inline base's partition, none of a named one's
abbrev pub inline_text : Base → ℕ → Option (List ℕ)
inline_text (base.Inline schema parts) part = Some (get_or parts part [])
inline_text (base.Named schema table parts) part = None

-- the texts of a base have fewer than 2^26 bytes each
abbrev pub HasShortTexts : Base → Type 0
HasShortTexts (base.Inline schema parts) = AllByRecursion (λ text. length text < 2 ^ 26) parts
HasShortTexts (base.Named schema table parts) = Unit {0}

-- what is asked of each base: not too many partitions, nor too long texts
pub record IsFitBase (b : Base) : Type 0 where
  pub few : base_parts b ≤ MAX_PARTITIONS
  pub short : HasShortTexts b
