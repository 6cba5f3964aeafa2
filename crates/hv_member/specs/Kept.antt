-- How a `Member` keeps its rows. Only its model names this; no clause of a public call does.
use Rattle.std.specs.Prelude.{ℕ, List}
use Rattle.hv_member.specs.declared.member.Kept.{Kept}
use Rattle.hv_member.specs.declared.member.Kept.TheVariants.{Full, Listed}
use Rattle.hv_member.specs.Sets.{numbers}

-- the rows that are kept, of those below n
abbrev pub kept_rows : ℕ → Kept → List ℕ
kept_rows n Full = numbers n
kept_rows n (Listed rows) = rows.items
