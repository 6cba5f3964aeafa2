-- The words of how two lineages are combined: the one table, by which they are written and read.
use Rattle.std.specs.Prelude.{ℕ, List, if◌then◌else◌, Option, Some, None, option_and_then, bytes_eq, codes}
use Rattle.serde_json.specs.Data.{Data}
use Rattle.hv_asked.specs.Fields.{text_at}
use Rattle.hv_lineage.specs.declared.how.How2.{How2}
use Rattle.hv_lineage.specs.declared.how.How2.TheVariants as how2

abbrev pub how2_word : How2 → List ℕ
how2_word how2.Zip = codes "zip"
how2_word how2.Union = codes "union"
how2_word how2.Both = codes "both"
how2_word how2.Minus = codes "minus"

-- how two lineages are combined, by its word
abbrev pub how2_named : List ℕ → Option How2
how2_named word =
    if bytes_eq word (codes "zip") then Some how2.Zip
    else if bytes_eq word (codes "union") then Some how2.Union
    else if bytes_eq word (codes "both") then Some how2.Both
    else if bytes_eq word (codes "minus") then Some how2.Minus
    else None

-- how two lineages are combined, by the word under `how`
abbrev pub how2_in : Data → Option How2
how2_in value = option_and_then how2_named (text_at (codes "how") value)
