-- The words of kinds, of relations and of forms of text tests: the one table of each, by which they are written and read. The words of
-- an order's directions, which are read alone.
use Rattle.std.specs.Prelude.{ℕ, List, Bool, true, false, if◌then◌else◌, Option, Some, None, bytes_eq, codes}
use Rattle.hv_value.specs.declared.cell.Kind.{Kind}
use Rattle.hv_value.specs.declared.cell.Kind.TheVariants as kind
use Rattle.hv_expr.specs.declared.pred.Rel.{Rel}
use Rattle.hv_expr.specs.declared.pred.Rel.TheVariants as rel
use Rattle.hv_expr.specs.declared.text_test.How.{How}
use Rattle.hv_expr.specs.declared.text_test.How.TheVariants as how

abbrev pub kind_word : Kind → List ℕ
kind_word kind.Int = codes "int"
kind_word kind.Date = codes "date"
kind_word kind.Text = codes "text"

-- the kind that a word names
abbrev pub kind_named : List ℕ → Option Kind
kind_named word =
    if bytes_eq word (codes "int") then Some kind.Int
    else if bytes_eq word (codes "date") then Some kind.Date
    else if bytes_eq word (codes "text") then Some kind.Text
    else None

abbrev pub rel_word : Rel → List ℕ
rel_word rel.Lt = codes "lt"
rel_word rel.Le = codes "le"
rel_word rel.Eq = codes "eq"
rel_word rel.Ne = codes "ne"
rel_word rel.Ge = codes "ge"
rel_word rel.Gt = codes "gt"

-- the relation that a word names
abbrev pub rel_named : List ℕ → Option Rel
rel_named word =
    if bytes_eq word (codes "lt") then Some rel.Lt
    else if bytes_eq word (codes "le") then Some rel.Le
    else if bytes_eq word (codes "eq") then Some rel.Eq
    else if bytes_eq word (codes "ne") then Some rel.Ne
    else if bytes_eq word (codes "ge") then Some rel.Ge
    else if bytes_eq word (codes "gt") then Some rel.Gt
    else None

abbrev pub how_word : How → List ℕ
how_word how.Equals = codes "equals"
how_word how.Contains = codes "contains"
how_word how.Begins = codes "begins"

-- the form of a text test that a word names
abbrev pub how_named : List ℕ → Option How
how_named word =
    if bytes_eq word (codes "equals") then Some how.Equals
    else if bytes_eq word (codes "contains") then Some how.Contains
    else if bytes_eq word (codes "begins") then Some how.Begins
    else None

-- whether the direction that a word names goes down
abbrev pub down_named : List ℕ → Option Bool
down_named word =
    if bytes_eq word (codes "up") then Some false
    else if bytes_eq word (codes "down") then Some true
    else None
