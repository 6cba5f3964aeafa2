use Rattle.std.proofs.Common.{◌≡◌, ◌∙◌, arith, None, Some, ap, subst, sym, bytes_eq, string_bytes}
use Rattle.std.specs.HashMap.{PutsEntry, get}
use Rattle.std.specs.Map.{lookup}
use Rattle.std.specs.String.{string_eq}
use Rattle.std.proofs.lemmas.Map.Text.{hash_map_text_same}
use Rattle.std.proofs.lemmas.Slice.Eq.{bytes_eq-Decides}
use Rattle.hv_value.specs.declared.cell.Cell.TheVariants as cell
use Rattle.hv_heavy.specs.Counting.{text_cell}
use Rattle.hv_heavy.proofs.CountFacts.{counts-entered, counts-raised, raised-fits}
use Rattle.hv_heavy.proofs.counts.count_text.Goals as goal

pub overflow_add-count : goal.overflow_add-count
overflow_add-count c =
    let found : lookup (λ key. bytes_eq c.args.text.now (string_bytes key)) c.args.counts.now.entries ≡ Some c.in-Some.count.now = sym c.in-Some.ensures.value in
    omega (arith, raised-fits text_cell (λ key. bytes_eq c.args.text.now (string_bytes key)) c.args.counts.now.entries c.in-Some.count.now found c.requires)

-- the text is there, and its count rises
pub returns-in-Some : goal.returns-in-Some
returns-in-Some c =
    let found : lookup (λ key. bytes_eq c.args.text.now (string_bytes key)) c.args.counts.now.entries ≡ Some c.in-Some.count.now = sym c.in-Some.ensures.value in
    counts-raised text_cell (cell.Text c.args.text.now) c.in-Some.count.now (λ key. bytes_eq c.args.text.now (string_bytes key))
    (λ other same. ap cell.Text (sym ((bytes_eq-Decides c.args.text.now (string_bytes other)).0 same)))
    c.args.counts.now.entries _ found (c.get_mut.follows.holds _).0

-- or a copy of it comes in
pub returns-in_ok-insert-in-None : goal.returns-in_ok-insert-in-None
returns-in_ok-insert-in-None c =
    let key = c.in_ok-from_str-in-None.field-0 in
    let none : lookup (λ key. bytes_eq c.args.text.now (string_bytes key)) c.args.counts.now.entries ≡ None = sym c.in-None.ensures.value in
    let key_is : string_bytes key ≡ c.args.text.now = c.in_ok-from_str-in-None.ensures.ok in
    let old : c.in_ok-insert-in-None.field-0 ≡ None =
    c.in_ok-insert-in-None.ensures.old ∙ ap (λ m. get string_eq m key) c.get_mut.follows.holds-at-none
    ∙ (hash_map_text_same key c.args.text.now c.args.counts.now.entries (sym key_is)).0 ∙ none in
    let put : PutsEntry string_eq c.args.counts.now c.insert.new.self key 1 c.in_ok-insert-in-None.field-0 =
    subst (λ m. PutsEntry string_eq m c.insert.new.self key 1 c.in_ok-insert-in-None.field-0) c.get_mut.follows.holds-at-none c.in_ok-insert-in-None.ensures.entries in
    counts-entered text_cell (cell.Text c.args.text.now) key (ap cell.Text key_is) c.args.counts.now.entries c.insert.new.self.entries c.in_ok-insert-in-None.field-0 _ old put
