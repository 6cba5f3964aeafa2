-- A front of the text of two output lines.
use Rattle.std.proofs.Common.{sym, subst, ℕ, List, [], ◌∷◌}
use Rattle.std.specs.Prelude.{Option}
use Rattle.std.specs.Io.KnownBytes.{Appends}
use Rattle.hv_outer.specs.Turns.{AppendsFront}
use Rattle.hv_outer.proofs.FrontLemmas.{AppendsFront-longer, AppendsFront-after}
use Rattle.hv_play.specs.declared.entry.Entry.{Entry}
use Rattle.hv_play.specs.Texts.{entries_text}
use Rattle.hv_play.proofs.RunLemmas.{entries_text-append}

-- the first line was cut off
pub first_cut : (first second : Entry) (a b : Option (List ℕ)) → AppendsFront a b (entries_text (first ∷ [])) → AppendsFront a b (entries_text (first ∷ second ∷ []))
first_cut first second a b front =
    subst (AppendsFront a b) (sym (entries_text-append (first ∷ []) (second ∷ [])))
    (AppendsFront-longer a b (entries_text (first ∷ [])) (entries_text (second ∷ [])) front)

-- the second line was cut off
pub second_cut : (first second : Entry) (a b c : Option (List ℕ)) → Appends a b (entries_text (first ∷ [])) → AppendsFront b c (entries_text (second ∷ []))
    → AppendsFront a c (entries_text (first ∷ second ∷ []))
second_cut first second a b c all front =
    subst (AppendsFront a c) (sym (entries_text-append (first ∷ []) (second ∷ [])))
    (AppendsFront-after a b c (entries_text (first ∷ [])) (entries_text (second ∷ [])) all front)
