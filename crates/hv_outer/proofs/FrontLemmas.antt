-- Which front of some bytes a sink took, over several calls.
use Rattle.std.proofs.Common.{ℕ, List, [], ◌++◌, refl, sym, ap, ◌∙◌, append_assoc, append-nil}
use Rattle.std.specs.Prelude.{Option}
use Rattle.std.specs.Io.KnownBytes.{Appends, Keeps}
use Rattle.std.proofs.KnownBytes.{Appends-nil, Appends-trans, Appends-kept}
use Rattle.hv_outer.specs.Turns.{AppendsFront}

-- nothing was taken
pub AppendsFront-none : (a b : Option (List ℕ)) (bytes : List ℕ) → Keeps a b → AppendsFront a b bytes
AppendsFront-none a b bytes kept = record { front = []; rest = bytes; split = refl; appended = Appends-kept a a b [] (Appends-nil a) kept }

-- all was taken
pub AppendsFront-all : (a b : Option (List ℕ)) (bytes : List ℕ) → Appends a b bytes → AppendsFront a b bytes
AppendsFront-all a b bytes all = record { front = bytes; rest = []; split = append-nil bytes; appended = all }

-- a front is one of more bytes too
pub AppendsFront-longer : (a b : Option (List ℕ)) (bytes more : List ℕ) → AppendsFront a b bytes → AppendsFront a b (bytes ++ more)
AppendsFront-longer a b bytes more h = record {
  front = h.front;
  rest = h.rest ++ more;
  split = sym (append_assoc h.front h.rest more) ∙ ap (λ l. l ++ more) h.split;
  appended = h.appended;
}

-- all of the first bytes were taken, and then a front of the next ones
pub AppendsFront-after : (a b c : Option (List ℕ)) (bytes next : List ℕ) → Appends a b bytes → AppendsFront b c next → AppendsFront a c (bytes ++ next)
AppendsFront-after a b c bytes next all h = record {
  front = bytes ++ h.front;
  rest = h.rest;
  split = append_assoc bytes h.front h.rest ∙ ap (λ l. bytes ++ l) h.split;
  appended = Appends-trans a b c bytes h.front all h.appended;
}
