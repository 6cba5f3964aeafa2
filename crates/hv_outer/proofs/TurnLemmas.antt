-- The loops over the outside: how far they have come, and what follows at their ends.
use Rattle.std.proofs.Common.{◌≡◌, ℕ, ◌≤◌, List, [], ◌++◌, take, drop, refl, sym, ap, ◌∙◌, subst, append_assoc, append-nil, arith, take-append-drop}
use Rattle.std.specs.Prelude.{Option}
use Rattle.std.specs.Io.KnownBytes.{Appends, Consumes, Keeps}
use Rattle.std.proofs.KnownBytes.{Appends-nil, Appends-trans, Appends-kept, Consumes-trans}
use Rattle.hv_outer.specs.Turns.{AppendsFront, ReadsSome}

-- a front of the bytes was put, and a rest is to be put
pub record Putting (before now : Option (List ℕ)) (faults_before faults_now : ℕ) (bytes rest : List ℕ) : Type 0 where
  pub front : List ℕ
  pub split : front ++ rest ≡ bytes
  pub appended : Appends before now front
  pub later : faults_before ≤ faults_now

-- these bytes were read
pub record Reading (before now : Option (List ℕ)) (faults_before faults_now : ℕ) (bytes : List ℕ) : Type 0 where
  pub read : Consumes before now bytes
  pub later : faults_before ≤ faults_now

module _ (before now next : Option (List ℕ)) (f g h : ℕ) (bytes rest : List ℕ) where
  -- nothing is put yet
  pub putting_none : Putting before before f f bytes bytes
  putting_none = record { front = []; split = refl; appended = Appends-nil before; later = omega arith }

  -- one more turn
  pub putting_more : (n : ℕ) → Putting before now f g bytes rest → Appends now next (take n rest) → g ≤ h → Putting before next f h bytes (drop n rest)
  putting_more n p taken later = record {
    front = p.front ++ take n rest;
    split = append_assoc p.front (take n rest) (drop n rest) ∙ ap (λ l. p.front ++ l) (take-append-drop n rest) ∙ p.split;
    appended = Appends-trans before now next p.front (take n rest) p.appended taken;
    later = omega arith;
  }

  -- a turn that failed leaves a front
  pub putting_front : Putting before now f g bytes rest → Keeps now next → AppendsFront before next bytes
  putting_front p kept = record { front = p.front; rest = rest; split = p.split; appended = Appends-kept before now next p.front p.appended kept }

-- nothing is to be put any more
pub putting_all : (before now : Option (List ℕ)) (f g : ℕ) (bytes rest : List ℕ) → Putting before now f g bytes rest → rest ≡ [] → Appends before now bytes
putting_all before now f g bytes rest p none =
    subst (Appends before now) (sym (append-nil p.front) ∙ ap (λ l. p.front ++ l) (sym none) ∙ p.split) p.appended

module _ (before now next : Option (List ℕ)) (f g : ℕ) (bytes more : List ℕ) where
  -- a turn's bytes came after those that were read before
  pub reading_some : Reading before now f g bytes → Consumes now next more → ReadsSome before next
  reading_some r taken = record { bytes = bytes ++ more; read = Consumes-trans before now next bytes more r.read taken }
