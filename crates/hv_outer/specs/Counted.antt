-- A reader or a writer of std beside a count of faults.
use Rattle.std.specs.Prelude.{ℕ, refl}
use Rattle.std.specs.Coded.{Coded, code_by, coded×, coded_ℕ}

-- a reader or a writer, and how often it has failed
pub record Counted (T : Type 0) : Type 0 where
  pub inner : T
  pub faults : ℕ

-- it is stored as the pair of its parts
abbrev pub counted_code : {T : Type 0} → Coded T → Coded (Counted T)
counted_code {T} c =
    code_by (T × ℕ) (coded× c coded_ℕ) (λ s. (s.inner, s.faults)) (λ p. record { inner = p.0; faults = p.1 }) (λ _. refl)

-- a reader or a writer that hasn't failed yet
abbrev pub not_failed : {T : Type 0} → T → Counted T
not_failed inner = record { inner = inner; faults = 0 }
