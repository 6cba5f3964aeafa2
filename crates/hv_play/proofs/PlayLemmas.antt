-- What the status of a play says of the run of its script, in each setting.
use Rattle.std.proofs.Common.{◌≡◌, ◌≤◌, ℕ, List, length, Option, Ok, Err}
use Rattle.std.specs.Io.KnownBytes.{Consumes, IsAtEnd}
use Rattle.std.specs.Prelude.{Result, OnOk, OnErr}
use Rattle.hv_outer.specs.declared.io_err.IoErr.{IoErr}
use Rattle.hv_outer.specs.declared.io_err.IoErr.TheVariants.{Failed, Memory}
use Rattle.hv_play.specs.Outcome.{Traced, status_after}
use Rattle.hv_play.specs.Run.{Setting, Suits, Ending}
use Rattle.hv_play.specs.Steps.{Wrote}

-- what was written for what was read, in each setting that suits
pub traced : (ending : Ending) (script : List ℕ) (left left' taken taken' : Option (List ℕ)) → Consumes left left' script → IsAtEnd left'
    → length script ≤ 67108864 → ((g : Setting) → Suits g 16 → Wrote g ending script taken taken')
    → (g : Setting) → Suits g 16 → Traced g ending left left' taken taken'
traced ending script left left' taken taken' read ended short wrote g suits =
    let made = wrote g suits in
    record { script = script; output = made.output; read = read; ended = ended; short = short; written = made.written; right = made.right }

-- the status tells how the run ended
pub when_done : {P : Type 0} (r : Result (Unit {0}) IoErr) → status_after r ≡ 0 → OnOk r P → P
when_done (Ok _) e p = p
when_done (Err Failed) e p = absurd (cc e)
when_done (Err Memory) e p = absurd (cc e)

pub when_failed : {P : Type 0} (r : Result (Unit {0}) IoErr) → status_after r ≡ 4 → OnErr r P → P
when_failed (Ok _) e p = absurd (cc e)
when_failed (Err Failed) e p = p
when_failed (Err Memory) e p = absurd (cc e)

pub when_short : {P : Type 0} (r : Result (Unit {0}) IoErr) → status_after r ≡ 5 → OnErr r P → P
when_short (Ok _) e p = absurd (cc e)
when_short (Err Failed) e p = absurd (cc e)
when_short (Err Memory) e p = p
