-- A sink in memory, and what a call of `put` leaves of it.
use Rattle.std.specs.Prelude.{ℕ, ◌-◌, ◌<◌, ◌≤◌, List, [], ◌++◌, length, take}
use Rattle.hv_outer.specs.Causes.{one_more}

-- the bytes that the sink holds, how many it takes at most, and its faults so far
pub record SinkState : Type 0 where
  pub held : List ℕ
  pub room : ℕ
  pub faults : ℕ

-- a sink that holds nothing yet
abbrev pub with_room : ℕ → SinkState
with_room room = record { held = []; room = room; faults = 0 }

-- how many more bytes it takes
abbrev pub free_room : SinkState → ℕ
free_room s = s.room - length s.held

-- the sink is full and there is a byte to take
abbrev pub Overflows : SinkState → List ℕ → Type 0
Overflows s piece = (0 < length piece) × (s.room ≤ length s.held)

-- the sink after as many bytes of a piece as fit
abbrev pub after_put : SinkState → List ℕ → SinkState
after_put s piece = record s { held = s.held ++ take (free_room s) piece }

-- the sink after a call that failed
abbrev pub after_overflow : SinkState → SinkState
after_overflow s = record s { faults = one_more s.faults }
