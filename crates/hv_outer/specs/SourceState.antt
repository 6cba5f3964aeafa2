-- A source in memory, and what a call of `take` leaves of it.
use Rattle.std.specs.Prelude.{ℕ, ◌==◌, Bool, List, length, take, drop, ◌++◌, min}
use Rattle.std.specs.List.{list_any}
use Rattle.hv_outer.specs.Causes.{one_more}

-- the bytes that are left, the numbers of the calls that fail, and the calls and the faults so far
pub record SourceState : Type 0 where
  pub left : List ℕ
  pub fail_at : List ℕ
  pub calls : ℕ
  pub faults : ℕ

-- a source that wasn't called yet
abbrev pub not_called : List ℕ → List ℕ → SourceState
not_called bytes fail_at = record { left = bytes; fail_at = fail_at; calls = 0; faults = 0 }

-- whether the next call fails: its number, counted from 1, is listed
abbrev pub fails_next : SourceState → Bool
fails_next s = list_any (λ k. k == one_more s.calls) s.fail_at

-- how many bytes a call gives into so much room: as many as fit
abbrev pub fitting_bytes : SourceState → ℕ → ℕ
fitting_bytes s room = min room (length s.left)

-- the source after a call that failed
abbrev pub after_fault : SourceState → SourceState
after_fault s = record s { calls = one_more s.calls; faults = one_more s.faults }

-- the source after a call that gave as many bytes as fit into so much room
abbrev pub after_take : SourceState → ℕ → SourceState
after_take s room = record s { left = drop room s.left; calls = one_more s.calls }

-- a buffer whose front was overwritten by as many of these bytes as fit
abbrev pub overwritten : List ℕ → List ℕ → List ℕ
overwritten buf bytes = take (length buf) bytes ++ drop (length bytes) buf
