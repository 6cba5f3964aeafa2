-- What a session of a script keeps to: its catalog has no tables, and it owes nothing between two calls.
use Rattle.std.specs.Prelude.{◌≡◌, []}
use Rattle.hv_session.specs.Held.{Held}

pub record IsScripted (held : Held) : Type 0 where
  pub no_tables : held.tables ≡ []
  pub nothing_due : held.talk.due ≡ []
