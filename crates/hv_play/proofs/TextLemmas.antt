-- No output line holds a float, so serde_json's text of it is exact.
use Rattle.std.proofs.Common.{◌≡◌, ℕ, false, refl}
use Rattle.serde_json.specs.Written.{has_float}
use Rattle.hv_reply.proofs.FloatLemmas.{reply_without_float}
use Rattle.hv_play.specs.declared.entry.What.{What}
use Rattle.hv_play.specs.declared.entry.What.TheVariants.{Out, Bad}
use Rattle.hv_play.specs.Texts.{line_data}

pub line_without_float : (line : ℕ) (what : What) → has_float (line_data line what) ≡ false
line_without_float line (Out session reply) = rw (reply_without_float reply) refl
line_without_float line (Bad bad) = refl
