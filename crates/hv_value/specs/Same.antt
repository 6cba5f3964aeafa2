-- Sameness as a test: two values of any type that contracts see are the same where their codes are, as trees of numbers.
use base.Stored.{Gv, gnil, gnum, gcons, Coded}
use Rattle.std.specs.Prelude.{◌==◌, Bool, true, false, ◌&&◌}

-- whether two codes are the same
abbrev pub same_code : Gv → Gv → Bool
same_code gnil gnil = true
same_code gnil (gnum n) = false
same_code gnil (gcons c d) = false
same_code (gnum m) gnil = false
same_code (gnum m) (gnum n) = m == n
same_code (gnum m) (gcons c d) = false
same_code (gcons a b) gnil = false
same_code (gcons a b) (gnum n) = false
same_code (gcons a b) (gcons c d) = same_code a c && same_code b d

-- whether two values of a type with a code are the same
unfoldable pub same_by : {A : Type 0} → Coded A → A → A → Bool
same_by c x y = same_code (c.code x) (c.code y)
