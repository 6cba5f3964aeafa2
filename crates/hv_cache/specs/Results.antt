-- The calls of a `Results`, as functions on its list of pairs, the newest used first. This project's own words, over those
-- of std's maps. `eq` is the keys' `==`.
use Rattle.std.specs.Prelude.{ℕ, Bool, List, ◌∷◌, take, Option, unwrap_or}
use Rattle.std.specs.Option.{option_map_or}
use Rattle.std.specs.Map.{lookup, lookup_entry, lookup_key, remove_entry}

module _ {K V : Type 0} where
  -- the newest n pairs
  abbrev pub cut : ℕ → List (K × V) → List (K × V)
  cut n pairs = take n pairs

  module _ (eq : K → K → Bool) (key : K) where
    -- the value of the key that is equal to this one
    abbrev pub found : List (K × V) → Option V
    found pairs = lookup (eq key) pairs

    -- the pairs but for that of the key
    abbrev pub without : List (K × V) → List (K × V)
    without pairs = remove_entry (eq key) pairs

    -- the pair of the key goes first, where there is one
    abbrev pub brought_front : List (K × V) → List (K × V)
    brought_front pairs = option_map_or (λ pair. pair ∷ without pairs) (lookup_entry (eq key) pairs) pairs

    -- the value goes first, under the equal key that was there or else under this one
    abbrev pub put_front : V → List (K × V) → List (K × V)
    put_front value pairs = (unwrap_or (lookup_key (eq key) pairs) key, value) ∷ without pairs
