-- What contracts see of a `Results`. This project's own words.
use Rattle.std.specs.Prelude.{ℕ, ◌<◌, ◌≤◌, ◌^◌, List, length, refl}
use Rattle.std.specs.Coded.{Coded, code_by, coded×, coded_list, coded_ℕ}

-- the pairs, the newest used first, and how many there may be
pub record Recent (K V : Type 0) : Type 0 where
  pub capacity : ℕ
  pub pairs : List (K × V)

module _ {K V : Type 0} where
  -- the cache of this capacity with these pairs
  abbrev pub recent : ℕ → List (K × V) → Recent K V
  recent n ps = record { capacity = n; pairs = ps }

  -- a cache is stored as the pair of its fields
  abbrev pub recent_code : Coded K → Coded V → Coded (Recent K V)
  recent_code k v = code_by (ℕ × List (K × V)) (coded× coded_ℕ (coded_list (coded× k v))) (λ c. (c.capacity, c.pairs)) (λ p. recent p.0 p.1) (λ _. refl)

  -- what holds of every cache: it has room for one pair or more, and no more pairs than room
  pub record IsWithin (c : Recent K V) : Type 0 where
    pub some : 0 < c.capacity
    pub small : c.capacity < 2 ^ 32
    pub few : length c.pairs ≤ c.capacity
