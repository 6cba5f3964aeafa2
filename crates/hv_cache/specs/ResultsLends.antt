-- What a cache ends as, once a reference into it has ended.
use Rattle.std.specs.Prelude.{◌≡◌, List, ⊤}
use Rattle.std.specs.Borrow.{Fml, RattleType, MutBor, follows_so}
use Rattle.std.specs.HashMap.Lent.{HashMembers}
use mathlib.Core.Option.{none}
use Rattle.hv_cache.specs.Recent.{Recent, recent}
use Rattle.hv_cache.specs.contracts.results.Results.{the_row}

-- the cache behind c has these pairs, and the capacity that it had
abbrev pub ends_as : (K V : RattleType) → HashMembers K.Denot → MutBor (Recent K.Denot V.Denot) → List (K.Denot × V.Denot) → Fml
ends_as K V key c pairs = let row = the_row K V (record {}) (record { eq = key.eq }) (record { hash_input = key.hash_input }) in follows_so row row c.ghost_name none (λ _ _. ⊤) (λ end. end ≡ recent c.now.capacity pairs)
