-- Keys: numbers that tell short texts apart, in the order of the texts.
use Rattle.std.specs.Prelude.{◌≡◌, ℕ, zero, suc, ◌+◌, ◌-◌, ◌*◌, ◌/◌, ◌^◌, ◌<◌, List, [], ◌∷◌, length, get_or}
use Rattle.std.specs.Int.{from_be_bytes, w64}

-- the first bytes of a text, so many at the most, as digits to the base 256, and as many ones as there are bytes, up to
-- one more than those: so a text is above each of at most so many bytes that it goes on from
unfoldable pub head_key : ℕ → List ℕ → ℕ
head_key zero [] = 0
head_key zero (byte ∷ bytes) = 1
head_key (suc n) [] = 0
head_key (suc n) (byte ∷ bytes) = byte * 256 ^ suc n + head_key n bytes + 1

-- the number is the key of the text, by its first seven bytes
pub record IsKey (text : List ℕ) (key : ℕ) : Type 0 where
  pub is : key ≡ head_key 7 text
  -- what the key is made of are bytes
  pub bytes : (i : ℕ) → get_or text i 0 < 256

-- the numbers are the keys of the first texts
abbrev pub AreKeys : List (List ℕ) → List ℕ → Type 0
AreKeys texts keys = (i : ℕ) → i < length texts → i < length keys → IsKey (get_or texts i []) (get_or keys i 0)

-- the first of eight bytes, so many, as a number whose other bytes are 0, and in the last one's place their number
abbrev pub cut_digits : ℕ → List ℕ → ℕ
cut_digits len digits = from_be_bytes w64 digits / 2 ^ (64 - 8 * len) * 2 ^ (64 - 8 * len) + len
