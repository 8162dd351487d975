-- The names of nets, and a test of them that computes.
use Rattle.std.specs.Prelude.{ℕ, ◌<◌, ◌≢◌, ◌⊎◌, Bool, ◌==◌, ◌&&◌, ◌||◌, not, nat_lt, List, [], All}
use Rattle.std.specs.List.{list_all}
use Rattle.dom_base.specs.Lines.{is_word}

-- a byte that may stand in the name of a net: no blank, no control byte, no upper-case ASCII letter
abbrev pub IsNetByte : ℕ → Type 0
IsNetByte b = (32 < b) × (b ≢ 127) × ((b < 65) ⊎ (90 < b))

-- the bytes of a net's name
pub record IsNetName (bytes : List ℕ) : Type 0 where
  pub some : bytes ≢ []
  pub good : All IsNetByte bytes

-- the same by a test
abbrev pub is_net_byte : ℕ → Bool
is_net_byte b = nat_lt 32 b && not (b == 127) && (nat_lt b 65 || nat_lt 90 b)

abbrev pub is_net_name : List ℕ → Bool
is_net_name word = is_word word && list_all is_net_byte word
