-- Names of signals, and those of their ports in a deck.
use Rattle.std.specs.Prelude.{ℕ, ◌<◌, ◌≢◌, List, [], ◌++◌, All, codes}
use Rattle.deck.specs.Escapes.{escaped}

-- a name that is not empty, of bytes
pub record IsByteName (name : List ℕ) : Type 0 where
  pub some : name ≢ []
  pub bytes : All (λ b. b < 256) name

-- the net of an input
abbrev pub pin_name : List ℕ → List ℕ
pin_name input = codes "i_" ++ escaped input

-- the net of an output
abbrev pub output_name : List ℕ → List ℕ
output_name output = codes "o_" ++ escaped output
