-- Pieces of a text that an output stream takes.
use Rattle.std.specs.Prelude.{ℕ, ◌≤◌, ◌<◌, List, length, take, Option}
use Rattle.std.specs.Io.KnownBytes.{Appends}

-- how many bytes of a piece a write took
pub record TakesSome (piece : List ℕ) (n : ℕ) : Type 0 where
  pub most : n ≤ length piece
  pub some : 0 < length piece → 0 < n

-- known bytes grew by the first of these bytes, but not by all
pub record AppendsPrefix (old new : Option (List ℕ)) (bytes : List ℕ) : Type 0 where
  pub count : ℕ
  pub part : count < length bytes
  pub grown : Appends old new (take count bytes)
