-- Nets of gates that stand at the numbers which are held for them.
use Rattle.std.specs.Prelude.{◌≡◌, ℕ, List, Option, Some, None, slice_get, slice_index_or}
use Rattle.deck.specs.Nets.{net_name}

-- gate by gate, the net of the gate stands at the number that is held for it
pub record AreNumbersAt (nets names : List (List ℕ)) (numbers : List (Option ℕ)) : Type 0 where
  pub at : (gate n : ℕ) → slice_index_or numbers gate None ≡ Some n → slice_get nets n ≡ Some (net_name names gate)
