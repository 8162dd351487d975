-- Words in front of what is written behind them.
use Rattle.std.proofs.Common.{◌≡◌, ℕ, List, true, false, refl}
use Rattle.std.specs.List.{list_any}
use Rattle.command_words.specs.Written.{Written, flag_names, in_front, is_dashed, is_equals, is_same, with_value_of}

-- an option of the first form
pub in_front-value : (word : List ℕ) (later : List Written) → is_dashed word ≡ true → list_any is_equals word ≡ false
    → list_any (is_same word) flag_names ≡ false → in_front word later ≡ with_value_of word later
in_front-value word later dashed plain other = rw dashed (rw plain (rw other refl))
