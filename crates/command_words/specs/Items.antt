-- What was read of the words behind the name of a command.
use Rattle.std.specs.Prelude.{ℕ, ◌≡◌, List, [], ◌∷◌, Option, None, MatchOption}
use Rattle.std.specs.Borrow.{Bor}
use Rattle.std.specs.List.{filter_map}
use Rattle.command_words.specs.Commands.{Command}
use Rattle.command_words.specs.Given.{of_one, of_three, of_two}
use Rattle.command_words.specs.Written.{Written, Plain, Flag, Valued, flag_in, plain_in, value_in, written}
use Rattle.command_words.specs.declared.items.Item.{Item}
use Rattle.command_words.specs.declared.items.Item.TheVariants.{Plain as item_plain, Flag as item_flag, Valued as item_valued}
use Rattle.command_words.specs.declared.items.Wanted.{Wanted}
use Rattle.command_words.specs.declared.items.Wanted.TheVariants.{Plain as want_plain, Flag as want_flag, Value as want_value}

-- what was read as plain data
abbrev pub seen : Item → Written
seen (item_plain word) = Plain word.now
seen (item_flag name) = Flag name.now
seen (item_valued name value) = Valued name.now value.now

-- the plain word of an item, the value that it gives an option, or the name of an option without a value
abbrev pub wanted_in : Wanted → Written → Option (List ℕ)
wanted_in want_plain = plain_in
wanted_in (want_flag name) = flag_in name.now
wanted_in (want_value name) = value_in name.now

-- all of them among words
abbrev pub all_wanted : Wanted → List (List ℕ) → List (List ℕ)
all_wanted wanted words = filter_map (wanted_in wanted) (written words)

-- the first of them with the words behind it
abbrev pub IsFirstWanted : Wanted → List (List ℕ) → List ℕ → List (List ℕ) → Type 0
IsFirstWanted wanted words first rest = all_wanted wanted words ≡ first ∷ all_wanted wanted rest

-- there are several of them
pub record AreSeveral (all : List (List ℕ)) : Type 0 where
  pub first : List ℕ
  pub second : List ℕ
  pub more : List (List ℕ)
  pub all_are : all ≡ first ∷ second ∷ more

-- there is at most one, if this is found
abbrev pub IsOnly : List (List ℕ) → Option (Bor (List ℕ)) → Type 0
IsOnly all found = MatchOption found (all ≡ []) (λ only. all ≡ only.now ∷ [])

-- no command is made of exactly one, of two, of three of them
abbrev pub IsNotOne : List (List ℕ) → Type 0
IsNotOne all = (f : List ℕ → Option Command) → of_one f all ≡ None

abbrev pub IsNotTwo : List (List ℕ) → Type 0
IsNotTwo all = (f : List ℕ → List ℕ → Option Command) → of_two f all ≡ None

abbrev pub IsNotThree : List (List ℕ) → Type 0
IsNotThree all = (f : List ℕ → List ℕ → List ℕ → Option Command) → of_three f all ≡ None
