-- What holds of each command line.
use Rattle.std.specs.Prelude.{ℕ, ◌≡◌, List}
use Rattle.deck_form.specs.declared.options.SynthOptions.{SynthOptions}
use Rattle.command_words.specs.Commands.{Asks, Command, HasGoodOptions, Synth}
use Rattle.command_words.specs.SynthOptionWords.{SuitsMethod}
use Rattle.command_words.specs.declared.command.Method.{Method}

-- words ask for at most one command
abbrev pub AskedIsOne : Type 0
AskedIsOne = (words : List (List ℕ)) (a b : Command) → Asks words a → Asks words b → a ≡ b

-- options of synthesis that words ask for, and a size, are within the ranges of their values
abbrev pub AskedIsInRange : Type 0
AskedIsInRange = (words : List (List ℕ)) (command : Command) → Asks words command → HasGoodOptions command

-- and they suit the method that the words ask for
abbrev pub AskedSuitsMethod : Type 0
AskedSuitsMethod =
    (words : List (List ℕ)) (file : List ℕ) (options : SynthOptions) (method : Method) → Asks words (Synth file options method) → SuitsMethod method options
