-- What `bench` puts out: that the deck of the network that is generated does what the network does.
use Rattle.std.specs.Prelude.{ℕ, List}
use Rattle.command_answers.specs.Benches.{IsSameBench}
use Rattle.command_words.specs.Commands.{Asks, Bench}
use Rattle.deck_form.specs.declared.options.SynthOptions.{SynthOptions}

-- where the words ask for a network of a seed and a size, such a text is put out
abbrev pub GivesSameBench : List (List ℕ) → (List ℕ → Type 0) → Type 0
GivesSameBench words Puts =
    (seed size : ℕ) (options : SynthOptions) → Asks words (Bench seed size options)
    → (text : List ℕ) × IsSameBench seed size options 0 text × Puts text
