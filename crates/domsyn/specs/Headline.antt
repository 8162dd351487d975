-- What is proved of the deck that `synth FILE` writes, with its options, on one page.
-- The text of the file is read as Berkeley Logic Interchange Format, and the deck as a SPICE subcircuit of domino gates (Rabaey, Digital
-- Integrated Circuits) at switch level (Bryant). `IsRightDeck` says it by the ports of the deck alone (`deck_law/specs/Headline`): for every
-- input stream and every order of net events. The circuit of a deck whose subcircuits are called is its last one, its calls expanded
-- (`deck/specs/DeckText`). Of a deck with chains of buffers `IsRightOverlappingDeck` says it where early clocks may fall while later ones
-- still evaluate (Harris and Horowitz, Skew-tolerant domino circuits; `skew_law/specs/BufferedDecks`): its form, and that each cell has in
-- each cycle the bit of its root pair in the network's run. Of a deck with compound cells (Rabaey: compound domino) `IsRightCompoundDeck`
-- says that it is right so, joins the supplies never, and has the least cost of all plans (`compound_law/specs/Laws`). Which of these a
-- method gives says `IsRightBy` (`command_answers/specs/RightDecks`).
use Rattle.std.specs.Prelude.{ℕ, ◌≡◌, List}
use Rattle.command_answers.specs.Benches.{IsSameBench}
use Rattle.command_answers.specs.Decks.{IsLeastDeckFor}
use Rattle.command_answers.specs.Methods.{HasSignsOf}
use Rattle.command_answers.specs.RightDecks.{IsRightBy}
use Rattle.command_words.specs.Commands.{Asks, Command, Synth, Flat, Run, Sim, Cosim, Report, Bench, Audit}
use Rattle.command_words.specs.SynthOptionWords.{SuitsMethod}
use Rattle.command_words.specs.declared.command.Method.{Method}
use Rattle.deck_form.specs.declared.options.SynthOptions.{SynthOptions}
use Rattle.domsyn.specs.AuditedDecks.{IsAuditedFile}
use Rattle.domsyn.specs.Outcomes.{Files, IsFile}

-- the text is a right deck of the file's bytes, with options, whose cover costs no more than any; by exact signs its phases are signs of
-- which no others need fewer pairs
pub record IsRightDeckOfFile (files : Files) (name : List ℕ) (options : SynthOptions) (method : Method) (text : List ℕ) : Type 0 where
  pub bytes : List ℕ
  pub is_file : IsFile files name bytes
  pub is_right : IsRightBy method bytes options text
  pub signs : HasSignsOf method bytes text
  pub least : IsLeastDeckFor bytes options method text

-- a text that is put out for a command with a status: for `synth` it is a right deck of the file, with its options,
-- for `bench` it says that all is the same, and for `audit` it says yes of a deck that is one of domino cells, where all is well
abbrev pub IsRightFor : Files → Command → ℕ → List ℕ → Type 0
IsRightFor files (Synth file options method) status text = IsRightDeckOfFile files file options method text
IsRightFor files (Flat file) status text = Unit {0}
IsRightFor files (Run file stim) status text = Unit {0}
IsRightFor files (Sim deck stim options clocking) status text = Unit {0}
IsRightFor files (Cosim file deck stim order seed) status text = Unit {0}
IsRightFor files (Report file options) status text = Unit {0}
IsRightFor files (Bench seed size options) status text = IsSameBench seed size options status text
IsRightFor files (Audit deck) status text = status ≡ 0 → IsAuditedFile files deck text

-- where the words ask for the deck of a file with options, they suit the method, as clocks that overlap are two to four, in cells with
-- keepers, and compound cells have none, and such a text is put out
abbrev pub GivesRightDeck : Files → List (List ℕ) → (List ℕ → Type 0) → Type 0
GivesRightDeck files words Puts =
    (file : List ℕ) (options : SynthOptions) (method : Method) → Asks words (Synth file options method)
    → SuitsMethod method options × (text : List ℕ) × IsRightDeckOfFile files file options method text × Puts text
