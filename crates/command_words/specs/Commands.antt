-- The commands, and the words of a command line that ask for each.
use Rattle.std.specs.Prelude.{ℕ, ◌-◌, ◌^◌, ◌≡◌, ◌≤◌, List, [], ◌∷◌, Option, Some, None, codes, if◌then◌else◌}
use Rattle.std.specs.List.{list_all}
use Rattle.std.specs.Option.{option_and_then, option_map}
use Rattle.port_runs.specs.declared.clocking.Clocking.{Clocking}
use Rattle.trace_tool.specs.declared.options.Order.{Order}
use Rattle.trace_tool.specs.TraceData.{TraceOptionsData}
use Rattle.deck_form.specs.declared.options.SynthOptions.{SynthOptions}
use Rattle.command_words.specs.Given.{of_one, of_three, of_two, with_three, with_two}
use Rattle.command_words.specs.NumberWords.{number_from}
use Rattle.command_words.specs.SynthOptionWords.{AreGoodOptions, method_of, deck_flag_names, deck_option_names, synth_option_names, synth_options}
use Rattle.command_words.specs.TraceOptionWords.{clocking_of, order_of, order_option_names, seed_of, trace_flag_names, trace_option_names, trace_options}
use Rattle.command_words.specs.declared.command.Method.{Method}
use Rattle.command_words.specs.Written.{Written, is_same, plain_words, takes, written}

-- what the program is asked for: the deck of a file, its network, the run of its network over a stimulus, the trace of a deck over a
-- stimulus where its clocks fall so, whether a deck does what the network of a file does over a stimulus, the figures of the deck of a
-- file, those of a network that a seed and a size give, or whether a deck is built of domino cells
pub data Command : Type 0 where
  Synth : (file : List ℕ) → (options : SynthOptions) → (method : Method) → Command
  Flat : (file : List ℕ) → Command
  Run : (file stim : List ℕ) → Command
  Sim : (deck stim : List ℕ) → (options : TraceOptionsData) → (clocking : Clocking) → Command
  Cosim : (file deck stim : List ℕ) → (order : Order) → (seed : ℕ) → Command
  Report : (file : List ℕ) → (options : SynthOptions) → Command
  Bench : (seed size : ℕ) → (options : SynthOptions) → Command
  Audit : (deck : List ℕ) → Command

-- the files of a command, in order
abbrev pub files_of : Command → List (List ℕ)
files_of (Synth file options method) = file ∷ []
files_of (Flat file) = file ∷ []
files_of (Run file stim) = file ∷ stim ∷ []
files_of (Sim deck stim options clocking) = deck ∷ stim ∷ []
files_of (Cosim file deck stim order seed) = file ∷ deck ∷ stim ∷ []
files_of (Report file options) = file ∷ []
files_of (Bench seed size options) = []
files_of (Audit deck) = deck ∷ []

-- a size from 1 to 30,000
pub record IsGoodSize (size : ℕ) : Type 0 where
  pub some : 1 ≤ size
  pub few : size ≤ 30000

-- a command whose options of synthesis, and whose size, are within the ranges of their values
abbrev pub HasGoodOptions : Command → Type 0
HasGoodOptions (Synth file options method) = AreGoodOptions options
HasGoodOptions (Flat file) = Unit {0}
HasGoodOptions (Run file stim) = Unit {0}
HasGoodOptions (Sim deck stim options clocking) = Unit {0}
HasGoodOptions (Cosim file deck stim order seed) = Unit {0}
HasGoodOptions (Report file options) = AreGoodOptions options
HasGoodOptions (Bench seed size options) = AreGoodOptions options × IsGoodSize size
HasGoodOptions (Audit deck) = Unit {0}

-- each command by what is written behind its name: its files or numbers, its options with a value, its options without one
abbrev pub taken : (valued flags : List (List ℕ)) → List Written → Option Command → Option Command
taken valued flags words command = if list_all (takes valued flags) words then command else None

abbrev pub synth_of : List Written → (file : List ℕ) → Option Command
synth_of words file = option_and_then (λ options. option_map (Synth file options) (method_of options words)) (synth_options words)

abbrev pub synth_in : List Written → Option Command
synth_in words = taken deck_option_names deck_flag_names words (of_one (synth_of words) (plain_words words))

abbrev pub flat_in : List Written → Option Command
flat_in words = taken [] [] words (of_one (λ file. Some (Flat file)) (plain_words words))

abbrev pub run_in : List Written → Option Command
run_in words = taken [] [] words (of_two (λ file stim. Some (Run file stim)) (plain_words words))

abbrev pub sim_in : List Written → Option Command
sim_in words = taken trace_option_names trace_flag_names words
    (of_two (λ deck stim. with_two (Sim deck stim) (trace_options words) (clocking_of words)) (plain_words words))

abbrev pub cosim_in : List Written → Option Command
cosim_in words = taken order_option_names [] words
    (of_three (λ file deck stim. with_two (Cosim file deck stim) (order_of words) (seed_of words)) (plain_words words))

abbrev pub report_in : List Written → Option Command
report_in words = taken synth_option_names [] words
    (of_one (λ file. option_map (Report file) (synth_options words)) (plain_words words))

abbrev pub bench_of : List Written → (seed size : List ℕ) → Option Command
bench_of words seed size = with_three Bench (number_from 0 (2 ^ 64 - 1) seed) (number_from 1 30000 size) (synth_options words)

abbrev pub bench_in : List Written → Option Command
bench_in words = taken synth_option_names [] words (of_two (bench_of words) (plain_words words))

abbrev pub audit_in : List Written → Option Command
audit_in words = taken [] [] words (of_one (λ deck. Some (Audit deck)) (plain_words words))

abbrev pub command_named : List ℕ → List Written → Option Command
command_named name words =
    if is_same name (codes "synth") then synth_in words
    else (if is_same name (codes "flat") then flat_in words
    else (if is_same name (codes "run") then run_in words
    else (if is_same name (codes "sim") then sim_in words
    else (if is_same name (codes "cosim") then cosim_in words
    else (if is_same name (codes "report") then report_in words
    else (if is_same name (codes "bench") then bench_in words
    else (if is_same name (codes "audit") then audit_in words else None)))))))

-- the command of a command line, whose first word is its name
abbrev pub command_for : List (List ℕ) → Option Command
command_for [] = None
command_for (name ∷ words) = command_named name (written words)

-- the words ask for the command
abbrev pub Asks : List (List ℕ) → Command → Type 0
Asks words command = command_for words ≡ Some command
