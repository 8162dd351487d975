-- The options of a simulation on the command line, and what they give.
use Rattle.std.specs.Prelude.{ℕ, ◌-◌, ◌^◌, Bool, true, false, List, [], ◌∷◌, Option, Some, None, codes, if◌then◌else◌}
use Rattle.std.specs.Option.{option_map}
use Rattle.port_runs.specs.declared.clocking.Clocking.{Clocking}
use Rattle.port_runs.specs.declared.clocking.Clocking.TheVariants.{Overlapping, Together}
use Rattle.trace_tool.specs.declared.options.Order.{Order}
use Rattle.trace_tool.specs.declared.options.Order.TheVariants.{First, Last, Seed}
use Rattle.trace_tool.specs.declared.options.ProbeWord.{ProbeWord}
use Rattle.trace_tool.specs.TraceData.{TraceOptionsData}
use Rattle.command_words.specs.Given.{flag_given, given, with_four}
use Rattle.command_words.specs.NumberWords.{number_from}
use Rattle.command_words.specs.ProbeWords.{probe_words}
use Rattle.command_words.specs.Written.{Written, is_same, values_of}

abbrev pub order_option_names : List (List ℕ)
order_option_names = codes "--order" ∷ codes "--seed" ∷ []

abbrev pub trace_option_names : List (List ℕ)
trace_option_names = codes "--order" ∷ codes "--seed" ∷ codes "--probe" ∷ []

abbrev pub trace_flag_names : List (List ℕ)
trace_flag_names = codes "--events" ∷ codes "--skew" ∷ []

-- the order that a word names
abbrev pub order_named : List ℕ → Option Order
order_named word =
    if is_same word (codes "first") then Some First
    else (if is_same word (codes "last") then Some Last
    else (if is_same word (codes "seed") then Some Seed else None))

-- the order `first`, the seed 0, no probe and no event printed where none is given
abbrev pub order_of : List Written → Option Order
order_of words = given order_named First (values_of (codes "--order") words)

abbrev pub seed_of : List Written → Option ℕ
seed_of words = given (number_from 0 (2 ^ 64 - 1)) 0 (values_of (codes "--seed") words)

abbrev pub probes_of : List Written → Option (List ProbeWord)
probes_of words = given probe_words [] (values_of (codes "--probe") words)

abbrev pub events_of : List Written → Option Bool
events_of words = flag_given (codes "--events") words

-- clocks fall together where words don't ask that they overlap
abbrev pub clocking_for : Bool → Clocking
clocking_for true = Overlapping
clocking_for false = Together

abbrev pub clocking_of : List Written → Option Clocking
clocking_of words = option_map clocking_for (flag_given (codes "--skew") words)

abbrev pub trace_options_with : Order → ℕ → List ProbeWord → Bool → TraceOptionsData
trace_options_with order seed probes events = record { order = order; seed = seed; probes = probes; events = events }

abbrev pub trace_options : List Written → Option TraceOptionsData
trace_options words = with_four trace_options_with (order_of words) (seed_of words) (probes_of words) (events_of words)
