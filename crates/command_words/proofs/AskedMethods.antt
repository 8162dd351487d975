-- Options that words ask for suit the method that they ask for.
use Rattle.std.proofs.Common.{◌≡◌, ◌-◌, ◌^◌, ℕ, Bool, true, false, List, [], ◌∷◌, Option, Some, None, refl, subst}
use Rattle.std.specs.Prelude.{IfSome, nat_lt, not, if◌then◌else◌, ◌&&◌}
use Rattle.std.specs.Option.{option_and_then, option_map}
use Rattle.std.proofs.lemmas.Bool.{ltb-false}
use Rattle.deck_form.specs.declared.options.SynthOptions.{SynthOptions}
use Rattle.deck_form.specs.declared.version.DeckVersion.{DeckVersion}
use Rattle.deck_form.specs.declared.version.DeckVersion.TheVariants.{One as VersionOne, Two as VersionTwo}
use Rattle.domino_cell.specs.declared.style.Style.{Style}
use Rattle.domino_cell.specs.declared.style.Style.TheVariants.{Keeper as WithKeeper, Precharge as WithPrecharge}
use Rattle.port_runs.specs.declared.clocking.Clocking.{Clocking}
use Rattle.trace_tool.specs.TraceData.{TraceOptionsData}
use Rattle.trace_tool.specs.declared.options.Order.{Order}
use Rattle.command_words.specs.Commands.{Asks, Audit, Bench, Command, Cosim, Flat, Report, Run, Sim, Synth, bench_of, command_for, synth_of}
use Rattle.command_words.specs.Given.{with_three, with_two}
use Rattle.command_words.specs.NumberWords.{number_from}
use Rattle.command_words.specs.SynthOptionWords.{AreGoodOptions, SuitsMethod, deck_flag_names, deck_option_names, compound_of, exact_of, has_keepers, method_for, method_of, skew_of, synth_option_names, synth_options, version_of}
use Rattle.command_words.specs.TraceOptionWords.{clocking_of, order_of, order_option_names, seed_of, trace_flag_names, trace_option_names, trace_options}
use Rattle.command_words.specs.Written.{Written, plain_words, written}
use Rattle.command_words.specs.declared.command.Method.{Method}
use Rattle.command_words.specs.declared.command.Method.TheVariants.{Compound, Skew}
use Rattle.command_words.proofs.AskedOnce.{good_options, named_good, one_good, taken_good, three_good, two_good}

-- a command whose options suit its method
abbrev HasSuited : Command → Type 0
HasSuited (Synth file options method) = SuitsMethod method options
HasSuited (Flat file) = Unit {0}
HasSuited (Run file stim) = Unit {0}
HasSuited (Sim deck stim options clocking) = Unit {0}
HasSuited (Cosim file deck stim order seed) = Unit {0}
HasSuited (Report file options) = Unit {0}
HasSuited (Bench seed size options) = Unit {0}
HasSuited (Audit deck) = Unit {0}

keepers : (style : Style) → has_keepers style ≡ true → style ≡ WithKeeper
keepers WithKeeper e = refl
keepers WithPrecharge e = absurd (cc)

no_keepers : (style : Style) → has_keepers style ≡ false → style ≡ WithPrecharge
no_keepers WithPrecharge e = refl
no_keepers WithKeeper e = absurd (cc)

module _ (options : SynthOptions) (good : AreGoodOptions options) where
  abbrev Suited : Method → Type 0
  Suited method = SuitsMethod method options

  overlapping : (a b : Bool) → nat_lt options.phases 2 ≡ a → has_keepers options.style ≡ b → IfSome (if not a && b then Some Skew else None) Suited
  overlapping true b few has = tt
  overlapping false false few has = tt
  overlapping false true few has = (ltb-false options.phases 2 few, good.few_phases, keepers options.style has)

  without_keepers : (b : Bool) → has_keepers options.style ≡ b → IfSome (if not b then Some Compound else None) Suited
  without_keepers true has = tt
  without_keepers false has = no_keepers options.style has

  suited : (exact skew compound : Bool) (version : DeckVersion) → IfSome (method_for options exact skew compound version) Suited
  suited false false false version = tt
  suited true false false VersionOne = tt
  suited true false false VersionTwo = tt
  suited false true false VersionOne = overlapping (nat_lt options.phases 2) (has_keepers options.style) refl refl
  suited false true false VersionTwo = tt
  suited false false true VersionOne = without_keepers (has_keepers options.style) refl
  suited false false true VersionTwo = tt
  suited true true false VersionOne = tt
  suited true true false VersionTwo = tt
  suited true false true VersionOne = tt
  suited true false true VersionTwo = tt
  suited false true true VersionOne = tt
  suited false true true VersionTwo = tt
  suited true true true VersionOne = tt
  suited true true true VersionTwo = tt

  method_suits : (exact skew compound : Option Bool) (version : Option DeckVersion)
      → IfSome (option_and_then (λ e. option_and_then (λ s. option_and_then (λ c. option_and_then (method_for options e s c) version) compound) skew) exact) Suited
  method_suits None skew compound version = tt
  method_suits (Some exact) None compound version = tt
  method_suits (Some exact) (Some skew) None version = tt
  method_suits (Some exact) (Some skew) (Some compound) None = tt
  method_suits (Some exact) (Some skew) (Some compound) (Some version) = suited exact skew compound version

  named : (file : List ℕ) (m : Option Method) → IfSome m Suited → IfSome (option_map (Synth file options) m) HasSuited
  named file None h = tt
  named file (Some method) h = h

synth_suits : (words : List Written) (file : List ℕ) (o : Option SynthOptions) → IfSome o AreGoodOptions
    → IfSome (option_and_then (λ options. option_map (Synth file options) (method_of options words)) o) HasSuited
synth_suits words file None h = tt
synth_suits words file (Some options) h = named options h file (method_of options words) (method_suits options h (exact_of words) (skew_of words) (compound_of words) (version_of words))

report_suits : (file : List ℕ) (o : Option SynthOptions) → IfSome (option_map (Report file) o) HasSuited
report_suits file None = tt
report_suits file (Some options) = tt

bench_suits : (s z : Option ℕ) (o : Option SynthOptions) → IfSome (with_three Bench s z o) HasSuited
bench_suits None z o = tt
bench_suits (Some s) None o = tt
bench_suits (Some s) (Some z) None = tt
bench_suits (Some s) (Some z) (Some o) = tt

sim_suits : (deck stim : List ℕ) (o : Option TraceOptionsData) (k : Option Clocking) → IfSome (with_two (Sim deck stim) o k) HasSuited
sim_suits deck stim None k = tt
sim_suits deck stim (Some options) None = tt
sim_suits deck stim (Some options) (Some clocking) = tt

cosim_suits : (file deck stim : List ℕ) (o : Option Order) (p : Option ℕ) → IfSome (with_two (Cosim file deck stim) o p) HasSuited
cosim_suits file deck stim None p = tt
cosim_suits file deck stim (Some o) None = tt
cosim_suits file deck stim (Some o) (Some p) = tt

for_suited : (words : List (List ℕ)) → IfSome (command_for words) HasSuited
for_suited [] = tt
for_suited (name ∷ rest) =
    let words = written rest in
    let plain = plain_words words in
    named_good HasSuited words
    (taken_good HasSuited deck_option_names deck_flag_names words _ (one_good HasSuited (synth_of words) (λ file. synth_suits words file (synth_options words) (good_options words)) plain))
    (taken_good HasSuited [] [] words _ (one_good HasSuited (λ file. Some (Flat file)) (λ file. tt) plain))
    (taken_good HasSuited [] [] words _ (two_good HasSuited (λ file stim. Some (Run file stim)) (λ file stim. tt) plain))
    (taken_good HasSuited trace_option_names trace_flag_names words _
    (two_good HasSuited (λ deck stim. with_two (Sim deck stim) (trace_options words) (clocking_of words)) (λ deck stim. sim_suits deck stim (trace_options words) (clocking_of words)) plain))
    (taken_good HasSuited order_option_names [] words _
    (three_good HasSuited (λ file deck stim. with_two (Cosim file deck stim) (order_of words) (seed_of words)) (λ file deck stim. cosim_suits file deck stim (order_of words) (seed_of words)) plain))
    (taken_good HasSuited synth_option_names [] words _ (one_good HasSuited (λ file. option_map (Report file) (synth_options words)) (λ file. report_suits file (synth_options words)) plain))
    (taken_good HasSuited synth_option_names [] words _ (two_good HasSuited (bench_of words) (λ seed size. bench_suits (number_from 0 (2 ^ 64 - 1) seed) (number_from 1 30000 size) (synth_options words)) plain))
    (taken_good HasSuited [] [] words _ (one_good HasSuited (λ deck. Some (Audit deck)) (λ deck. tt) plain))
    name

-- options of synthesis that words ask for suit their method
pub asks_suited : (words : List (List ℕ)) (file : List ℕ) (options : SynthOptions) (method : Method) → Asks words (Synth file options method) → SuitsMethod method options
asks_suited words file options method asks = subst (λ o. IfSome o HasSuited) asks (for_suited words)
