-- Words ask for one command, and its options of synthesis are within the ranges of their values.
use Rattle.std.proofs.Common.{◌≡◌, ℕ, ◌-◌, ◌^◌, ◌≤◌, Bool, true, false, List, [], ◌∷◌, Option, Some, None, refl, sym, ap, ◌∙◌, subst, arith}
use Rattle.std.specs.Prelude.{IfSome, codes, if◌then◌else◌}
use Rattle.std.specs.List.{list_all}
use Rattle.std.specs.Option.{option_and_then, option_map}
use Rattle.std.specs.Cmp.Lexicographic.{bytes_decides}
use Rattle.deck_form.specs.declared.options.SynthOptions.{SynthOptions}
use Rattle.trace_tool.specs.TraceData.{TraceOptionsData}
use Rattle.port_runs.specs.declared.clocking.Clocking.{Clocking}
use Rattle.trace_tool.specs.declared.options.Order.{Order}
use Rattle.domino_cell.specs.declared.style.Style.{Style}
use Rattle.command_words.specs.Commands.{Asks, Audit, Bench, Command, Cosim, Flat, HasGoodOptions, Report, Run, Sim, Synth, audit_in, bench_in, bench_of, command_for, command_named, cosim_in, flat_in, report_in, run_in, sim_in, synth_in, synth_of, taken}
use Rattle.command_words.specs.Given.{given, of_one, of_three, of_two, with_four, with_three, with_two}
use Rattle.command_words.specs.NumberWords.{number_from}
use Rattle.command_words.specs.SynthOptionWords.{AreGoodOptions, height_of, method_of, phases_of, style_of, deck_flag_names, deck_option_names, synth_option_names, synth_options, synth_options_with, width_of}
use Rattle.command_words.specs.TraceOptionWords.{clocking_of, order_of, order_option_names, seed_of, trace_flag_names, trace_option_names, trace_options}
use Rattle.command_words.specs.declared.command.Method.{Method}
use Rattle.command_words.specs.Written.{Written, is_same, plain_words, takes, values_of, written}
use Rattle.command_words.proofs.NumberWords.{number_range}
use Rattle.dom_base.proofs.Bools.{not_true}
use Rattle.dom_base.proofs.Options.{some≢none}

some_same : {X : Type 0} (x y : X) → Some x ≡ Some y → x ≡ y
some_same x y e = cc

-- words ask for one command
pub asks_one : (words : List (List ℕ)) (a b : Command) → Asks words a → Asks words b → a ≡ b
asks_one words a b h k = some_same a b (sym h ∙ k)

-- a number that an option gives is within its range, where its default is
given_range : (low high default : ℕ) → low ≤ default → default ≤ high → (values : List (List ℕ))
    → IfSome (given (number_from low high) default values) (λ n. (low ≤ n) × (n ≤ high))
given_range low high default least most [] = (least, most)
given_range low high default least most (value ∷ []) = number_range low high value
given_range low high default least most (value ∷ another ∷ values) = tt

pub given_most : (low high default : ℕ) → low ≤ default → default ≤ high → (values : List (List ℕ)) (n : ℕ)
    → given (number_from low high) default values ≡ Some n → n ≤ high
given_most low high default least most values n is =
    (subst (λ o. IfSome o (λ m. (low ≤ m) × (m ≤ high))) is (given_range low high default least most values)).1

all_good : (w h p : Option ℕ) (s : Option Style) → IfSome w (λ n. (2 ≤ n) × (n ≤ 8)) → IfSome h (λ n. (2 ≤ n) × (n ≤ 6)) → IfSome p (λ n. (1 ≤ n) × (n ≤ 4))
    → IfSome (with_four synth_options_with w h p s) AreGoodOptions
all_good None h p s a b c = tt
all_good (Some w) None p s a b c = tt
all_good (Some w) (Some h) None s a b c = tt
all_good (Some w) (Some h) (Some p) None a b c = tt
all_good (Some w) (Some h) (Some p) (Some s) a b c = record { some_width = a.0; few_wide = a.1; some_height = b.0; few_high = b.1; some_phase = c.0; few_phases = c.1 }

pub good_options : (words : List Written) → IfSome (synth_options words) AreGoodOptions
good_options words = all_good (width_of words) (height_of words) (phases_of words) (style_of words)
    (given_range 2 8 4 (omega arith) (omega arith) (values_of (codes "--width") words))
    (given_range 2 6 4 (omega arith) (omega arith) (values_of (codes "--height") words))
    (given_range 1 4 1 (omega arith) (omega arith) (values_of (codes "--phases") words))

-- what holds of the commands that are found, whichever is taken
module _ (Good : Command → Type 0) where
  pub either_good : (t : Bool) (a b : Option Command) → IfSome a Good → IfSome b Good → IfSome (if t then a else b) Good
  either_good true a b h k = h
  either_good false a b h k = k

  pub one_good : (f : List ℕ → Option Command) → ((a : List ℕ) → IfSome (f a) Good) → (all : List (List ℕ)) → IfSome (of_one f all) Good
  one_good f good [] = tt
  one_good f good (a ∷ []) = good a
  one_good f good (a ∷ b ∷ all) = tt

  pub two_good : (f : List ℕ → List ℕ → Option Command) → ((a b : List ℕ) → IfSome (f a b) Good) → (all : List (List ℕ)) → IfSome (of_two f all) Good
  two_good f good [] = tt
  two_good f good (a ∷ all) = one_good (f a) (good a) all

  pub three_good : (f : List ℕ → List ℕ → List ℕ → Option Command) → ((a b c : List ℕ) → IfSome (f a b c) Good) → (all : List (List ℕ)) → IfSome (of_three f all) Good
  three_good f good [] = tt
  three_good f good (a ∷ all) = two_good (f a) (good a) all

  pub taken_good : (valued flags : List (List ℕ)) (words : List Written) (command : Option Command) → IfSome command Good → IfSome (taken valued flags words command) Good
  taken_good valued flags words command h = either_good (list_all (takes valued flags) words) command None h tt

  -- of the command of a name, where it does of each
  pub named_good : (words : List Written) → IfSome (synth_in words) Good → IfSome (flat_in words) Good → IfSome (run_in words) Good → IfSome (sim_in words) Good
      → IfSome (cosim_in words) Good → IfSome (report_in words) Good → IfSome (bench_in words) Good → IfSome (audit_in words) Good → (name : List ℕ)
      → IfSome (command_named name words) Good
  named_good words synth flat run sim cosim report bench audit name =
      let audits : IfSome (if is_same name (codes "audit") then audit_in words else None) Good =
      either_good (is_same name (codes "audit")) (audit_in words) None audit tt in
      let benches =
      either_good (is_same name (codes "bench")) (bench_in words) (if is_same name (codes "audit") then audit_in words else None) bench audits in
      let reports = either_good (is_same name (codes "report")) (report_in words) _ report benches in
      let cosims = either_good (is_same name (codes "cosim")) (cosim_in words) _ cosim reports in
      let sims = either_good (is_same name (codes "sim")) (sim_in words) _ sim cosims in
      let runs = either_good (is_same name (codes "run")) (run_in words) _ run sims in
      let flats = either_good (is_same name (codes "flat")) (flat_in words) _ flat runs in
      either_good (is_same name (codes "synth")) (synth_in words) _ synth flats

method_good : (file : List ℕ) (options : SynthOptions) (m : Option Method) → AreGoodOptions options → IfSome (option_map (Synth file options) m) HasGoodOptions
method_good file options None h = tt
method_good file options (Some method) h = h

synth_good : (file : List ℕ) (method : SynthOptions → Option Method) (o : Option SynthOptions) → IfSome o AreGoodOptions
    → IfSome (option_and_then (λ options. option_map (Synth file options) (method options)) o) HasGoodOptions
synth_good file method None h = tt
synth_good file method (Some options) h = method_good file options (method options) h

report_good : (file : List ℕ) (o : Option SynthOptions) → IfSome o AreGoodOptions → IfSome (option_map (Report file) o) HasGoodOptions
report_good file None h = tt
report_good file (Some options) h = h

numbers_good : (s z : Option ℕ) (o : Option SynthOptions) → IfSome z (λ n. (1 ≤ n) × (n ≤ 30000)) → IfSome o AreGoodOptions
    → IfSome (with_three Bench s z o) HasGoodOptions
numbers_good None z o h k = tt
numbers_good (Some s) None o h k = tt
numbers_good (Some s) (Some z) None h k = tt
numbers_good (Some s) (Some z) (Some o) h k = (k, record { some = h.0; few = h.1 })

bench_good : (words : List Written) (seed size : List ℕ) → IfSome (bench_of words seed size) HasGoodOptions
bench_good words seed size =
    numbers_good (number_from 0 (2 ^ 64 - 1) seed) (number_from 1 30000 size) (synth_options words) (number_range 1 30000 size) (good_options words)

sim_good : (deck stim : List ℕ) (o : Option TraceOptionsData) (k : Option Clocking) → IfSome (with_two (Sim deck stim) o k) HasGoodOptions
sim_good deck stim None k = tt
sim_good deck stim (Some options) None = tt
sim_good deck stim (Some options) (Some clocking) = tt

cosim_good : (file deck stim : List ℕ) (o : Option Order) (p : Option ℕ) → IfSome (with_two (Cosim file deck stim) o p) HasGoodOptions
cosim_good file deck stim None p = tt
cosim_good file deck stim (Some o) None = tt
cosim_good file deck stim (Some o) (Some p) = tt

synth_in_good : (words : List Written) → IfSome (synth_in words) HasGoodOptions
synth_in_good words = taken_good HasGoodOptions deck_option_names deck_flag_names words (of_one (synth_of words) (plain_words words))
    (one_good HasGoodOptions (synth_of words) (λ file. synth_good file (λ options. method_of options words) (synth_options words) (good_options words)) (plain_words words))

flat_in_good : (words : List Written) → IfSome (flat_in words) HasGoodOptions
flat_in_good words = taken_good HasGoodOptions [] [] words (of_one (λ file. Some (Flat file)) (plain_words words))
    (one_good HasGoodOptions (λ file. Some (Flat file)) (λ file. tt) (plain_words words))

run_in_good : (words : List Written) → IfSome (run_in words) HasGoodOptions
run_in_good words = taken_good HasGoodOptions [] [] words (of_two (λ file stim. Some (Run file stim)) (plain_words words))
    (two_good HasGoodOptions (λ file stim. Some (Run file stim)) (λ file stim. tt) (plain_words words))

sim_in_good : (words : List Written) → IfSome (sim_in words) HasGoodOptions
sim_in_good words = taken_good HasGoodOptions trace_option_names trace_flag_names words (of_two (λ deck stim. with_two (Sim deck stim) (trace_options words) (clocking_of words)) (plain_words words))
    (two_good HasGoodOptions (λ deck stim. with_two (Sim deck stim) (trace_options words) (clocking_of words)) (λ deck stim. sim_good deck stim (trace_options words) (clocking_of words)) (plain_words words))

cosim_in_good : (words : List Written) → IfSome (cosim_in words) HasGoodOptions
cosim_in_good words =
    taken_good HasGoodOptions order_option_names [] words (of_three (λ file deck stim. with_two (Cosim file deck stim) (order_of words) (seed_of words)) (plain_words words))
    (three_good HasGoodOptions (λ file deck stim. with_two (Cosim file deck stim) (order_of words) (seed_of words))
    (λ file deck stim. cosim_good file deck stim (order_of words) (seed_of words)) (plain_words words))

report_in_good : (words : List Written) → IfSome (report_in words) HasGoodOptions
report_in_good words = taken_good HasGoodOptions synth_option_names [] words (of_one (λ file. option_map (Report file) (synth_options words)) (plain_words words))
    (one_good HasGoodOptions (λ file. option_map (Report file) (synth_options words)) (λ file. report_good file (synth_options words) (good_options words)) (plain_words words))

bench_in_good : (words : List Written) → IfSome (bench_in words) HasGoodOptions
bench_in_good words = taken_good HasGoodOptions synth_option_names [] words (of_two (bench_of words) (plain_words words))
    (two_good HasGoodOptions (bench_of words) (bench_good words) (plain_words words))

audit_in_good : (words : List Written) → IfSome (audit_in words) HasGoodOptions
audit_in_good words = taken_good HasGoodOptions [] [] words (of_one (λ deck. Some (Audit deck)) (plain_words words))
    (one_good HasGoodOptions (λ deck. Some (Audit deck)) (λ deck. tt) (plain_words words))

for_good : (words : List (List ℕ)) → IfSome (command_for words) HasGoodOptions
for_good [] = tt
for_good (name ∷ words) =
    let all = written words in
    named_good HasGoodOptions all (synth_in_good all) (flat_in_good all) (run_in_good all) (sim_in_good all) (cosim_in_good all) (report_in_good all) (bench_in_good all)
    (audit_in_good all) name

-- options of synthesis that words ask for are within the ranges of their values
pub asks_in_range : (words : List (List ℕ)) (command : Command) → Asks words command → HasGoodOptions command
asks_in_range words command asks = subst (λ o. IfSome o HasGoodOptions) asks (for_good words)

not_same : (name other : List ℕ) → (name ≡ other → ⊥) → is_same name other ≡ false
not_same name other apart = not_true (is_same name other) (λ e. apart ((bytes_decides name other).0 e))

-- words that begin with another name ask for no command
pub unknown : (words : List (List ℕ)) (name : List ℕ) (rest : List (List ℕ)) → words ≡ name ∷ rest
    → (name ≡ codes "synth" → ⊥) → (name ≡ codes "flat" → ⊥) → (name ≡ codes "run" → ⊥) → (name ≡ codes "sim" → ⊥) → (name ≡ codes "cosim" → ⊥)
    → (name ≡ codes "report" → ⊥) → (name ≡ codes "bench" → ⊥) → (name ≡ codes "audit" → ⊥) → (command : Command) → Asks words command → ⊥
unknown words name rest are synth flat run sim cosim report bench audit command asks =
    let no_command : command_named name (written rest) ≡ None =
    rw (not_same name (codes "synth") synth) (rw (not_same name (codes "flat") flat) (rw (not_same name (codes "run") run)
    (rw (not_same name (codes "sim") sim) (rw (not_same name (codes "cosim") cosim)
    (rw (not_same name (codes "report") report) (rw (not_same name (codes "bench") bench) (rw (not_same name (codes "audit") audit) refl))))))) in
    some≢none command (sym asks ∙ ap command_for are ∙ no_command)
