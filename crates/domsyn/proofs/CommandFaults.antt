-- Why a command fails, by the bytes of its files.
use Rattle.std.proofs.Common.{◌≡◌, ◌∙◌, ◌≤◌, ℕ, List, [], ◌∷◌, length, inl, inr, ap, refl, sym, subst}
use Rattle.std.specs.Prelude.{None, Some}
use Rattle.std.proofs.lemmas.Option.{same_Some}
use Rattle.dom_io.specs.Held.{file_limit}
use Rattle.command_words.specs.Commands.{Command, Synth, Flat as flat, Run as run, Sim, Cosim, Report, Bench, Audit, files_of}
use Rattle.deck_form.specs.declared.options.SynthOptions.{SynthOptions}
use Rattle.port_runs.specs.declared.clocking.Clocking.{Clocking}
use Rattle.model_calls.specs.declared.fault.FlatFault.TheVariants as flat_fault
use Rattle.trace_tool.specs.CosimRefusals.{IsCosimRefused, IsUnflattened}
use Rattle.trace_tool.specs.Refusals.{IsRefused}
use Rattle.trace_tool.specs.TraceData.{TraceOptionsData}
use Rattle.trace_tool.specs.declared.fault.TraceFault.{TraceFault}
use Rattle.trace_tool.specs.declared.fault.TraceFault.TheVariants as trace_fault
use Rattle.trace_tool.specs.declared.options.Order.{Order}
use Rattle.command_words.specs.declared.command.Method.{Method}
use Rattle.command_words.specs.declared.command.Method.TheVariants.{Compound, Exact, Plain, Skew}
use Rattle.command_answers.specs.declared.fault.Fault.{Fault}
use Rattle.command_answers.specs.declared.fault.Fault.TheVariants as any_fault
use Rattle.command_answers.specs.declared.fault.Fault.TheVariants.{Traced}
use Rattle.domsyn.specs.declared.failure.Failure.{Failure}
use Rattle.domsyn.specs.declared.failure.Failure.TheVariants as failure
use Rattle.domsyn.specs.declared.refusal.Refusal.{Refusal}
use Rattle.domsyn.specs.declared.refusal.Refusal.TheVariants.{TooLong, Blif, Flat, TooMany, TooManySinks, Deck, Ports, NoNet, Stim}
use Rattle.command_answers.specs.Audits.{IsUnaudited}
use Rattle.domsyn.specs.Failures.{AreUnfetched, IsFailureFor, IsFailureOf, IsCommandFault}
use Rattle.domsyn.specs.Outcomes.{Files, HasNone, IsFile, IsFirstTooLong, IsOutcome, Refused}
use Rattle.command_answers.specs.Networks.{IsRunRefused}
use Rattle.domsyn.proofs.DeckCauses.{without_network}
use Rattle.command_answers.specs.Methods.{IsUndecked}
use Rattle.domsyn.specs.Refusals.{HasNoNetworkFor, IsNotRunFor, about, cause_of, refusal_of}
use Rattle.domsyn.proofs.FetchedFiles.{IsLater}

-- the cause of a text without a network is one of its file
network_cause : (bytes : List ℕ) (fault : TraceFault) (why : Refusal) → length bytes ≤ file_limit → IsUnflattened bytes fault → refusal_of fault ≡ Some why → HasNoNetworkFor bytes why
network_cause bytes (trace_fault.Blif line kind) why within is e =
    subst (HasNoNetworkFor bytes) (same_Some (Blif line kind) why e) (record { within = within; fault = is })
network_cause bytes (trace_fault.Flat (flat_fault.At line kind name)) why within is e =
    subst (HasNoNetworkFor bytes) (same_Some (Flat line kind name) why e) (record { within = within; file = is.file; accepted = is.accepted; refused = is.refused })
network_cause bytes (trace_fault.Flat (flat_fault.TooMany limit count)) why within is e =
    subst (HasNoNetworkFor bytes) (same_Some (TooMany limit count) why e) (record { within = within; file = is.file; accepted = is.accepted; refused = is.refused })
network_cause bytes (trace_fault.Flat flat_fault.Memory) why within is e = absurd is.refused
network_cause bytes (trace_fault.Deck line kind) why within is e = absurd is
network_cause bytes (trace_fault.Ports place) why within is e = absurd is
network_cause bytes (trace_fault.NoNet name) why within is e = absurd is
network_cause bytes (trace_fault.Stim line kind) why within is e = absurd is
network_cause bytes trace_fault.Memory why within is e = absurd cc

-- that of a text without a run is one of its file, or of its stimulus
run_cause : (bytes stim : List ℕ) (fault : TraceFault) (why : Refusal) → length bytes ≤ file_limit → IsRunRefused bytes stim fault → refusal_of fault ≡ Some why → IsNotRunFor bytes stim why
run_cause bytes stim (trace_fault.Blif line kind) why within is e =
    subst (IsNotRunFor bytes stim) (same_Some (Blif line kind) why e) (record { within = within; fault = is })
run_cause bytes stim (trace_fault.Flat (flat_fault.At line kind name)) why within is e =
    subst (IsNotRunFor bytes stim) (same_Some (Flat line kind name) why e) (record { within = within; file = is.file; accepted = is.accepted; refused = is.refused })
run_cause bytes stim (trace_fault.Flat (flat_fault.TooMany limit count)) why within is e =
    subst (IsNotRunFor bytes stim) (same_Some (TooMany limit count) why e) (record { within = within; file = is.file; accepted = is.accepted; refused = is.refused })
run_cause bytes stim (trace_fault.Flat flat_fault.Memory) why within is e = absurd is.refused
run_cause bytes stim (trace_fault.Deck line kind) why within is e = absurd is
run_cause bytes stim (trace_fault.Ports place) why within is e = absurd is
run_cause bytes stim (trace_fault.NoNet name) why within is e = absurd is
run_cause bytes stim (trace_fault.Stim line kind) why within is e = subst (IsNotRunFor bytes stim) (same_Some (Stim line kind) why e) is
run_cause bytes stim trace_fault.Memory why within is e = absurd cc

-- each cause is about the one file that there is
about_one : (file : List ℕ) (why : Refusal) → about file file file why ≡ file
about_one file TooLong = refl
about_one file (Blif line kind) = refl
about_one file (Flat line kind name) = refl
about_one file (TooMany limit count) = refl
about_one file (TooManySinks count) = refl
about_one file (Deck line kind) = refl
about_one file (Ports place) = refl
about_one file (NoNet name) = refl
about_one file (Stim line kind) = refl

module _ (files : Files) (file bytes : List ℕ) (is_file : IsFile files file bytes) where
  -- bytes without a network
  has_none : (fault : TraceFault) (why : Refusal) → IsUnflattened bytes fault → refusal_of fault ≡ Some why → HasNone files file (about file file file why) why
  has_none fault why is e =
      record { bytes = bytes; holds = is_file.holds; refused = network_cause bytes fault why is_file.within is e; name_is = about_one file why }

  -- bytes without a deck by a method
  pub synth_fault : (options : SynthOptions) (method : Method) (fault : Fault) → IsUndecked method bytes fault → IsCommandFault files (Synth file options method) fault
  synth_fault options method (Traced fault) is = λ why e. record {
    bytes = bytes;
    holds = is_file.holds;
    refused = without_network method bytes why (network_cause bytes fault why is_file.within is e);
    name_is = about_one file why;
  }
  synth_fault options (Plain version) (any_fault.TooManySinks count) is = absurd is
  synth_fault options Exact (any_fault.TooManySinks count) is = λ why e. record {
    bytes = bytes;
    holds = is_file.holds;
    refused = inr (count, is, sym (same_Some (TooManySinks count) why e));
    name_is = about_one file why;
  }
  synth_fault options Skew (any_fault.TooManySinks count) is = absurd is
  synth_fault options Compound (any_fault.TooManySinks count) is = absurd is

  pub flat_fault_of : (fault : TraceFault) → IsUnflattened bytes fault → IsCommandFault files (flat file) (Traced fault)
  flat_fault_of fault is = λ why e. has_none fault why is e

  pub report_fault : (options : SynthOptions) (fault : TraceFault) → IsUnflattened bytes fault → IsCommandFault files (Report file options) (Traced fault)
  report_fault options fault is = λ why e. has_none fault why is e

  -- bytes and those of a stimulus without a run
  pub run_fault : (stim stim_bytes : List ℕ) (fault : TraceFault) → IsFile files stim stim_bytes → IsRunRefused bytes stim_bytes fault → IsCommandFault files (run file stim) (Traced fault)
  run_fault stim stim_bytes fault is_stim is = λ why e. inr (record {
    bytes = bytes;
    stim_bytes = stim_bytes;
    is_file = is_file;
    is_stim = is_stim;
    refused = run_cause bytes stim_bytes fault why is_file.within is e;
    name_is = refl;
  })

-- a deck that isn't audited
pub audit_fault : (files : Files) (deck bytes : List ℕ) (fault : TraceFault) → IsFile files deck bytes → IsUnaudited bytes fault → IsCommandFault files (Audit deck) (Traced fault)
audit_fault files deck bytes fault is_file is = λ why e. inr (record {
  bytes = bytes;
  is_file = is_file;
  faulty = record { fault = fault; refuses = is; cause = e; name_is = refl };
})

-- a deck and a stimulus without a trace
pub sim_fault : (files : Files) (deck stim deck_bytes stim_bytes : List ℕ) (options : TraceOptionsData) (clocking : Clocking) (fault : TraceFault) → IsFile files deck deck_bytes
    → IsFile files stim stim_bytes → IsRefused deck_bytes stim_bytes options.probes fault → IsCommandFault files (Sim deck stim options clocking) (Traced fault)
sim_fault files deck stim deck_bytes stim_bytes options clocking fault is_deck is_stim is = λ why e. inr (record {
  deck_bytes = deck_bytes;
  stim_bytes = stim_bytes;
  is_deck = is_deck;
  is_stim = is_stim;
  faulty = record { fault = fault; refuses = is; cause = e; name_is = refl };
})

-- a file, a deck and a stimulus without a verdict
pub cosim_fault : (files : Files) (file deck stim bytes deck_bytes stim_bytes : List ℕ) (order : Order) (seed : ℕ) (fault : TraceFault)
    → IsFile files file bytes → IsFile files deck deck_bytes → IsFile files stim stim_bytes → IsCosimRefused bytes deck_bytes stim_bytes fault
    → IsCommandFault files (Cosim file deck stim order seed) (Traced fault)
cosim_fault files file deck stim bytes deck_bytes stim_bytes order seed fault is_file is_deck is_stim is = λ why e. inr (record {
  bytes = bytes;
  deck_bytes = deck_bytes;
  stim_bytes = stim_bytes;
  is_file = is_file;
  is_deck = is_deck;
  is_stim = is_stim;
  faulty = record { fault = fault; refuses = is; cause = e; name_is = refl };
})

-- want of memory has no cause
no_cause : (fault : TraceFault) (why : Refusal) → fault ≡ trace_fault.Memory → refusal_of fault ≡ Some why → ⊥
no_cause fault why is e = let none : None ≡ Some why = sym (ap refusal_of is) ∙ e in absurd cc

pub bench_fault : (files : Files) (seed size : ℕ) (options : SynthOptions) (fault : TraceFault) → fault ≡ trace_fault.Memory → IsCommandFault files (Bench seed size options) (Traced fault)
bench_fault files seed size options fault is = λ why e. absurd (no_cause fault why is e)

-- what is reported of a fault of a command is why it has no text
pub fault_failed : (files : Files) (command : Command) (Rises : Type 0) (fault : Fault) (s : Failure) → IsCommandFault files command fault → IsFailureFor command fault s
    → IsFailureOf files command Rises s
fault_failed files command Rises fault (failure.Refused name why) of is = subst (λ (n : List ℕ). IsOutcome files command (Refused n why)) (sym is.1) (of why is.0)
fault_failed files command Rises fault (failure.Unread name) of is = absurd is
fault_failed files command Rises fault failure.Memory of is = tt

-- no fault is that a file is too long
never_too_long : (fault : TraceFault) → refusal_of fault ≡ Some TooLong → ⊥
never_too_long (trace_fault.Blif line kind) e = cc
never_too_long (trace_fault.Flat (flat_fault.At line kind name)) e = cc
never_too_long (trace_fault.Flat (flat_fault.TooMany limit count)) e = cc
never_too_long (trace_fault.Flat flat_fault.Memory) e = cc
never_too_long (trace_fault.Deck line kind) e = cc
never_too_long (trace_fault.Ports place) e = cc
never_too_long (trace_fault.NoNet name) e = cc
never_too_long (trace_fault.Stim line kind) e = cc
never_too_long trace_fault.Memory e = cc

any_too_long : (fault : Fault) → cause_of fault ≡ Some TooLong → ⊥
any_too_long (Traced fault) e = never_too_long fault e
any_too_long (any_fault.TooManySinks count) e = cc

pub later_fault : (command : Command) (fault : Fault) (s : Failure) → IsFailureFor command fault s → IsLater s
later_fault command fault (failure.Refused name why) is = λ e. any_too_long fault (subst (λ (why : Refusal). cause_of fault ≡ Some why) e is.0)
later_fault command fault (failure.Unread name) is = is
later_fault command fault failure.Memory is = tt

-- the one file of a command is too long
long_alone : (files : Files) (file name : List ℕ) (why : Refusal) → why ≡ TooLong → IsFirstTooLong files (file ∷ []) name → HasNone files file name why
long_alone files file name why is (inl long) =
    record { bytes = long.1.bytes; holds = long.1.holds; refused = subst (HasNoNetworkFor long.1.bytes) (sym is) long.1.long; name_is = long.0 }
long_alone files file name why is (inr more) = absurd more.2

-- not all files of a command have bytes
pub command_unfetched : (files : Files) (command : Command) (Rises : Type 0) (s : Failure) → AreUnfetched files (files_of command) Rises s → IsFailureOf files command Rises s
command_unfetched files (Synth file options method) Rises (failure.Refused name why) is =
    let none = long_alone files file name.now why is.0 is.1 in
    record { bytes = none.bytes; holds = none.holds; refused = without_network method none.bytes why none.refused; name_is = none.name_is }
command_unfetched files (flat file) Rises (failure.Refused name why) is = long_alone files file name.now why is.0 is.1
command_unfetched files (run file stim) Rises (failure.Refused name why) is = inl is
command_unfetched files (Sim deck stim options clocking) Rises (failure.Refused name why) is = inl is
command_unfetched files (Cosim file deck stim order seed) Rises (failure.Refused name why) is = inl is
command_unfetched files (Report file options) Rises (failure.Refused name why) is = long_alone files file name.now why is.0 is.1
command_unfetched files (Bench seed size options) Rises (failure.Refused name why) is = absurd is.1
command_unfetched files (Audit deck) Rises (failure.Refused name why) is = inl is
command_unfetched files command Rises (failure.Unread name) is = is
command_unfetched files command Rises failure.Memory is = tt
