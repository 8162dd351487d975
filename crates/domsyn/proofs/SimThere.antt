-- `sim` of a deck and a stimulus that are known has an outcome.
use Rattle.std.proofs.Common.{◌≡◌, ◌<◌, ◌≤◌, ◌⊎◌, inl, inr, ℕ, List, [], ◌∷◌, length, Contains, refl, ap}
use Rattle.std.specs.Prelude.{Some, if◌then◌else◌}
use Rattle.std.proofs.lemmas.List.Elements.{All-cons, All-nil}
use Rattle.dom_base.specs.Answers.{HasOneAnswer}
use Rattle.dom_base.proofs.Decided.{dec_nat}
use Rattle.dom_io.specs.Held.{file_limit}
use Rattle.deck.specs.CircuitData.{CircuitData}
use Rattle.deck.specs.DeckFaults.{IsDeckFault, IsDeckFaultAt}
use Rattle.deck.specs.DeckText.{IsDeckOf}
use Rattle.deck.specs.Roles.{AreRoles, HaveRolesOrLeave, ports_of}
use Rattle.deck.specs.declared.role.Roles.{Roles}
use Rattle.deck.proofs.PortDecisions.{roles_or_leave}
use Rattle.spice_read.proofs.OneAnswer.{one_answer as deck_answer}
use Rattle.stim_text.specs.Stimuli.{IsStimFaultAt, IsStimulusOf}
use Rattle.stim_text.proofs.OneAnswer.{one_answer as stim_answer}
use Rattle.trace_tool.specs.Refusals.{IsRefused}
use Rattle.trace_tool.specs.TraceData.{TraceOptionsData}
use Rattle.trace_tool.specs.declared.fault.TraceFault.{TraceFault}
use Rattle.trace_tool.specs.declared.fault.TraceFault.TheVariants as trace_fault
use Rattle.trace_tool.specs.declared.options.ProbeWord.{ProbeWord}
use Rattle.trace_tool.specs.Probes.{AreNets}
use Rattle.trace_tool.specs.Refusals.{IsFirstNoNet}
use Rattle.trace_tool.proofs.TraceThere.{there_by}
use Rattle.command_words.specs.Commands.{Sim}
use Rattle.port_runs.specs.declared.clocking.Clocking.{Clocking}
use Rattle.network_law.proofs.ListDecisions.{dec_contains, dec_list}
use Rattle.domsyn.specs.declared.refusal.Refusal.{Refusal}
use Rattle.domsyn.specs.declared.refusal.Refusal.TheVariants.{TooLong, Deck, Ports, NoNet, Stim}
use Rattle.domsyn.specs.Laws.{IsKnownFile}
use Rattle.domsyn.specs.Refusals.{about, refusal_of}
use Rattle.domsyn.specs.Outcomes.{Printed, Refused}
use Rattle.domsyn.proofs.KnownFiles.{Pairs, HasOne, fits_or_not}

-- the words' names are nets, or one is the first that is none
named_or_not : (nets : List (List ℕ)) (words : List ProbeWord) → AreNets nets words ⊎ ((name : List ℕ) × IsFirstNoNet nets words name)
named_or_not nets [] = inl (All-nil (λ (word : ProbeWord). Contains nets word.name))
named_or_not nets (word ∷ words) = by (dec_contains (dec_list dec_nat) nets word.name) (named_or_not nets words)
  where
    by : Contains nets word.name ⊎ (Contains nets word.name → ⊥) → AreNets nets words ⊎ ((name : List ℕ) × IsFirstNoNet nets words name)
        → AreNets nets (word ∷ words) ⊎ ((name : List ℕ) × IsFirstNoNet nets (word ∷ words) name)
    by (inl has) (inl are) = inl (All-cons (λ (word : ProbeWord). Contains nets word.name) word words has are)
    by (inl has) (inr first) = inr (
      first.0,
      record {
        before = word ∷ first.1.before;
        word = first.1.word;
        after = first.1.after;
        words_are = ap (λ (rest : List ProbeWord). word ∷ rest) first.1.words_are;
        are_nets = All-cons (λ (word : ProbeWord). Contains nets word.name) word first.1.before has first.1.are_nets;
        name_is = first.1.name_is;
        no_net = first.1.no_net;
      },
    )
    by (inr none) any = inr (
      word.name,
      record {
        before = [];
        word = word;
        after = words;
        words_are = refl;
        are_nets = All-nil (λ (word : ProbeWord). Contains nets word.name);
        name_is = refl;
        no_net = none;
      },
    )

-- the trace of a deck over a stimulus, or the cause for which one of them is refused
module _ (known : Pairs) (deck stim : List ℕ) (options : TraceOptionsData) (clocking : Clocking) (d : IsKnownFile known deck) (s : IsKnownFile known stim) where
  abbrev Traced : Type 0
  Traced = HasOne known (Sim deck stim options clocking)

  module _ (short : length d.bytes ≤ file_limit) (few : length s.bytes ≤ file_limit) where
    no_trace : (why : Refusal) (fault : TraceFault) → refusal_of fault ≡ Some why → IsRefused d.bytes s.bytes options.probes fault → Traced
    no_trace why fault cause refused = (
      Refused (about deck deck stim why) why,
      inr (record {
        deck_bytes = d.bytes;
        stim_bytes = s.bytes;
        is_deck = record { holds = d.holds; within = short };
        is_stim = record { holds = s.holds; within = few };
        faulty = record { fault = fault; refuses = refused; cause = cause; name_is = refl };
      }),
    )

    trace_of_cycles : (c : CircuitData) (roles : Roles) → IsDeckOf d.bytes c → AreRoles (ports_of c) roles → AreNets c.nets options.probes
        → HasOneAnswer (IsStimulusOf roles.pins s.bytes) (IsStimFaultAt roles.pins s.bytes) (IsStimFaultAt roles.pins s.bytes) → Traced
    trace_of_cycles c roles is are nets (inl a) =
        let trace = there_by clocking d.bytes s.bytes options c roles a.0 is are nets a.1.is_answer in (
          Printed (if trace.0.settled then 0 else 6) trace.0.text,
          record {
            deck_bytes = d.bytes;
            stim_bytes = s.bytes;
            settled = trace.0.settled;
            is_deck = record { holds = d.holds; within = short };
            is_stim = record { holds = s.holds; within = few };
            trace = trace.1;
            status_is = refl;
          },
        )
    trace_of_cycles c roles is are nets (inr r) =
        no_trace (Stim r.0 r.1) (trace_fault.Stim r.0 r.1) refl (record { circuit = c; roles = roles; is_deck = is; are_roles = are; are_nets = nets; fault = r.2.is_refused })

    trace_of_nets : (c : CircuitData) (roles : Roles) → IsDeckOf d.bytes c → AreRoles (ports_of c) roles → AreNets c.nets options.probes ⊎ ((name : List ℕ) × IsFirstNoNet c.nets options.probes name) → Traced
    trace_of_nets c roles is are (inl nets) = trace_of_cycles c roles is are nets (stim_answer roles.pins s.bytes)
    trace_of_nets c roles is are (inr none) = no_trace (NoNet none.0) (trace_fault.NoNet none.0) refl (record { circuit = c; roles = roles; is_deck = is; are_roles = are; first = none.1 })

    trace_of_ports : (c : CircuitData) → IsDeckOf d.bytes c → HaveRolesOrLeave (ports_of c) → Traced
    trace_of_ports c is (inl r) = trace_of_nets c r.0 is r.1 (named_or_not c.nets options.probes)
    trace_of_ports c is (inr p) = no_trace (Ports p.0) (trace_fault.Ports p.0) refl (record { circuit = c; is_deck = is; leaves = p.1 })

    trace_of_deck : HasOneAnswer (IsDeckOf d.bytes) (IsDeckFault d.bytes) (IsDeckFaultAt d.bytes) → Traced
    trace_of_deck (inl c) = trace_of_ports c.0 c.1.is_answer (roles_or_leave (ports_of c.0))
    trace_of_deck (inr r) = no_trace (Deck r.0 r.1) (trace_fault.Deck r.0 r.1) refl r.2.is_refused

  pub sim_there : Traced
  sim_there = by (fits_or_not d.bytes file_limit) (fits_or_not s.bytes file_limit)
    where
      by : (length d.bytes ≤ file_limit) ⊎ (file_limit < length d.bytes) → (length s.bytes ≤ file_limit) ⊎ (file_limit < length s.bytes) → Traced
      by (inl short) (inl few) = trace_of_deck short few (deck_answer d.bytes)
      by (inl short) (inr long) =
          (Refused stim TooLong, inl (refl, inr (d.bytes, record { holds = d.holds; within = short }, inl (refl, record { bytes = s.bytes; holds = s.holds; long = long }))))
      by (inr long) any = (Refused deck TooLong, inl (refl, inl (refl, record { bytes = d.bytes; holds = d.holds; long = long })))
