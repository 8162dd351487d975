-- `cosim` of a file, a deck and a stimulus that are known has an outcome.
use Rattle.std.proofs.Common.{◌≡◌, ◌<◌, ◌≤◌, ◌⊎◌, inl, inr, ℕ, List, length, refl}
use Rattle.std.specs.Prelude.{Some, if◌then◌else◌}
use Rattle.dom_base.specs.Answers.{HasOneAnswer}
use Rattle.dom_io.specs.Held.{file_limit}
use Rattle.deck.specs.CircuitData.{CircuitData}
use Rattle.deck.specs.DeckFaults.{IsDeckFault, IsDeckFaultAt}
use Rattle.deck.specs.DeckText.{IsDeckOf}
use Rattle.deck.specs.Roles.{AreRoles, HaveRolesOrLeave, ports_of}
use Rattle.deck.specs.declared.role.Roles.{Roles}
use Rattle.deck.proofs.PortDecisions.{roles_or_leave}
use Rattle.spice_read.proofs.OneAnswer.{one_answer as deck_answer}
use Rattle.stim_text.specs.Stimuli.{IsStimFaultAt, IsStimulusOf}
use Rattle.stim_text.proofs.OneAnswer.{one_answer as stim_answer}
use Rattle.trace_tool.specs.declared.fault.TraceFault.{TraceFault}
use Rattle.trace_tool.specs.declared.fault.TraceFault.TheVariants as trace_fault
use Rattle.trace_tool.specs.declared.options.Order.{Order}
use Rattle.trace_tool.specs.CosimRefusals.{HasNetworkOf, IsCosimRefused}
use Rattle.trace_tool.specs.VerdictLines.{verdict_line}
use Rattle.trace_tool.proofs.VerdictThere.{verdict_is_there}
use Rattle.command_words.specs.Commands.{Cosim}
use Rattle.network.specs.NetworkData.{NetworkData}
use Rattle.model_calls.specs.declared.fault.FlatFault.TheVariants as flat_fault
use Rattle.domsyn.specs.declared.refusal.Refusal.{Refusal}
use Rattle.domsyn.specs.declared.refusal.Refusal.TheVariants.{TooLong, Blif, Flat, TooMany, TooManySinks, Deck, Ports, NoNet, Stim}
use Rattle.domsyn.specs.Laws.{IsKnownFile}
use Rattle.domsyn.specs.Refusals.{HasNoNetworkFor, about, refusal_of}
use Rattle.domsyn.specs.Outcomes.{Printed, Refused}
use Rattle.command_answers.specs.Verdicts.{is_same_verdict}
use Rattle.domsyn.proofs.KnownFiles.{Pairs, HasOne, fits_or_not}
use Rattle.domsyn.proofs.NetworksThere.{IsNetworkCause, HasNetworkOrCause, network_there}

-- the verdict of a deck beside a file over a stimulus, or the cause for which one of them is refused
module _ (known : Pairs) (file deck stim : List ℕ) (order : Order) (seed : ℕ) (f : IsKnownFile known file) (d : IsKnownFile known deck) (s : IsKnownFile known stim) where
  abbrev Compared : Type 0
  Compared = HasOne known (Cosim file deck stim order seed)

  module _ (fits : length f.bytes ≤ file_limit) (short : length d.bytes ≤ file_limit) (few : length s.bytes ≤ file_limit) where
    no_verdict : (why : Refusal) (fault : TraceFault) → refusal_of fault ≡ Some why → IsCosimRefused f.bytes d.bytes s.bytes fault → Compared
    no_verdict why fault cause refused = (
      Refused (about file deck stim why) why,
      inr (record {
        bytes = f.bytes;
        deck_bytes = d.bytes;
        stim_bytes = s.bytes;
        is_file = record { holds = f.holds; within = fits };
        is_deck = record { holds = d.holds; within = short };
        is_stim = record { holds = s.holds; within = few };
        faulty = record { fault = fault; refuses = refused; cause = cause; name_is = refl };
      }),
    )

    module _ (n : NetworkData) (has : HasNetworkOf f.bytes n) where
      verdict_of_cycles : (c : CircuitData) (roles : Roles) → IsDeckOf d.bytes c → AreRoles (ports_of c) roles
          → HasOneAnswer (IsStimulusOf n.inputs s.bytes) (IsStimFaultAt n.inputs s.bytes) (IsStimFaultAt n.inputs s.bytes) → Compared
      verdict_of_cycles c roles is are (inl a) =
          let verdict = verdict_is_there f.bytes d.bytes s.bytes order seed n c roles a.0 has is are a.1.is_answer in (
            Printed (if is_same_verdict verdict.0 then 0 else 6) (verdict_line verdict.0),
            record {
              bytes = f.bytes;
              deck_bytes = d.bytes;
              stim_bytes = s.bytes;
              verdict = verdict.0;
              is_file = record { holds = f.holds; within = fits };
              is_deck = record { holds = d.holds; within = short };
              is_stim = record { holds = s.holds; within = few };
              is_verdict = verdict.1;
              text_is = refl;
              status_is = refl;
            },
          )
      verdict_of_cycles c roles is are (inr r) =
          no_verdict (Stim r.0 r.1) (trace_fault.Stim r.0 r.1) refl (record { network = n; has = has; circuit = c; roles = roles; is_deck = is; are_roles = are; fault = r.2.is_refused })

      verdict_of_ports : (c : CircuitData) → IsDeckOf d.bytes c → HaveRolesOrLeave (ports_of c) → Compared
      verdict_of_ports c is (inl r) = verdict_of_cycles c r.0 is r.1 (stim_answer n.inputs s.bytes)
      verdict_of_ports c is (inr p) =
          no_verdict (Ports p.0) (trace_fault.Ports p.0) refl (record { network = n; has = has; fault = record { circuit = c; is_deck = is; leaves = p.1 } })

      verdict_of_deck : HasOneAnswer (IsDeckOf d.bytes) (IsDeckFault d.bytes) (IsDeckFaultAt d.bytes) → Compared
      verdict_of_deck (inl c) = verdict_of_ports c.0 c.1.is_answer (roles_or_leave (ports_of c.0))
      verdict_of_deck (inr r) = no_verdict (Deck r.0 r.1) (trace_fault.Deck r.0 r.1) refl (record { network = n; has = has; fault = r.2.is_refused })

    no_network : (why : Refusal) → HasNoNetworkFor f.bytes why → IsNetworkCause why → Compared
    no_network TooLong is network = absurd network
    no_network (Blif line kind) is network = no_verdict (Blif line kind) (trace_fault.Blif line kind) refl is.fault
    no_network (Flat line kind name) is network =
        no_verdict (Flat line kind name) (trace_fault.Flat (flat_fault.At line kind name)) refl (record { file = is.file; accepted = is.accepted; refused = is.refused })
    no_network (TooMany limit count) is network =
        no_verdict (TooMany limit count) (trace_fault.Flat (flat_fault.TooMany limit count)) refl (record { file = is.file; accepted = is.accepted; refused = is.refused })
    no_network (TooManySinks count) is network = absurd network
    no_network (Deck line kind) is network = absurd network
    no_network (Ports place) is network = absurd network
    no_network (NoNet name) is network = absurd network
    no_network (Stim line kind) is network = absurd network

    verdict_of_file : HasNetworkOrCause f.bytes → Compared
    verdict_of_file (inl n) =
        verdict_of_deck n.0 (record { file = n.1.file; accepted = n.1.accepted; network_is = n.1.network_is }) (deck_answer d.bytes)
    verdict_of_file (inr r) = no_network r.0 r.1 r.2

  pub cosim_there : Compared
  cosim_there = by (fits_or_not f.bytes file_limit) (fits_or_not d.bytes file_limit) (fits_or_not s.bytes file_limit)
    where
      by : (length f.bytes ≤ file_limit) ⊎ (file_limit < length f.bytes) → (length d.bytes ≤ file_limit) ⊎ (file_limit < length d.bytes)
          → (length s.bytes ≤ file_limit) ⊎ (file_limit < length s.bytes) → Compared
      by (inl fits) (inl short) (inl few) = verdict_of_file fits short few (network_there f.bytes fits)
      by (inl fits) (inl short) (inr long) = (
        Refused stim TooLong,
        inl (
          refl,
          inr (
            f.bytes,
            record { holds = f.holds; within = fits },
            inr (d.bytes, record { holds = d.holds; within = short }, inl (refl, record { bytes = s.bytes; holds = s.holds; long = long })),
          ),
        ),
      )
      by (inl fits) (inr long) any = (
        Refused deck TooLong,
        inl (refl, inr (f.bytes, record { holds = f.holds; within = fits }, inl (refl, record { bytes = d.bytes; holds = d.holds; long = long }))),
      )
      by (inr long) any other = (Refused file TooLong, inl (refl, inl (refl, record { bytes = f.bytes; holds = f.holds; long = long })))
