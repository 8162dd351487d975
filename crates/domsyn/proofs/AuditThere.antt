-- `audit` of a deck that is known has an outcome, where the audit of its circuit has an answer.
use Rattle.std.proofs.Common.{◌≡◌, ◌<◌, ◌≤◌, ◌⊎◌, inl, inr, ℕ, List, length, refl}
use Rattle.std.specs.Prelude.{Some, if◌then◌else◌}
use Rattle.dom_base.specs.Answers.{HasOneAnswer}
use Rattle.dom_io.specs.Held.{file_limit}
use Rattle.command_words.specs.Commands.{Audit}
use Rattle.deck.specs.CircuitData.{CircuitData}
use Rattle.deck.specs.DeckFaults.{IsDeckFault, IsDeckFaultAt}
use Rattle.deck.specs.DeckText.{IsDeckOf}
use Rattle.deck.specs.Roles.{HaveRolesOrLeave, ports_of}
use Rattle.deck.proofs.PortDecisions.{roles_or_leave}
use Rattle.spice_read.proofs.OneAnswer.{one_answer as deck_answer}
use Rattle.trace_tool.specs.declared.fault.TraceFault.{TraceFault}
use Rattle.trace_tool.specs.declared.fault.TraceFault.TheVariants as trace_fault
use Rattle.domsyn.specs.declared.refusal.Refusal.{Refusal}
use Rattle.domsyn.specs.declared.refusal.Refusal.TheVariants.{TooLong, Deck, Ports}
use Rattle.command_answers.specs.Audits.{IsUnaudited, audit_line, is_yes}
use Rattle.domsyn.specs.Laws.{HasAnswer, IsKnownFile}
use Rattle.domsyn.specs.Refusals.{about, refusal_of}
use Rattle.domsyn.specs.Outcomes.{Printed, Refused}
use Rattle.domsyn.proofs.KnownFiles.{Pairs, HasOne, fits_or_not}

module _ (known : Pairs) (deck : List ℕ) (d : IsKnownFile known deck) (answered : HasAnswer known (Audit deck)) where
  abbrev Audited : Type 0
  Audited = HasOne known (Audit deck)

  module _ (short : length d.bytes ≤ file_limit) where
    no_audit : (why : Refusal) (fault : TraceFault) → refusal_of fault ≡ Some why → IsUnaudited d.bytes fault → Audited
    no_audit why fault cause refused = (
      Refused (about deck deck deck why) why,
      inr (record {
        bytes = d.bytes;
        is_file = record { holds = d.holds; within = short };
        faulty = record { fault = fault; refuses = refused; cause = cause; name_is = refl };
      }),
    )

    audit_of_ports : (c : CircuitData) → IsDeckOf d.bytes c → HaveRolesOrLeave (ports_of c) → Audited
    audit_of_ports c is (inl r) =
        let a = answered d.bytes c r.0 d.holds is r.1 in (
          Printed (if is_yes a.0 then 0 else 6) (audit_line c.nets a.0),
          record {
            bytes = d.bytes;
            is_file = record { holds = d.holds; within = short };
            circuit = c;
            answer = a.0;
            is_audit = record { is_deck = is; roles = r.0; are_roles = r.1; is_audit = a.1 };
            text_is = refl;
            status_is = refl;
          },
        )
    audit_of_ports c is (inr p) = no_audit (Ports p.0) (trace_fault.Ports p.0) refl (record { circuit = c; is_deck = is; leaves = p.1 })

    audit_of_deck : HasOneAnswer (IsDeckOf d.bytes) (IsDeckFault d.bytes) (IsDeckFaultAt d.bytes) → Audited
    audit_of_deck (inl c) = audit_of_ports c.0 c.1.is_answer (roles_or_leave (ports_of c.0))
    audit_of_deck (inr r) = no_audit (Deck r.0 r.1) (trace_fault.Deck r.0 r.1) refl r.2.is_refused

  pub audit_there : Audited
  audit_there = by (fits_or_not d.bytes file_limit)
    where
      by : (length d.bytes ≤ file_limit) ⊎ (file_limit < length d.bytes) → Audited
      by (inl short) = audit_of_deck short (deck_answer d.bytes)
      by (inr long) = (Refused deck TooLong, inl (refl, inl (refl, record { bytes = d.bytes; holds = d.holds; long = long })))
