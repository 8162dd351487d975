-- A deck of which the audit says yes is right.
use Rattle.std.proofs.Common.{◌≡◌, ◌∙◌, Bool, List, length, true, ℕ}
use Rattle.std.specs.Prelude.{Some, slice_get}
use Rattle.dom_base.proofs.Lists.{All-at}
use Rattle.deck.specs.CircuitData.{CircuitData}
use Rattle.deck.specs.Nets.{IsInRange}
use Rattle.deck.specs.declared.device.Device.{Device}
use Rattle.deck.proofs.DeckCircuits.{IsDeckOf-circuit}
use Rattle.deck.proofs.DeviceNumbers.{IsCircuit-in_range}
use Rattle.deck_audit.specs.Audits.{Answer, No, Yes}
use Rattle.deck_audit.proofs.Answers.{yes_is_deck}
use Rattle.command_answers.specs.AuditedDecks.{IsAuditedDeck}
use Rattle.command_answers.specs.Audits.{IsAuditOf, audit_line, is_yes}
use Rattle.command_answers.specs.Endings.{ending_of}
use Rattle.command_answers.specs.declared.answer.Ending.{Ending}
use Rattle.command_answers.specs.declared.answer.Ending.TheVariants.{Done}

pub audited : (deck line : List ℕ) (circuit : CircuitData) (answer : Answer) (ending : Ending) → IsAuditOf deck circuit answer → line ≡ audit_line circuit.nets answer
    → ending ≡ ending_of (is_yes answer) → ending ≡ Done → IsAuditedDeck deck line
audited deck line circuit (Yes order cells width height) ending is line_is ends done =
    let whole = IsDeckOf-circuit deck circuit is.is_deck in
    let all = IsCircuit-in_range circuit.ports circuit.nets circuit.devices whole in
    let at : (d : Device) (p : ℕ) → slice_get circuit.devices p ≡ Some d → IsInRange (length circuit.nets) d =
    λ d p e. All-at (IsInRange (length circuit.nets)) circuit.devices p d all e in
    let right = yes_is_deck circuit is.roles order cells width height (λ d p e. ((at d p e).drain, (at d p e).source)) is.is_audit in
    record {
      circuit = circuit;
      is_deck = is.is_deck;
      roles = is.roles;
      are_roles = is.are_roles;
      order = order;
      cells = cells;
      width = width;
      height = height;
      yes = is.is_audit;
      exchanged = right.0;
      right = right.1;
      line_is = line_is;
    }
audited deck line circuit (No rule net) ending is line_is ends done = absurd cc
