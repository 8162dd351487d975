-- The audit of a deck says one thing, or the deck is refused for one cause.
use Rattle.std.proofs.Common.{◌≡◌, ◌≢◌, ◌∙◌, List, [], ℕ, ap, refl, subst, sym}
use Rattle.deck.specs.CircuitData.{CircuitData}
use Rattle.deck.specs.Nets.{net_name}
use Rattle.deck.specs.declared.role.Roles.{Roles}
use Rattle.deck.proofs.DeckUnique.{IsDeckOf-unique}
use Rattle.deck_audit.specs.Audits.{Answer, AreAlike, IsAudit, No, Yes}
use Rattle.deck_audit.proofs.Answers.{answers_are_alike}
use Rattle.port_runs.specs.declared.clocking.Clocking.TheVariants.{Together}
use Rattle.trace_tool.specs.Refusals.{IsRefused}
use Rattle.trace_tool.specs.declared.fault.TraceFault.{TraceFault}
use Rattle.trace_tool.specs.declared.fault.TraceFault.TheVariants.{Blif, Flat, Deck, Ports, NoNet, Stim, Memory}
use Rattle.trace_tool.proofs.OneAnswer.{answer_by, bad_ports_apart, no_circuit, roles_same}
use Rattle.command_answers.specs.Audits.{IsAuditOf, IsUnaudited, audit_line, is_yes, no_line, yes_line}

-- answers that are alike but for the order have one line and one status
lines_alike : (nets : List (List ℕ)) (a b : Answer) → AreAlike a b → (audit_line nets a ≡ audit_line nets b) × (is_yes a ≡ is_yes b)
lines_alike nets (Yes order cells w h) (Yes order' cells' w' h') e = ((λ i. yes_line (e.0 i) (e.1 i) (e.2 i)), refl)
lines_alike nets (Yes order cells w h) (No rule net) e = absurd e
lines_alike nets (No rule net) (Yes order cells w h) e = absurd e
lines_alike nets (No rule net) (No rule' net') e = ((λ i. no_line (e.0 i) (net_name nets (e.1 i))), refl)

module _ (deck : List ℕ) where
  pub audit_one : (c d : CircuitData) (a b : Answer) → IsAuditOf deck c a → IsAuditOf deck d b
      → (audit_line c.nets a ≡ audit_line d.nets b) × (is_yes a ≡ is_yes b)
  audit_one c d a b x y =
      let circuits = IsDeckOf-unique deck d c y.is_deck x.is_deck in
      let roles = roles_same deck d c y.roles x.roles y.is_deck x.is_deck y.are_roles x.are_roles in
      let moved : IsAudit c x.roles b =
      subst (λ (r : Roles). IsAudit c r b) roles (subst (λ (e : CircuitData). IsAudit e y.roles b) circuits y.is_audit) in
      let same = lines_alike c.nets a b (answers_are_alike c x.roles a b x.is_audit moved) in
      (same.0 ∙ ap (λ (e : CircuitData). audit_line e.nets b) (sym circuits), same.1)

  -- a deck that is refused is refused as one is that is simulated with no probes
  refused : (fault : TraceFault) → IsUnaudited deck fault → IsRefused deck [] [] fault
  refused (Blif line kind) is = is
  refused (Flat fault) is = is
  refused (Deck line kind) is = is
  refused (Ports place) is = is
  refused (NoNet name) is = absurd is
  refused (Stim line kind) is = absurd is
  refused Memory is = is

  pub unaudited_same : (a b : TraceFault) → a ≢ Memory → b ≢ Memory → IsUnaudited deck a → IsUnaudited deck b → a ≡ b
  unaudited_same a b p q x y = (answer_by Together).cause deck [] [] a b p q (refused a x) (refused b y)

  pub unaudited_apart : (circuit : CircuitData) (answer : Answer) (fault : TraceFault) → fault ≢ Memory → IsAuditOf deck circuit answer → IsUnaudited deck fault → ⊥
  unaudited_apart circuit answer (Blif line kind) p x y = y
  unaudited_apart circuit answer (Flat fault) p x y = y
  unaudited_apart circuit answer (Deck line kind) p x y = no_circuit deck line kind circuit y x.is_deck
  unaudited_apart circuit answer (Ports place) p x y = bad_ports_apart deck place circuit x.roles y x.is_deck x.are_roles
  unaudited_apart circuit answer (NoNet name) p x y = y
  unaudited_apart circuit answer (Stim line kind) p x y = y
  unaudited_apart circuit answer Memory p x y = p refl
