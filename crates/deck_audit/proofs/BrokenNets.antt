-- A net at which a rule is broken is one of the circuit's.
use Rattle.std.specs.Prelude.{◌⊎◌}
use Rattle.std.proofs.Common.{ap, arith, inl, inr, length, subst, ℕ, ◌<◌, ◌∙◌, ◌≡◌}
use Rattle.dom_base.proofs.Lists.{All-at}
use Rattle.deck.specs.CircuitData.{CircuitData}
use Rattle.deck.specs.Nets.{IsCircuit, IsInRange}
use Rattle.deck.specs.Paths.{Ends}
use Rattle.deck.specs.Roles.{AreRoles, ports_of}
use Rattle.deck.specs.declared.device.Device.{Device}
use Rattle.deck.specs.declared.role.Roles.{Roles}
use Rattle.deck.proofs.DeviceNumbers.{IsCircuit-in_range, IsCircuit-ports}
use Rattle.deck.proofs.PortLayout.{ports-count}
use Rattle.switch_model.specs.Laws.{EndsAt}
use Rattle.circuit_law.specs.Exchanged.{exchange}
use Rattle.deck_audit.specs.Audits.{Breaks, BrokenNetsAreNets, bridge, front, latch, leaf, loop, output, tree, use_of}
use Rattle.deck_audit.specs.Rules.{IsSinkNet}
use Rattle.deck_audit.specs.Words.{IsDynamic, StandsAt, group_cards}
use Rattle.deck_audit.proofs.RuleFacts.{all_at, twin_gate}

module _ (c : CircuitData) (roles : Roles) (is : IsCircuit c.ports c.nets c.devices) (are : AreRoles (ports_of c) roles) where
  in_range : (p : ℕ) (d : Device) → StandsAt c.devices p d → IsInRange (length c.nets) d
  in_range p d at = All-at (IsInRange (length c.nets)) c.devices p d (IsCircuit-in_range c.ports c.nets c.devices is) at

  at_end : (p : ℕ) (d : Device) (n : ℕ) → StandsAt c.devices p d → EndsAt d n → n < length c.nets
  at_end p d n at (inl e) = subst (λ m. m < length c.nets) e (in_range p d at).drain
  at_end p d n at (inr e) = subst (λ m. m < length c.nets) e (in_range p d at).source

  one_end : (d : Device) (a b : ℕ) → Ends d a b → EndsAt d a
  one_end d a b (inl e) = inl e.0
  one_end d a b (inr e) = inr e.0

  dynamic_net : (n : ℕ) → IsDynamic c.devices roles n → n < length c.nets
  dynamic_net n (free, p, d, at, inl keep) = at_end p d n at keep.1
  dynamic_net n (free, p, d, at, inr up) = at_end p d n at (one_end d n 0 up.2)

  sink_net : (n : ℕ) → IsSinkNet c.devices roles n → n < length c.nets
  sink_net n (inl (g, places, group, same)) =
      let card = (all_at c.devices places (group_cards roles g) group.cards).1.0 in
      let gate = twin_gate card.device _ card.twin in
      subst (λ m. m < length c.nets) (gate ∙ same) (in_range card.place card.device card.there).gate
  sink_net n (inr port) = omega (arith, port.1, ports-count c roles is are, IsCircuit-ports c.ports c.nets c.devices is)

  broken_net : (rule n : ℕ) → Breaks c.devices roles (length c.nets) rule n → n < length c.nets
  broken_net rule n (front d away) = dynamic_net n d
  broken_net rule n (output clock out d f away) = dynamic_net n d
  broken_net rule n (tree clock out d f away) = dynamic_net n d
  broken_net rule n (latch at away) = at_end at.1 at.2 n at.3 at.4
  broken_net rule n (use_of (inl loose) away) = loose.in_range
  broken_net rule n (use_of (inr sink) away) = sink_net n sink
  broken_net rule n (bridge p d at two) = (in_range p d at).drain
  broken_net rule n (leaf p d x at t away) = dynamic_net n x
  broken_net rule n (loop x d) = dynamic_net n x

pub broken_nets_are_nets : BrokenNetsAreNets
broken_nets_are_nets c roles is are rule net breaks = broken_net c roles is are rule net breaks
