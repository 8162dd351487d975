-- What holds of the circuit of a deck.
use Rattle.std.proofs.Common.{ℕ, [], length, take, List, refl, ap, sym, ◌∙◌, subst, arith, All}
use Rattle.std.proofs.lemmas.List.{take_at}
use Rattle.std.proofs.lemmas.List.Elements.{All-head, All-tail}
use Rattle.deck.specs.CircuitData.{CircuitData}
use Rattle.deck.specs.DeckText.{deck_phases, bare_circuit, HasNoEquals, IsDeckOf, IsGoodCircuit}
use Rattle.deck.specs.NamedDevices.{NamedDevice, with_devices}
use Rattle.deck.specs.Nets.{IsCircuit}
use Rattle.deck.specs.Subckts.{expansion, expansions}
use Rattle.deck.proofs.CircuitGrowth.{with_devices-grew}
use Rattle.deck.proofs.Counts.{size_counts}
use Rattle.deck.proofs.DeviceNumbers.{IsCircuit-with_devices}

module _ (text : List ℕ) (c : CircuitData) (h : IsDeckOf text c) where
  -- the circuit without devices
  abbrev pub bare_deck : CircuitData
  bare_deck = bare_circuit h.last.name (deck_phases text) h.last.ports

  -- all its devices, those of calls too
  abbrev pub deck_devices : List (NamedDevice (List ℕ))
  deck_devices = (expansion (expansions h.above) h.last).devices

  -- the circuit of a deck meets what holds of every circuit
  pub IsDeckOf-circuit : IsCircuit c.ports c.nets c.devices
  IsDeckOf-circuit =
      let P : CircuitData → Type 0 = λ e. IsCircuit e.ports e.nets e.devices in
      let over = h.sound.0 in
      let start : IsCircuit (length h.last.ports) h.last.ports [] = record { few_ports = over.few_ports; few_devices = omega arith; distinct = over.ports_differ; in_order = tt; all_used = refl } in
      subst P (sym h.circuit_is) (IsCircuit-with_devices bare_deck deck_devices start (omega (arith, over.few_devices, size_counts h.above h.last)))

  -- the name and the ports of a deck's circuit have no byte `=`
  pub IsDeckOf-good : IsGoodCircuit c
  IsDeckOf-good =
      let grew = with_devices-grew bare_deck deck_devices in
      let all = (h.sound.0).no_equals in
      subst IsGoodCircuit (sym h.circuit_is) (record {
        name_good = subst HasNoEquals (sym grew.name) (All-head HasNoEquals h.last.name h.last.ports all);
        ports_good = subst (All HasNoEquals) (sym (ap (λ (n : ℕ). take n (with_devices bare_deck deck_devices).nets) grew.ports ∙ ap (take (length h.last.ports)) grew.nets ∙ take_at h.last.ports grew.more_nets (length h.last.ports) refl))
            (All-tail HasNoEquals h.last.name h.last.ports all);
      })
