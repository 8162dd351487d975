-- Behind cells, complements and latches there is room for the static gates of the sinks.
use Rattle.std.proofs.Common.{◌≡◌, ℕ, false, List, [], ◌++◌, All, ap, arith, inl, inr, nat_eq, refl, subst, sym}
use Rattle.std.specs.Prelude.{codes}
use Rattle.std.specs.List.{AllByRecursion, IsDistinct, starts_with}
use Rattle.std.specs.Cmp.Lexicographic.{pointwise}
use Rattle.std.proofs.lemmas.List.Elements.{All-weaker}
use Rattle.deck.specs.CircuitData.{CircuitData}
use Rattle.deck.specs.Escapes.{escaped}
use Rattle.deck.specs.NamedDevices.{NamedDevice, with_devices}
use Rattle.deck.specs.Nets.{IsCircuit, net_number}
use Rattle.deck.specs.Ports.{IsOutput, IsPin}
use Rattle.deck.specs.Pushes.{new_circuit}
use Rattle.deck.specs.Sources.{is_source}
use Rattle.deck.specs.declared.phase.Phase.{Phase}
use Rattle.domino_cell.specs.PushedNames.{IsUndriven}
use Rattle.domino_cell.proofs.AppendedNets.{port_below}
use Rattle.compound_cell.proofs.UndrivenNets.{stays_undriven}
use Rattle.deck_form.specs.DeckNets.{data_net}
use Rattle.synth_flow.proofs.BareDecks.{is_port}
use Rattle.synth_flow.proofs.DeckRooms.{HasEnds, ends_apart, new_no_source, output_no_source}
use Rattle.synth_flow.proofs.DeckStages.{IsNoData, IsNoSink, data_ports}
use Rattle.compound_flow.specs.MadeSinks.{HasRoomForSinks, IsGateNet, IsSinkName}
use Rattle.compound_flow.proofs.SinkNets.{data_letter, of_net, out_letter}

-- a net of the static gate of an output begins as the output does
out_begins : (name x : List ℕ) → IsGateNet (codes "o_" ++ escaped name) x → IsOutput x
out_begins name x (inl e) = ap (λ y. starts_with nat_eq y (codes "o_")) e
out_begins name x (inr (inl (j, e))) = ap (λ y. starts_with nat_eq y (codes "o_")) e
out_begins name x (inr (inr (j, e))) = ap (λ y. starts_with nat_eq y (codes "o_")) e

module _ (name : List ℕ) (phases : List Phase) (clocks : ℕ) (pins outs : List (List ℕ)) (bare_is : IsCircuit (new_circuit name phases clocks pins outs).ports (new_circuit name phases clocks pins outs).nets [])
    (pins_are : AllByRecursion IsPin pins) (outs_are : AllByRecursion IsOutput outs) where
  abbrev bare : CircuitData
  bare = new_circuit name phases clocks pins outs

  no_source : (net : List ℕ) → IsSinkName net → (x : List ℕ) → IsGateNet net x → is_source bare (net_number bare.nets x) ≡ false
  no_source net (inl (m, low, is)) x of = output_no_source bare x (omega arith) (out_begins m x (of_net net (codes "o_" ++ escaped m) x is of))
  no_source net (inr (j, small, is)) x of =
      new_no_source bare IsNoData x (omega arith) (λ none. none (data_letter j x (of_net net (data_net j) x is of))) (data_ports name phases clocks pins outs bare_is pins_are outs_are)

  is_no_sink : (net : List ℕ) → IsSinkName net → (x : List ℕ) → IsGateNet net x → IsNoSink x → ⊥
  is_no_sink net (inl (m, low, is)) x of none = none.1 (out_letter m x (of_net net (codes "o_" ++ escaped m) x is of))
  is_no_sink net (inr (j, small, is)) x of none = none.0 (data_letter j x (of_net net (data_net j) x is of))

  undriven : (cards : List (NamedDevice (List ℕ))) → AllByRecursion (HasEnds IsNoSink) cards → (net : List ℕ) → IsSinkName net → (x : List ℕ) → IsGateNet net x
      → IsUndriven (with_devices bare cards) x
  undriven cards ends net is x of =
      stays_undriven bare cards bare_is x (no_source net is x of, λ d has. absurd (omega (arith, has.1))) (ends_apart IsNoSink x (is_no_sink net is x of) cards ends)

  pub room_for_gates : (cards : List (NamedDevice (List ℕ))) → AllByRecursion (HasEnds IsNoSink) cards → (sinks : List (List ℕ)) → All IsSinkName sinks → IsDistinct (pointwise nat_eq) sinks
      → (e : CircuitData) → e ≡ with_devices bare cards → IsCircuit e.ports e.nets e.devices → HasRoomForSinks e sinks
  room_for_gates cards ends sinks are apart e is whole =
      subst (λ (c : CircuitData). HasRoomForSinks c sinks) (sym is) record {
        whole = subst (λ (c : CircuitData). IsCircuit c.ports c.nets c.devices) is whole;
        vdd = port_below bare cards bare_is (codes "vdd") (is_port name phases clocks pins outs 0 (codes "vdd") refl);
        vss = port_below bare cards bare_is (codes "vss") (is_port name phases clocks pins outs 1 (codes "vss") refl);
        nets_are = are;
        undriven = All-weaker IsSinkName (λ net. (x : List ℕ) → IsGateNet net x → IsUndriven (with_devices bare cards) x) (λ net one x of. undriven cards ends net one x of) sinks are;
        apart = apart;
      }
