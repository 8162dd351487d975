-- The ports and the sinks of a network's deck.
use Rattle.std.proofs.Common.{◌≡◌, ℕ, ◌+◌, ◌≤◌, ◌<◌, List, ◌++◌, length, map, refl, arith, All, nat_eq, length-append}
use Rattle.std.specs.Prelude.{codes}
use Rattle.std.specs.List.{IsDistinct, range_with_len}
use Rattle.std.specs.Cmp.Lexicographic.{pointwise}
use Rattle.std.proofs.lemmas.List.{length-map}
use Rattle.std.proofs.lemmas.List.FromFn.{length-map-range_with_len}
use Rattle.std.proofs.lemmas.List.Elements.{All-from_recursion, recursion_from_All}
use Rattle.deck.specs.CircuitData.{CircuitData}
use Rattle.deck.specs.Ports.{IsOutput, IsPin}
use Rattle.deck.specs.Pushes.{new_circuit}
use Rattle.deck.specs.declared.phase.Phase.{Phase}
use Rattle.network.specs.NetworkData.{NetworkData}
use Rattle.network.specs.Networks.{IsNetwork}
use Rattle.sp_network.specs.declared.plan.GatePlan.{GatePlan}
use Rattle.synth_flow.specs.BareDecks.{IsBareDeck}
use Rattle.deck_form.specs.DeckNets.{data_net}
use Rattle.deck_form.specs.DominoDecks.{outs_of, pins_of}
use Rattle.synth_flow.specs.MadeCircuits.{sinks_of}
use Rattle.synth_flow.specs.MadeDecks.{port_net}
use Rattle.synth_flow.proofs.PortNets.{are_outputs, are_pins, nets_apart, ports_apart}

module _ (network : NetworkData) (is : IsNetwork network) where
  pub pins_count : length (pins_of network) ≡ network.inputs
  pins_count = length-map-range_with_len (port_net (codes "i_") network.names) 0 network.inputs

  pub outs_count : length (outs_of network) ≡ length network.outputs
  outs_count = length-map network.outputs (port_net (codes "o_") network.names)

  pub sinks_count : length (sinks_of network) ≡ length network.outputs + length network.latches
  sinks_count = omega (arith, length-append (outs_of network) (map data_net (range_with_len 0 (length network.latches))), outs_count, length-map-range_with_len data_net 0 (length network.latches))

  pub few_leaves : network.inputs + length network.latches ≤ 200000
  few_leaves = omega (arith, is.count, is.few_signals)

  pub few_sinks : length network.outputs + length network.latches ≤ 8192
  few_sinks = is.few_sinks

  pub pins_begin : All IsPin (pins_of network)
  pins_begin = All-from_recursion IsPin (pins_of network) (are_pins network.names (range_with_len 0 network.inputs))

  pub outs_begin : All IsOutput (outs_of network)
  outs_begin = All-from_recursion IsOutput (outs_of network) (are_outputs network.names network.outputs)

  module _ (bytes : All (λ name. All (λ b. b < 256) name) network.names) where
    pub all_apart : IsDistinct (pointwise nat_eq) (pins_of network ++ outs_of network)
    all_apart =
        ports_apart network.names network.inputs network.outputs is.apart bytes (omega (arith, is.count))
        (recursion_from_All (λ s. s < length network.names) network.outputs is.outputs) is.outputs_apart

    pub is_bare : (c : CircuitData) (name : List ℕ) (phases : List Phase) (clocks : ℕ) (plans : List GatePlan) → c ≡ new_circuit name phases clocks (pins_of network) (outs_of network) → clocks ≤ 4
        → All (λ (p : GatePlan). (1 ≤ p.clock) × (p.clock ≤ clocks)) plans → IsBareDeck c (length network.latches) (pins_of network) (sinks_of network) plans
    is_bare c name phases clocks plans same few clocks_are = record {
      clocks = clocks;
      name = name;
      phases = phases;
      outs = outs_of network;
      circuit_is = same;
      few_clocks = few;
      pins_are = pins_begin;
      outs_are = outs_begin;
      apart = nets_apart (codes "o_") network.names is.apart bytes network.outputs (recursion_from_All (λ s. s < length network.names) network.outputs is.outputs) is.outputs_apart;
      clocks_are = clocks_are;
      sinks_are = refl;
    }
