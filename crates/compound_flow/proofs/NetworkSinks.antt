-- The sinks of a network: its outputs, by the escapes of their names, and the data of its latches.
use Rattle.std.specs.Prelude.{codes}
use Rattle.std.specs.List.{range_with_len}
use Rattle.std.proofs.Common.{ℕ, ◌<◌, ◌^◌, [], ◌++◌, All, arith, inl, inr, length, map, refl}
use Rattle.std.proofs.lemmas.List.Elements.{All-append, All-from_recursion, All-map, All-weaker}
use Rattle.std.proofs.lemmas.Option.{slice_get-get_or}
use Rattle.dom_base.proofs.Lists.{All-at, AllByRecursion-map, AllByRecursion-weaker}
use Rattle.deck.specs.Escapes.{escaped}
use Rattle.network.specs.NetworkData.{NetworkData}
use Rattle.network.specs.Networks.{IsNetwork}
use Rattle.deck_form.specs.DeckNets.{data_net}
use Rattle.deck_form.specs.DominoDecks.{outs_of, signal_name}
use Rattle.synth_flow.specs.MadeCircuits.{sinks_of}
use Rattle.synth_flow.proofs.PortNets.{range_low}
use Rattle.compound_law.specs.Laws.{AreByteNames}
use Rattle.compound_flow.specs.MadeSinks.{IsSinkName}

module _ (network : NetworkData) (is : IsNetwork network) (bytes : AreByteNames network.names) where
  out_is_sink : (signal : ℕ) → signal < length network.names → IsSinkName (codes "o_" ++ escaped (signal_name network signal))
  out_is_sink signal low =
      inl (signal_name network signal, All-at (λ name. All (λ b. b < 256) name) network.names signal (signal_name network signal) bytes (slice_get-get_or network.names signal [] low), refl)

  outs_are : All IsSinkName (outs_of network)
  outs_are =
      All-map IsSinkName (λ signal. codes "o_" ++ escaped (signal_name network signal)) network.outputs
      (All-weaker (λ signal. signal < length network.names) (λ signal. IsSinkName (codes "o_" ++ escaped (signal_name network signal))) out_is_sink network.outputs is.outputs)

  pub sinks_are : All IsSinkName (sinks_of network)
  sinks_are =
      let latches = range_with_len 0 (length network.latches) in
      All-append IsSinkName (outs_of network) (map data_net latches) outs_are
      (All-from_recursion IsSinkName (map data_net latches)
      (AllByRecursion-map IsSinkName data_net latches
      (AllByRecursion-weaker (λ j. j < 2 ^ 64) (λ j. IsSinkName (data_net j)) (λ j low. inr (j, low, refl)) latches
      (range_low 0 (length network.latches) (2 ^ 64) (omega (arith, is.few_sinks))))))
