-- A right deck of a text realises the text's network in time, and has its ports.
use Rattle.std.specs.Prelude.{slice_index_or}
use Rattle.std.specs.List.{range_with_len}
use Rattle.std.proofs.Common.{◌≡◌, ℕ, zero, suc, ◌+◌, ◌≤◌, All, List, [], ◌∷◌, ◌++◌, length, map, take, drop, refl, sym, subst, ap, ◌∙◌, arith}
use Rattle.std.proofs.lemmas.List.{drop_more, length-map, map-id}
use Rattle.std.proofs.lemmas.List.FromFn.{length-map-range_with_len}
use Rattle.dom_base.specs.declared.tri.Tri.TheVariants.{Unknown}
use Rattle.deck.specs.CircuitData.{CircuitData}
use Rattle.deck.specs.PortLayout.{first_output}
use Rattle.deck.specs.PortNames.{output_name, pin_name}
use Rattle.deck.specs.Ports.{IsPin}
use Rattle.deck.specs.Roles.{AreRoles, ports_of}
use Rattle.deck.specs.declared.role.Roles.{Roles}
use Rattle.deck.proofs.NetNames.{pins_are_pins}
use Rattle.network.specs.NetworkData.{NetworkData}
use Rattle.network.specs.Networks.{IsNetwork}
use Rattle.port_runs.specs.declared.clocking.Clocking.{Clocking}
use Rattle.port_runs.proofs.RunOrder.{runs_stand_in_order}
use Rattle.trace_tool.specs.Verdicts.{network_ports, pins_and_outputs}
use Rattle.trace_tool.proofs.NetworkTexts.{text_network_kept}
use Rattle.trace_tool.proofs.PortCounts.{are_outputs, pins_and_outputs_are}
use Rattle.trace_tool.proofs.SetupNets.{outputs_within}
use Rattle.deck_law.specs.Headline.{IsRightInEveryRun, input_ports, output_ports, roles_of}
use Rattle.deck_form.specs.DominoDecks.{signal_name}
use Rattle.verdict_law.specs.Laws.{IsRightWhere, RealisesInTime}

-- what stands in a row of a list, by its numbers
ranged : {X Y : Type 0} (f : X → Y) (d : X) (xs : List X) (a n : ℕ) → a + n ≤ length xs → map (λ k. f (slice_index_or xs k d)) (range_with_len a n) ≡ map f (take n (drop a xs))
ranged f d xs a zero le = refl
ranged f d xs a (suc n) le =
    ap (λ l. f (slice_index_or xs a d) ∷ l) (ranged f d xs (a + 1) n (omega (arith, le)))
    ∙ ap (λ l. map f (take (suc n) l)) (sym (drop_more xs a d (omega (arith, le))))

-- what is right in every run realises its network in time
pub realises : (clocking : Clocking) (network : NetworkData) (c : CircuitData) (roles : Roles) → AreRoles (ports_of c) roles
    → IsRightInEveryRun clocking network c roles → RealisesInTime clocking network c roles
realises clocking network c roles are right = record {
  few_events = (right.domino).few_events;
  reads = λ steps w run at.
      let read = right.reads steps w run at in
      let within = outputs_within c roles are in
      let whole = (runs_stand_in_order clocking c roles steps w run).whole (omega (arith, within)) in
      record {
        cycle = read.cycle;
        is_cycle = read.is_cycle;
        outputs_are =
            sym (ranged (λ x. x) Unknown w.values (first_output roles) roles.outs (omega (arith, within, whole)) ∙ map-id (take roles.outs (drop (first_output roles) w.values)))
            ∙ read.outputs;
      };
}

module _ (clocking : Clocking) (blif deck : List ℕ) (phases : ℕ) (right : IsRightWhere clocking blif phases deck) where
  abbrev network : NetworkData
  network = right.network

  abbrev circuit : CircuitData
  circuit = right.circuit

  pub is_network : IsNetwork network
  is_network = text_network_kept blif network right.has

  pins_named : map pin_name (take network.inputs network.names) ≡ input_ports network
  pins_named = sym (ranged pin_name [] network.names 0 network.inputs (omega (arith, is_network.count)))

  pub are : AreRoles (ports_of circuit) (roles_of network phases)
  are = record {
    pins = input_ports network;
    outs = output_ports network;
    in_order = record {
      some_clock = right.some_clock;
      few_clocks = right.few_clocks;
      pins_are = subst (All IsPin) pins_named (pins_are_pins (take network.inputs network.names));
      outs_are = are_outputs (signal_name network) network.outputs;
      order = right.ports;
    };
    pin_count = length-map-range_with_len (λ signal. pin_name (signal_name network signal)) 0 network.inputs;
    out_count = length-map network.outputs (λ signal. output_name (signal_name network signal));
  }

  pub ports_are : pins_and_outputs circuit (roles_of network phases) ≡ network_ports network
  unfolding are
  ports_are = pins_and_outputs_are circuit (roles_of network phases) are ∙ ap (λ l. l ++ output_ports network) (sym pins_named)
