-- How many ports there are, and those of a circuit whose ports are a network's.
use Rattle.std.proofs.Common.{◌≡◌, ℕ, ◌+◌, List, [], ◌∷◌, ◌++◌, All, drop, length, map, take, slice_index_or, refl, sym, ap, ◌∙◌, arith, length-drop, length-take}
use Rattle.std.proofs.lemmas.List.{drop_at, length-map}
use Rattle.std.proofs.lemmas.List.Elements.{All-cons, All-nil}
use Rattle.dom_base.specs.declared.tri.Tri.{Tri}
use Rattle.deck.specs.CircuitData.{CircuitData}
use Rattle.deck.specs.PortLayout.{first_output, first_pin}
use Rattle.deck.specs.PortNames.{output_name, pin_name}
use Rattle.deck.specs.Ports.{IsOutput, leading_ports}
use Rattle.deck.specs.Roles.{AreRoles, ports_of}
use Rattle.deck.specs.declared.role.Roles.{Roles}
use Rattle.deck.proofs.NetNames.{pins_are_pins}
use Rattle.deck.proofs.PortLayout.{groups-same, joined, length-leading}
use Rattle.network.specs.NetworkData.{NetworkData}
use Rattle.network.specs.Networks.{IsNetwork}
use Rattle.event_sim.proofs.PowerState.{joined_length}
use Rattle.trace_tool.specs.Traces.{outputs}
use Rattle.trace_tool.specs.Verdicts.{network_ports, pins_and_outputs}
use Rattle.trace_tool.proofs.SetupNets.{outputs_within}

ports_number : (l a b c p d o : ℕ) → a + (b + c) ≡ l → a ≡ d + 8 → b ≡ p → c ≡ o → l ≡ d + 8 + p + o
ports_number l a b c p d o e f g h = omega arith

pub ports_count : (c : CircuitData) (roles : Roles) → AreRoles (ports_of c) roles → length (ports_of c) ≡ first_output roles + roles.outs
ports_count c roles are =
    ports_number (length (ports_of c)) (length (leading_ports roles.clocks)) (length are.pins) (length are.outs) roles.pins roles.clocks roles.outs
    (joined_length (ports_of c) (leading_ports roles.clocks) are.pins are.outs (joined are.in_order))
    (length-leading roles.clocks are.in_order.few_clocks) are.pin_count are.out_count

-- the names of the outputs are as many as these
pub names_count : (c : CircuitData) (roles : Roles) → AreRoles (ports_of c) roles → length (drop (first_output roles) (ports_of c)) ≡ roles.outs
names_count c roles are = omega (arith, length-drop (first_output roles) (ports_of c), ports_count c roles are)

-- and so are their values
pub outputs_count : (c : CircuitData) (roles : Roles) (values : List Tri) → AreRoles (ports_of c) roles → length values ≡ length c.nets
    → length (outputs roles values) ≡ roles.outs
outputs_count c roles values are whole =
    omega (arith, length-take roles.outs (drop (first_output roles) values), length-drop (first_output roles) values, outputs_within c roles are, whole)

-- the ports from the first pin on
pub pins_and_outputs_are : (c : CircuitData) (roles : Roles) → (are : AreRoles (ports_of c) roles) → pins_and_outputs c roles ≡ are.pins ++ are.outs
pins_and_outputs_are c roles are =
    ap (drop (first_pin roles)) (joined are.in_order)
    ∙ drop_at (leading_ports roles.clocks) (are.pins ++ are.outs) (first_pin roles) (length-leading roles.clocks are.in_order.few_clocks)

pub are_outputs : (names : ℕ → List ℕ) (signals : List ℕ) → All IsOutput (map (λ signal. output_name (names signal)) signals)
are_outputs names [] = All-nil IsOutput
are_outputs names (s ∷ ss) = All-cons IsOutput (output_name (names s)) (map (λ signal. output_name (names signal)) ss) refl (are_outputs names ss)

-- where they are a network's, there is one for each input and each output
pub counts_agree : (c : CircuitData) (roles : Roles) (n : NetworkData) → AreRoles (ports_of c) roles → IsNetwork n → pins_and_outputs c roles ≡ network_ports n
    → (n.inputs ≡ roles.pins) × (length n.outputs ≡ roles.outs)
counts_agree c roles n are is same =
    let groups = groups-same are.pins are.outs (map pin_name (take n.inputs n.names)) (map (λ signal. output_name (slice_index_or n.names signal [])) n.outputs)
    are.in_order.pins_are are.in_order.outs_are (pins_are_pins (take n.inputs n.names)) (are_outputs (λ signal. slice_index_or n.names signal []) n.outputs)
    (sym (pins_and_outputs_are c roles are) ∙ same) in (
      omega (arith, are.pin_count, ap length groups.0, length-map (take n.inputs n.names) pin_name, length-take n.inputs n.names, is.count),
      omega (arith, are.out_count, ap length groups.1, length-map n.outputs (λ signal. output_name (slice_index_or n.names signal []))),
    )
