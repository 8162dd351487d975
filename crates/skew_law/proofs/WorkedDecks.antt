-- A worked deck: one cell of two inputs on the first of two clocks, whose buffer a sink takes.
use Rattle.domino_cell.specs.declared.style.Style.TheVariants.{Keeper as WithKeeper}
use Rattle.std.specs.Prelude.{List, [], codes, drop, length, map, ℕ, ◌++◌, ◌∷◌, ◌≡◌}
use Rattle.std.proofs.Common.{refl}
use Rattle.dom_base.specs.declared.kind.Kind.{Kind}
use Rattle.dom_base.specs.declared.kind.Kind.TheVariants.{Keep, N, P}
use Rattle.deck.specs.NamedDevices.{NamedDevice}
use Rattle.sp_network.specs.Tree.{Leaf, Series}
use Rattle.phase_buffer.specs.BufferedPlans.{DeckPlan, plan_cells}
use Rattle.phase_buffer.specs.Chains.{with_chains}
use Rattle.std.specs.Fmt.{decimal}
use Rattle.deck_form.specs.DeckNets.{OfDynamic, clock_net, dynamic_net, named_devices, output_net, vdd, vss}
use Rattle.synth_flow.specs.BufferedDecks.{new_end}

abbrev worked_plan : DeckPlan
worked_plan = record { leaves = 2; clocks = 2; cells = record { tree = Series (Leaf 0) (Leaf 2); clock = 1 } ∷ []; sinks = 0 ∷ [] }

abbrev worked_devices : List (NamedDevice (List ℕ))
worked_devices =
    named_devices WithKeeper (codes "i_a" ∷ codes "i_b" ∷ []) (codes "o_y" ∷ []) [] (with_chains (plan_cells worked_plan) 0 worked_plan.cells) []
    (map (new_end worked_plan) (OfDynamic 0 ∷ []))

fifteen : length worked_devices ≡ 15
fifteen = refl

abbrev device : Kind → List ℕ → List ℕ → List ℕ → NamedDevice (List ℕ)
device kind drain gate source = record { kind = kind; drain = drain; gate = gate; source = source }

-- behind the seven devices of the cell stand its buffer, on the second clock, and the inverter of the sink
buffer_and_sink : drop 7 worked_devices ≡
    device P (dynamic_net 1) (clock_net 2) vdd
    ∷ device Keep (dynamic_net 1) (output_net 1) vdd
    ∷ device N (dynamic_net 1) (output_net 0) (codes "f" ++ decimal 1)
    ∷ device N (codes "f" ++ decimal 1) (clock_net 2) vss
    ∷ device P (output_net 1) (dynamic_net 1) vdd
    ∷ device N (output_net 1) (dynamic_net 1) vss
    ∷ device P (codes "o_y") (dynamic_net 1) vdd
    ∷ device N (codes "o_y") (dynamic_net 1) vss
    ∷ []
buffer_and_sink = refl
