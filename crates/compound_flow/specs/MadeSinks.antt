-- The static gates of sinks of a deck in the making, and what they ask of the circuit that they are appended to.
use Rattle.std.specs.Prelude.{All, Bool, List, None, Option, Some, codes, false, flat_map, nat_eq, ℕ, ◌++◌, ◌<◌, ◌^◌, ◌≡◌, ◌⊎◌}
use Rattle.std.specs.List.{IsDistinct, zip}
use Rattle.std.specs.Cmp.Lexicographic.{pointwise}
use Rattle.deck.specs.CircuitData.{CircuitData}
use Rattle.deck.specs.Escapes.{escaped}
use Rattle.deck.specs.NamedDevices.{NamedDevice}
use Rattle.deck.specs.Nets.{IsCircuit}
use Rattle.domino_cell.specs.NamedTrees.{inner_net}
use Rattle.domino_cell.specs.PushedNames.{IsPort, IsUndriven, lower_front, static_gate, upper_front}
use Rattle.compound_plan.specs.Plans.{CellTrees}
use Rattle.deck_form.specs.DeckNets.{SinkEnd, data_net}
use Rattle.compound_law.specs.PushedDecks.{sink_tree}
use Rattle.compound_flow.specs.WholePlans.{is_compound}

-- whether a cell is there and is compound
abbrev pub has_two_trees : Option (CellTrees × ℕ) → Bool
has_two_trees None = false
has_two_trees (Some cell) = is_compound cell.0

-- the static gates of sinks with these nets and ends
abbrev pub sink_gates : List (List ℕ) → List (CellTrees × ℕ) → List (List ℕ) → List SinkEnd → List (NamedDevice (List ℕ))
sink_gates pins cells nets ends = flat_map (λ p. static_gate p.0 (sink_tree pins cells p.1)) (zip nets ends)

-- the output of a static gate, or one of its inner nets
abbrev pub IsGateNet : List ℕ → List ℕ → Type 0
IsGateNet out name =
    (name ≡ out) ⊎ (((j : ℕ) × (name ≡ inner_net (upper_front out) j)) ⊎ ((j : ℕ) × (name ≡ inner_net (lower_front out) j)))

-- the net of a sink: an output by the escape of its name, or the data of a latch
abbrev pub IsSinkName : List ℕ → Type 0
IsSinkName net =
    ((name : List ℕ) × All (λ b. b < 256) name × (net ≡ codes "o_" ++ escaped name)) ⊎ ((j : ℕ) × (j < 2 ^ 64) × (net ≡ data_net j))

-- the supplies are ports, and the nets of sinks differ, and nothing drives one of them or an inner net of its static gate
pub record HasRoomForSinks (c : CircuitData) (nets : List (List ℕ)) : Type 0 where
  pub whole : IsCircuit c.ports c.nets c.devices
  pub vdd : IsPort c (codes "vdd")
  pub vss : IsPort c (codes "vss")
  pub nets_are : All IsSinkName nets
  pub undriven : All (λ net. (name : List ℕ) → IsGateNet net name → IsUndriven c name) nets
  pub apart : IsDistinct (pointwise nat_eq) nets
