-- Circuits in the making: what each group of devices asks of the circuit that it is appended to.
use Rattle.std.specs.Prelude.{◌≡◌, ◌≢◌, ℕ, ◌+◌, ◌<◌, ◌≤◌, ◌==◌, Bool, true, false, ◌||◌, List, [], ◌++◌, nat_eq, length, flat_map, Some, slice_get, slice_index_or, codes, All}
use Rattle.std.specs.Fmt.{decimal}
use Rattle.std.specs.List.{IsDistinct, enumerate_from, zip}
use Rattle.std.specs.Cmp.Lexicographic.{pointwise}
use Rattle.deck.specs.CircuitData.{CircuitData}
use Rattle.deck.specs.Escapes.{escaped}
use Rattle.deck.specs.NamedDevices.{NamedDevice, with_devices}
use Rattle.deck.specs.Nets.{IsCircuit, net_name, net_number}
use Rattle.deck.specs.Sources.{is_source}
use Rattle.sp_network.specs.Tree.{EachLeaf}
use Rattle.sp_network.specs.TypedTree.{tree_of}
use Rattle.sp_network.specs.declared.plan.GatePlan.{GatePlan}
use Rattle.domino_cell.specs.Cell.{inverter}
use Rattle.domino_cell.specs.NamedTrees.{named_tree}
use Rattle.domino_cell.specs.PushedNames.{IsPort, numbered_cell}
use Rattle.domino_cell.specs.declared.style.Style.{Style}
use Rattle.domino_cell.specs.StyledCells.{styled_cell}
use Rattle.latch_bind.specs.Latches.{named_latch}
use Rattle.deck_form.specs.NameParts.{leading_letter, number_of, rest_of}

-- an inverter for each gate and output
abbrev pub inverters : List (List ℕ) → List (List ℕ) → List (NamedDevice (List ℕ))
inverters gates outs = flat_map (λ p. inverter (codes "vdd") (codes "vss") p.0 p.1) (zip gates outs)

-- the device ends at another net
abbrev pub EndsApart : List ℕ → NamedDevice (List ℕ) → Type 0
EndsApart net d = (d.drain ≢ net) × (d.source ≢ net)

-- The circuit is one without devices, to which devices were appended. The supplies are ports, and the outputs are no
-- sources, all differ, and no device ends at one of them.
pub record HasRoomForInverters (c : CircuitData) (outs : List (List ℕ)) : Type 0 where
  pub bare : CircuitData
  pub named : List (NamedDevice (List ℕ))
  pub circuit_is : c ≡ with_devices bare named
  pub empty : bare.devices ≡ []
  pub bare_is : IsCircuit bare.ports bare.nets bare.devices
  pub vdd : IsPort bare (codes "vdd")
  pub vss : IsPort bare (codes "vss")
  pub no_sources : All (λ out. is_source bare (net_number bare.nets out) ≡ false) outs
  pub none_ends : All (λ out. All (EndsApart out) named) outs
  pub apart : IsDistinct (pointwise nat_eq) outs

-- the latches with these start values, from number j on
abbrev pub latches_from : ℕ → List Bool → List (NamedDevice (List ℕ))
latches_from j starts = flat_map named_latch (enumerate_from j starts)

-- the name is no inner net of latch j or of a later latch: no `m` with its number, nor `q` with its number and more
abbrev pub IsBeforeLatch : ℕ → List ℕ → Type 0
IsBeforeLatch j name =
    (leading_letter name ≡ 109 → number_of name < j) × (leading_letter name ≡ 113 → rest_of name ≢ [] → number_of name < j)

-- the first letter of a net of a cell: `d`, `f`, `t` or `z`, and of the right side of a compound one `e`, `g` or `u`
abbrev pub is_cell_letter : ℕ → Bool
is_cell_letter c = (c == 100) || (c == 102) || (c == 116) || (c == 122) || (c == 101) || (c == 103) || (c == 117)

-- the name is no net of cell k or of a later cell
abbrev pub IsBeforeCell : ℕ → List ℕ → Type 0
IsBeforeCell k name = is_cell_letter (leading_letter name) ≡ true → number_of name < k

-- the cells of these plans in a style, from number k on, where gate by gate the first list has the net that gates it
abbrev pub cells_from : Style → List (List ℕ) → ℕ → List GatePlan → List (NamedDevice (List ℕ))
cells_from style names k plans =
    flat_map (λ (p : ℕ × GatePlan). styled_cell style (numbered_cell p.1.clock p.0) (named_tree names (tree_of p.1.tree))) (enumerate_from k plans)

-- the gates of each plan, from number k on, have names, which are no nets of its own cell or of a later one
abbrev pub AreGated : List (List ℕ) → ℕ → List GatePlan → Type 0
AreGated names k plans =
    (i : ℕ) (p : GatePlan) → slice_get plans i ≡ Some p
    → EachLeaf (λ gate. (gate < length names) × IsBeforeCell (k + i) (net_name names gate)) (tree_of p.tree)

-- the supplies and the clock of each plan are ports, and no net is one of a cell
pub record HasRoomForCells (c : CircuitData) (plans : List GatePlan) : Type 0 where
  pub ports : c.ports ≤ length c.nets
  pub vdd : IsPort c (codes "vdd")
  pub vss : IsPort c (codes "vss")
  pub clocks : All (λ (p : GatePlan). IsPort c (codes "ck" ++ decimal p.clock)) plans
  pub nets : All (IsBeforeCell 0) c.nets

-- the net of a signal: a front, and its escaped name
abbrev pub port_net : List ℕ → List (List ℕ) → ℕ → List ℕ
port_net front names signal = front ++ escaped (slice_index_or names signal [])
