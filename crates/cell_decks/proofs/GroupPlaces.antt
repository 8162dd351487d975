-- Where groups end, and how long they are.
use Rattle.std.proofs.Common.{◌≡◌, ℕ, ◌+◌, ◌-◌, ◌<◌, ◌≤◌, ◌^◌, Bool, List, [], ◌∷◌, ◌++◌, map, length, drop, zip}
use Rattle.std.proofs.Common.{subst, arith, All, length-append}
use Rattle.std.specs.Prelude.{flat_map}
use Rattle.std.specs.List.{AllByRecursion, enumerate_from}
use Rattle.std.proofs.lemmas.List.{length-map, length-take}
use Rattle.std.proofs.lemmas.List.Elements.{recursion_from_All}
use Rattle.dom_base.proofs.Lists.{AllByRecursion-append, AllByRecursion-every, AllByRecursion-map}
use Rattle.deck.specs.declared.device.Device.{Device}
use Rattle.deck.specs.NamedDevices.{NamedDevice, named_device}
use Rattle.subckt_expand.proofs.PartsMade.{nets-few}
use Rattle.spice_text.specs.Cells.{PlacesRise, group_cell, groups_from, supplies}
use Rattle.deck_calls.proofs.CellCircuits.{all_numbered}
use Rattle.deck.specs.DeckText.{bare_circuit}
use Rattle.domino_cell.specs.Cell.{CellNets}
use Rattle.domino_cell.specs.PushedNames.{numbered_cell}
use Rattle.domino_cell.specs.declared.style.Style.{Style}
use Rattle.domino_cell.specs.declared.style.Style.TheVariants.{Keeper as WithKeeper, Precharge as WithPrecharge}
use Rattle.sp_network.specs.Tree.{Tree, inner_count, leaves, map_tree}
use Rattle.sp_network.proofs.TreeImages.{leaves-map_tree}
use Rattle.domino_cell.proofs.PushedTrees.{inner_count-below}
use Rattle.clock_phase.specs.Levels.{clock_of, greatest}
use Rattle.deck_form.specs.DeckNets.{CellPlan, SinkEnd, named_complement, named_gate, named_latch, named_sink, sink_nets, named_cell}
use Rattle.deck_form.specs.DominoDecks.{cells_of}
use Rattle.domino_cell.specs.StyledCells.{behind_count, styled_cell}
use Rattle.domino_cell.proofs.StyledCells.{length-styled_cell}
use Rattle.deck_form.specs.DeckGroups.{card_groups, ends_from}

-- groups that aren't empty end at rising places
pub ends_rise : {X : Type 0} (start : ℕ) (groups : List (List X)) → AllByRecursion (λ (group : List X). 0 < length group) groups
    → PlacesRise start (ends_from start groups) (start + length (flat_map (λ group. group) groups))
ends_rise start [] some = omega arith
ends_rise start (group ∷ groups) some =
    let rest = ends_rise (start + length group) groups some.1 in
    let all : (start + length group) + length (flat_map (λ g. g) groups)
    ≡ start + length (group ++ flat_map (λ g. g) groups) = omega (arith, length-append group (flat_map (λ g. g) groups)) in
    (omega (arith, some.0), subst (PlacesRise (start + length group) (ends_from (start + length group) groups)) all rest)

-- the groups that end there are no longer
pub groups_short : {X : Type 0} (bound start : ℕ) (groups : List (List X)) (devices : List Device)
    → AllByRecursion (λ (group : List X). length group ≤ bound) groups
    → AllByRecursion (λ (group : List Device). length group ≤ bound) (groups_from start (ends_from start groups) devices)
groups_short bound start [] devices few = tt
groups_short bound start (group ∷ groups) devices few = (
  omega (arith, few.0, length-take (start + length group - start) devices),
  groups_short bound (start + length group) groups (drop (start + length group - start) devices) few.1,
)

pub cell_nets_few : (nets : List (List ℕ)) (group : List Device) → length group ≤ 200 → length (group_cell nets group).nets ≤ 2 ^ 20
cell_nets_few nets group few = omega (
  arith,
  few,
  nets-few (bare_circuit [] [] supplies) (map (named_device nets) group),
  length-map group (named_device nets),
)

-- a group that isn't empty, of at most 200 cards
abbrev pub IsSmallGroup : List (NamedDevice (List ℕ)) → Type 0
IsSmallGroup group = (0 < length group) × (length group ≤ 200)

behind_low : (style : Style) (n : ℕ) → behind_count style n ≤ n + 1
behind_low WithKeeper n = omega arith
behind_low WithPrecharge n = omega arith

cell_small : (style : Style) (nets : CellNets (List ℕ)) (t : Tree (List ℕ)) → leaves t ≤ 48 → IsSmallGroup (styled_cell style nets t)
cell_small style nets t few =
    let cards = length-styled_cell style nets t in
    (omega (arith, cards), omega (arith, few, cards, behind_low style (inner_count t), inner_count-below t))

cells_small : (style : Style) (pins : List (List ℕ)) (leaf_count : ℕ) (ps : List (ℕ × CellPlan))
    → AllByRecursion (λ (p : ℕ × CellPlan). leaves p.1.tree ≤ 48) ps
    → AllByRecursion IsSmallGroup (map (named_cell style pins leaf_count) ps)
cells_small style pins leaf_count [] few = tt
cells_small style pins leaf_count (p ∷ ps) few = (
  cell_small style (numbered_cell p.1.clock p.0) (map_tree (named_gate pins leaf_count) p.1.tree)
      (omega (arith, few.0, leaves-map_tree (named_gate pins leaf_count) p.1.tree)),
  cells_small style pins leaf_count ps few.1,
)

latches_small : (ps : List (ℕ × Bool)) → AllByRecursion IsSmallGroup (map named_latch ps)
latches_small [] = tt
latches_small ((j, start) ∷ ps) = ((omega arith, omega arith), latches_small ps)

-- the cells of trees with few leaves
trees_zipped : (phases top : ℕ) (trees : List (Tree ℕ)) (levels : List ℕ) → AllByRecursion (λ tree. leaves tree ≤ 48) trees
    → AllByRecursion (λ (c : CellPlan). leaves c.tree ≤ 48) (map (λ p. record { tree = p.0; clock = clock_of phases top p.1 })
    (zip trees levels))
trees_zipped phases top [] levels few = tt
trees_zipped phases top (t ∷ trees) [] few = tt
trees_zipped phases top (t ∷ trees) (l ∷ levels) few = (few.0, trees_zipped phases top trees levels few.1)

pub groups_small : (style : Style) (pins outs : List (List ℕ)) (starts : List Bool) (phases : ℕ) (levels : List ℕ) (trees : List (Tree ℕ))
    (complements : List ℕ) (ends : List SinkEnd)
    → All (λ tree. leaves tree ≤ 48) trees → AllByRecursion IsSmallGroup
    (card_groups style pins outs starts (cells_of phases levels trees) complements ends)
groups_small style pins outs starts phases levels trees complements ends few =
    let cells = cells_of phases levels trees in
    let a = map (named_cell style pins (length pins + length starts)) (enumerate_from 0 cells) in
    let b = map (named_complement pins) complements in
    let c = map named_latch (enumerate_from 0 starts) in
    let d = map (named_sink pins) (zip (sink_nets outs starts) ends) in
    let small = trees_zipped phases (greatest levels) trees levels (recursion_from_All (λ tree. leaves tree ≤ 48) trees few) in
    AllByRecursion-append IsSmallGroup (a ++ b ++ c) d
    (AllByRecursion-append IsSmallGroup (a ++ b) c
    (AllByRecursion-append IsSmallGroup a b
    (cells_small style pins (length pins + length starts) (enumerate_from 0 cells)
    (all_numbered (λ (c : CellPlan). leaves c.tree ≤ 48) 0 cells small))
    (AllByRecursion-map IsSmallGroup (named_complement pins) complements
    (AllByRecursion-every (λ leaf. IsSmallGroup (named_complement pins leaf)) (λ leaf. (omega arith, omega arith)) complements)))
    (latches_small (enumerate_from 0 starts)))
    (AllByRecursion-map IsSmallGroup (named_sink pins) (zip (sink_nets outs starts) ends)
    (AllByRecursion-every (λ p. IsSmallGroup (named_sink pins p)) (λ p. (omega arith, omega arith)) (zip (sink_nets outs starts) ends)))
