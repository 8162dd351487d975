-- Cells that are appended one by one.
use Rattle.std.proofs.Common.{◌≡◌, ℕ, zero, suc, ◌+◌, ◌<◌, ◌≤◌, List, [], ◌∷◌, ◌++◌, length, take, refl, sym, ap, ◌∙◌, arith, Some, slice_get, append-nil, append_assoc, length-append, zero-add, add-one}
use Rattle.latch_bind.proofs.LatchParts.{two_parts}
use Rattle.domino_cell.proofs.CellCircuits.{count_with}
use Rattle.std.proofs.lemmas.List.Sums.{sum_by-cons}
use Rattle.std.specs.List.{AllByRecursion}
use Rattle.dom_base.specs.declared.kind.Kind.{Kind}
use Rattle.dom_base.specs.declared.kind.Kind.TheVariants.{N as nch, P as pch, Keep}
use Rattle.dom_base.proofs.Lists.{AllByRecursion-append}
use Rattle.deck.specs.CircuitData.{CircuitData}
use Rattle.deck.specs.NamedDevices.{NamedDevice, with_devices}
use Rattle.deck.specs.Nets.{net_name}
use Rattle.sp_network.specs.Tree.{Tree, Leaf, Series, Parallel, EachLeaf, inner_count, leaves}
use Rattle.sp_network.specs.TypedTree.{tree_of}
use Rattle.sp_network.specs.declared.plan.GatePlan.{GatePlan}
use Rattle.sp_network.proofs.TreeImages.{inner_count-map_tree, leaves-map_tree}
use Rattle.domino_cell.specs.Cell.{CellNets, inverter}
use Rattle.domino_cell.specs.NamedTrees.{named_tree}
use Rattle.domino_cell.specs.PushedNames.{numbered_cell}
use Rattle.domino_cell.specs.Spelling.{spell}
use Rattle.tree_map.specs.MappedCover.{plan_trees}
use Rattle.tree_map.specs.Plans.{tree_cost_by}
use Rattle.style_costs.specs.Styles.{cost_in, costs_of}
use Rattle.deck_form.proofs.CellDevices.{cost_in_style}
use Rattle.domino_cell.specs.declared.style.Style.{Style}
use Rattle.domino_cell.specs.declared.style.Style.TheVariants.{Keeper as WithKeeper, Precharge as WithPrecharge}
use Rattle.domino_cell.specs.StyledCells.{around_tree, behind_count, behind_precharge, inner_precharges, pull_down_cards, styled_cell}
use Rattle.domino_cell.proofs.StyledCells.{length-styled_cell}
use Rattle.synth_flow.specs.MadeDecks.{IsBeforeCell, cells_from}
use Rattle.deck_form.proofs.NameParts.{HasNames}
use Rattle.synth_flow.proofs.FigureLoops.{cost_room}

-- the names of the devices of a tree
pub tree_names : (P : List ℕ → Type 0) (kind : Kind) (inner : ℕ → List ℕ) (t : Tree (List ℕ)) (top bottom : List ℕ) (n : ℕ) → P top → P bottom → ((j : ℕ) → P (inner j)) → EachLeaf P t
    → AllByRecursion (HasNames P) (spell kind inner t top bottom n)
tree_names P kind inner (Leaf gate) top bottom n a b i h = ((a, h, b), tt)
tree_names P kind inner (Series l r) top bottom n a b i h =
    AllByRecursion-append (HasNames P) (spell kind inner l top (inner n) (n + 1)) (spell kind inner r (inner n) bottom (n + 1 + inner_count l))
    (tree_names P kind inner l top (inner n) (n + 1) a (i n) i h.0) (tree_names P kind inner r (inner n) bottom (n + 1 + inner_count l) (i n) b i h.1)
tree_names P kind inner (Parallel l r) top bottom n a b i h =
    AllByRecursion-append (HasNames P) (spell kind inner l top bottom n) (spell kind inner r top bottom (n + inner_count l))
    (tree_names P kind inner l top bottom n a b i h.0) (tree_names P kind inner r top bottom (n + inner_count l) a b i h.1)

-- what holds of the keeper and of the precharge of each inner net holds of what follows the precharge of a cell
pub behind_cards : (F : NamedDevice (List ℕ) → Type 0) (style : Style) (nets : CellNets (List ℕ)) (n : ℕ)
    → F (record { kind = Keep; drain = nets.dynamic; gate = nets.output; source = nets.vdd })
    → ((j : ℕ) → F (record { kind = pch; drain = nets.inner j; gate = nets.clock; source = nets.vdd }))
    → AllByRecursion F (behind_precharge style nets n)
behind_cards F WithKeeper nets n keeper inner = (keeper, tt)
behind_cards F WithPrecharge nets n keeper inner = each 0 n
  where
    each : (j m : ℕ) → AllByRecursion F (inner_precharges nets j m)
    each j zero = tt
    each j (suc m) = (inner j, each (j + 1) m)

-- and so, with those of the tree, of the cards of a cell
pub cell_cards : (F : NamedDevice (List ℕ) → Type 0) (style : Style) (nets : CellNets (List ℕ)) (t : Tree (List ℕ))
    → F (record { kind = pch; drain = nets.dynamic; gate = nets.clock; source = nets.vdd })
    → F (record { kind = Keep; drain = nets.dynamic; gate = nets.output; source = nets.vdd })
    → ((j : ℕ) → F (record { kind = pch; drain = nets.inner j; gate = nets.clock; source = nets.vdd }))
    → AllByRecursion F (spell nch nets.inner t nets.dynamic nets.foot 0)
    → F (record { kind = nch; drain = nets.foot; gate = nets.clock; source = nets.vss })
    → AllByRecursion F (inverter nets.vdd nets.vss nets.dynamic nets.output) → AllByRecursion F (styled_cell style nets t)
cell_cards F style nets t first keeper inner of_tree of_foot of_inverter =
    let front : NamedDevice (List ℕ) = record { kind = pch; drain = nets.dynamic; gate = nets.clock; source = nets.vdd } in
    let foot : NamedDevice (List ℕ) = record { kind = nch; drain = nets.foot; gate = nets.clock; source = nets.vss } in
    let inv = inverter nets.vdd nets.vss nets.dynamic nets.output in
    let spelled = spell nch nets.inner t nets.dynamic nets.foot 0 in
    let down = AllByRecursion-append F spelled (foot ∷ []) of_tree (of_foot, tt) in
    let behind = behind_cards F style nets (inner_count t) keeper inner in
    AllByRecursion-append F (front ∷ behind_precharge style nets (inner_count t)) (pull_down_cards nets t ++ inv) (first, behind)
    (AllByRecursion-append F (pull_down_cards nets t) inv down of_inverter)

-- one more cell
pub cells_more : (style : Style) (names : List (List ℕ)) (k : ℕ) (plans : List GatePlan) (i : ℕ) (p : GatePlan) → slice_get plans i ≡ Some p
    → cells_from style names k (take (suc i) plans) ≡ cells_from style names k (take i plans) ++ styled_cell style (numbered_cell p.clock (k + i)) (named_tree names (tree_of p.tree))
cells_more style names k [] i p e = absurd (cc)
cells_more style names k (x ∷ plans) zero p e =
    let same : x ≡ p = cc in
    let number : k ≡ k + 0 = omega arith in
    append-nil (styled_cell style (numbered_cell x.clock k) (named_tree names (tree_of x.tree)))
    ∙ (λ j. styled_cell style (numbered_cell (same j).clock (number j)) (named_tree names (tree_of (same j).tree)))
cells_more style names k (x ∷ plans) (suc i) p e =
    let number : k + 1 + i ≡ k + suc i = omega arith in
    let first = styled_cell style (numbered_cell x.clock k) (named_tree names (tree_of x.tree)) in
    let last : ℕ → List (NamedDevice (List ℕ)) = λ n. styled_cell style (numbered_cell p.clock n) (named_tree names (tree_of p.tree)) in
    ap (λ l. first ++ l) (cells_more style names (k + 1) plans i p e)
    ∙ sym (append_assoc first (cells_from style names (k + 1) (take i plans)) (last (k + 1 + i)))
    ∙ ap (λ n. first ++ cells_from style names (k + 1) (take i plans) ++ last n) number

-- how many devices the cells have
pub cells_length : (style : Style) (names : List (List ℕ)) (k : ℕ) (plans : List GatePlan) → length (cells_from style names k plans) ≡ cost_in style (plan_trees plans)
cells_length style names k [] = refl
cells_length style names k (p ∷ plans) =
    let tree = named_tree names (tree_of p.tree) in
    let one = styled_cell style (numbered_cell p.clock k) tree in
    let more = cells_from style names (k + 1) plans in
    let inner = ap (behind_count style) (inner_count-map_tree (net_name names) (tree_of p.tree)) in
    omega (
      arith,
      length-append one more,
      cells_length style names (k + 1) plans,
      length-styled_cell style (numbered_cell p.clock k) tree,
      leaves-map_tree (net_name names) (tree_of p.tree),
      inner,
      cost_in_style style (tree_of p.tree),
      sum_by-cons (tree_cost_by (costs_of style)) (tree_of p.tree) (plan_trees plans),
    )

-- the gates of a plan have names
pub each_named : (names : List (List ℕ)) (k : ℕ) (t : Tree ℕ) → EachLeaf (λ gate. (gate < length names) × IsBeforeCell k (net_name names gate)) t → EachLeaf (λ gate. gate < length names) t
each_named names k (Leaf gate) h = h.0
each_named names k (Series l r) h = (each_named names k l h.0, each_named names k r h.1)
each_named names k (Parallel l r) h = (each_named names k l h.0, each_named names k r h.1)

-- the next cell has room
pub room_in_circuit : (style : Style) (old between : CircuitData) (names : List (List ℕ)) (plans : List GatePlan) (k : ℕ) (p : GatePlan) → slice_get plans k ≡ Some p
    → between ≡ with_devices old (cells_from style names 0 (take k plans)) → length between.devices + leaves (tree_of p.tree) + around_tree style (tree_of p.tree) ≤ length old.devices + cost_in style (plan_trees plans)
room_in_circuit style old between names plans k p at one =
    let first = cells_from style names 0 (take k plans) in
    omega (arith, ap (λ (c : CircuitData). length c.devices) one, count_with old first, cells_length style names 0 (take k plans), cost_room style plans k p at, cost_in_style style (tree_of p.tree))

-- the cells so far and one more
pub next_cell : (style : Style) (old between new : CircuitData) (names : List (List ℕ)) (plans : List GatePlan) (k : ℕ) (p : GatePlan) → slice_get plans k ≡ Some p
    → between ≡ with_devices old (cells_from style names 0 (take k plans)) → new ≡ with_devices between (styled_cell style (numbered_cell p.clock k) (named_tree names (tree_of p.tree)))
    → new ≡ with_devices old (cells_from style names 0 (take (k + 1) plans))
next_cell style old between new names plans k p at one two =
    let own : ℕ → List (NamedDevice (List ℕ)) = λ n. styled_cell style (numbered_cell p.clock n) (named_tree names (tree_of p.tree)) in
    two_parts old between new (cells_from style names 0 (take k plans)) (own k) one two
    ∙ ap (λ n. with_devices old (cells_from style names 0 (take k plans) ++ own n)) (sym (zero-add k))
    ∙ ap (with_devices old) (sym (cells_more style names 0 plans k p at))
    ∙ ap (λ n. with_devices old (cells_from style names 0 (take n plans))) (sym (add-one k))
