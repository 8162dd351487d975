-- The devices of a cell, counted.
use Rattle.domino_cell.specs.StyledCells.{behind_precharge, inner_precharges, pull_down_cards}
use Rattle.std.proofs.Common.{List, None, Option, Some, [], ap, arith, length, length-append, refl, subst, suc, sym, zero, ℕ, ◌++◌, ◌+◌, ◌∷◌, ◌≡◌}
use Rattle.dom_base.specs.declared.kind.Kind.TheVariants.{N as nch}
use Rattle.deck.specs.NamedDevices.{NamedDevice}
use Rattle.sp_network.specs.Tree.{Tree, inner_count, leaves, map_tree}
use Rattle.sp_network.proofs.TreeImages.{inner_count-map_tree, leaves-map_tree}
use Rattle.domino_cell.specs.Cell.{CellNets}
use Rattle.domino_cell.specs.Spelling.{spell}
use Rattle.domino_cell.proofs.Spellings.{length-spell}
use Rattle.domino_law.specs.CellCards.{CellsHaveCards}
use Rattle.domino_law.specs.Nets.{CellSide, Gate, Net, Output, gate_net, left_side, right_side}
use Rattle.domino_law.specs.Shape.{DominoCell, DynamicStage, dynamic_nets, left_stage, right_stage}
use Rattle.domino_cell.specs.declared.style.Style.{Style}
use Rattle.domino_cell.specs.declared.style.Style.TheVariants.{Keeper as WithKeeper, Precharge as WithPrecharge}
use Rattle.domino_law.specs.Spelled.{net_cell, one_cell, right_cards, side_cards, static_cards}

inner_many : (nets : CellNets Net) (j n : ℕ) → length (inner_precharges nets j n) ≡ n
inner_many nets j zero = refl
inner_many nets j (suc n) = ap suc (inner_many nets (j + 1) n)

-- how many devices follow the precharge of a side
extra : Style → ℕ → ℕ
extra WithKeeper n = 1
extra WithPrecharge n = n

after_many : (style : Style) (nets : CellNets Net) (n : ℕ) → length (behind_precharge style nets n) ≡ extra style n
unfolding extra
after_many WithKeeper nets n = refl
after_many WithPrecharge nets n = inner_many nets 0 n

pull_many : (nets : CellNets Net) (t : Tree Net) → length (pull_down_cards nets t) ≡ leaves t + 1
pull_many nets t =
    let a = length-append (spell nch nets.inner t nets.dynamic nets.foot 0) (record { kind = nch; drain = nets.foot; gate = nets.clock; source = nets.vss } ∷ []) in
    let b = length-spell nch nets.inner t nets.dynamic nets.foot 0 in
    omega (arith, a, b)

side_many : (style : Style) (k : CellSide) (c : DynamicStage) → length (side_cards style k c) ≡ extra style (inner_count c.tree) + leaves c.tree + 2
side_many style k c =
    let nets = net_cell k c in
    let t : Tree Net = map_tree gate_net c.tree in
    let after : List (NamedDevice Net) = behind_precharge style nets (inner_count t) in
    let a = length-append after (pull_down_cards nets t) in
    let b = after_many style nets (inner_count t) in
    let d = pull_many nets t in
    let e = leaves-map_tree gate_net c.tree in
    let f = ap (extra style) (inner_count-map_tree gate_net c.tree) in
    omega (arith, a, b, d, e, f)

-- the rest of a cell: its right side, if it has one, and its static gate
rest_many : (style : Style) (k : ℕ) (c : DominoCell) (right : Option DynamicStage) (gate : List (NamedDevice Net))
    → length (side_cards style (left_side k) (left_stage c) ++ (right_cards style k right ++ gate))
    ≡ extra style (inner_count c.tree) + leaves c.tree + 2 + (length (right_cards style k right) + length gate)
rest_many style k c right gate =
    let a = length-append (side_cards style (left_side k) (left_stage c)) (right_cards style k right ++ gate) in
    let b = length-append (right_cards style k right) gate in
    let d = side_many style (left_side k) (left_stage c) in
    omega (arith, a, b, d)

simple_many : (style : Style) (k : ℕ) (c : DominoCell) → c.right ≡ None → length (one_cell style k c) ≡ extra style (inner_count c.tree) + leaves c.tree + 4
simple_many style k c e =
    let f = rest_many style k c None (static_cards (Output k) (dynamic_nets k None)) in
    let g : length (static_cards (Output k) (dynamic_nets k None)) ≡ 2 = refl in
    let h : length (right_cards style k None) ≡ 0 = refl in
    subst (λ right. length (side_cards style (left_side k) (left_stage c) ++ (right_cards style k (right_stage c.clock right) ++ static_cards (Output k) (dynamic_nets k right)))
    ≡ extra style (inner_count c.tree) + leaves c.tree + 4) (sym e)
    (omega (arith, f, g, h))

compound_many : (k : ℕ) (c : DominoCell) (right : Tree Gate) → c.right ≡ Some right
    → length (one_cell WithPrecharge k c) ≡ leaves c.tree + inner_count c.tree + (leaves right + inner_count right) + 8
unfolding extra
compound_many k c right e =
    let stage : DynamicStage = record { clock = c.clock; tree = right } in
    let f = rest_many WithPrecharge k c (Some stage) (static_cards (Output k) (dynamic_nets k (Some right))) in
    let g : length (static_cards (Output k) (dynamic_nets k (Some right))) ≡ 4 = refl in
    let h = side_many WithPrecharge (right_side k) stage in
    subst (λ x. length (side_cards WithPrecharge (left_side k) (left_stage c) ++ (right_cards WithPrecharge k (right_stage c.clock x) ++ static_cards (Output k) (dynamic_nets k x)))
    ≡ leaves c.tree + inner_count c.tree + (leaves right + inner_count right) + 8) (sym e)
    (omega (arith, f, g, h))

pub cells_have_cards : CellsHaveCards
unfolding extra
cells_have_cards = record {
  with_keeper = λ k c e. let f = simple_many WithKeeper k c e in omega (arith, f);
  simple = λ k c e. let f = simple_many WithPrecharge k c e in omega (arith, f);
  compound = λ k c right e. compound_many k c right e;
}
