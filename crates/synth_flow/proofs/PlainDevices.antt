-- The devices of a deck have names of nets.
use Rattle.std.proofs.Common.{◌≡◌, ℕ, zero, suc, ◌+◌, ◌-◌, ◌*◌, ◌/◌, ◌≤◌, ◌<◌, ◌^◌, Bool, true, false, cond, List, [], ◌∷◌, ◌++◌, length, map, zip, flat_map, refl, arith, All, append_assoc, sym, subst}
use Rattle.std.specs.Prelude.{codes}
use Rattle.std.specs.Fmt.{decimal}
use Rattle.std.specs.List.{AllByRecursion, enumerate_from}
use Rattle.dom_base.specs.Names.{IsNetName, is_net_name}
use Rattle.dom_base.specs.declared.kind.Kind.{Kind}
use Rattle.dom_base.specs.declared.kind.Kind.TheVariants.{N as nch, P as pch}
use Rattle.dom_base.proofs.Lists.{AllByRecursion-append}
use Rattle.dom_base.proofs.Names.{IsNetName-from_test}
use Rattle.deck.specs.NamedDevices.{NamedDevice}
use Rattle.deck.proofs.DeckNames.{HasPlainNets}
use Rattle.deck.proofs.JoinedNames.{IsNetName-joined, IsNetName-numbered}
use Rattle.deck_form.specs.DeckNets.{CellPlan, SinkEnd, Fixed, OfLeaf, OfDynamic, OfOutput, complement_net, data_net, dynamic_net, named_cell, named_complement, named_devices, named_gate, named_sink, output_net, own_net, sink_gate, sink_nets}
use Rattle.deck_form.specs.NamedDecks.{IsEndIn}
use Rattle.domino_cell.specs.Cell.{CellNets, inverter}
use Rattle.domino_cell.specs.NamedTrees.{inner_net}
use Rattle.domino_cell.specs.PushedNames.{inner_front, numbered_cell}
use Rattle.domino_cell.specs.Spelling.{spell}
use Rattle.domino_cell.specs.StyledCells.{behind_precharge, inner_precharges, pull_down_cards, styled_cell}
use Rattle.domino_cell.specs.declared.style.Style.{Style}
use Rattle.domino_cell.specs.declared.style.Style.TheVariants.{Keeper as WithKeeper, Precharge as WithPrecharge}
use Rattle.domino_cell.proofs.PushedTrees.{inner_count-below}
use Rattle.latch_bind.specs.Latches.{named_latch, named_reset}
use Rattle.sp_network.specs.Tree.{Tree, Leaf, Series, Parallel, EachLeaf, inner_count, leaves, map_tree}
use Rattle.sp_network.proofs.TreeImages.{inner_count-map_tree}
use Rattle.synth_flow.proofs.BareDecks.{gate_has, own_has}

abbrev pub ArePlain : List (NamedDevice (List ℕ)) → Type 0
ArePlain devices = AllByRecursion HasPlainNets devices

-- a name with a number
numbered : (front : List ℕ) (n : ℕ) → is_net_name front ≡ true → n < 2 ^ 64 → IsNetName (front ++ decimal n)
numbered front n test low = IsNetName-numbered front n low (IsNetName-from_test front test).good

vdd_plain : IsNetName (codes "vdd")
vdd_plain = IsNetName-from_test (codes "vdd") refl

vss_plain : IsNetName (codes "vss")
vss_plain = IsNetName-from_test (codes "vss") refl

inverter_plain : (gate out : List ℕ) → IsNetName gate → IsNetName out → ArePlain (inverter (codes "vdd") (codes "vss") gate out)
inverter_plain gate out g o = ((o, g, vdd_plain), ((o, g, vss_plain), tt))

-- a tree whose first inner nets, so many, are plain
spell_plain : (kind : Kind) (inner : ℕ → List ℕ) (m : ℕ) → ((j : ℕ) → j < m → IsNetName (inner j)) → (tree : Tree (List ℕ)) (top bottom : List ℕ) (k : ℕ)
    → EachLeaf IsNetName tree → IsNetName top → IsNetName bottom → k + inner_count tree ≤ m → ArePlain (spell kind inner tree top bottom k)
spell_plain kind inner m each (Leaf gate) top bottom k gates t b few = ((t, gates, b), tt)
spell_plain kind inner m each (Series l r) top bottom k gates t b few =
    let middle = each k (omega (arith, few)) in
    AllByRecursion-append HasPlainNets (spell kind inner l top (inner k) (k + 1)) (spell kind inner r (inner k) bottom (k + 1 + inner_count l))
    (spell_plain kind inner m each l top (inner k) (k + 1) gates.0 t middle (omega (arith, few)))
    (spell_plain kind inner m each r (inner k) bottom (k + 1 + inner_count l) gates.1 middle b (omega (arith, few)))
spell_plain kind inner m each (Parallel l r) top bottom k gates t b few =
    AllByRecursion-append HasPlainNets (spell kind inner l top bottom k) (spell kind inner r top bottom (k + inner_count l))
    (spell_plain kind inner m each l top bottom k gates.0 t b (omega (arith, few)))
    (spell_plain kind inner m each r top bottom (k + inner_count l) gates.1 t b (omega (arith, few)))

-- nets of a cell with so many inner nets
record AreCellNets (nets : CellNets (List ℕ)) (m : ℕ) : Type 0 where
  vdd : IsNetName nets.vdd
  vss : IsNetName nets.vss
  clock : IsNetName nets.clock
  dynamic : IsNetName nets.dynamic
  output : IsNetName nets.output
  foot : IsNetName nets.foot
  inner : (j : ℕ) → j < m → IsNetName (nets.inner j)

precharges_plain : (nets : CellNets (List ℕ)) (m : ℕ) → AreCellNets nets m → (j n : ℕ) → j + n ≤ m → ArePlain (inner_precharges nets j n)
precharges_plain nets m are j zero few = tt
precharges_plain nets m are j (suc n) few = ((are.inner j (omega (arith, few)), are.clock, are.vdd), precharges_plain nets m are (j + 1) n (omega (arith, few)))

behind_plain : (style : Style) (nets : CellNets (List ℕ)) (m : ℕ) → AreCellNets nets m → (n : ℕ) → n ≤ m → ArePlain (behind_precharge style nets n)
behind_plain WithKeeper nets m are n few = ((are.dynamic, are.output, are.vdd), tt)
behind_plain WithPrecharge nets m are n few = precharges_plain nets m are 0 n (omega (arith, few))

cell_plain : (style : Style) (nets : CellNets (List ℕ)) (m : ℕ) (tree : Tree (List ℕ)) → AreCellNets nets m → EachLeaf IsNetName tree → inner_count tree ≤ m
    → ArePlain (styled_cell style nets tree)
cell_plain style nets m tree are gates few =
    let card : NamedDevice (List ℕ) = record { kind = pch; drain = nets.dynamic; gate = nets.clock; source = nets.vdd } in
    AllByRecursion-append HasPlainNets (card ∷ behind_precharge style nets (inner_count tree)) (pull_down_cards nets tree ++ inverter nets.vdd nets.vss nets.dynamic nets.output)
    ((are.dynamic, are.clock, are.vdd), behind_plain style nets m are (inner_count tree) few)
    (AllByRecursion-append HasPlainNets (pull_down_cards nets tree) (inverter nets.vdd nets.vss nets.dynamic nets.output)
    (AllByRecursion-append HasPlainNets (spell nch nets.inner tree nets.dynamic nets.foot 0) _
    (spell_plain nch nets.inner m are.inner tree nets.dynamic nets.foot 0 gates are.dynamic are.foot (omega (arith, few))) ((are.foot, are.clock, are.vss), tt))
    ((are.output, are.dynamic, are.vdd), ((are.output, are.dynamic, are.vss), tt)))

cell_nets_plain : (clock k m : ℕ) → clock < 2 ^ 64 → k < 2 ^ 64 → m < 2 ^ 64 → AreCellNets (numbered_cell clock k) m
cell_nets_plain clock k m c n few =
    let front : IsNetName (inner_front k) = IsNetName-joined (codes "t" ++ decimal k) (codes "_") (numbered (codes "t") k refl n) (IsNetName-from_test (codes "_") refl).good in
    record {
      vdd = vdd_plain;
      vss = vss_plain;
      clock = numbered (codes "ck") clock refl c;
      dynamic = numbered (codes "d") k refl n;
      output = numbered (codes "z") k refl n;
      foot = numbered (codes "f") k refl n;
      inner = λ j lt. IsNetName-numbered (inner_front k) j (omega (arith, lt, few)) front.good;
    }

-- what is asked of a cell
abbrev pub IsLowCell : CellPlan → Type 0
IsLowCell c = (c.clock < 2 ^ 64) × (leaves c.tree ≤ 48) × EachLeaf (λ gate. gate < 2 ^ 64) c.tree

-- and of what a sink is taken from
abbrev pub IsLowEnd : SinkEnd → Type 0
IsLowEnd (Fixed b) = Unit {0}
IsLowEnd (OfLeaf leaf plus) = leaf < 2 ^ 64
IsLowEnd (OfDynamic k) = k < 2 ^ 64
IsLowEnd (OfOutput k) = k < 2 ^ 64

module _ (pins : List (List ℕ)) (pins_are : AllByRecursion IsNetName pins) (lc : ℕ) where
  own_plain : (leaf : ℕ) → leaf < 2 ^ 64 → IsNetName (own_net pins leaf)
  own_plain leaf low = own_has IsNetName pins leaf pins_are (numbered (codes "q") (leaf - length pins) refl (omega (arith, low)))

  gates_plain : (tree : Tree ℕ) → EachLeaf (λ gate. gate < 2 ^ 64) tree → EachLeaf IsNetName (map_tree (named_gate pins lc) tree)
  gates_plain (Leaf gate) low =
      gate_has IsNetName pins lc gate pins_are (numbered (codes "q") (gate / 2 - length pins) refl (omega (arith, low))) (numbered (codes "c") (gate / 2) refl (omega (arith, low)))
      (λ _. numbered (codes "z") (gate - 2 * lc) refl (omega (arith, low)))
  gates_plain (Series l r) low = (gates_plain l low.0, gates_plain r low.1)
  gates_plain (Parallel l r) low = (gates_plain l low.0, gates_plain r low.1)

  cells_plain : (style : Style) (k : ℕ) (cells : List CellPlan) → k + length cells < 2 ^ 64 → AllByRecursion IsLowCell cells
      → ArePlain (flat_map (named_cell style pins lc) (enumerate_from k cells))
  cells_plain style k [] few low = tt
  cells_plain style k (c ∷ cells) few low =
      let tree = map_tree (named_gate pins lc) c.tree in
      AllByRecursion-append HasPlainNets (named_cell style pins lc (k, c)) (flat_map (named_cell style pins lc) (enumerate_from (k + 1) cells))
      (cell_plain style (numbered_cell c.clock k) 48 tree (cell_nets_plain c.clock k 48 low.0.0 (omega (arith, few)) (omega arith)) (gates_plain c.tree low.0.2)
      (omega (arith, inner_count-map_tree (named_gate pins lc) c.tree, inner_count-below c.tree, low.0.1)))
      (cells_plain style (k + 1) cells (omega (arith, few)) low.1)

  complements_plain : (complements : List ℕ) → AllByRecursion (λ leaf. leaf < 2 ^ 64) complements → ArePlain (flat_map (named_complement pins) complements)
  complements_plain [] low = tt
  complements_plain (leaf ∷ complements) low =
      AllByRecursion-append HasPlainNets (named_complement pins leaf) (flat_map (named_complement pins) complements)
      (inverter_plain (own_net pins leaf) (complement_net leaf) (own_plain leaf low.0) (numbered (codes "c") leaf refl low.0)) (complements_plain complements low.1)

  sink_gate_plain : (end : SinkEnd) → IsLowEnd end → IsNetName (sink_gate pins end)
  sink_gate_plain (Fixed true) low = vss_plain
  sink_gate_plain (Fixed false) low = vdd_plain
  sink_gate_plain (OfLeaf leaf true) low = numbered (codes "c") leaf refl low
  sink_gate_plain (OfLeaf leaf false) low = own_plain leaf low
  sink_gate_plain (OfDynamic k) low = numbered (codes "d") k refl low
  sink_gate_plain (OfOutput k) low = numbered (codes "z") k refl low

  sinks_plain : (nets : List (List ℕ)) (ends : List SinkEnd) → AllByRecursion IsNetName nets → AllByRecursion IsLowEnd ends
      → ArePlain (flat_map (named_sink pins) (zip nets ends))
  sinks_plain [] ends plain low = tt
  sinks_plain (net ∷ nets) [] plain low = tt
  sinks_plain (net ∷ nets) (end ∷ ends) plain low =
      AllByRecursion-append HasPlainNets (named_sink pins (net, end)) (flat_map (named_sink pins) (zip nets ends))
      (inverter_plain (sink_gate pins end) net (sink_gate_plain end low.0) plain.0) (sinks_plain nets ends plain.1 low.1)

latch_plain : (j : ℕ) (start : Bool) → j < 2 ^ 64 → ArePlain (named_latch (j, start))
latch_plain j start low =
    let m = numbered (codes "m") j refl low in
    let q = numbered (codes "q") j refl low in
    let x = numbered (codes "x") j refl low in
    let p_good = (IsNetName-from_test (codes "p") refl).good in
    let n_good = (IsNetName-from_test (codes "n") refl).good in
    let mp = IsNetName-joined (codes "m" ++ decimal j) (codes "p") m p_good in
    let mn = IsNetName-joined (codes "m" ++ decimal j) (codes "n") m n_good in
    let qp = IsNetName-joined (codes "q" ++ decimal j) (codes "p") q p_good in
    let qn = IsNetName-joined (codes "q" ++ decimal j) (codes "n") q n_good in
    let lm = IsNetName-from_test (codes "lm") refl in
    let lmb = IsNetName-from_test (codes "lmb") refl in
    let ls = IsNetName-from_test (codes "ls") refl in
    let lsb = IsNetName-from_test (codes "lsb") refl in (
      (m, lmb, mp),
      (
        (mp, x, vdd_plain),
        (
          (m, lm, mn),
          (
            (mn, x, vss_plain),
            ((q, lsb, qp), ((qp, m, vdd_plain), ((q, ls, qn), ((qn, m, vss_plain), (reset start, tt))))),
          ),
        ),
      ),
    )
  where
    reset : (b : Bool) → HasPlainNets (named_reset j b)
    reset true = (numbered (codes "q") j refl low, IsNetName-from_test (codes "rsb") refl, vdd_plain)
    reset false = (numbered (codes "q") j refl low, IsNetName-from_test (codes "rs") refl, vss_plain)

latches_plain : (j : ℕ) (starts : List Bool) → j + length starts < 2 ^ 64 → ArePlain (flat_map named_latch (enumerate_from j starts))
latches_plain j [] few = tt
latches_plain j (s ∷ starts) few =
    AllByRecursion-append HasPlainNets (named_latch (j, s)) (flat_map named_latch (enumerate_from (j + 1) starts))
    (latch_plain j s (omega (arith, few))) (latches_plain (j + 1) starts (omega (arith, few)))

data_plain : (j : ℕ) (starts : List Bool) → j + length starts < 2 ^ 64 → AllByRecursion IsNetName (map (λ (p : ℕ × Bool). data_net p.0) (enumerate_from j starts))
data_plain j [] few = tt
data_plain j (s ∷ starts) few = (numbered (codes "x") j refl (omega (arith, few)), data_plain (j + 1) starts (omega (arith, few)))

-- the nets of sinks
pub sinks_are_plain : (outs : List (List ℕ)) (starts : List Bool) → AllByRecursion IsNetName outs → length starts < 2 ^ 64 → AllByRecursion IsNetName (sink_nets outs starts)
sinks_are_plain outs starts plain few =
    AllByRecursion-append IsNetName outs (map (λ (p : ℕ × Bool). data_net p.0) (enumerate_from 0 starts)) plain (data_plain 0 starts (omega (arith, few)))

-- the devices of a deck
pub devices_plain : (style : Style) (pins outs : List (List ℕ)) (starts : List Bool) (cells : List CellPlan) (complements : List ℕ) (ends : List SinkEnd)
    → (pins_are : AllByRecursion IsNetName pins) → AllByRecursion IsNetName outs → length starts < 2 ^ 64 → length cells < 2 ^ 64
    → AllByRecursion IsLowCell cells → AllByRecursion (λ leaf. leaf < 2 ^ 64) complements → AllByRecursion IsLowEnd ends
    → ArePlain (named_devices style pins outs starts cells complements ends)
devices_plain style pins outs starts cells complements ends pins_are outs_are few many low_cells low_complements low_ends =
    let lc = length pins + length starts in
    let a = flat_map (named_cell style pins lc) (enumerate_from 0 cells) in
    let b = flat_map (named_complement pins) complements in
    let c = flat_map named_latch (enumerate_from 0 starts) in
    let d = flat_map (named_sink pins) (zip (sink_nets outs starts) ends) in
    AllByRecursion-append HasPlainNets (a ++ b ++ c) d
    (AllByRecursion-append HasPlainNets (a ++ b) c
    (AllByRecursion-append HasPlainNets a b (cells_plain pins pins_are lc style 0 cells (omega (arith, many)) low_cells) (complements_plain pins pins_are lc complements low_complements))
    (latches_plain 0 starts (omega (arith, few))))
    (sinks_plain pins pins_are lc (sink_nets outs starts) ends (sinks_are_plain outs starts outs_are few) low_ends)
