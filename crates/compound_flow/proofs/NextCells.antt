-- Behind the first cells the nets are before the next cell, so it has room.
use Rattle.std.proofs.Common.{◌≡◌, ℕ, zero, suc, ◌+◌, ◌<◌, ◌≤◌, ◌^◌, false, true, List, [], ◌∷◌, ◌++◌, ◌∙◌, Some, add-zero, ap, append-nil, append_assoc, arith, length, refl, slice_get, subst, sym, take, zero-add}
use Rattle.std.specs.Prelude.{codes}
use Rattle.std.specs.Fmt.{decimal}
use Rattle.std.specs.List.{AllByRecursion}
use Rattle.std.proofs.lemmas.List.Elements.{recursion_from_All}
use Rattle.std.proofs.lemmas.Option.{slice_get_within}
use Rattle.dom_base.proofs.Lists.{All-at, AllByRecursion-weaker}
use Rattle.deck.specs.CircuitData.{CircuitData}
use Rattle.deck.specs.NamedDevices.{with_devices}
use Rattle.deck.specs.Nets.{IsCircuit, net_name, net_number}
use Rattle.deck.proofs.CircuitGrowth.{with_devices-append, with_devices-grew}
use Rattle.deck.proofs.DeviceNumbers.{IsCircuit-ports}
use Rattle.deck.proofs.NetNumbers.{HasNumber-below, net_number-append, net_number-behind}
use Rattle.sp_network.specs.Tree.{EachLeaf, Leaf, Parallel, Series, Tree, map_tree}
use Rattle.domino_cell.specs.NamedTrees.{inner_net}
use Rattle.domino_cell.specs.PushedNames.{HasRoomForCell, HasRoomForGate, IsNewNet, IsPort, IsUndriven, inner_front, lower_front, numbered_cell, upper_front}
use Rattle.domino_cell.proofs.AppendedNets.{old_in_range}
use Rattle.domino_cell.proofs.NamedCells.{is_source-inside}
use Rattle.compound_plan.specs.Plans.{CellTrees, Compound, Simple}
use Rattle.compound_cell.specs.CompoundCells.{named_cell, right_cell, right_front, whole_tree}
use Rattle.compound_cell.specs.PushedCells.{HasRoomForTrees}
use Rattle.deck_form.specs.NameParts.{NoDigit, number_of}
use Rattle.deck_form.proofs.NameParts.{all_nets, bare_number_is, none_named, number_is}
use Rattle.synth_flow.specs.MadeDecks.{HasRoomForCells, IsBeforeCell}
use Rattle.compound_flow.specs.MadeCells.{HaveClocks, HaveGates, named_cells}
use Rattle.compound_flow.proofs.CellNames.{HoldsOfCell, cell_has_names}

-- the number in a name with more behind it
pub marked_number : (c k : ℕ) (mark rest : List ℕ) → k < 2 ^ 64 → NoDigit (mark ++ rest) → number_of (c ∷ ((decimal k ++ mark) ++ rest)) ≡ k
marked_number c k mark rest small none = ap (λ l. number_of (c ∷ l)) (append_assoc (decimal k) mark rest) ∙ number_is c k (mark ++ rest) small none

-- a port stays one
port_stays : (c : CircuitData) (k : ℕ) (name : ℕ → List ℕ) (cells : List (CellTrees × ℕ)) (port : List ℕ) → c.ports ≤ length c.nets → IsPort c port
    → IsPort (with_devices c (named_cells name k cells)) port
port_stays c k name cells port low is =
    let grew = with_devices-grew c (named_cells name k cells) in
    let same = ap (λ l. net_number l port) grew.nets ∙ net_number-append c.nets grew.more_nets port (HasNumber-below c.nets port (omega (arith, is, low))) in
    omega (arith, same, is, grew.ports)

-- nothing drives a net that is new
new_undriven : (c : CircuitData) (name : List ℕ) → IsCircuit c.ports c.nets c.devices → IsNewNet c name → IsUndriven c name
new_undriven c name circuit new =
    let behind : length c.nets ≤ net_number c.nets name = subst (λ l. length c.nets ≤ net_number l name) (append-nil c.nets) (net_number-behind c.nets [] name new) in (
      is_source-inside c (net_number c.nets name) (omega (arith, behind, IsCircuit-ports c.ports c.nets c.devices circuit)),
      λ d has. (
        (λ e. omega (arith, e, behind, (old_in_range c [] circuit d has).drain)),
        (λ e. omega (arith, e, behind, (old_in_range c [] circuit d has).source)),
      ),
    )

-- a circuit whose nets are all before a cell has room for it
module _ (c : CircuitData) (clock k : ℕ) (small : k < 2 ^ 64) (circuit : IsCircuit c.ports c.nets c.devices) (vdd : IsPort c (codes "vdd")) (vss : IsPort c (codes "vss"))
    (port : IsPort c (codes "ck" ++ decimal clock)) (all : AllByRecursion (IsBeforeCell k) c.nets) where
  new : (name : List ℕ) → (IsBeforeCell k name → ⊥) → IsNewNet c name
  new name own = none_named (IsBeforeCell k) name own c.nets all

  room_for_left : HasRoomForCell c (numbered_cell clock k)
  room_for_left = record {
    vdd = vdd;
    vss = vss;
    clock = port;
    dynamic = new (codes "d" ++ decimal k) (λ b. omega (arith, b refl, bare_number_is 100 k small));
    output = new (codes "z" ++ decimal k) (λ b. omega (arith, b refl, bare_number_is 122 k small));
    foot = new (codes "f" ++ decimal k) (λ b. omega (arith, b refl, bare_number_is 102 k small));
    inner = λ j. new (inner_net (inner_front k) j) (λ b. omega (arith, b refl, marked_number 116 k (codes "_") (decimal j) small refl));
  }

  room_for_right : HasRoomForCell c (right_cell clock k)
  room_for_right = record {
    vdd = vdd;
    vss = vss;
    clock = port;
    dynamic = new (codes "e" ++ decimal k) (λ b. omega (arith, b refl, bare_number_is 101 k small));
    output = new (codes "z" ++ decimal k) (λ b. omega (arith, b refl, bare_number_is 122 k small));
    foot = new (codes "g" ++ decimal k) (λ b. omega (arith, b refl, bare_number_is 103 k small));
    inner = λ j. new (inner_net (right_front k) j) (λ b. omega (arith, b refl, marked_number 117 k (codes "_") (decimal j) small refl));
  }

  undriven : (name : List ℕ) → (IsBeforeCell k name → ⊥) → IsUndriven c name
  undriven name own = new_undriven c name circuit (new name own)

  room_for_gate : HasRoomForGate c (codes "z" ++ decimal k)
  room_for_gate = record {
    vdd = vdd;
    vss = vss;
    output = undriven (codes "z" ++ decimal k) (λ b. omega (arith, b refl, bare_number_is 122 k small));
    upper = λ j. undriven (inner_net (upper_front (codes "z" ++ decimal k)) j) (λ b. omega (arith, b refl, marked_number 122 k (codes "_p") (decimal j) small refl));
    lower = λ j. undriven (inner_net (lower_front (codes "z" ++ decimal k)) j) (λ b. omega (arith, b refl, marked_number 122 k (codes "_n") (decimal j) small refl));
  }

  pub room_for_trees : (trees : CellTrees) → HasRoomForTrees c clock k trees
  room_for_trees (Simple t) = room_for_left
  room_for_trees (Compound l r) = (room_for_left, room_for_right, room_for_gate)

-- the nets of cell k are before the next
own_before : (clock k : ℕ) → k < 2 ^ 64 → HoldsOfCell (IsBeforeCell (suc k)) clock k
own_before clock k small = record {
  d = λ b. omega (arith, bare_number_is 100 k small);
  f = λ b. omega (arith, bare_number_is 102 k small);
  t = λ j b. omega (arith, marked_number 116 k (codes "_") (decimal j) small refl);
  e = λ b. omega (arith, bare_number_is 101 k small);
  g = λ b. omega (arith, bare_number_is 103 k small);
  u = λ j b. omega (arith, marked_number 117 k (codes "_") (decimal j) small refl);
  z = λ b. omega (arith, bare_number_is 122 k small);
  n = λ b. omega (arith, marked_number 122 k (codes "_n") (decimal 0) small refl);
  ck = λ b. absurd (never b);
  vdd = λ b. absurd (never b);
  vss = λ b. absurd (never b);
}
  where
    never : false ≡ true → ⊥
    never e = cc

later : (k : ℕ) (name : List ℕ) → IsBeforeCell k name → IsBeforeCell (suc k) name
later k name b e = omega (arith, b e)

-- the gates of a cell are before the next too
gates_before : (names : List (List ℕ)) (k : ℕ) (t : Tree ℕ) → EachLeaf (λ gate. (gate < length names) × IsBeforeCell k (net_name names gate)) t
    → EachLeaf (IsBeforeCell (suc k)) (map_tree (net_name names) t)
gates_before names k (Leaf gate) h = later k (net_name names gate) h.1
gates_before names k (Series l r) h = (gates_before names k l h.0, gates_before names k r h.1)
gates_before names k (Parallel l r) h = (gates_before names k l h.0, gates_before names k r h.1)

gates_tail : (names : List (List ℕ)) (k : ℕ) (p : CellTrees × ℕ) (cells : List (CellTrees × ℕ)) → HaveGates names k (p ∷ cells) → HaveGates names (suc k) cells
gates_tail names k p cells gated i q at =
    let count : k + suc i ≡ suc k + i = omega arith in
    subst (λ n. EachLeaf (λ gate. (gate < length names) × IsBeforeCell n (net_name names gate)) (whole_tree q.0)) count (gated (suc i) q at)

gates_head : (names : List (List ℕ)) (k : ℕ) (p : CellTrees × ℕ) (cells : List (CellTrees × ℕ)) → HaveGates names k (p ∷ cells)
    → EachLeaf (λ gate. (gate < length names) × IsBeforeCell k (net_name names gate)) (whole_tree p.0)
gates_head names k p cells gated =
    let count : k + 0 ≡ k = omega arith in
    subst (λ n. EachLeaf (λ gate. (gate < length names) × IsBeforeCell n (net_name names gate)) (whole_tree p.0)) count (gated 0 p refl)

-- after so many cells the nets are before the next
cells_nets : (c : CircuitData) (names : List (List ℕ)) (k : ℕ) (cells : List (CellTrees × ℕ)) (i : ℕ) → i ≤ length cells → k + i < 2 ^ 64 → HaveGates names k cells
    → AllByRecursion (IsBeforeCell k) c.nets → AllByRecursion (IsBeforeCell (k + i)) (with_devices c (named_cells (net_name names) k (take i cells))).nets
cells_nets c names k [] zero le small gated all = subst (λ n. AllByRecursion (IsBeforeCell n) c.nets) (sym (add-zero k)) all
cells_nets c names k [] (suc i) le small gated all = absurd (omega arith)
cells_nets c names k (p ∷ cells) zero le small gated all = subst (λ n. AllByRecursion (IsBeforeCell n) c.nets) (sym (add-zero k)) all
cells_nets c names k (p ∷ cells) (suc i) le small gated all =
    let one = named_cell (net_name names) p.1 k p.0 in
    let own = cell_has_names (IsBeforeCell (suc k)) (net_name names) p.1 k (own_before p.1 k (omega arith)) p.0
    (gates_before names k (whole_tree p.0) (gates_head names k p cells gated)) in
    let here = all_nets (IsBeforeCell (suc k)) c one (AllByRecursion-weaker (IsBeforeCell k) (IsBeforeCell (suc k)) (later k) c.nets all) own in
    let rest = cells_nets (with_devices c one) names (suc k) cells i (omega arith) (omega arith) (gates_tail names k p cells gated) here in
    let count : suc k + i ≡ k + suc i = omega arith in
    let next : suc k ≡ k + 1 = omega arith in
    let made : with_devices (with_devices c one) (named_cells (net_name names) (suc k) (take i cells)) ≡ with_devices c (named_cells (net_name names) k (p ∷ take i cells))
    = sym (with_devices-append c one (named_cells (net_name names) (suc k) (take i cells))) ∙ ap (λ n. with_devices c (one ++ named_cells (net_name names) n (take i cells))) next in
    subst (λ (d : CircuitData). AllByRecursion (IsBeforeCell (k + suc i)) d.nets) made
    (subst (λ n. AllByRecursion (IsBeforeCell n) (with_devices (with_devices c one) (named_cells (net_name names) (suc k) (take i cells))).nets) count rest)

-- where so many cells stand, there is room for the next
pub room_for_next : (old between : CircuitData) (names : List (List ℕ)) (cells : List (CellTrees × ℕ)) (k : ℕ) (p : CellTrees × ℕ) → length cells < 2 ^ 32 → slice_get cells k ≡ Some p
    → HasRoomForCells old [] → HaveClocks old cells → HaveGates names 0 cells → IsCircuit between.ports between.nets between.devices
    → between ≡ with_devices old (named_cells (net_name names) 0 (take k cells)) → HasRoomForTrees between p.1 k p.0
room_for_next old between names cells k p few at room clocks gated circuit one =
    let low = slice_get_within cells k p at in
    let first = take k cells in
    let all = cells_nets old names 0 cells k (omega (arith, low)) (omega (arith, low, few)) gated (recursion_from_All (IsBeforeCell 0) old.nets room.nets) in
    let made : CircuitData = with_devices old (named_cells (net_name names) 0 first) in
    let here : AllByRecursion (IsBeforeCell k) made.nets = subst (λ n. AllByRecursion (IsBeforeCell n) made.nets) (zero-add k) all in
    let clock = All-at (λ (q : CellTrees × ℕ). IsPort old (codes "ck" ++ decimal q.1)) cells k p clocks at in
    let whole = subst (λ (d : CircuitData). IsCircuit d.ports d.nets d.devices) one circuit in
    subst (λ (c : CircuitData). HasRoomForTrees c p.1 k p.0) (sym one)
    (room_for_trees made p.1 k (omega (arith, low, few)) whole (port_stays old 0 (net_name names) first (codes "vdd") room.ports room.vdd)
    (port_stays old 0 (net_name names) first (codes "vss") room.ports room.vss) (port_stays old 0 (net_name names) first (codes "ck" ++ decimal p.1) room.ports clock) here p.0)
