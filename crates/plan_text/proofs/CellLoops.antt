-- The cards of cells, one cell after the other.
use Rattle.std.proofs.Common.{◌≡◌, ℕ, ◌+◌, ◌≤◌, ◌<◌, Bool, List, [], ◌∷◌, ◌++◌, Some, suc, zero-add, slice_get, get_or, length, map, take, zip, sym, ap, ◌∙◌, arith}
use Rattle.std.specs.Prelude.{not}
use Rattle.std.specs.List.{enumerate_from, flat_map, range_with_len}
use Rattle.std.proofs.lemmas.List.FromFn.{length-range_with_len}
use Rattle.std.proofs.lemmas.List.Sums.{count_by-le-length, length-filter}
use Rattle.std.proofs.lemmas.List.{get_or-map, length-map}
use Rattle.std.proofs.lemmas.Option.{get_or_from_slice_get, slice_get-get_or}
use Rattle.std.proofs.lemmas.Slice.Zip.{get_or-zip, length-zip}
use Rattle.dom_base.proofs.Lists.{All-at}
use Rattle.clock_phase.specs.Levels.{clock_of, greatest}
use Rattle.clock_phase.specs.Plans.{CellPlan}
use Rattle.deck.specs.NamedDevices.{NamedDevice}
use Rattle.deck_form.specs.DeckNets.{named_cell}
use Rattle.deck_form.specs.DominoDecks.{cells_of}
use Rattle.deck_form.proofs.CellOrder.{root_of_cell}
use Rattle.deck_form.proofs.DeckForms.{all_zip_length}
use Rattle.domino_cell.specs.Cell.{CellNets, inverter}
use Rattle.domino_cell.specs.PushedNames.{numbered_cell}
use Rattle.domino_cell.specs.Spelling.{spell}
use Rattle.domino_cell.specs.StyledCells.{behind_precharge, inner_precharges, pull_down_cards, styled_cell}
use Rattle.domino_cell.specs.declared.style.Style.{Style}
use Rattle.domino_cell.proofs.StyledCells.{inner_precharges-next}
use Rattle.dom_base.specs.declared.kind.Kind.TheVariants.{N as nch, P as pch}
use Rattle.dual_rail.specs.ForestData.{ForestData}
use Rattle.dual_rail.proofs.Zips.{all_zip_get}
use Rattle.sp_network.specs.Tree.{Tree, Leaf, inner_count, leaves}
use Rattle.tree_map.specs.Plans.{IsTreeOf, is_kept, roots}
use Rattle.plan_text.specs.DeviceTexts.{with_end, with_groups, with_put}
use Rattle.plan_text.specs.declared.device_text.DeviceText.{DeviceText}
use Rattle.plan_text.specs.PutCells.{AreRootTrees, HasRoomForTree, HasSmallTrees, netted}
use Rattle.plan_text.proofs.DeviceTexts.{then_put}
use Rattle.plan_text.proofs.Loops.{next_numbered}

-- a cell of a plan by its place
pub cell_of_plan : (phases : ℕ) (levels : List ℕ) (trees : List (Tree ℕ)) (k : ℕ) (d : CellPlan) → k < length trees → k < length levels
    → get_or (cells_of phases levels trees) k d ≡ record { tree = get_or trees k (Leaf 0); clock = clock_of phases (greatest levels) (get_or levels k 0) }
cell_of_plan phases levels trees k d low high =
    let cell : Tree ℕ × ℕ → CellPlan = λ p. record { tree = p.0; clock = clock_of phases (greatest levels) p.1 } in
    get_or-map cell (zip trees levels) k (Leaf 0, 0) d (omega (arith, length-zip trees levels, low, high))
    ∙ ap cell (get_or-zip trees levels k (Leaf 0, 0) low high)

pub cell_total : (phases : ℕ) (levels : List ℕ) (trees : List (Tree ℕ)) → length levels ≡ length trees → length (cells_of phases levels trees) ≡ length levels
cell_total phases levels trees same =
    let cell : Tree ℕ × ℕ → CellPlan = λ p. record { tree = p.0; clock = clock_of phases (greatest levels) p.1 } in
    omega (arith, length-map (zip trees levels) cell, length-zip trees levels, same)

-- the trees are as many as the places
pub trees_total : (forest : ForestData) (kept : List Bool) (places : List ℕ) → places ≡ roots kept → (trees : List (Tree ℕ)) → AreRootTrees forest kept trees → length trees ≡ length places
trees_total forest kept places places_are trees are = omega (arith, all_zip_length (IsTreeOf forest kept) (roots kept) trees are, ap length places_are)

-- and no more than the pairs
pub few_places : (kept : List Bool) (places : List ℕ) → places ≡ roots kept → length places ≤ length kept
few_places kept places places_are =
    let root : ℕ → Bool = λ place. not (is_kept kept place) in
    let all = range_with_len 0 (length kept) in
    omega (arith, ap length places_are, length-filter root all, count_by-le-length root all, length-range_with_len 0 (length kept))

module _ (forest : ForestData) (kept : List Bool) (places : List ℕ) (places_are : places ≡ roots kept) (k : ℕ) (lt : k < length places) where
  pub root_at : slice_get (roots kept) k ≡ Some (get_or places k 0)
  root_at = ap (λ l. slice_get l k) (sym places_are) ∙ slice_get-get_or places k 0 lt

  -- the root of a cell is there
  pub root_is_there : length kept ≡ length forest.pairs → get_or places k 0 < length forest.pairs
  root_is_there one_each = omega (arith, (root_of_cell kept k (get_or places k 0) root_at).2, one_each)

  -- and it has a small tree
  pub root_has_room : HasSmallTrees forest kept → HasRoomForTree forest kept (get_or places k 0) 0
  root_has_room small =
      let t = all_zip_get (IsTreeOf forest kept) (roots kept) small.0 k (get_or places k 0) small.1 root_at in
      (t.0, t.2, omega (arith, All-at (λ (tree : Tree ℕ). leaves tree ≤ 48) small.0 k t.0 small.2 t.1))

  -- one more cell
  pub next_cell : (style : Style) (phases clock : ℕ) (pins : List (List ℕ)) (levels : List ℕ) (start cur put new : DeviceText)
      → length levels ≡ length places → clock ≡ clock_of phases (greatest levels) (get_or levels k 0)
      → (trees : List (Tree ℕ)) → AreRootTrees forest kept trees
      → cur ≡ with_groups start (map (named_cell style pins forest.leaves) (enumerate_from 0 (take k (cells_of phases levels trees))))
      → ((tree : Tree ℕ) → IsTreeOf forest kept (get_or places k 0) tree → put ≡ with_put cur (styled_cell style (numbered_cell clock k) (netted pins forest.leaves tree)))
      → new ≡ with_end put
      → new ≡ with_groups start (map (named_cell style pins forest.leaves) (enumerate_from 0 (take (k + 1) (cells_of phases levels trees))))
  next_cell style phases clock pins levels start cur put new one_each clock_is trees are e made end =
      let total = trees_total forest kept places places_are trees are in
      let t = all_zip_get (IsTreeOf forest kept) (roots kept) trees k (get_or places k 0) are root_at in
      let first : get_or trees k (Leaf 0) ≡ t.0 = get_or_from_slice_get trees k t.0 (Leaf 0) t.1 in
      let none : CellPlan = record { tree = Leaf 0; clock = 0 } in
      let cell = cell_of_plan phases levels trees k none (omega (arith, total, lt)) (omega (arith, one_each, lt)) in
      let same : styled_cell style (numbered_cell clock k) (netted pins forest.leaves t.0) ≡ named_cell style pins forest.leaves (k, get_or (cells_of phases levels trees) k none) =
      (λ i. named_cell style pins forest.leaves (k, record { tree = sym first i; clock = clock_is i }))
      ∙ ap (λ (c : CellPlan). named_cell style pins forest.leaves (k, c)) (sym cell) in
      next_numbered (named_cell style pins forest.leaves) (cells_of phases levels trees) k none
      (omega (arith, cell_total phases levels trees (omega (arith, one_each, total)), one_each, lt)) start cur put new e
      (made t.0 t.2 ∙ ap (with_put cur) same) end

-- the precharge of one more inner net
pub next_precharge : (nets : CellNets (List ℕ)) (n : ℕ) (start cur new : DeviceText) (net clock vdd : List ℕ) → net ≡ nets.inner n → clock ≡ nets.clock → vdd ≡ nets.vdd
    → cur ≡ with_put start (inner_precharges nets 0 n) → new ≡ with_put cur (record { kind = pch; drain = net; gate = clock; source = vdd } ∷ [])
    → new ≡ with_put start (inner_precharges nets 0 (n + 1))
next_precharge nets n start cur new net clock vdd net_is clock_is vdd_is e g =
    let first : nets.inner n ≡ nets.inner (0 + n) = ap nets.inner (sym (zero-add n)) in
    let step : n + 1 ≡ suc n = omega arith in
    then_put start cur new (inner_precharges nets 0 n) (record { kind = pch; drain = nets.inner (0 + n); gate = nets.clock; source = nets.vdd } ∷ []) e
    (g ∙ (λ i. with_put cur (record { kind = pch; drain = (net_is ∙ first) i; gate = clock_is i; source = vdd_is i } ∷ [])))
    ∙ ap (with_put start) (sym (inner_precharges-next nets 0 n)) ∙ ap (λ m. with_put start (inner_precharges nets 0 m)) (sym step)

-- the cards of a cell by its parts
pub cell_cards : (style : Style) (nets : CellNets (List ℕ)) (tree : Tree (List ℕ)) (old one two three new : DeviceText)
    → one ≡ with_put old (record { kind = pch; drain = nets.dynamic; gate = nets.clock; source = nets.vdd } ∷ behind_precharge style nets (inner_count tree))
    → two ≡ with_put one (spell nch nets.inner tree nets.dynamic nets.foot 0)
    → three ≡ with_put two (record { kind = nch; drain = nets.foot; gate = nets.clock; source = nets.vss } ∷ [])
    → new ≡ with_put three (inverter nets.vdd nets.vss nets.dynamic nets.output)
    → new ≡ with_put old (styled_cell style nets tree)
cell_cards style nets tree old one two three new a b c d =
    let first : NamedDevice (List ℕ) = record { kind = pch; drain = nets.dynamic; gate = nets.clock; source = nets.vdd } in
    let foot : NamedDevice (List ℕ) = record { kind = nch; drain = nets.foot; gate = nets.clock; source = nets.vss } in
    let last = inverter nets.vdd nets.vss nets.dynamic nets.output in
    let pulls = then_put one two three (spell nch nets.inner tree nets.dynamic nets.foot 0) (foot ∷ []) b c in
    then_put old one new (first ∷ behind_precharge style nets (inner_count tree)) (pull_down_cards nets tree ++ last) a
    (then_put one three new (pull_down_cards nets tree) last pulls d)
