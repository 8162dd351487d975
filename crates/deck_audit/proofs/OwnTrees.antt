-- The trees of the cells of a deck with keepers, as links of the circuit.
use Rattle.std.specs.Prelude.{Some, slice_get, slice_index_or, ◌≢◌, ◌⊎◌}
use Rattle.std.proofs.Common.{ap, arith, inl, inr, refl, subst, suc, sym, zero, ℕ, ◌+◌, ◌<◌, ◌∙◌, ◌≡◌, ◌≤◌}
use Rattle.std.proofs.lemmas.Option.{get_or_from_slice_get, slice_get_cases, slice_get_within}
use Rattle.dom_base.specs.declared.kind.Kind.TheVariants.{N as nch}
use Rattle.deck.specs.NamedDevices.{NamedDevice}
use Rattle.deck.specs.declared.device.Device.{Device}
use Rattle.sp_network.specs.Tree.{Leaf, Parallel, Series, Tree, inner_count, leaves, map_tree}
use Rattle.sp_network.proofs.TreeImages.{inner_count-map_tree}
use Rattle.domino_cell.specs.Stage.{Inside, Top}
use Rattle.switch_model.specs.Laws.{EndsAt}
use Rattle.circuit_law.specs.Exchanged.{exchange}
use Rattle.port_runs.specs.Periods.{vss_port}
use Rattle.sp_reduction.specs.Networks.{Between, Has, Link, mids}
use Rattle.domino_law.specs.Branches.{numbered}
use Rattle.domino_law.proofs.Statics.{left_is}
use Rattle.domino_law.specs.LooseDeck.{IsNet}
use Rattle.domino_law.specs.Nets.{At, Clock, Dynamic, Gate, Net, Output, Vss, gate_net, left_side}
use Rattle.domino_law.specs.Shape.{DominoCell, IsCellAt, left_stage}
use Rattle.deck_audit.specs.Numbered.{Spells}
use Rattle.deck_audit.specs.Rules.{HasTree, IsInside}
use Rattle.deck_audit.specs.Words.{IsFree, IsReachedDevice, Reached, StandsAt, here, link_at, step}
use Rattle.deck_audit.proofs.LinkTrees.{between_links, link_is_there, link_tree, links_of_tree, mids_are, reached_tree, spell_length, spells_links}
use Rattle.deck_audit.proofs.CellTrees.{one_device}
use Rattle.deck_audit.proofs.OwnBlocks.{down_card, foot_card, keeper_card, precharge_card, tree_list, up_card}
use Rattle.deck_audit.proofs.OwnCards.{OwnDeck, Placed, apart, as_device, at_one, carded, dev_of, devices, ends_as, inner_net, kind_as, part_free, place_of, vss_is}
use Rattle.deck_audit.proofs.OwnFacts.{CellNet, TreeCard, cell_net_is, cell_net_of, facts, inside_gates_none}
use Rattle.deck_audit.proofs.OwnCells.{InBlock, Role, cell_place, find_cell, foot_at, in_tree, is_down, is_foot, is_keeper, is_precharge, is_tree, is_up, off, role, tree_kind, tree_size}
use Rattle.deck_audit.proofs.RuleFacts.{end_of, not_keep_n, not_p_n, twin_ends, twin_gate, twin_kind}
use Rattle.deck_audit.proofs.Lists.{distinct_at}
use Rattle.switch_model.proofs.Searches.{ends_at, other_at}

map_map : (net : Net → ℕ) (t : Tree Gate) → map_tree net (map_tree gate_net t) ≡ map_tree (λ g. net (gate_net g)) t
map_map net (Leaf g) = refl
map_map net (Series x y) = λ i. Series (map_map net x i) (map_map net y i)
map_map net (Parallel x y) = λ i. Parallel (map_map net x i) (map_map net y i)

module _ (w : OwnDeck) where
  module _ (k : ℕ) (cell : DominoCell) (i : IsCellAt w.shape k cell) where
    abbrev off' : ℕ
    off' = off w k cell i

    abbrev top' : ℕ
    top' = w.net (At (Dynamic (left_side k)) Top)

    pub foot_at' : Placed (devices w) w.order (off' + (suc (suc (tree_size k cell + 0)))) (dev_of w.net (foot_card k cell))
    foot_at' = foot_at w k cell i

    tree_kind' : (j : ℕ) (x : NamedDevice Net) → slice_get (tree_list k cell) j ≡ Some x → TreeCard w k cell x
    tree_kind' = tree_kind w k cell i

    abbrev pub the_tree : Tree Net
    the_tree = map_tree gate_net cell.tree

    abbrev pub inside_net : ℕ → Net
    inside_net j = At (Dynamic (left_side k)) (Inside 0 (1 + j))

    abbrev pub bottom_net : Net
    bottom_net = At (Dynamic (left_side k)) (Inside 0 0)

    -- the place and the device of a leaf
    abbrev pub pl : ℕ → ℕ
    pl j = slice_index_or w.order (off' + suc (suc j)) 0

    abbrev pub dv : ℕ → Device
    dv j = slice_index_or (devices w) (pl j) (record { kind = nch; drain = 0; gate = 0; source = 0 })

    leaf_at : (j : ℕ) (x : NamedDevice Net) → slice_get (tree_list k cell) j ≡ Some x → Placed (devices w) w.order (off' + suc (suc j)) (dev_of w.net x)
    leaf_at j x e = place_of w (off' + suc (suc j)) x ((cell_place w k cell i).to (suc (suc j)) x (in_tree w k cell j x e))

    pl_is : (j : ℕ) (x : NamedDevice Net) (e : slice_get (tree_list k cell) j ≡ Some x) → pl j ≡ (leaf_at j x e).place
    pl_is j x e = get_or_from_slice_get w.order (off' + suc (suc j)) (leaf_at j x e).place 0 (leaf_at j x e).listed

    dv_is : (j : ℕ) (x : NamedDevice Net) (e : slice_get (tree_list k cell) j ≡ Some x) → dv j ≡ (leaf_at j x e).device
    dv_is j x e = get_or_from_slice_get (devices w) (pl j) (leaf_at j x e).device (record { kind = nch; drain = 0; gate = 0; source = 0 }) (subst (λ p. StandsAt (devices w) p (leaf_at j x e).device) (sym (pl_is j x e)) (leaf_at j x e).there)

    pub size_is : tree_size k cell ≡ leaves the_tree
    size_is = spell_length inside_net the_tree (At (Dynamic (left_side k)) Top) bottom_net 0

    card_of_leaf : (j : ℕ) → j < leaves the_tree → (x : NamedDevice Net) × (slice_get (tree_list k cell) j ≡ Some x)
    card_of_leaf j l =
        elim (slice_get_cases (tree_list k cell) j).1 [
          | inl z ↦ (z.0, z.2)
          | inr z ↦ absurd (omega (arith, l, size_is, z.0))
        ]

    pub stands : (j : ℕ) → j < leaves the_tree → StandsAt (devices w) (pl j) (dv j)
    stands j l =
        let x = card_of_leaf j l in
        subst (λ d. StandsAt (devices w) (pl j) d) (sym (dv_is j x.0 x.1)) (subst (λ p. StandsAt (devices w) p (leaf_at j x.0 x.1).device) (sym (pl_is j x.0 x.1)) (leaf_at j x.0 x.1).there)

    kind_of_leaf : (j : ℕ) → j < leaves the_tree → (dv j).kind ≡ nch
    kind_of_leaf j l =
        let x = card_of_leaf j l in
        ap (λ (d : Device). d.kind) (dv_is j x.0 x.1) ∙ twin_kind (leaf_at j x.0 x.1).device (dev_of w.net x.0) (leaf_at j x.0 x.1).twin ∙ (tree_kind' j x.0 x.1).0

    pub leaf_apart : (a b : ℕ) → a < leaves the_tree → b < leaves the_tree → pl a ≡ pl b → a ≡ b
    leaf_apart a b la lb e =
        let x = card_of_leaf a la in
        let y = card_of_leaf b lb in
        let same = sym (pl_is a x.0 x.1) ∙ e ∙ pl_is b y.0 y.1 in
        let at = distinct_at w.order (w.in_order).once (off' + suc (suc a)) (off' + suc (suc b)) (leaf_at b y.0 y.1).place (subst (λ p. slice_get w.order (off' + suc (suc a)) ≡ Some p) same (leaf_at a x.0 x.1).listed) (leaf_at b y.0 y.1).listed in
        omega (arith, at)

    inside_is_net : (j : ℕ) → j < 1 + inner_count the_tree → IsNet w.shape (At (Dynamic (left_side k)) (Inside 0 j))
    inside_is_net j l = (left_stage cell, left_is w.shape k cell i, refl, omega (arith, l, inner_count-map_tree gate_net cell.tree))

    inside_same : (a b : ℕ) → a < 1 + inner_count the_tree → b < 1 + inner_count the_tree → w.net (At (Dynamic (left_side k)) (Inside 0 a)) ≡ w.net (At (Dynamic (left_side k)) (Inside 0 b)) → a ≡ b
    inside_same a b la lb e = let z = apart w (At (Dynamic (left_side k)) (Inside 0 a)) (At (Dynamic (left_side k)) (Inside 0 b)) (inside_is_net a la) (inside_is_net b lb) e in cc

    pub inner_apart : (a b : ℕ) → a < inner_count the_tree → b < inner_count the_tree → w.net (inside_net a) ≡ w.net (inside_net b) → a ≡ b
    inner_apart a b la lb e = let z = inside_same (1 + a) (1 + b) (omega (arith, la)) (omega (arith, lb)) e in omega (arith, z)

    top_apart : (j : ℕ) → j < 1 + inner_count the_tree → w.net (At (Dynamic (left_side k)) (Inside 0 j)) ≢ top'
    top_apart j l e = let z = apart w (At (Dynamic (left_side k)) (Inside 0 j)) (At (Dynamic (left_side k)) Top) (inside_is_net j l) (left_stage cell, left_is w.shape k cell i) e in cc

    pub are_cards : (j : ℕ) (x : NamedDevice Net) → slice_get (tree_list k cell) j ≡ Some x → (dv (0 + j) ≡ dev_of w.net x) ⊎ (dv (0 + j) ≡ exchange (dev_of w.net x))
    are_cards j x e = subst (λ m. (dv m ≡ dev_of w.net x) ⊎ (dv m ≡ exchange (dev_of w.net x))) (plus j) (subst (λ d. (d ≡ dev_of w.net x) ⊎ (d ≡ exchange (dev_of w.net x))) (sym (dv_is j x e)) (leaf_at j x e).twin)
      where
        plus : (j : ℕ) → j ≡ 0 + j
        plus j = omega arith

    unfoldable pub links : Tree Link
    links = link_tree pl dv the_tree 0

    pub links_between : Between links top' (w.net bottom_net)
    unfolding links
    links_between =
        between_links w.net inside_net pl dv (inner_count the_tree) (leaves the_tree) leaf_apart inner_apart the_tree (At (Dynamic (left_side k)) Top) bottom_net 0 0 (omega arith) (omega arith)
        (λ e. top_apart 0 (omega arith) (sym e)) (λ j lo hi. top_apart (1 + j) (omega (arith, hi))) (λ j lo hi e. away j (inside_same (1 + j) 0 (omega (arith, hi)) (omega arith) e)) are_cards
      where
        away : (j : ℕ) → 1 + j ≡ 0 → ⊥
        away j e = omega (arith, e)

    all_reached : Reached (devices w) w.roles top' (w.net bottom_net) × ((j : ℕ) → 0 ≤ j → j < 0 + inner_count the_tree → Reached (devices w) w.roles top' (w.net (inside_net j)))
    all_reached =
        reached_tree w.net inside_net pl dv (inner_count the_tree) (leaves the_tree) leaf_apart inner_apart (devices w) w.roles top' stands kind_of_leaf (λ j l. part_free w (Dynamic (left_side k)) (Inside 0 (1 + j)) (inside_is_net (1 + j) (omega (arith, l))))
        the_tree (At (Dynamic (left_side k)) Top) bottom_net 0 0 (omega arith) (omega arith) (part_free w (Dynamic (left_side k)) (Inside 0 0) (inside_is_net 0 (omega arith))) are_cards here

    -- the nets of the cell are reached
    pub cell_reached : (a : Net) → CellNet k (inner_count cell.tree) a → Reached (devices w) w.roles top' (w.net a)
    cell_reached a (inl z) = rw z here
    cell_reached a (inr (zero, l, z)) = rw z all_reached.0
    cell_reached a (inr (suc j, l, z)) = rw z (by (all_reached.1 j (omega arith) (omega (arith, l, inner_count-map_tree gate_net cell.tree))))
      where
        by : Reached (devices w) w.roles top' (w.net (At (Dynamic (left_side k)) (Inside 0 (1 + j)))) → Reached (devices w) w.roles top' (w.net (At (Dynamic (left_side k)) (Inside 0 (suc j))))
        by r = subst (λ m. Reached (devices w) w.roles top' (w.net (At (Dynamic (left_side k)) (Inside 0 m)))) (plus j) r
          where
            plus : (j : ℕ) → 1 + j ≡ suc j
            plus j = omega arith

    no_cell_net : (a : Net) → CellNet k (inner_count cell.tree) a → (At (Output k) Top ≡ a) ⊎ (Vss ≡ a) → ⊥
    no_cell_net a (inl z) (inl y) = let w : At (Output k) Top ≡ At (Dynamic (left_side k)) Top = y ∙ z in cc
    no_cell_net a (inl z) (inr y) = let w : Vss ≡ At (Dynamic (left_side k)) Top = y ∙ z in cc
    no_cell_net a (inr z) (inl y) = let w : At (Output k) Top ≡ At (Dynamic (left_side k)) (Inside 0 z.0) = y ∙ z.2 in cc
    no_cell_net a (inr z) (inr y) = let w : Vss ≡ At (Dynamic (left_side k)) (Inside 0 z.0) = y ∙ z.2 in cc

    -- an `nch` at a net of the cell is one of the tree, or the foot
    pub nch_at : (a : Net) → CellNet k (inner_count cell.tree) a → (p : ℕ) (d : Device) → StandsAt (devices w) p d → d.kind ≡ nch → EndsAt d (w.net a)
        → ((j : ℕ) × (x : NamedDevice Net) × (slice_get (tree_list k cell) j ≡ Some x) × (slice_get w.order (off' + suc (suc j)) ≡ Some p) × ((d ≡ dev_of w.net x) ⊎ (d ≡ exchange (dev_of w.net x))))
        ⊎ ((p ≡ foot_at'.place) × ((d ≡ dev_of w.net (foot_card k cell)) ⊎ (d ≡ exchange (dev_of w.net (foot_card k cell)))))
    nch_at a ca p d at kd t =
        let b = find_cell w k cell i a (cell_net_is w k cell i a ca) (cell_net_of k (inner_count cell.tree) a ca) p d at t in
        by b (role w k cell b.position b.card b.at)
      where
        by : (b : InBlock w k cell off' a p d) → Role w k cell b.position b.card
            → ((j : ℕ) × (x : NamedDevice Net) × (slice_get (tree_list k cell) j ≡ Some x) × (slice_get w.order (off' + suc (suc j)) ≡ Some p) × ((d ≡ dev_of w.net x) ⊎ (d ≡ exchange (dev_of w.net x))))
            ⊎ ((p ≡ foot_at'.place) × ((d ≡ dev_of w.net (foot_card k cell)) ⊎ (d ≡ exchange (dev_of w.net (foot_card k cell)))))
        by b (is_precharge e z) = absurd (not_p_n (sym (kind_as w.net d b.card (precharge_card k cell) b.twin z) ∙ kd))
        by b (is_keeper e z) = absurd (not_keep_n (sym kd ∙ kind_as w.net d b.card (keeper_card k) b.twin z))
        by b (is_tree j e z) = inl (j, b.card, z, subst (λ q. slice_get w.order (off' + q) ≡ Some p) e b.listed, b.twin)
        by b (is_foot e z) = inr (at_one w off' p (suc (suc (tree_size k cell + 0))) b.position foot_at'.place b.listed e foot_at'.listed, subst (λ (y : NamedDevice Net). (d ≡ dev_of w.net y) ⊎ (d ≡ exchange (dev_of w.net y))) z b.twin)
        by b (is_up e z) = absurd (not_p_n (sym (kind_as w.net d b.card (up_card k) b.twin z) ∙ kd))
        by b (is_down e z) = absurd (no_cell_net a ca (ends_as b.card (down_card k) a z b.ends))

    pub reach_set : (m : ℕ) → Reached (devices w) w.roles top' m → (a : Net) × CellNet k (inner_count cell.tree) a × (m ≡ w.net a)
    reach_set m here = (At (Dynamic (left_side k)) Top, inl refl, refl)
    reach_set m (step {m = b} p d r at kd e f) =
        let before = reach_set b r in
        elim (nch_at before.0 before.1 p d at kd (rw (← before.2) (ends_at d b m e))) [
          | inl z ↦
              let g = tree_kind' z.0 z.1 z.2 in
              elim (end_of d (w.net (z.1).drain) (w.net (z.1).source) m (twin_ends d (dev_of w.net z.1) z.4) (other_at d b m e)) [ inl y ↦ ((z.1).drain, g.1, y) | inr y ↦ ((z.1).source, g.2, y) ]
          | inr z ↦ elim (end_of d (w.net bottom_net) (w.net Vss) m (twin_ends d (dev_of w.net (foot_card k cell)) z.1) (other_at d b m e)) [
            | inl y ↦ (bottom_net, inr (0, omega arith, refl), y)
            | inr y ↦ absurd (low (y ∙ vss_is w) f)
          ]
        ]
      where
        low : m ≡ 1 → IsFree w.roles m → ⊥
        low e f = omega (arith, e, f)

    leaf_twin : (j : ℕ) (x : NamedDevice Net) → slice_get (tree_list k cell) j ≡ Some x → (dv j ≡ dev_of w.net x) ⊎ (dv j ≡ exchange (dev_of w.net x))
    leaf_twin j x e = subst (λ d. (d ≡ dev_of w.net x) ⊎ (d ≡ exchange (dev_of w.net x))) (sym (dv_is j x e)) (leaf_at j x e).twin

    free_reached : (n : ℕ) → Reached (devices w) w.roles top' n → IsFree w.roles n
    free_reached n here = part_free w (Dynamic (left_side k)) Top (left_stage cell, left_is w.shape k cell i)
    free_reached n (step p d r at kd e f) = f

    pub tree : HasTree (devices w) w.roles top' (w.net (Clock cell.clock)) (w.net bottom_net) links
    unfolding links
    tree = record {
      foot = foot_at'.place;
      foot_device = foot_at'.device;
      foot_there = foot_at'.there;
      foot_is = as_device w.net foot_at'.device (foot_card k cell) (w.net bottom_net) vss_port foot_at'.twin refl (vss_is w);
      bottom_reached = all_reached.0;
      one_foot = λ p d n at r t away. one p d n at r.0 r.1 r.2 r.3 t away;
      apart = top_apart 0 (omega arith);
      between = links_between;
      links_are = λ e. (to e, (λ l. back e l.0 l.1 l.2 l.3.0 l.3.1 l.3.2 l.3.3 l.4 l.5));
      inside = λ n r away. elim (reach_set n r).1 [
        | inl z ↦ absurd (away ((reach_set n r).2 ∙ ap w.net z))
        | inr z ↦ rw ((reach_set n r).2 ∙ ap w.net z.2) (inside_at z.0 z.1)
      ];
    }
      where
        one : (p : ℕ) (d : Device) (n : ℕ) → StandsAt (devices w) p d → d.kind ≡ nch → (m : ℕ) → Reached (devices w) w.roles top' m → EndsAt d m → EndsAt d n → (IsFree w.roles n → ⊥) → p ≡ foot_at'.place
        one p d n at kd m r t u away =
            let a = reach_set m r in
            elim (nch_at a.0 a.1 p d at kd (rw (← a.2) t)) [
              | inl z ↦
                  let g = tree_kind' z.0 z.1 z.2 in
                  absurd (away (elim (end_of d (w.net (z.1).drain) (w.net (z.1).source) n (twin_ends d (dev_of w.net z.1) z.4) u) [
                    | inl y ↦ rw y (free_reached (w.net (z.1).drain) (cell_reached (z.1).drain g.1))
                    | inr y ↦ rw y (free_reached (w.net (z.1).source) (cell_reached (z.1).source g.2))
                  ]))
              | inr z ↦ z.0
            ]

        not_foot : (j : ℕ) → j < leaves the_tree → pl j ≢ foot_at'.place
        not_foot j l e =
            let x = card_of_leaf j l in
            let at = distinct_at w.order (w.in_order).once (off' + suc (suc j)) (off' + suc (suc (tree_size k cell + 0))) foot_at'.place (subst (λ p. slice_get w.order (off' + suc (suc j)) ≡ Some p) (sym (pl_is j x.0 x.1) ∙ e) (leaf_at j x.0 x.1).listed) foot_at'.listed in
            omega (arith, at, l, size_is)

        to : (e : Link) → Has (link_tree pl dv the_tree 0) e → (p : ℕ) × (d : Device) × StandsAt (devices w) p d × IsReachedDevice (devices w) w.roles top' d × (p ≢ foot_at'.place) × (e ≡ link_at p d)
        to e c =
            let l = links_of_tree pl dv the_tree 0 e c in
            let lt : l.0 < leaves the_tree = omega (arith, l.2) in
            let x = card_of_leaf l.0 lt in
            let g = tree_kind' l.0 x.0 x.1 in
            (pl l.0, dv l.0, stands l.0 lt, (kind_of_leaf l.0 lt, w.net (x.0).drain, cell_reached (x.0).drain g.1, ends_at (dv l.0) (w.net (x.0).drain) (w.net (x.0).source) (twin_ends (dv l.0) (dev_of w.net x.0) (leaf_twin l.0 x.0 x.1))), not_foot l.0 lt, l.3)

        back : (e : Link) → (p : ℕ) (d : Device) → StandsAt (devices w) p d → d.kind ≡ nch → (m : ℕ) → Reached (devices w) w.roles top' m → EndsAt d m → p ≢ foot_at'.place → e ≡ link_at p d → Has (link_tree pl dv the_tree 0) e
        back e p d at kd m r t away z =
            let a = reach_set m r in
            elim (nch_at a.0 a.1 p d at kd (rw (← a.2) t)) [
              | inl y ↦ found y.0 y.1 y.2 y.3
              | inr y ↦ absurd (away y.0)
            ]
          where
            found : (j : ℕ) (x : NamedDevice Net) → slice_get (tree_list k cell) j ≡ Some x → slice_get w.order (off' + suc (suc j)) ≡ Some p → Has (link_tree pl dv the_tree 0) e
            found j x at' listed =
                let lt : j < leaves the_tree = omega (arith, slice_get_within (tree_list k cell) j x at', size_is) in
                let place : pl j ≡ p = get_or_from_slice_get w.order (off' + suc (suc j)) p 0 listed in
                let device : dv j ≡ d = one_device (devices w) p (dv j) d (subst (λ q. StandsAt (devices w) q (dv j)) place (stands j lt)) at in
                subst (Has (link_tree pl dv the_tree 0)) ((λ w. link_at (place w) (device w)) ∙ sym z) (link_is_there pl dv the_tree 0 j (omega arith) (omega (arith, lt)))

        inside_at : (j : ℕ) → j < 1 + inner_count cell.tree → IsInside (devices w) w.roles (w.net (At (Dynamic (left_side k)) (Inside 0 j)))
        inside_at j l = record {
          reached = λ p d at t.
              let b = find_cell w k cell i (At (Dynamic (left_side k)) (Inside 0 j)) (left_stage cell, left_is w.shape k cell i, refl, l) refl p d at t in by d b.card b.twin b.ends (role w k cell b.position b.card b.at);
          gates_none = λ p d at e. let h = carded w p d at in let g = facts w h.index h.card h.at in inside_gates_none w h.card g (Dynamic (left_side k)) 0 j (apart w (h.card).gate (At (Dynamic (left_side k)) (Inside 0 j)) g.gate_is (left_stage cell, left_is w.shape k cell i, refl, l) (sym (twin_gate d (dev_of w.net h.card) h.twin) ∙ e));
          no_port = inner_net w (Dynamic (left_side k)) (Inside 0 j) (left_stage cell, left_is w.shape k cell i, refl, l) (λ m e. cc);
        }
          where
            by : {q : ℕ} (d : Device) (x : NamedDevice Net) → (d ≡ dev_of w.net x) ⊎ (d ≡ exchange (dev_of w.net x)) → (x.drain ≡ At (Dynamic (left_side k)) (Inside 0 j)) ⊎ (x.source ≡ At (Dynamic (left_side k)) (Inside 0 j)) → Role w k cell q x → d.kind ≡ nch
            by d x t u (is_precharge e z) = absurd (elim (ends_as x (precharge_card k cell) (At (Dynamic (left_side k)) (Inside 0 j)) z u) [ inl y ↦ cc | inr y ↦ cc ])
            by d x t u (is_keeper e z) = absurd (elim (ends_as x (keeper_card k) (At (Dynamic (left_side k)) (Inside 0 j)) z u) [ inl y ↦ cc | inr y ↦ cc ])
            by d x t u (is_tree m e z) = twin_kind d (dev_of w.net x) t ∙ (tree_kind' m x z).0
            by d x t u (is_foot e z) = kind_as w.net d x (foot_card k cell) t z
            by d x t u (is_up e z) = absurd (elim (ends_as x (up_card k) (At (Dynamic (left_side k)) (Inside 0 j)) z u) [ inl y ↦ cc | inr y ↦ cc ])
            by d x t u (is_down e z) = kind_as w.net d x (down_card k) t z

    pub spells_tree : Spells (devices w) links (numbered w.net cell.tree)
    unfolding links
    spells_tree =
        subst (Spells (devices w) (link_tree pl dv the_tree 0)) (map_map w.net cell.tree)
        (spells_links w.net inside_net pl dv (inner_count the_tree) (leaves the_tree) leaf_apart inner_apart (devices w) stands
        the_tree (At (Dynamic (left_side k)) Top) bottom_net 0 0 (omega arith) are_cards)

    pub inner_mids : (j : ℕ) → j < inner_count cell.tree
        → slice_get (mids (links) (w.net (At (Dynamic (left_side k)) Top)) (w.net (At (Dynamic (left_side k)) (Inside 0 0))) (tree).between) j ≡ Some (w.net (At (Dynamic (left_side k)) (Inside 0 (suc j))))
    unfolding links links_between tree
    inner_mids j lt =
        mids_are w.net inside_net pl dv (inner_count the_tree) (leaves the_tree) leaf_apart inner_apart
        the_tree (At (Dynamic (left_side k)) Top) bottom_net 0 0 _ _ _ _ _ are_cards j (omega (arith, lt, inner_count-map_tree gate_net cell.tree))
        ∙ ap (λ m. Some (w.net (At (Dynamic (left_side k)) (Inside 0 m)))) (plus j)
      where
        plus : (j : ℕ) → 1 + (0 + j) ≡ suc j
        plus j = omega arith
