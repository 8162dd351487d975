-- The cards of the tree of a pair, by those of its arms.
use Rattle.std.proofs.Common.{◌≡◌, ℕ, ◌+◌, Bool, true, false, List, Some, slice_get, refl, sym, ap, subst, ◌∙◌, arith}
use Rattle.std.proofs.lemmas.Option.{same_Some}
use Rattle.dom_base.specs.declared.kind.Kind.TheVariants.{N as nch}
use Rattle.deck_form.specs.DeckNets.{named_gate}
use Rattle.domino_cell.specs.Spelling.{spell}
use Rattle.domino_cell.proofs.PushedTrees.{inner_count-below}
use Rattle.dual_rail.specs.ForestData.{ForestData}
use Rattle.dual_rail.specs.Forests.{left_arm, right_arm}
use Rattle.dual_rail.specs.declared.forest.Arm.{Arm}
use Rattle.dual_rail.specs.declared.forest.Arm.TheVariants.{Pair as pair_arm}
use Rattle.dual_rail.specs.declared.forest.Pair.{Pair}
use Rattle.dual_rail.specs.declared.forest.Pair.TheVariants.{And, Or}
use Rattle.sp_network.specs.Tree.{Tree, Leaf, Series, Parallel, inner_count, leaves}
use Rattle.sp_network.proofs.TreeImages.{inner_count-map_tree}
use Rattle.tree_map.specs.Plans.{IsArmTree, literal, cut, series, parallel, IsTreeOf, is_kept}
use Rattle.plan_text.specs.DeviceTexts.{with_put}
use Rattle.plan_text.specs.declared.device_text.DeviceText.{DeviceText}
use Rattle.plan_text.specs.PutCells.{HasRoomForArm, HasRoomForTree, netted}
use Rattle.plan_text.proofs.DeviceTexts.{then_put}

module _ (forest : ForestData) (kept : List Bool) where
  -- the tree below an arm to a kept pair is the tree of the pair
  pub tree_at_kept : {arm : Arm} {tree : Tree ℕ} → IsArmTree forest kept arm tree → (place : ℕ) → arm ≡ pair_arm place → is_kept kept place ≡ true → IsTreeOf forest kept place tree
  tree_at_kept literal place e k = absurd (cc)
  tree_at_kept (cut {place = q} c) place e k = let here : q ≡ place = cc in absurd (let f : is_kept kept place ≡ false = subst (λ n. is_kept kept n ≡ false) here c in cc)
  tree_at_kept (series {place = q} {a = a} {b = b} c at l r) place e k = let here : q ≡ place = cc in (a, b, ap (slice_get forest.pairs) (sym here) ∙ at, l, r)
  tree_at_kept (parallel {place = q} {a = a} {b = b} c at l r) place e k = let here : q ≡ place = cc in (a, b, ap (slice_get forest.pairs) (sym here) ∙ at, l, r)

module _ (forest : ForestData) (kept : List Bool) (place : ℕ) (a b : Arm) (at : slice_get forest.pairs place ≡ Some (And a b)) where
  -- the tree of a pair that is an And
  series_of : (tree : Tree ℕ) → IsTreeOf forest kept place tree
      → (l : Tree ℕ) × (r : Tree ℕ) × IsArmTree forest kept a l × IsArmTree forest kept b r × (tree ≡ Series l r)
  series_of (Leaf gate) is = absurd is
  series_of (Series l r) (x, y, e, p, q) =
      let same : And x y ≡ And a b = same_Some _ _ (sym e ∙ at) in
      (l, r, subst (λ (p : Pair). IsArmTree forest kept (left_arm p) l) same p, subst (λ (p : Pair). IsArmTree forest kept (right_arm p) r) same q, refl)
  series_of (Parallel l r) (x, y, e, p, q) = let same : Or x y ≡ And a b = same_Some _ _ (sym e ∙ at) in absurd (cc)

  pub and_count : (m n : ℕ) → ((l : Tree ℕ) → IsArmTree forest kept a l → m ≡ inner_count l) → ((r : Tree ℕ) → IsArmTree forest kept b r → n ≡ inner_count r)
      → (tree : Tree ℕ) → IsTreeOf forest kept place tree → 1 + m + n ≡ inner_count tree
  and_count m n first second tree is =
      let p = series_of tree is in
      omega (arith, first p.0 p.2, second p.1 p.3, ap inner_count p.4)

  pub and_left_room : (k : ℕ) → HasRoomForTree forest kept place k → HasRoomForArm forest kept a (k + 1)
  and_left_room k room =
      let p = series_of room.0 room.1 in
      (p.0, p.2, omega (arith, room.2, ap leaves p.4, inner_count-below p.1))

  pub and_right_room : (k n : ℕ) → HasRoomForTree forest kept place k → ((l : Tree ℕ) → IsArmTree forest kept a l → n ≡ k + 1 + inner_count l) → HasRoomForArm forest kept b n
  and_right_room k n room count =
      let p = series_of room.0 room.1 in
      (p.1, p.3, omega (arith, room.2, ap leaves p.4, count p.0 p.2, inner_count-below p.0))

  -- the same where inner nets are counted alone
  pub and_left_small : HasRoomForTree forest kept place 0 → HasRoomForArm forest kept a 0
  and_left_small room =
      let p = series_of room.0 room.1 in
      (p.0, p.2, omega (arith, room.2, ap leaves p.4))

  pub and_right_small : HasRoomForTree forest kept place 0 → HasRoomForArm forest kept b 0
  and_right_small room =
      let p = series_of room.0 room.1 in
      (p.1, p.3, omega (arith, room.2, ap leaves p.4))

  pub and_next : (k m n : ℕ) → ((l : Tree ℕ) → IsArmTree forest kept a l → m ≡ k + 1 + inner_count l) → ((r : Tree ℕ) → IsArmTree forest kept b r → n ≡ m + inner_count r)
      → (tree : Tree ℕ) → IsTreeOf forest kept place tree → n ≡ k + inner_count tree
  and_next k m n first second tree is =
      let p = series_of tree is in
      omega (arith, first p.0 p.2, second p.1 p.3, ap inner_count p.4)

  module _ (pins : List (List ℕ)) (inner : ℕ → List ℕ) where
    abbrev over : Tree ℕ → Tree (List ℕ)
    over = netted pins forest.leaves

    pub and_cards : (old mid new : DeviceText) (top middle bottom : List ℕ) (k n : ℕ) → middle ≡ inner k
        → ((l : Tree ℕ) → IsArmTree forest kept a l → mid ≡ with_put old (spell nch inner (over l) top middle (k + 1)))
        → ((l : Tree ℕ) → IsArmTree forest kept a l → n ≡ k + 1 + inner_count l)
        → ((r : Tree ℕ) → IsArmTree forest kept b r → new ≡ with_put mid (spell nch inner (over r) middle bottom n))
        → (tree : Tree ℕ) → IsTreeOf forest kept place tree → new ≡ with_put old (spell nch inner (over tree) top bottom k)
    and_cards old mid new top middle bottom k n m first count second tree is =
        let p = series_of tree is in
        let l = p.0 in
        let r = p.1 in
        let number : n ≡ k + 1 + inner_count (over l) = count l p.2 ∙ ap (λ c. k + 1 + c) (sym (inner_count-map_tree (named_gate pins forest.leaves) l)) in
        then_put old mid new (spell nch inner (over l) top (inner k) (k + 1)) (spell nch inner (over r) (inner k) bottom (k + 1 + inner_count (over l)))
        (first l p.2 ∙ ap (λ w. with_put old (spell nch inner (over l) top w (k + 1))) m)
        (second r p.3 ∙ (λ i. with_put mid (spell nch inner (over r) (m i) bottom (number i))))
        ∙ ap (λ t. with_put old (spell nch inner (over t) top bottom k)) (sym p.4)

module _ (forest : ForestData) (kept : List Bool) (place : ℕ) (a b : Arm) (at : slice_get forest.pairs place ≡ Some (Or a b)) where
  -- the tree of a pair that is an Or
  parallel_of : (tree : Tree ℕ) → IsTreeOf forest kept place tree
      → (l : Tree ℕ) × (r : Tree ℕ) × IsArmTree forest kept a l × IsArmTree forest kept b r × (tree ≡ Parallel l r)
  parallel_of (Leaf gate) is = absurd is
  parallel_of (Series l r) (x, y, e, p, q) = let same : And x y ≡ Or a b = same_Some _ _ (sym e ∙ at) in absurd (cc)
  parallel_of (Parallel l r) (x, y, e, p, q) =
      let same : Or x y ≡ Or a b = same_Some _ _ (sym e ∙ at) in
      (l, r, subst (λ (p : Pair). IsArmTree forest kept (left_arm p) l) same p, subst (λ (p : Pair). IsArmTree forest kept (right_arm p) r) same q, refl)

  pub or_count : (m n : ℕ) → ((l : Tree ℕ) → IsArmTree forest kept a l → m ≡ inner_count l) → ((r : Tree ℕ) → IsArmTree forest kept b r → n ≡ inner_count r)
      → (tree : Tree ℕ) → IsTreeOf forest kept place tree → m + n ≡ inner_count tree
  or_count m n first second tree is =
      let p = parallel_of tree is in
      omega (arith, first p.0 p.2, second p.1 p.3, ap inner_count p.4)

  pub or_left_room : (k : ℕ) → HasRoomForTree forest kept place k → HasRoomForArm forest kept a k
  or_left_room k room =
      let p = parallel_of room.0 room.1 in
      (p.0, p.2, omega (arith, room.2, ap leaves p.4))

  pub or_right_room : (k n : ℕ) → HasRoomForTree forest kept place k → ((l : Tree ℕ) → IsArmTree forest kept a l → n ≡ k + inner_count l) → HasRoomForArm forest kept b n
  or_right_room k n room count =
      let p = parallel_of room.0 room.1 in
      (p.1, p.3, omega (arith, room.2, ap leaves p.4, count p.0 p.2, inner_count-below p.0))

  pub or_right_small : HasRoomForTree forest kept place 0 → HasRoomForArm forest kept b 0
  or_right_small room =
      let p = parallel_of room.0 room.1 in
      (p.1, p.3, omega (arith, room.2, ap leaves p.4))

  pub or_next : (k m n : ℕ) → ((l : Tree ℕ) → IsArmTree forest kept a l → m ≡ k + inner_count l) → ((r : Tree ℕ) → IsArmTree forest kept b r → n ≡ m + inner_count r)
      → (tree : Tree ℕ) → IsTreeOf forest kept place tree → n ≡ k + inner_count tree
  or_next k m n first second tree is =
      let p = parallel_of tree is in
      omega (arith, first p.0 p.2, second p.1 p.3, ap inner_count p.4)

  module _ (pins : List (List ℕ)) (inner : ℕ → List ℕ) where
    abbrev across : Tree ℕ → Tree (List ℕ)
    across = netted pins forest.leaves

    pub or_cards : (old mid new : DeviceText) (top bottom : List ℕ) (k n : ℕ)
        → ((l : Tree ℕ) → IsArmTree forest kept a l → mid ≡ with_put old (spell nch inner (across l) top bottom k))
        → ((l : Tree ℕ) → IsArmTree forest kept a l → n ≡ k + inner_count l)
        → ((r : Tree ℕ) → IsArmTree forest kept b r → new ≡ with_put mid (spell nch inner (across r) top bottom n))
        → (tree : Tree ℕ) → IsTreeOf forest kept place tree → new ≡ with_put old (spell nch inner (across tree) top bottom k)
    or_cards old mid new top bottom k n first count second tree is =
        let p = parallel_of tree is in
        let l = p.0 in
        let r = p.1 in
        let number : n ≡ k + inner_count (across l) = count l p.2 ∙ ap (λ c. k + c) (sym (inner_count-map_tree (named_gate pins forest.leaves) l)) in
        then_put old mid new (spell nch inner (across l) top bottom k) (spell nch inner (across r) top bottom (k + inner_count (across l)))
        (first l p.2) (second r p.3 ∙ ap (λ m. with_put mid (spell nch inner (across r) top bottom m)) number)
        ∙ ap (λ t. with_put old (spell nch inner (across t) top bottom k)) (sym p.4)
