-- A pair has a shape and two offers that give it, and the first two are its first choices.
use Rattle.std.proofs.Common.{◌∙◌, ◌-◌, ap, refl, sym, subst}
use Rattle.std.specs.Prelude.{IfSome}
use Rattle.dual_rail.specs.ForestData.{ForestData}
use Rattle.dual_rail.specs.ForestOrder.{IsForest}
use Rattle.tree_map.specs.BesideLeaves.{ArePicked}
use Rattle.tree_map.specs.CoverSums.{sum_at}
use Rattle.tree_map.specs.declared.ties.Wanted.{Wanted}
use Rattle.std.proofs.lemmas.Option.{same_Some}
use Rattle.tree_map.specs.Ties.{AreFirstOffers, AreSmall, IsDecision, IsFirstLeast, SomeGive}
use Rattle.tree_map.proofs.FirstOffers.{decided, given, has_sums, left_within, pair_read, right_within, is_node, node_below, small_left, small_right}
use Rattle.tree_map.proofs.BesideLeaves.{decided_beside}
use Rattle.tree_map.proofs.ties.decision_of.Goals as goal

pub shape_of-shape-requires : goal.shape_of-shape-requires
shape_of-shape-requires c =
    let forest = subst IsForest c.forest.view_is c.forest.invariant in
    let at = pair_read c.args.forest.now c.forest.inside.pairs.items (ap (λ (g : ForestData). g.pairs) c.forest.view_is) c.args.place c.index-pair.result.now c.requires.place c.index-pair.ensures in
    record { some = has_sums c.args.forest.now c.args.sums.now c.requires.width.0 c.requires.height.0 forest.in_place.in_order c.requires.sums c.args.place c.index-pair.result.now at }

pub offers_of-requires : goal.offers_of-requires
offers_of-requires c =
    let forest = subst IsForest c.forest.view_is c.forest.invariant in
    let at = pair_read c.args.forest.now c.forest.inside.pairs.items (ap (λ (g : ForestData). g.pairs) c.forest.view_is) c.args.place c.index-pair.result.now c.requires.place c.index-pair.ensures in
    record {
      there = left_within c.args.forest.now c.args.sums.now c.args.free.now c.requires.width c.requires.height forest.in_place.in_order c.requires.sums c.requires.cuts c.requires.free c.args.place c.index-pair.result.now at
          c.arms-left_arm.result.0 c.arms-left_arm.ensures.left;
    }

pub offers_of-requires-2 : goal.offers_of-requires-2
offers_of-requires-2 c =
    let forest = subst IsForest c.forest.view_is c.forest.invariant in
    let at = pair_read c.args.forest.now c.forest.inside.pairs.items (ap (λ (g : ForestData). g.pairs) c.forest.view_is) c.args.place c.index-pair.result.now c.requires.place c.index-pair.ensures in
    record {
      there = right_within c.args.forest.now c.args.sums.now c.args.free.now c.requires.width c.requires.height forest.in_place.in_order c.requires.sums c.requires.cuts c.requires.free c.args.place c.index-pair.result.now at
          c.arms-left_arm.result.1 c.arms-left_arm.ensures.right;
    }

pub first_choices-left-requires-clause-lefts : goal.first_choices-left-requires-clause-lefts
first_choices-left-requires-clause-lefts c =
    let forest = subst IsForest c.forest.view_is c.forest.invariant in
    let at = pair_read c.args.forest.now c.forest.inside.pairs.items (ap (λ (g : ForestData). g.pairs) c.forest.view_is) c.args.place c.index-pair.result.now c.requires.place c.index-pair.ensures in
    subst AreSmall (sym c.as_slice.ensures.value)
    (small_left c.args.forest.now c.args.sums.now c.args.free.now c.requires.width c.requires.height forest.in_place.in_order c.requires.sums c.requires.cuts c.requires.free c.args.place c.index-pair.result.now at
    c.arms-left_arm.result.0 c.offers_of.new.offers.items c.arms-left_arm.ensures.left c.in_ok-offers_of.ensures)

pub first_choices-left-requires-clause-rights : goal.first_choices-left-requires-clause-rights
first_choices-left-requires-clause-rights c =
    let forest = subst IsForest c.forest.view_is c.forest.invariant in
    let at = pair_read c.args.forest.now c.forest.inside.pairs.items (ap (λ (g : ForestData). g.pairs) c.forest.view_is) c.args.place c.index-pair.result.now c.requires.place c.index-pair.ensures in
    subst AreSmall (sym c.as_slice-2.ensures.value)
    (small_right c.args.forest.now c.args.sums.now c.args.free.now c.requires.width c.requires.height forest.in_place.in_order c.requires.sums c.requires.cuts c.requires.free c.args.place c.index-pair.result.now at
    c.arms-left_arm.result.1 c.offers_of-2.new.offers.items c.arms-left_arm.ensures.right c.in_ok-offers_of-2.ensures)

pub first_choices-left-requires-clause-some : goal.first_choices-left-requires-clause-some
first_choices-left-requires-clause-some c =
    let forest = subst IsForest c.forest.view_is c.forest.invariant in
    let at = pair_read c.args.forest.now c.forest.inside.pairs.items (ap (λ (g : ForestData). g.pairs) c.forest.view_is) c.args.place c.index-pair.result.now c.requires.place c.index-pair.ensures in
    let wanted : Wanted = record { pair = c.index-pair.result.now; shape = c.shape_of-shape.result.0; sum = c.in-Some.sum - c.node.result } in
    subst (λ xs. SomeGive wanted xs c.as_slice-2.result.now) (sym c.as_slice.ensures.value)
    (subst (SomeGive wanted c.offers_of.new.offers.items) (sym c.as_slice-2.ensures.value)
    (given c.args.forest.now c.args.sums.now c.args.free.now c.requires.width c.requires.height forest.in_place.in_order c.requires.sums c.requires.cuts c.requires.free c.args.place c.index-pair.result.now at
    c.arms-left_arm.result.0 c.arms-left_arm.result.1 c.offers_of.new.offers.items c.offers_of-2.new.offers.items c.arms-left_arm.ensures.left c.arms-left_arm.ensures.right c.in_ok-offers_of.ensures c.in_ok-offers_of-2.ensures
    c.shape_of-shape.result.0 c.in-Some.sum (c.in-Some.sum - c.node.result) c.node.result (ap (sum_at c.args.sums.now c.args.place) (sym c.shape.view_is) ∙ sym c.sum.ensures ∙ c.in-Some.is)
    (is_node c.costs.result c.args.sums.now.costs c.index-pair.result.now c.node.result c.costs.ensures c.node.ensures.adds) refl))

pub returns : goal.returns
returns c = λ pair at.
    let forest = subst IsForest c.forest.view_is c.forest.invariant in
    let here = pair_read c.args.forest.now c.forest.inside.pairs.items (ap (λ (g : ForestData). g.pairs) c.forest.view_is) c.args.place c.index-pair.result.now c.requires.place c.index-pair.ensures in
    let same = same_Some c.index-pair.result.now pair (sym here ∙ at) in
    let wanted : Wanted = record { pair = c.index-pair.result.now; shape = c.shape_of-shape.result.0; sum = c.in-Some.sum - c.node.result } in
    let split = c.shape_of-shape.result.1 in
    let left = c.first_choices-left.result.0 in
    let right = c.first_choices-left.result.1 in
    subst (λ p. IsDecision c.args.sums.now.costs c.args.forest.now c.args.sums.now.w c.args.sums.now.h p c.args.kept split c.shape_of-shape.result.0 left.choice right.choice) same
    (decided c.args.forest.now c.args.sums.now c.args.free.now c.requires.width c.requires.height forest.in_place.in_order c.requires.sums c.requires.cuts c.requires.free c.args.place c.index-pair.result.now here
    c.arms-left_arm.result.0 c.arms-left_arm.result.1 c.offers_of.new.offers.items c.offers_of-2.new.offers.items c.arms-left_arm.ensures.left c.arms-left_arm.ensures.right c.in_ok-offers_of.ensures c.in_ok-offers_of-2.ensures
    c.shape_of-shape.result.0 c.in-Some.sum (c.in-Some.sum - c.node.result) c.node.result (ap (sum_at c.args.sums.now c.args.place) (sym c.shape.view_is) ∙ sym c.sum.ensures ∙ c.in-Some.is)
    (is_node c.costs.result c.args.sums.now.costs c.index-pair.result.now c.node.result c.costs.ensures c.node.ensures.adds) refl split left right c.args.kept
    (λ bare. subst (λ xs. AreFirstOffers wanted xs c.offers_of-2.new.offers.items left right) c.as_slice.ensures.value
    (subst (λ xs. AreFirstOffers wanted c.as_slice.result.now xs left right) c.as_slice-2.ensures.value (c.first_choices-left.ensures.together bare)))
    (λ marked. subst (λ xs. IsFirstLeast xs left) c.as_slice.ensures.value (c.first_choices-left.ensures.left marked))
    (λ marked. subst (λ xs. IsFirstLeast xs right) c.as_slice-2.ensures.value (c.first_choices-left.ensures.right marked))
    c.shape_of-shape.ensures.stays c.shape_of-shape.ensures.root)

pub overflow_sub-wanted : goal.overflow_sub-wanted
overflow_sub-wanted c =
    let forest = subst IsForest c.forest.view_is c.forest.invariant in
    let at = pair_read c.args.forest.now c.forest.inside.pairs.items (ap (λ (g : ForestData). g.pairs) c.forest.view_is) c.args.place c.index-pair.result.now c.requires.place c.index-pair.ensures in
    node_below c.args.forest.now c.args.sums.now c.args.free.now c.requires.width c.requires.height forest.in_place.in_order c.requires.sums c.requires.cuts c.requires.free c.args.place c.index-pair.result.now at
    c.shape_of-shape.result.0 c.in-Some.sum c.node.result (is_node c.costs.result c.args.sums.now.costs c.index-pair.result.now c.node.result c.costs.ensures c.node.ensures.adds)
    (ap (sum_at c.args.sums.now c.args.place) (sym c.shape.view_is) ∙ sym c.sum.ensures ∙ c.in-Some.is)

pub choices_beside_leaf-requires-clause-left : goal.choices_beside_leaf-requires-clause-left
choices_beside_leaf-requires-clause-left c =
    let forest = subst IsForest c.forest.view_is c.forest.invariant in
    let at = pair_read c.args.forest.now c.forest.inside.pairs.items (ap (λ (g : ForestData). g.pairs) c.forest.view_is) c.args.place c.index-pair.result.now c.requires.place c.index-pair.ensures in
    left_within c.args.forest.now c.args.sums.now c.args.free.now c.requires.width c.requires.height forest.in_place.in_order c.requires.sums c.requires.cuts c.requires.free c.args.place c.index-pair.result.now at
    c.arms-left_arm.result.0 c.arms-left_arm.ensures.left

pub choices_beside_leaf-requires-clause-right : goal.choices_beside_leaf-requires-clause-right
choices_beside_leaf-requires-clause-right c =
    let forest = subst IsForest c.forest.view_is c.forest.invariant in
    let at = pair_read c.args.forest.now c.forest.inside.pairs.items (ap (λ (g : ForestData). g.pairs) c.forest.view_is) c.args.place c.index-pair.result.now c.requires.place c.index-pair.ensures in
    right_within c.args.forest.now c.args.sums.now c.args.free.now c.requires.width c.requires.height forest.in_place.in_order c.requires.sums c.requires.cuts c.requires.free c.args.place c.index-pair.result.now at
    c.arms-left_arm.result.1 c.arms-left_arm.ensures.right

pub returns-in-Some-choices_beside_leaf : goal.returns-in-Some-choices_beside_leaf
returns-in-Some-choices_beside_leaf c = λ pair at.
    let forest = subst IsForest c.forest.view_is c.forest.invariant in
    let here = pair_read c.args.forest.now c.forest.inside.pairs.items (ap (λ (g : ForestData). g.pairs) c.forest.view_is) c.args.place c.index-pair.result.now c.requires.place c.index-pair.ensures in
    let same = same_Some c.index-pair.result.now pair (sym here ∙ at) in
    let wanted : Wanted = record { pair = c.index-pair.result.now; shape = c.shape_of-shape.result.0; sum = c.in-Some.sum - c.node.result } in
    let left = c.in-Some-choices_beside_leaf.left in
    let right = c.in-Some-choices_beside_leaf.right in
    let picked = subst (λ o. IfSome o (λ p. ArePicked wanted c.args.sums.now c.args.free.now c.arms-left_arm.result.0 c.arms-left_arm.result.1 p.0 p.1)) c.in-Some-choices_beside_leaf.is c.choices_beside_leaf.ensures in
    subst (λ p. IsDecision c.args.sums.now.costs c.args.forest.now c.args.sums.now.w c.args.sums.now.h p c.args.kept c.shape_of-shape.result.1 c.shape_of-shape.result.0 left right) same
    (decided_beside c.args.forest.now c.args.sums.now c.args.free.now c.requires.width c.requires.height forest.in_place.in_order c.requires.sums c.requires.cuts c.requires.free c.args.place c.index-pair.result.now here
    c.arms-left_arm.result.0 c.arms-left_arm.result.1 c.arms-left_arm.ensures.left c.arms-left_arm.ensures.right
    c.shape_of-shape.result.0 c.in-Some.sum (c.in-Some.sum - c.node.result) c.node.result (ap (sum_at c.args.sums.now c.args.place) (sym c.shape.view_is) ∙ sym c.sum.ensures ∙ c.in-Some.is)
    (is_node c.costs.result c.args.sums.now.costs c.index-pair.result.now c.node.result c.costs.ensures c.node.ensures.adds) refl c.shape_of-shape.result.1 left right c.args.kept
    c.if-not-split.true picked c.shape_of-shape.ensures.stays c.shape_of-shape.ensures.root)
