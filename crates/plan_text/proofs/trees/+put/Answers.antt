use Rattle.std.proofs.Common.{◌≡◌, ℕ, ◌+◌, ◌*◌, ◌<◌, List, [], ◌∷◌, length, ap, sym, ◌∙◌, subst, arith}
use Rattle.dom_base.specs.declared.kind.Kind.TheVariants.{N as nch}
use Rattle.deck_form.specs.DeckNets.{output_net}
use Rattle.domino_cell.specs.NamedTrees.{inner_net}
use Rattle.domino_cell.specs.Spelling.{spell}
use Rattle.dual_rail.specs.declared.forest.Pair.TheVariants.{And, Or}
use Rattle.dual_rail.specs.ForestData.{ForestData}
use Rattle.dual_rail.specs.ForestOrder.{ReadsBefore, ReadsLeaves}
use Rattle.sp_network.specs.Tree.{Tree, inner_count}
use Rattle.tree_map.specs.Plans.{cut, literal}
use Rattle.tree_map.proofs.ArmTrees.{cell_at, left_there, length-cells, pair_at, right_there, room_less}
use Rattle.tree_map.proofs.PlanOne.{arm_tree_one}
use Rattle.plan_text.specs.DeviceTexts.{with_put}
use Rattle.plan_text.specs.Nets.{net_text, tree_front}
use Rattle.plan_text.proofs.ArmGates.{literal_net, root_net}
use Rattle.plan_text.proofs.PairTrees.{and_cards, and_left_room, and_next, and_right_room, or_cards, or_left_room, or_next, or_right_room, tree_at_kept}
use Rattle.plan_text.proofs.trees.+put.Goals as goal

pub put_pair-put_arm-requires : goal.put_pair-put_arm-requires
put_pair-put_arm-requires t c =
    let at = pair_at c.args.cover.now.forest.now c.forest.inside.pairs.items c.args.place c.index.result.now (And c.in-And.left c.in-And.right)
    (ap (λ (f : ForestData). f.pairs) c.forest.view_is) c.requires.there c.index.ensures c.in-And.is in
    let less = room_less c.args.place c.in-And.left (c.requires.forest.in_place.in_order c.args.place _ at).0 in
    let room : 2 * c.args.place + 1 ≡ t = c.decreases in
    (omega (arith, less, room), (c.requires.forest, (c.requires.one_each, (c.requires.cells, (left_there c.args.cover.now.forest.now c.args.place _ c.requires.forest at, and_left_room c.args.cover.now.forest.now c.args.cover.now.kept.now c.args.place c.in-And.left c.in-And.right at c.args.inner c.requires.room)))))

pub put_pair-put_arm-requires-in-And : goal.put_pair-put_arm-requires-in-And
put_pair-put_arm-requires-in-And t c =
    let at = pair_at c.args.cover.now.forest.now c.forest.inside.pairs.items c.args.place c.index.result.now (And c.in-And.left c.in-And.right)
    (ap (λ (f : ForestData). f.pairs) c.forest.view_is) c.requires.there c.index.ensures c.in-And.is in
    let less = room_less c.args.place c.in-And.right (c.requires.forest.in_place.in_order c.args.place _ at).1 in
    let room : 2 * c.args.place + 1 ≡ t = c.decreases in
    (omega (arith, less, room), (c.requires.forest, (c.requires.one_each, (c.requires.cells, (right_there c.args.cover.now.forest.now c.args.place _ c.requires.forest at, and_right_room c.args.cover.now.forest.now c.args.cover.now.kept.now c.args.place c.in-And.left c.in-And.right at c.args.inner _ c.requires.room c.in_ok-next-in-And.ensures.next)))))

pub put_pair-put_arm-requires-in-Or : goal.put_pair-put_arm-requires-in-Or
put_pair-put_arm-requires-in-Or t c =
    let at = pair_at c.args.cover.now.forest.now c.forest.inside.pairs.items c.args.place c.index.result.now (Or c.in-Or.left c.in-Or.right)
    (ap (λ (f : ForestData). f.pairs) c.forest.view_is) c.requires.there c.index.ensures c.in-Or.is in
    let less = room_less c.args.place c.in-Or.left (c.requires.forest.in_place.in_order c.args.place _ at).0 in
    let room : 2 * c.args.place + 1 ≡ t = c.decreases in
    (omega (arith, less, room), (c.requires.forest, (c.requires.one_each, (c.requires.cells, (left_there c.args.cover.now.forest.now c.args.place _ c.requires.forest at, or_left_room c.args.cover.now.forest.now c.args.cover.now.kept.now c.args.place c.in-Or.left c.in-Or.right at c.args.inner c.requires.room)))))

pub put_pair-put_arm-requires-in-Or-2 : goal.put_pair-put_arm-requires-in-Or-2
put_pair-put_arm-requires-in-Or-2 t c =
    let at = pair_at c.args.cover.now.forest.now c.forest.inside.pairs.items c.args.place c.index.result.now (Or c.in-Or.left c.in-Or.right)
    (ap (λ (f : ForestData). f.pairs) c.forest.view_is) c.requires.there c.index.ensures c.in-Or.is in
    let less = room_less c.args.place c.in-Or.right (c.requires.forest.in_place.in_order c.args.place _ at).1 in
    let room : 2 * c.args.place + 1 ≡ t = c.decreases in
    (omega (arith, less, room), (c.requires.forest, (c.requires.one_each, (c.requires.cells, (right_there c.args.cover.now.forest.now c.args.place _ c.requires.forest at, or_right_room c.args.cover.now.forest.now c.args.cover.now.kept.now c.args.place c.in-Or.left c.in-Or.right at c.args.inner _ c.requires.room c.in_ok-next-in-Or.ensures.next)))))

pub put_pair-returns-in_ok-next-in-And-2-clause-next : goal.put_pair-returns-in_ok-next-in-And-2-clause-next
put_pair-returns-in_ok-next-in-And-2-clause-next t c =
    let at = pair_at c.args.cover.now.forest.now c.forest.inside.pairs.items c.args.place c.index.result.now (And c.in-And.left c.in-And.right)
    (ap (λ (f : ForestData). f.pairs) c.forest.view_is) c.requires.there c.index.ensures c.in-And.is in
    and_next c.args.cover.now.forest.now c.args.cover.now.kept.now c.args.place c.in-And.left c.in-And.right at c.args.inner _ _ c.in_ok-next-in-And.ensures.next c.in_ok-next-in-And-2.ensures.next

pub put_pair-returns-in_ok-next-in-And-2-clause-cards : goal.put_pair-returns-in_ok-next-in-And-2-clause-cards
put_pair-returns-in_ok-next-in-And-2-clause-cards t c =
    let at = pair_at c.args.cover.now.forest.now c.forest.inside.pairs.items c.args.place c.index.result.now (And c.in-And.left c.in-And.right)
    (ap (λ (f : ForestData). f.pairs) c.forest.view_is) c.requires.there c.index.ensures c.in-And.is in
    and_cards c.args.cover.now.forest.now c.args.cover.now.kept.now c.args.place c.in-And.left c.in-And.right at c.args.cover.now.pins.now (inner_net (tree_front c.args.digits.now)) _ _ _
    (net_text c.args.top) _ (net_text c.args.bottom) c.args.inner _ c.inner-middle.ensures
    c.in_ok-next-in-And.ensures.cards c.in_ok-next-in-And.ensures.next c.in_ok-next-in-And-2.ensures.cards

pub put_pair-returns-in_ok-next-in-Or-2-clause-next : goal.put_pair-returns-in_ok-next-in-Or-2-clause-next
put_pair-returns-in_ok-next-in-Or-2-clause-next t c =
    let at = pair_at c.args.cover.now.forest.now c.forest.inside.pairs.items c.args.place c.index.result.now (Or c.in-Or.left c.in-Or.right)
    (ap (λ (f : ForestData). f.pairs) c.forest.view_is) c.requires.there c.index.ensures c.in-Or.is in
    or_next c.args.cover.now.forest.now c.args.cover.now.kept.now c.args.place c.in-Or.left c.in-Or.right at c.args.inner _ _ c.in_ok-next-in-Or.ensures.next c.in_ok-next-in-Or-2.ensures.next

pub put_pair-returns-in_ok-next-in-Or-2-clause-cards : goal.put_pair-returns-in_ok-next-in-Or-2-clause-cards
put_pair-returns-in_ok-next-in-Or-2-clause-cards t c =
    let at = pair_at c.args.cover.now.forest.now c.forest.inside.pairs.items c.args.place c.index.result.now (Or c.in-Or.left c.in-Or.right)
    (ap (λ (f : ForestData). f.pairs) c.forest.view_is) c.requires.there c.index.ensures c.in-Or.is in
    or_cards c.args.cover.now.forest.now c.args.cover.now.kept.now c.args.place c.in-Or.left c.in-Or.right at c.args.cover.now.pins.now (inner_net (tree_front c.args.digits.now)) _ _ _
    (net_text c.args.top) (net_text c.args.bottom) c.args.inner _
    c.in_ok-next-in-Or.ensures.cards c.in_ok-next-in-Or.ensures.next c.in_ok-next-in-Or-2.ensures.cards

pub put_arm-bounds-cover-place-else-cover-place : goal.put_arm-bounds-cover-place-else-cover-place
put_arm-bounds-cover-place-else-cover-place t c =
    let same = ap length c.requires.cells in
    let len = length-cells c.args.cover.now.kept.now in
    let there : c.in-Pair.place < length c.args.cover.now.forest.now.pairs = subst (ReadsBefore (length c.args.cover.now.forest.now.pairs)) c.in-Pair.is c.requires.there.0 in
    omega (arith, same, len, there, c.requires.one_each)

pub put_arm-returns-in_ok-put-in-Literal-clause-next : goal.put_arm-returns-in_ok-put-in-Literal-clause-next
put_arm-returns-in_ok-put-in-Literal-clause-next t c = λ tree is.
    omega (arith, ap inner_count (arm_tree_one c.args.cover.now.forest.now c.args.cover.now.kept.now is literal c.in-Literal.is))

pub put_arm-returns-in_ok-put-in-Literal-clause-cards : goal.put_arm-returns-in_ok-put-in-Literal-clause-cards
put_arm-returns-in_ok-put-in-Literal-clause-cards t c = λ tree is.
    let low = subst (ReadsLeaves c.args.cover.now.forest.now.leaves) c.in-Literal.is c.requires.there.1 in
    let gate = literal_net c.args.cover.now.forest.now c.args.cover.now.kept.now c.args.cover.now.pins.now c.args.arm c.in-Literal.rail tree is c.in-Literal.is low in
    c.in_ok-put-in-Literal.ensures
    ∙ (λ i. with_put c.args.cards.now (record { kind = nch; drain = net_text c.args.top; gate = c.rail_net.ensures i; source = net_text c.args.bottom } ∷ []))
    ∙ ap (λ (x : Tree (List ℕ)). with_put c.args.cards.now (spell nch (inner_net (tree_front c.args.digits.now)) x (net_text c.args.top) (net_text c.args.bottom) c.args.inner)) (sym gate)

pub put_arm-returns-in_ok-next-in-Pair-clause-next : goal.put_arm-returns-in_ok-next-in-Pair-clause-next
put_arm-returns-in_ok-next-in-Pair-clause-next t c = λ tree is.
    c.in_ok-next-in-Pair.ensures.next tree (tree_at_kept c.args.cover.now.forest.now c.args.cover.now.kept.now is c.in-Pair.place c.in-Pair.is c.if-cover-place.true)

pub put_arm-returns-in_ok-next-in-Pair-clause-cards : goal.put_arm-returns-in_ok-next-in-Pair-clause-cards
put_arm-returns-in_ok-next-in-Pair-clause-cards t c = λ tree is.
    c.in_ok-next-in-Pair.ensures.cards tree (tree_at_kept c.args.cover.now.forest.now c.args.cover.now.kept.now is c.in-Pair.place c.in-Pair.is c.if-cover-place.true)

pub put_arm-returns-in_ok-put-in-Pair-clause-next : goal.put_arm-returns-in_ok-put-in-Pair-clause-next
put_arm-returns-in_ok-put-in-Pair-clause-next t c = λ tree is.
    omega (arith, ap inner_count (arm_tree_one c.args.cover.now.forest.now c.args.cover.now.kept.now is (cut {place = c.in-Pair.place} c.if-cover-place.false) c.in-Pair.is))

pub put_arm-returns-in_ok-put-in-Pair-clause-cards : goal.put_arm-returns-in_ok-put-in-Pair-clause-cards
put_arm-returns-in_ok-put-in-Pair-clause-cards t c = λ tree is.
    let there : c.in-Pair.place < length c.args.cover.now.forest.now.pairs = subst (ReadsBefore (length c.args.cover.now.forest.now.pairs)) c.in-Pair.is c.requires.there.0 in
    let cell = cell_at c.args.cover.now.kept.now c.args.cover.now.cells.now c.in-Pair.place c.requires.cells (omega (arith, there, c.requires.one_each)) in
    let gate = root_net c.args.cover.now.forest.now c.args.cover.now.kept.now c.args.cover.now.pins.now c.args.arm c.in-Pair.place tree is c.in-Pair.is c.if-cover-place.false in
    c.in_ok-put-in-Pair.ensures
    ∙ (λ i. with_put c.args.cards.now (record { kind = nch; drain = net_text c.args.top; gate = (c.numbered.ensures ∙ ap output_net cell) i; source = net_text c.args.bottom } ∷ []))
    ∙ ap (λ (x : Tree (List ℕ)). with_put c.args.cards.now (spell nch (inner_net (tree_front c.args.digits.now)) x (net_text c.args.top) (net_text c.args.bottom) c.args.inner)) (sym gate)
