-- The parts of a gate are plain, so each has its arm.
use Rattle.std.proofs.Common.{inl, inr, sym, subst, length, arith}
use Rattle.dual_rail.specs.ArmPlaces.{HasPlace}
use Rattle.dual_rail.specs.Targets.{asked_target}
use Rattle.dual_rail.proofs.ArmsOf.{arm_is, gate_at, gate_node, gate_within, operands_plain, other_sign, pair_and, pair_or, plain_place, same_sign}
use Rattle.dual_rail.proofs.TargetsOf.{part_there, there_more}
use Rattle.dual_rail.proofs.arms.pair_of.Goals as goal

pub target_of-requires : goal.target_of-requires
target_of-requires c =
    let at = gate_at c.args.nodes.now c.args.node _ c.operation_of-operation.result c.requires.gate c.operation_of-operation.ensures in
    let plain = operands_plain c.args.nodes.now c.args.node c.operation_of-operation.result c.requires.order at in
    let lt = gate_within c.args.nodes.now c.args.node c.requires.gate in
    there_more c.args.node (length c.args.targets.now) c.operation_of-operation.result.left (omega (arith, lt, c.requires.targets)) (part_there c.args.node c.operation_of-operation.result.left plain.0)

pub arm_for-left-requires : goal.arm_for-left-requires
arm_for-left-requires c =
    let at = gate_at c.args.nodes.now c.args.node _ c.operation_of-operation.result c.requires.gate c.operation_of-operation.ensures in
    let plain = operands_plain c.args.nodes.now c.args.node c.operation_of-operation.result c.requires.order at in
    let lt = gate_within c.args.nodes.now c.args.node c.requires.gate in
    subst (λ n. HasPlace n (asked_target c.target_of.result)) (sym c.requires.places)
    (plain_place c.args.nodes.now c.requires.order c.args.node (omega (arith, lt)) plain.0 (c.target_of.ensures c.args.nodes.now c.requires.known))

pub target_of-requires-2 : goal.target_of-requires-2
target_of-requires-2 c =
    let at = gate_at c.args.nodes.now c.args.node _ c.operation_of-operation.result c.requires.gate c.operation_of-operation.ensures in
    let plain = operands_plain c.args.nodes.now c.args.node c.operation_of-operation.result c.requires.order at in
    let lt = gate_within c.args.nodes.now c.args.node c.requires.gate in
    there_more c.args.node (length c.args.targets.now) c.operation_of-operation.result.right (omega (arith, lt, c.requires.targets)) (part_there c.args.node c.operation_of-operation.result.right plain.1)

pub arm_for-right-requires : goal.arm_for-right-requires
arm_for-right-requires c =
    let at = gate_at c.args.nodes.now c.args.node _ c.operation_of-operation.result c.requires.gate c.operation_of-operation.ensures in
    let plain = operands_plain c.args.nodes.now c.args.node c.operation_of-operation.result c.requires.order at in
    let lt = gate_within c.args.nodes.now c.args.node c.requires.gate in
    subst (λ n. HasPlace n (asked_target c.target_of-2.result)) (sym c.requires.places)
    (plain_place c.args.nodes.now c.requires.order c.args.node (omega (arith, lt)) plain.1 (c.target_of-2.ensures c.args.nodes.now c.requires.known))

pub returns-then-operation-plus : goal.returns-then-operation-plus
returns-then-operation-plus c =
    let at = gate_at c.args.nodes.now c.args.node _ c.operation_of-operation.result c.requires.gate c.operation_of-operation.ensures in
    λ origin stand.
    pair_and c.args.nodes.now origin c.args.node c.args.plus c.operation_of-operation.result c.arm_for-left.result c.arm_for-right.result at
    (same_sign c.operation_of-operation.result.is_and c.args.plus c.if-operation-plus.true)
    (arm_is c.args.nodes.now origin c.args.places.now c.operation_of-operation.result.left c.args.plus (asked_target c.target_of.result) c.arm_for-left.result
    (c.target_of.ensures c.args.nodes.now c.requires.known) c.arm_for-left.ensures
    (λ m t asks. stand c.operation_of-operation.result.left c.operation_of-operation.result.right m t (gate_node c.args.nodes.now c.args.node c.operation_of-operation.result at) (inl asks)))
    (arm_is c.args.nodes.now origin c.args.places.now c.operation_of-operation.result.right c.args.plus (asked_target c.target_of-2.result) c.arm_for-right.result
    (c.target_of-2.ensures c.args.nodes.now c.requires.known) c.arm_for-right.ensures
    (λ m t asks. stand c.operation_of-operation.result.left c.operation_of-operation.result.right m t (gate_node c.args.nodes.now c.args.node c.operation_of-operation.result at) (inr asks)))

pub returns-else-operation-plus : goal.returns-else-operation-plus
returns-else-operation-plus c =
    let at = gate_at c.args.nodes.now c.args.node _ c.operation_of-operation.result c.requires.gate c.operation_of-operation.ensures in
    λ origin stand.
    pair_or c.args.nodes.now origin c.args.node c.args.plus c.operation_of-operation.result c.arm_for-left.result c.arm_for-right.result at
    (other_sign c.operation_of-operation.result.is_and c.args.plus c.if-operation-plus.false)
    (arm_is c.args.nodes.now origin c.args.places.now c.operation_of-operation.result.left c.args.plus (asked_target c.target_of.result) c.arm_for-left.result
    (c.target_of.ensures c.args.nodes.now c.requires.known) c.arm_for-left.ensures
    (λ m t asks. stand c.operation_of-operation.result.left c.operation_of-operation.result.right m t (gate_node c.args.nodes.now c.args.node c.operation_of-operation.result at) (inl asks)))
    (arm_is c.args.nodes.now origin c.args.places.now c.operation_of-operation.result.right c.args.plus (asked_target c.target_of-2.result) c.arm_for-right.result
    (c.target_of-2.ensures c.args.nodes.now c.requires.known) c.arm_for-right.ensures
    (λ m t asks. stand c.operation_of-operation.result.left c.operation_of-operation.result.right m t (gate_node c.args.nodes.now c.args.node c.operation_of-operation.result at) (inr asks)))
