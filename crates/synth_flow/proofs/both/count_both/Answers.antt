use Rattle.std.proofs.Common.{◌≡◌, ◌&&◌, ℕ, ap, ap₂, arith, cond, false, get_or}
use Rattle.synth_flow.proofs.FigureLoops.{count_next}
use Rattle.synth_flow.proofs.LeafMarks.{filter_more}
use Rattle.synth_flow.proofs.both.count_both.Goals.{
  then-plus-node+then-minus-node,
  else-plus-node,
  else-plus-node-via-then-plus-node+else-minus-node,
  else-plus-node-via-else-plus-node,
}
use Rattle.synth_flow.proofs.both.count_both.Goals as goal

pub nodes-preserved : goal.nodes-preserved
nodes-preserved c =
    let node = c.nodes.node in
    let minus = c.args.minus.now in
    let test = λ (n : ℕ). get_or c.args.plus.now n false && get_or minus n false in
    let more = count_next test node (filter_more test node) in
    let count = c.nodes.invariant.0 in
    let few = c.nodes.invariant.1 in
    elim c.if-plus-node.branch [
      | then-plus-node+then-minus-node w ↦
          let one : ◌≡◌ {A = ℕ} (cond (test node) 1 0) 1 = ap₂ (λ a b. cond (a && b) 1 0) w.if-plus-node.true w.if-minus-node.true in
          (omega (arith, w.both-is, count, more, one), omega (arith, w.both-is, few))
      | else-plus-node w ↦
          let none : ◌≡◌ {A = ℕ} (cond (test node) 1 0) 0 =
          elim w.else-plus-node.branch [
            | else-plus-node-via-then-plus-node+else-minus-node w' ↦ ap₂ (λ a b. cond (a && b) 1 0) w'.if-plus-node.true w'.if-minus-node.false
            | else-plus-node-via-else-plus-node w' ↦ ap (λ a. cond (a && get_or minus node false) 1 0) w'.if-plus-node.false
          ] in
          (omega (arith, w.both-is, count, more, none), omega (arith, w.both-is, few))
    ]
