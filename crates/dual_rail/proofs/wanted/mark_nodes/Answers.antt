-- A node less.
use Rattle.std.proofs.Common.{◌≡◌, ◌-◌, ◌<◌, suc, arith, length}
use Rattle.std.proofs.lemmas.Option.{slice_get-get_or}
use Rattle.dual_rail.proofs.Marks.{node_marked}
use Rattle.dual_rail.proofs.wanted.mark_nodes.Goals as goal

pub loop-index-preserved : goal.loop-index-preserved
loop-index-preserved c =
    let one : c.loop-index.index ≡ suc (c.loop-index.index - 1) = omega (arith, c.loop-index-test.true) in
    let within : c.loop-index.index - 1 < length c.args.nodes.now = omega (arith, c.loop-index-test.true, c.loop-index.auto.index) in
    node_marked c.args.nodes.now c.loop-index.index (c.loop-index.index - 1) c.loop-index.wanted c.mark_parts.new.wanted _ _ one
    (slice_get-get_or c.args.nodes.now (c.loop-index.index - 1) _ within) (λ n s. c.mark_parts.ensures n s) (λ n s. c.loop-index.invariant n s)
