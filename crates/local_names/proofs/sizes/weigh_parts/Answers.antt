use Rattle.std.proofs.Common.{◌<◌, ◌+◌, length, arith}
use Rattle.numbered_file.proofs.Places.{first_part-within}
use Rattle.local_names.proofs.Weights.{weighed-more}
use Rattle.local_names.proofs.sizes.weigh_parts.Goals as goal

pub weight_at-requires : goal.weight_at-requires
weight_at-requires c =
    omega (arith, c.parts_end-end.ensures, c.loop-place-test.true, first_part-within c.args.file.now c.is_in_order.ensures (c.args.model + 1))

pub loop-place-preserved : goal.loop-place-preserved
loop-place-preserved c =
    let d = c.args.file.now in
    let l = c.loop-place in
    let within : l.place < length d.parts =
    omega (arith, c.parts_end-end.ensures, c.loop-place-test.true, first_part-within d c.is_in_order.ensures (c.args.model + 1)) in
    weighed-more d c.args.limit c.first_part-first.result c.parts_end-end.result l.place l.total c.weight_at.result c.saturating_add-total.result
    l.invariant c.loop-place-test.true within c.weight_at.ensures c.saturating_add-total.ensures
