-- The latches' inputs come after the outputs.
use Rattle.std.proofs.Common.{◌≡◌, ◌++◌, map, ap, sym, ◌∙◌, length, subst, ◌≤◌}
use Rattle.std.proofs.lemmas.List.{map-append, take_all}
use Rattle.std.proofs.lemmas.Simd.{map-map}
use Rattle.gate_decompose.specs.RowItems.{ref_at}
use Rattle.network.specs.declared.network.NetLatch.{NetLatch}
use Rattle.network.specs.NetworkData.{NetworkData}
use Rattle.gate_decompose.proofs.tables.sink_refs.Goals as goal

pub returns : goal.returns
returns c =
    let latches : c.deref-latch-items.result.now ≡ c.args.network.now.latches = c.deref-latch-items.ensures.value ∙ ap (λ (n : NetworkData). n.latches) c.network.view_is in
    c.loop-latch.invariant
    ∙ ap (λ xs. map (ref_at c.args.refs.now) c.args.network.now.outputs ++ map (λ (x : NetLatch). ref_at c.args.refs.now x.input) xs)
    (take_all c.loop-latch.latch-index c.args.network.now.latches (subst (λ xs. length xs ≤ c.loop-latch.latch-index) latches c.loop-latch-test.false))
    ∙ sym (map-append (ref_at c.args.refs.now) c.args.network.now.outputs (map (λ (l : NetLatch). l.input) c.args.network.now.latches)
    ∙ ap (λ xs. map (ref_at c.args.refs.now) c.args.network.now.outputs ++ xs) (map-map (ref_at c.args.refs.now) (λ (l : NetLatch). l.input) c.args.network.now.latches))
