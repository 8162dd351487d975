use Rattle.std.proofs.Common.{◌≡◌, ◌+◌, List, length, map, take, Some, ap, sym, ◌∙◌, subst, refl}
use Rattle.std.proofs.lemmas.Option.{slice_get_read}
use Rattle.network.specs.declared.network.NetLatch.{NetLatch}
use Rattle.net_flatten.specs.Dependences.{is_table}
use Rattle.net_flatten.specs.NetworkNumbers.{latches_among}
use Rattle.net_flatten.specs.NetworkParts.{latch_in_network}
use Rattle.part_numbers.specs.NumberedFiles.{NumberedPartData}
use Rattle.net_flatten.proofs.NetworkSteps.{latch_there, latches_next, latches_stay}
use Rattle.net_flatten.proofs.network_parts.net_latches.Goals as goal
use Rattle.net_flatten.proofs.network_parts.net_latches.Goals.{in-Latch+in_ok-push, in_default}

pub net_latch-requires-clause-there : goal.net_latch-requires-clause-there
net_latch-requires-clause-there c =
    let at = slice_get_read c.args.parts.now (length c.args.parts.now) c.loop-index.index c.index-parts-index.result refl c.loop-index-test.true c.index-parts-index.is in
    let card : c.part.inside.card ≡ c.index-parts-index.result.card = ap (λ (p : NumberedPartData). p.card) c.part.view_is in
    latch_there c.args.file.now c.args.places.now c.args.parts.now c.loop-index.index c.index-parts-index.result at (ap is_table (sym card ∙ c.in-Latch.is)) c.requires.there

pub loop-index-preserved : goal.loop-index-preserved
loop-index-preserved c =
    let at = slice_get_read c.args.parts.now (length c.args.parts.now) c.loop-index.index c.index-parts-index.result refl c.loop-index-test.true c.index-parts-index.is in
    let card : c.part.inside.card ≡ c.index-parts-index.result.card = ap (λ (p : NumberedPartData). p.card) c.part.view_is in
    elim c.match-part.branch [
      | in-Latch+in_ok-push w ↦
          subst (λ l. map Some l ≡ map (latch_in_network c.args.file.now c.args.places.now) (latches_among (take (c.loop-index.index + 1) c.args.parts.now)))
          (sym {A = List NetLatch} (w.in_ok-push.ensures {u = tt}).items ∙ ap (λ v. v.items) (sym w.latches-is))
          (latches_next c.args.file.now c.args.places.now c.args.parts.now c.loop-index.index c.index-parts-index.result at (ap is_table (sym card ∙ w.in-Latch.is)) c.loop-index.latches.items w.net_latch.result
          w.net_latch.ensures c.loop-index.invariant)
      | in_default w ↦
          subst (λ v. map Some v.items ≡ map (latch_in_network c.args.file.now c.args.places.now) (latches_among (take (c.loop-index.index + 1) c.args.parts.now))) (sym w.latches-is)
          (latches_stay c.args.file.now c.args.places.now c.args.parts.now c.loop-index.index c.index-parts-index.result at (ap is_table (sym card ∙ w.in_default.is)) c.loop-index.latches.items c.loop-index.invariant)
    ]
