use Rattle.std.proofs.Common.{◌≡◌, ◌+◌, length, set, take, ap, sym, ◌∙◌, subst, refl}
use Rattle.std.proofs.lemmas.Option.{slice_get_read}
use Rattle.net_flatten.specs.Dependences.{AreDependences, is_table}
use Rattle.part_numbers.specs.NumberedFaults.{IsPartWithin}
use Rattle.part_numbers.specs.NumberedFiles.{NumberedPartData}
use Rattle.net_flatten.proofs.Dependences.{dependences_at_latch, dependences_at_table}
use Rattle.net_flatten.proofs.dependence.dependences.Goals as goal
use Rattle.net_flatten.proofs.dependence.dependences.Goals.{in-Table, in_default}
use Rattle.dom_base.proofs.Lists.{All-at}

pub loop-index-preserved : goal.loop-index-preserved
loop-index-preserved c =
    let at = slice_get_read c.args.parts.now (length c.args.parts.now) c.loop-index.index c.index-parts-index.result refl c.loop-index-test.true c.index-parts-index.is in
    let card : c.part.inside.card ≡ c.index-parts-index.result.card = ap (λ (p : NumberedPartData). p.card) c.part.view_is in
    let drives : c.part.inside.drives ≡ c.index-parts-index.result.drives = ap (λ (p : NumberedPartData). p.drives) c.part.view_is in
    let reads : c.part.inside.reads.items ≡ c.index-parts-index.result.reads = ap (λ (p : NumberedPartData). p.reads) c.part.view_is in
    elim c.match-part.branch [
      | in-Table w ↦
          subst (AreDependences c.args.signals (take (c.loop-index.index + 1) c.args.parts.now))
          (ap (set c.loop-index.nodes.items c.index-parts-index.result.drives) (sym reads)
          ∙ ap (λ k. set c.loop-index.nodes.items k c.part.inside.reads.items) (sym drives) ∙ sym w.set_next.ensures ∙ ap (λ v. v.items) (sym w.nodes-is))
          (dependences_at_table c.args.parts.now c.loop-index.index c.index-parts-index.result at c.args.signals c.loop-index.nodes.items c.loop-index.invariant
          (ap is_table (sym card ∙ w.in-Table.is)) (All-at (IsPartWithin c.args.signals) c.args.parts.now c.loop-index.index c.index-parts-index.result c.requires.parts at).drives c.requires.once)
      | in_default w ↦
          subst (AreDependences c.args.signals (take (c.loop-index.index + 1) c.args.parts.now)) (ap (λ v. v.items) (sym w.nodes-is))
          (dependences_at_latch c.args.parts.now c.loop-index.index c.index-parts-index.result at c.args.signals c.loop-index.nodes.items c.loop-index.invariant (ap is_table (sym card ∙ w.in_default.is)))
    ]
