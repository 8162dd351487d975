use Rattle.std.proofs.Common.{◌≡◌, ◌<◌, ◌∙◌, List, length, set, ap, refl, sym, arith}
use Rattle.dom_base.specs.declared.tri.Tri.{Tri}
use Rattle.switch_model.specs.LinksData.{LinksData}
use Rattle.event_sim.proofs.StepFacts.{kept_moved, links_same, pending_moved, set_back, sim_after}
use Rattle.event_sim.proofs.sim.Sim.set_pin_counted.Goals as goal

pub refresh-requires-clause-right : goal.refresh-requires-clause-right
refresh-requires-clause-right g c =
    let w = c.self.inside in
    let values = w.values.items in
    let before = c.index-before.result.now in
    let lt : c.args.place < length values =
    omega (arith, c.requires.source, c.self.invariant.within, c.self.invariant.whole, ap (λ (l : LinksData). l.sources) (links_same c.self.view_is)) in
    let same : set c.as_slice-values.result.now c.args.place before ≡ values =
    ap (λ (l : List Tri). set l c.args.place before) c.as_slice-values.ensures.value ∙ set_back values c.args.place c.args.value before lt c.index-before.ensures in
    pending_moved refl (sym same) c.self.invariant.right

pub invariant_of-self : goal.invariant_of-self
invariant_of-self g c =
    let w = c.self.inside in
    let values = w.values.items in
    let before = c.index-before.result.now in
    let lt : c.args.place < length values =
    omega (arith, c.requires.source, c.self.invariant.within, c.self.invariant.whole, ap (λ (l : LinksData). l.sources) (links_same c.self.view_is)) in
    let same : set c.as_slice-values.result.now c.args.place before ≡ values =
    ap (λ (l : List Tri). set l c.args.place before) c.as_slice-values.ensures.value ∙ set_back values c.args.place c.args.value before lt c.index-before.ensures in
    let targets = c.refresh.ensures.targets (kept_moved w.pending.targets refl (sym same) c.self.invariant.targets) in
    sim_after c.args.place c.args.value c.refresh.ensures.same c.as_slice-values.ensures.value c.refresh.ensures.nets c.refresh.ensures.right targets c.self.invariant
