use Rattle.std.proofs.Common.{◌≡◌, List, true, false, length, get_or, set, sym, subst, ap, ◌∙◌, arith, refl}
use Rattle.std.proofs.lemmas.List.{get_or_read}
use Rattle.dom_base.specs.declared.tri.Tri.{Tri}
use Rattle.dom_base.specs.declared.tri.Tri.TheVariants.{Unknown}
use Rattle.switch_model.specs.Pending.{Targets}
use Rattle.event_sim.proofs.OneSettling.{chosen_is_event}
use Rattle.event_sim.proofs.StepFacts.{event_moved, kept_moved, links_same, moves_where_some, pending_at, pending_moved, pick_moved, rests_where_none, set_back, sim_after, targets_moved, values_same}
use Rattle.event_sim.proofs.sim.Sim.step_counted.Goals as goal

pub returns-then-count-eq0-clause-rest : goal.returns-then-count-eq0-clause-rest
returns-then-count-eq0-clause-rest g c =
    let s = c.args.self.now in
    let nets = c.self.inside.pending.listed in
    let pending = pending_moved (links_same c.self.view_is) (values_same c.self.view_is) c.self.invariant.right in
    let none : length nets ≡ 0 = omega (arith, c.count-count.ensures, c.if-count-eq0.true) in
    (λ _. rests_where_none s.links s.values nets pending none, λ _. refl)

pub target-after-requires : goal.target-after-requires
target-after-requires g c =
    let w = c.self.inside in
    let at = pending_at w.links w.values.items w.pending.listed c.pick-place.result c.nth-net.result c.self.invariant.right c.nth-net.ensures.net in
    omega (arith, at.0, c.self.invariant.whole, c.self.invariant.nets)

pub index-before-requires : goal.index-before-requires
index-before-requires g c =
    let w = c.self.inside in
    let at = pending_at w.links w.values.items w.pending.listed c.pick-place.result c.nth-net.result c.self.invariant.right c.nth-net.ensures.net in
    omega (arith, at.0, w.values.ok.0)

pub index_mut-requires : goal.index_mut-requires
index_mut-requires g c =
    let w = c.self.inside in
    let at = pending_at w.links w.values.items w.pending.listed c.pick-place.result c.nth-net.result c.self.invariant.right c.nth-net.ensures.net in
    omega (arith, at.0, w.values.ok.0)

pub refresh-requires-clause-within : goal.refresh-requires-clause-within
refresh-requires-clause-within g c =
    let w = c.self.inside in
    let at = pending_at w.links w.values.items w.pending.listed c.pick-place.result c.nth-net.result c.self.invariant.right c.nth-net.ensures.net in
    omega (arith, at.0, c.self.invariant.whole)

pub refresh-requires-clause-right : goal.refresh-requires-clause-right
refresh-requires-clause-right g c =
    let w = c.self.inside in
    let values = w.values.items in
    let net = c.nth-net.result in
    let before = c.index-before.result.now in
    let at = pending_at w.links values w.pending.listed c.pick-place.result net c.self.invariant.right c.nth-net.ensures.net in
    let same : set c.as_slice-values.result.now net before ≡ values =
    ap (λ (l : List Tri). set l net before) c.as_slice-values.ensures.value ∙ set_back values net c.target-after.result before at.0 c.index-before.ensures in
    pending_moved refl (sym same) c.self.invariant.right

pub invariant_of-self : goal.invariant_of-self
invariant_of-self g c =
    let w = c.self.inside in
    let values = w.values.items in
    let net = c.nth-net.result in
    let before = c.index-before.result.now in
    let at = pending_at w.links values w.pending.listed c.pick-place.result net c.self.invariant.right c.nth-net.ensures.net in
    let same : set c.as_slice-values.result.now net before ≡ values =
    ap (λ (l : List Tri). set l net before) c.as_slice-values.ensures.value ∙ set_back values net c.target-after.result before at.0 c.index-before.ensures in
    let targets = c.refresh.ensures.targets (kept_moved w.pending.targets refl (sym same) c.self.invariant.targets) in
    sim_after net c.target-after.result c.refresh.ensures.same c.as_slice-values.ensures.value c.refresh.ensures.nets c.refresh.ensures.right targets c.self.invariant

pub returns-clause-rest : goal.returns-clause-rest
returns-clause-rest g c =
    let s = c.args.self.now in
    let pending = pending_moved (links_same c.self.view_is) (values_same c.self.view_is) c.self.invariant.right in
    let at = pending_at s.links s.values c.self.inside.pending.listed c.pick-place.result c.nth-net.result pending c.nth-net.ensures.net in
    (λ e. absurd (let never : true ≡ false = e in cc), λ rest. absurd (moves_where_some s.links s.values c.nth-net.result at rest))

pub returns-clause-chosen : goal.returns-clause-chosen
returns-clause-chosen g c =
    let s = c.args.self.now in
    let w = c.self.inside in
    let links = links_same c.self.view_is in
    let values = values_same c.self.view_is in
    let nets = w.pending.listed in
    let net = c.nth-net.result in
    let pending = pending_moved links values c.self.invariant.right in
    let at = pending_at w.links w.values.items nets c.pick-place.result net c.self.invariant.right c.nth-net.ensures.net in
    record {
      nets = nets;
      pending = pending;
      place = c.pick-place.result;
      asked = pick_moved (λ pick n. g.F.Fn.post pick (w.step, (n, tt)) c.pick-place.result) c.self.view_is c.count-count.ensures c.pick-place.ensures;
      net_is = c.nth-net.ensures.net;
      before_is = get_or_read w.values.items net c.index-before.result.now at.0 c.index-before.ensures Unknown
          ∙ ap (λ (v : List Tri). get_or v net Unknown) values;
      after_is = targets_moved net c.target-after.result links values
          (subst (Targets w.links w.values.items net) (sym c.target-after.ensures) (c.self.invariant.targets net (omega (arith, at.0, c.self.invariant.whole)) at.1.1.0));
    }

pub returns-clause-legal : goal.returns-clause-legal
returns-clause-legal g c =
    event_moved c.args.self.now.links c.nth-net.result c.args.self.now.values (ap (λ (v : List Tri). set v c.nth-net.result c.target-after.result) (sym (values_same c.self.view_is)))
    (chosen_is_event _ c.args.self.now.links c.args.self.now.values _ (returns-clause-chosen g c))
