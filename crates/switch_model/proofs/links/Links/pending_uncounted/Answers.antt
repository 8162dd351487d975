use Rattle.std.proofs.Common.{arith, ap, ◌∙◌, ◌≡◌, ◌<◌, sym, subst, All, length, get_or, List, [], ℕ}
use Rattle.std.specs.Prelude.{◌↔◌, Contains}
use Rattle.std.specs.List.Sorted.{IsStrictlyIncreasing}
use Rattle.std.proofs.lemmas.List.{get_or_default}
use Rattle.dom_base.specs.declared.tri.Tri.{Tri}
use Rattle.pending_nets.specs.PendingData.{PendingData}
use Rattle.switch_model.specs.ComponentLists.{AreComponentLists, list_at}
use Rattle.switch_model.specs.LinksData.{LinksData, is_first}
use Rattle.switch_model.specs.Pending.{AreKeptTargets, ArePending}
use Rattle.switch_model.specs.Targets.{IsPending}
use Rattle.switch_model.proofs.Refreshed.{all_refreshed, all_targets}
use Rattle.switch_model.proofs.links.Links.pending_uncounted.Goals as goal

pub refresh_all-requires-clause-components : goal.refresh_all-requires-clause-components
refresh_all-requires-clause-components g c =
    let w = c.self.inside in
    let whole : length c.args.values.now ≡ length w.components.nets = c.requires.whole ∙ sym (ap (λ (l : LinksData). l.nets) c.self.view_is) in
    subst (λ (n : ℕ). AreComponentLists w.wires (is_first w.sources) n w.components) (sym whole) c.self.invariant.components_are

pub refresh_all-requires-clause-numbers : goal.refresh_all-requires-clause-numbers
refresh_all-requires-clause-numbers g c =
    let whole : length c.args.values.now ≡ c.len-nets.result = c.requires.whole ∙ sym (ap (λ (l : LinksData). l.nets) c.self.view_is) ∙ sym c.len-nets.ensures in
    let all = c.in_ok-all.all.items in
    subst (λ (l : List ℕ). All (λ (n : ℕ). n < length c.args.values.now) l) (sym c.as_slice.ensures.value)
    (λ k d lt. let at : get_or all k d ≡ k = get_or_default all k d k lt ∙ c.in_ok-all.ensures.alone k in omega (arith, at, lt, c.in_ok-all.ensures.long, whole))

pub returns-clause-right : goal.returns-clause-right
returns-clause-right g c =
    let w = c.self.inside in
    let links : LinksData = record { nets = length w.components.nets; sources = w.sources; devices = w.wires } in
    let view : links ≡ c.args.self.now = c.self.view_is in
    let values = c.args.values.now in
    let all = c.in_ok-all.all.items in
    let free = is_first w.sources in
    let whole : length values ≡ links.nets = c.requires.whole ∙ sym (ap (λ (l : LinksData). l.nets) view) in
    let after = c.refresh_all.new.pending.listed in
    let before = c.in_ok-pending.pending.listed in
    let here : (n k : ℕ) → Contains all k → Contains (list_at w.components.nets k) n → Contains after n ↔ ((v : Tri) × IsPending w.wires free values n v) =
    subst (λ (l : List ℕ). (n k : ℕ) → Contains l k → Contains (list_at w.components.nets k) n → Contains after n ↔ ((v : Tri) × IsPending w.wires free values n v)) c.as_slice.ensures.value c.refresh_all.ensures.here in
    let others : (n : ℕ) → ((k : ℕ) → Contains all k → Contains (list_at w.components.nets k) n → ⊥) → Contains after n ↔ Contains before n =
    subst (λ (l : List ℕ). (n : ℕ) → ((k : ℕ) → Contains l k → Contains (list_at w.components.nets k) n → ⊥) → Contains after n ↔ Contains before n) c.as_slice.ensures.value c.refresh_all.ensures.others in
    let empty : before ≡ [] = ap (λ (p : PendingData). p.listed) c.in_ok-pending.ensures in
    subst (λ (l : LinksData). ArePending l values after) view (record {
      rising = c.refresh_all.ensures.rising (subst IsStrictlyIncreasing (sym empty) (λ k lt. absurd (omega (arith, lt))));
      exact = all_refreshed links w.components c.self.invariant.components_are c.self.invariant.in_range values whole all before after here others
          (λ k lt. (k, omega (arith, lt, c.in_ok-all.ensures.long, c.len-nets.ensures), c.in_ok-all.ensures.alone k))
          (λ n x. let d : Contains {X = ℕ} [] n = subst (λ (l : List ℕ). Contains l n) empty x in omega (arith, d.1));
    })

pub returns-clause-targets : goal.returns-clause-targets
returns-clause-targets g c =
    let w = c.self.inside in
    let links : LinksData = record { nets = length w.components.nets; sources = w.sources; devices = w.wires } in
    let values = c.args.values.now in
    let new = c.refresh_all.new.pending.targets in
    subst (λ (l : LinksData). AreKeptTargets l values new) c.self.view_is
    (all_targets links w.components c.self.invariant.components_are c.self.invariant.in_range values c.as_slice.result.now c.in_ok-pending.pending.targets new c.refresh_all.ensures.targets
    (λ k lt. subst (λ (l : List ℕ). Contains l k) (sym c.as_slice.ensures.value) (k, omega (arith, lt, c.in_ok-all.ensures.long, c.len-nets.ensures), c.in_ok-all.ensures.alone k)))
