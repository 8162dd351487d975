use Rattle.std.proofs.Common.{arith, ap, ◌∙◌, ◌≡◌, ◌<◌, sym, subst, All, length, length-set, set, List, ℕ}
use Rattle.std.specs.List.{sum_by}
use Rattle.std.specs.Prelude.{◌↔◌, Contains}
use Rattle.std.proofs.lemmas.List.Elements.{Contains-get_or}
use Rattle.dom_base.specs.declared.tri.Tri.{Tri}
use Rattle.switch_model.specs.ComponentLists.{list_at}
use Rattle.switch_model.specs.Components.{AreTouched}
use Rattle.switch_model.specs.LinksData.{LinksData, is_first}
use Rattle.switch_model.specs.Pending.{AreKeptTargets, ArePending}
use Rattle.switch_model.specs.Targets.{IsPending}
use Rattle.switch_model.proofs.Refreshed.{kept_apart, refreshed, refreshed_targets}
use Rattle.switch_model.proofs.Touching.{touched-exact, touched-length, touched-one, touched_places}
use Rattle.switch_model.proofs.links.Links.refresh.Goals as goal

pub refresh_all-requires-clause-numbers : goal.refresh_all-requires-clause-numbers
refresh_all-requires-clause-numbers g c =
    let w = c.self.inside in
    let whole : length c.args.values.now ≡ length w.components.nets = c.requires.whole ∙ sym (ap (λ (l : LinksData). l.nets) c.self.view_is) in
    subst (λ (l : List ℕ). All (λ (n : ℕ). n < length c.args.values.now) l) (sym c.at.ensures)
    (λ k d lt. let z = (c.self.invariant.components_are.touched_are c.args.net _).0 (Contains-get_or (list_at w.components.touched c.args.net) k d lt) in omega (arith, z.0, whole))

pub returns-clause-right : goal.returns-clause-right
returns-clause-right g c =
    let w = c.self.inside in
    let links : LinksData = record { nets = length w.components.nets; sources = w.sources; devices = w.wires } in
    let view : links ≡ c.args.self.now = c.self.view_is in
    let values = c.args.values.now in
    let free = is_first w.sources in
    let numbers = list_at w.components.touched c.args.net in
    let whole : length values ≡ links.nets = c.requires.whole ∙ sym (ap (λ (l : LinksData). l.nets) view) in
    let lt : c.args.net < links.nets = omega (arith, c.requires.within, ap (λ (l : LinksData). l.nets) view) in
    let after = c.refresh_all.new.pending.listed in
    let before = c.args.pending.now.listed in
    let here : (n k : ℕ) → Contains numbers k → Contains (list_at w.components.nets k) n → Contains after n ↔ ((v : Tri) × IsPending w.wires free values n v) =
    subst (λ (l : List ℕ). (n k : ℕ) → Contains l k → Contains (list_at w.components.nets k) n → Contains after n ↔ ((v : Tri) × IsPending w.wires free values n v)) c.at.ensures c.refresh_all.ensures.here in
    let others : (n : ℕ) → ((k : ℕ) → Contains numbers k → Contains (list_at w.components.nets k) n → ⊥) → Contains after n ↔ Contains before n =
    subst (λ (l : List ℕ). (n : ℕ) → ((k : ℕ) → Contains l k → Contains (list_at w.components.nets k) n → ⊥) → Contains after n ↔ Contains before n) c.at.ensures c.refresh_all.ensures.others in
    subst (λ (l : LinksData). ArePending l values after) view (record {
      rising = c.refresh_all.ensures.rising c.requires.right.rising;
      exact = refreshed links w.components c.self.invariant.components_are c.self.invariant.in_range values whole numbers before after here others
          (set values c.args.net c.args.before) (length-set values c.args.net c.args.before)
          (subst (λ (l : LinksData). ArePending l (set values c.args.net c.args.before) before) (sym view) c.requires.right)
          (kept_apart links w.components c.self.invariant.components_are c.self.invariant.in_range values c.args.net lt c.args.before);
    })

pub returns-clause-targets : goal.returns-clause-targets
returns-clause-targets g c = λ right.
    let w = c.self.inside in
    let links : LinksData = record { nets = length w.components.nets; sources = w.sources; devices = w.wires } in
    let view : links ≡ c.args.self.now = c.self.view_is in
    let values = c.args.values.now in
    let lt : c.args.net < links.nets = omega (arith, c.requires.within, ap (λ (l : LinksData). l.nets) view) in
    let new = c.refresh_all.new.pending.targets in
    let old = c.args.pending.now.targets in
    subst (λ (l : LinksData). AreKeptTargets l values new) view
    (refreshed_targets links w.components c.self.invariant.components_are c.self.invariant.in_range values c.at.result.now old new c.refresh_all.ensures.targets
    c.args.net lt c.args.before c.at.ensures c.refresh_all.ensures.kept (subst (λ (l : LinksData). AreKeptTargets l (set values c.args.net c.args.before) old) (sym view) right))

pub returns-clause-cost : goal.returns-clause-cost
returns-clause-cost g c =
    let w = c.self.inside in
    let nets = length w.components.nets in
    let free = is_first w.sources in
    let size : ℕ → ℕ = λ k. length (list_at w.components.places k) in
    let places = touched_places w.wires free nets w.components c.self.invariant.components_are c.self.invariant.in_range c.args.net in
    let sum : sum_by size c.at.result.now ≡ length places = ap (sum_by size) c.at.ensures ∙ touched-length w.wires free nets w.components c.self.invariant.components_are c.self.invariant.in_range c.args.net in (
      places,
      subst (λ (l : LinksData). AreTouched l.devices (is_first l.sources) c.args.net places) c.self.view_is
          (touched-exact w.wires free nets w.components c.self.invariant.components_are c.self.invariant.in_range c.args.net),
      omega (arith, c.refresh_all.ensures.cost, sum),
    )

pub returns-clause-nine : goal.returns-clause-nine
returns-clause-nine g c = λ places t.
    let w = c.self.inside in
    let i = c.self.invariant in
    let nets = length w.components.nets in
    let free = is_first w.sources in
    let touched : AreTouched w.wires free c.args.net places = subst (λ (l : LinksData). AreTouched l.devices (is_first l.sources) c.args.net places) (sym c.self.view_is) t in
    let size : ℕ → ℕ = λ k. length (list_at w.components.places k) in
    let sum : sum_by size c.at.result.now ≡ length places =
    ap (sum_by size) c.at.ensures ∙ touched-length w.wires free nets w.components i.components_are i.in_range c.args.net
    ∙ sym (ap (λ (l : List ℕ). length l) (touched-one w.wires free nets w.components i.components_are i.in_range c.args.net places touched)) in
    omega (arith, c.refresh_all.ensures.cost, sum)
