use Rattle.std.proofs.Common.{◌≡◌, ◌<◌, false, true, length, ap, subst, refl, ◌∙◌, inl, inr, arith}
use Rattle.switch_model.specs.LinksData.{LinksData, is_first}
use Rattle.switch_model.specs.Targets.{IsPending, IsTarget}
use Rattle.dom_base.proofs.Decided.{dec_nat}
use Rattle.switch_model.proofs.Searches.{first-false}
use Rattle.switch_model.proofs.Targets.{target_unique}
use Rattle.switch_model.proofs.links.Links.at_rest.Goals as goal

pub returns-then-not-has_value-clause-rest : goal.returns-then-not-has_value-clause-rest
returns-then-not-has_value-clause-rest c =
    let s = c.args.self.now in
    let net = c.loop-net.net in
    let values = c.args.values.now in
    let target = subst (λ (l : LinksData). IsTarget l.devices (is_first l.sources) values net c.target-target.result) c.loop-net.invariant.same c.target-target.ensures.target in
    let free = first-false s.sources net (omega (arith, c.loop-net.auto.net, ap (λ (l : LinksData). l.sources) c.self.view_is)) in
    let lt : net < length values = omega (arith, c.loop-net-test.true, c.len-net-end.ensures, c.requires, ap (λ (l : LinksData). l.nets) c.self.view_is) in
    let differs = c.has_value.ensures.no c.if-not-has_value.true in
    ((λ e. absurd (clash e)), (λ rest. absurd (rest net c.target-target.result lt (free, target, differs))))
  where
    clash : false ≡ true → ⊥
    clash e = cc

pub loop-net-preserved : goal.loop-net-preserved
loop-net-preserved c =
    let s = c.args.self.now in
    let net = c.loop-net.net in
    let values = c.args.values.now in
    let target = subst (λ (l : LinksData). IsTarget l.devices (is_first l.sources) values net c.target-target.result) c.loop-net.invariant.same c.target-target.ensures.target in
    let same = c.has_value.ensures.yes c.if-not-has_value.false in
    record {
      same = c.target-target.ensures.same ∙ c.loop-net.invariant.same;
      rest = λ n v lt p. elim (dec_nat n net) [
        | inl e ↦
            let q = subst (λ m. IsPending s.devices (is_first s.sources) values m v) e p in
            q.2 (same ∙ target_unique s.devices (is_first s.sources) values net c.target-target.result v target q.1)
        | inr ne ↦ c.loop-net.invariant.rest n v (omega (arith, lt, ne)) p
      ];
    }

pub returns-clause-rest : goal.returns-clause-rest
returns-clause-rest c =
    let nets = ap (λ (l : LinksData). l.nets) c.self.view_is in (
      (λ _ n v lt p. c.loop-net.invariant.rest n v (omega (arith, lt, c.loop-net-test.false, c.len-net-end.ensures, c.requires, nets)) p),
      (λ _. refl),
    )
