use Rattle.std.proofs.Common.{arith, ap, ◌∙◌, ◌≡◌, ◌≢◌, ◌<◌, sym, subst, get_or, length, ℕ, inl, inr}
use Rattle.std.specs.Prelude.{◌↔◌, Contains}
use Rattle.std.proofs.lemmas.Bool.{cases_eq}
use Rattle.std.proofs.lemmas.List.{get_or_default}
use Rattle.std.proofs.lemmas.List.Elements.{All-contains, Contains-get_or}
use Rattle.deck.specs.Switches.{value_of}
use Rattle.switch_model.specs.LinksData.{is_first}
use Rattle.switch_model.proofs.Targets.{target_unique}
use Rattle.switch_model.specs.Sweeps.{target_in}
use Rattle.switch_model.specs.Targets.{IsTarget}
use Rattle.switch_model.proofs.refresh.refresh_nets.Goals as goal

pub target-target-requires : goal.target-target-requires
target-target-requires g c =
    let nets = c.args.nets.now in
    let at = c.loop-net.net-index in
    (length c.args.values.now, c.find_targets-plain.ensures.rooms, All-contains (λ (n : ℕ). n < length c.args.values.now) nets (get_or nets at 0) c.requires.nets (Contains-get_or nets at 0 c.loop-net-test.true))

pub loop-net-preserved : goal.loop-net-preserved
loop-net-preserved g c =
    let i = c.loop-net.invariant in
    let values = c.args.values.now in
    let nets = c.args.nets.now in
    let at = c.loop-net.net-index in
    let net = get_or nets at 0 in
    let target : c.target-target.result ≡ target_in c.find_targets-plain.result c.find_targets-plain.new.rooms net = c.target-target.ensures in
    let found = target_in c.find_targets-plain.result c.find_targets-plain.new.rooms net in
    let here : Contains c.keep.new.pending.listed net ↔ (found ≢ value_of values net) = (
      λ h e. c.keep.ensures.here.0 h (target ∙ e),
      λ ne. c.keep.ensures.here.1 (λ e. ne (sym target ∙ e)),
    ) in
    let targets = c.keep.new.pending.targets in
    let kept_here : value_of targets net ≡ found = c.keep.ensures.target ∙ target in
    let kept_there = c.keep.ensures.kept in
    let listed = c.keep.ensures.others in
    record {
      whole = c.keep.ensures.whole ∙ i.whole;
      rising = λ up. c.keep.ensures.rising;
      targets = λ m k below is. elim (cases_eq m net) [
        | inl e ↦ subst (λ (n : ℕ). value_of targets n ≡ target_in c.find_targets-plain.result c.find_targets-plain.new.rooms n) (sym e) kept_here
        | inr ne ↦ elim (cases_eq k at) [
          | inl same ↦ absurd (ne (sym is ∙ ap (λ (j : ℕ). get_or nets j 0) same))
          | inr other ↦ kept_there m ne ∙ i.targets m k (omega (arith, below, other)) is
        ]
      ];
      kept = λ m none. kept_there m (λ e. none at (omega arith) (sym e)) ∙ i.kept m (λ k below is. none k (omega (arith, below)) is);
      here = λ m k below is. elim (cases_eq m net) [
        | inl e ↦ subst (λ (n : ℕ). Contains c.keep.new.pending.listed n ↔ (target_in c.find_targets-plain.result c.find_targets-plain.new.rooms n ≢ value_of values n)) (sym e) here
        | inr ne ↦ elim (cases_eq k at) [
          | inl same ↦ absurd (ne (sym is ∙ ap (λ (j : ℕ). get_or nets j 0) same))
          | inr other ↦
              let o = listed m ne in
              let h = i.here m k (omega (arith, below, other)) is in
              (λ x. h.0 (o.0 x), λ x. o.1 (h.1 x))
        ]
      ];
      others = λ m none.
          let ne : m ≢ net = λ e. none at (omega arith) (sym e) in
          let o = listed m ne in
          let h = i.others m (λ k below is. none k (omega (arith, below)) is) in
          (λ x. h.0 (o.0 x), λ x. o.1 (h.1 x));
    }

pub returns-clause-here : goal.returns-clause-here
returns-clause-here g c = λ net member.
    let i = c.loop-net.invariant in
    let devices = c.args.wires.now in
    let values = c.args.values.now in
    let free = is_first c.args.sources in
    let nets = c.args.nets.now in
    let e : get_or nets member.0 0 ≡ net = get_or_default nets member.0 0 net member.1 ∙ member.2 in
    let h = i.here net member.0 (omega (arith, member.1, c.loop-net-test.false)) e in
    let swept = c.find_targets-plain.ensures.swept net member in (
      λ x. (target_in c.find_targets-plain.result c.find_targets-plain.new.rooms net, (c.requires.closed.free net member, swept, λ z. h.0 x (sym z))),
      λ p. h.1 (λ z. p.1.2 (sym z ∙ target_unique devices free values net _ p.0 swept p.1.1)),
    )

pub returns-clause-targets : goal.returns-clause-targets
returns-clause-targets g c = λ net member.
    let nets = c.args.nets.now in
    let e : get_or nets member.0 0 ≡ net = get_or_default nets member.0 0 net member.1 ∙ member.2 in
    let is = c.loop-net.invariant.targets net member.0 (omega (arith, member.1, c.loop-net-test.false)) e in
    subst (IsTarget c.args.wires.now (is_first c.args.sources) c.args.values.now net) (sym is) (c.find_targets-plain.ensures.swept net member)

pub returns-clause-kept : goal.returns-clause-kept
returns-clause-kept g c = λ net outside.
    let nets = c.args.nets.now in
    c.loop-net.invariant.kept net (λ k below is.
    let lt : k < length nets = omega (arith, below, c.loop-net.auto.net-index-end) in
    outside (k, lt, get_or_default nets k net 0 lt ∙ is))

pub returns-clause-others : goal.returns-clause-others
returns-clause-others g c = λ net outside.
    let nets = c.args.nets.now in
    c.loop-net.invariant.others net (λ k below is.
    let lt : k < length nets = omega (arith, below, c.loop-net.auto.net-index-end) in
    outside (k, lt, get_or_default nets k net 0 lt ∙ is))
