use Rattle.std.proofs.Common.{arith, ap, ◌∙◌, ◌≡◌, sym, subst, false, true, length, get_or, ◌∷◌, ℕ, inl, inr}
use Rattle.std.specs.Prelude.{Some, slice_get}
use Rattle.std.proofs.lemmas.List.{get_or_default}
use Rattle.std.proofs.lemmas.List.Elements.{All-contains, Contains-get_or}
use Rattle.dom_base.proofs.Bools.{never}
use Rattle.dom_base.proofs.Decided.{dec_nat}
use Rattle.dom_base.proofs.Lists.{Contains-slice_get}
use Rattle.deck.specs.Nets.{IsInRange}
use Rattle.deck.specs.declared.device.Device.{Device}
use Rattle.switch_model.specs.FourDrives.{IsPlain, sort_of}
use Rattle.switch_model.specs.LinksData.{is_first}
use Rattle.switch_model.specs.Walks.{PassesSort}
use Rattle.switch_model.proofs.FoundClasses.{found_skip}
use Rattle.switch_model.proofs.PlainClasses.{off_plain, passes_possible}
use Rattle.switch_model.proofs.Walking.{the_same, walked-all, walked-more}
use Rattle.switch_model.proofs.walk.walk_all.Goals as goal

pub is_plain_too-plain-requires : goal.is_plain_too-plain-requires
is_plain_too-plain-requires g c =
    All-contains (IsInRange (length c.args.values.now)) c.args.wires.now c.wire-device.result c.requires.in_range
    (Contains-slice_get c.args.wires.now (get_or c.args.places.now c.loop-place.place-index 0) c.wire-device.result c.wire-device.ensures.device)

pub walk-requires-clause-device : goal.walk-requires-clause-device
walk-requires-clause-device g c =
    All-contains (IsInRange (length c.args.values.now)) c.args.wires.now c.wire-device.result c.requires.in_range
    (Contains-slice_get c.args.wires.now (get_or c.args.places.now c.loop-place.place-index 0) c.wire-device.result c.wire-device.ensures.device)

pub loop-place-preserved : goal.loop-place-preserved
loop-place-preserved g c =
    let i = c.loop-place.invariant in
    let j = i.found in
    let devices = c.args.wires.now in
    let places = c.args.places.now in
    let index = c.loop-place.place-index in
    let place = get_or places index 0 in
    let d = c.wire-device.result in
    let free = is_first c.args.sources in
    let there : slice_get devices place ≡ Some d = c.wire-device.ensures.device in
    let at = walked-more devices places index j.0 d j.1 there in
    let same : (e : Device) (k : ℕ) → k ≡ index → slice_get devices (get_or places k 0) ≡ Some e → d ≡ e =
    λ e k is is_there. the_same d e (sym there ∙ ap (λ (j : ℕ). slice_get devices (get_or places j 0)) (sym is) ∙ is_there) in
    record {
      room = c.walk.ensures.room;
      found = (
        d ∷ j.0,
        at,
        c.walk.ensures.found c.args.room.now.parents.items c.args.nets.now j.0
            (λ n ends f. c.requires.closed.within d place n (Contains-get_or places index 0 c.loop-place-test.true) there ends f) j.2,
      );
      plain = λ yes e k below is_there. elim (dec_nat k index) [
        | inl is ↦ subst (IsPlain free c.args.values.now) (same e k is is_there) (record { known = c.is_plain_too-plain.ensures.known yes; apart = c.is_plain_too-plain.ensures.apart yes })
        | inr ne ↦ i.plain (c.is_plain_too-plain.ensures.before yes) e k (omega (arith, below, ne)) is_there
      ];
      cost = omega (arith, c.wire-device.ensures.cost, i.cost);
    }

-- a device that is off joins no nets and leads to no source
pub loop-place-preserved-then-not-passes : goal.loop-place-preserved-then-not-passes
loop-place-preserved-then-not-passes g c =
    let i = c.loop-place.invariant in
    let j = i.found in
    let devices = c.args.wires.now in
    let places = c.args.places.now in
    let values = c.args.values.now in
    let sort = c.args.sort in
    let index = c.loop-place.place-index in
    let d = c.wire-device.result in
    let free = is_first c.args.sources in
    let there : slice_get devices (get_or places index 0) ≡ Some d = c.wire-device.ensures.device in
    let none : PassesSort (sort_of false true) values d → ⊥ = λ h. never (c.passes.ensures.1 h) c.if-not-passes.true in
    record {
      room = i.room;
      found = (
        d ∷ j.0,
        walked-more devices places index j.0 d j.1 there,
        found_skip c.args.room.now.parents.items c.args.nets.now free sort values j.0 d c.loop-place.room
            (λ h. none (passes_possible sort.definite sort.keepers values d h.0)) (λ m s q e f h. none q) j.2,
      );
      plain = λ yes e k below is_there. elim (dec_nat k index) [
        | inl is ↦ subst (IsPlain free values) (the_same d e (sym there ∙ ap (λ (j : ℕ). slice_get devices (get_or places j 0)) (sym is) ∙ is_there)) (off_plain free values d none)
        | inr ne ↦ i.plain yes e k (omega (arith, below, ne)) is_there
      ];
      cost = omega (arith, c.wire-device.ensures.cost, i.cost);
    }

pub returns-clause-found : goal.returns-clause-found
returns-clause-found g c =
    let j = c.loop-place.invariant.found in
    (j.0, walked-all c.args.wires.now c.args.places.now c.loop-place.place-index j.0 j.1 c.loop-place-test.false (omega (arith, c.loop-place.auto.place-index-end)), j.2)

pub returns-clause-plain : goal.returns-clause-plain
returns-clause-plain g c = λ yes d place member there.
    let places = c.args.places.now in
    let e : get_or places member.0 0 ≡ place = get_or_default places member.0 0 place member.1 ∙ member.2 in
    c.loop-place.invariant.plain yes d member.0 (omega (arith, member.1, c.loop-place-test.false)) (ap (slice_get c.args.wires.now) e ∙ there)
