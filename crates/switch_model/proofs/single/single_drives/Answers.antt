use Rattle.std.proofs.Common.{arith, ap, ◌∙◌, ◌≡◌, ◌<◌, ◌+◌, sym, subst, refl, Bool, true, length, get_or, [], ◌∷◌, ℕ}
use Rattle.std.specs.Prelude.{◌≢◌, ◌↔◌, Some, slice_get}
use Rattle.std.proofs.lemmas.List.Elements.{All-contains, Contains-get_or}
use Rattle.dom_base.specs.declared.tri.Tri.{Tri}
use Rattle.dom_base.specs.declared.tri.Tri.TheVariants.{Zero}
use Rattle.dom_base.proofs.Bools.{never}
use Rattle.dom_base.proofs.Lists.{Contains-first, Contains-slice_get}
use Rattle.deck.specs.Nets.{IsInRange}
use Rattle.deck.specs.Switches.{value_of}
use Rattle.switch_model.specs.FourDrives.{IsTold, side, sort_of, tells}
use Rattle.switch_model.specs.LinksData.{is_first}
use Rattle.switch_model.specs.Walks.{IsLed, PassesSort}
use Rattle.switch_model.specs.declared.drives.Drives.{Drives}
use Rattle.switch_model.proofs.DriveBits.{has_none}
use Rattle.switch_model.proofs.Leading.{none_is_none, the_pair}
use Rattle.switch_model.proofs.PlainClasses.{one_class, one_net, passes_possible}
use Rattle.switch_model.proofs.Searches.{end-in_range, ends_at, read_same}
use Rattle.switch_model.proofs.SharedClasses.{shared_told}
use Rattle.switch_model.proofs.Walking.{told_more, told_skip, walked-all, walked-more, walked-none}
use Rattle.switch_model.proofs.single.single_drives.Goals as goal
use Rattle.switch_model.proofs.single.single_drives.Goals.{in-Some, in_default}

pub loop-place-preserved : goal.loop-place-preserved
loop-place-preserved g c =
    let i = c.loop-place.invariant in
    let j = i.driven in
    let devices = c.args.wires.now in
    let places = c.args.places.now in
    let values = c.args.values.now in
    let sources = c.args.sources in
    let net = c.args.net in
    let index = c.loop-place.place-index in
    let place = get_or places index 0 in
    let d = c.wire-device.result in
    let there : slice_get devices place ≡ Some d = c.wire-device.ensures.device in
    let at = walked-more devices places index j.0 d j.1 there in
    let cost : c.loop-place.steps + 1 ≡ c.args.steps.now + (index + 1) = omega (arith, i.cost) in
    elim c.match-lead_of.branch [
      | in-Some w ↦
          let p = w.in-Some.lead in
          let h = (w.in-Some.ensures {u = tt}).some in
          let only = (w.in-Some.ensures {u = tt}).only in
          let r = All-contains (IsInRange (length values)) devices d c.requires.in_range (Contains-slice_get devices place d there) in
          let lt : p.1 < length values = end-in_range (length values) d p.0 p.1 r h.1 in
          let inner : p.0 ≡ net = one_net (net ∷ []) (omega arith) p.0 net
          (c.requires.closed.within d place p.0 (Contains-get_or places index 0 c.loop-place-test.true) there (ends_at d p.0 p.1 h.1) h.2) (Contains-first net []) in
          let more = w.of_source.result in
          let by : (definite keepers high : Bool) → (tells more definite keepers high ≡ true) ↔ (PassesSort (sort_of definite keepers) values d × (value_of values p.1 ≢ side high)) =
          subst (λ (v : Tri). (definite keepers high : Bool) → (tells more definite keepers high ≡ true) ↔ (PassesSort (sort_of definite keepers) values d × (v ≢ side high)))
          (read_same values p.1 Zero lt) w.of_source.ensures in
          record {
            driven = (
              d ∷ j.0,
              at,
              λ definite keepers. subst (λ (x : Drives). IsTold x definite keepers (IsLed [] (PassesSort (sort_of definite keepers) values) (is_first sources) (d ∷ j.0) net) values) (sym w.drives-is)
                  (told_more [] (PassesSort (sort_of definite keepers) values) (is_first sources) j.0 d net values c.loop-place.drives more w.with-drives.result definite keepers p.0 p.1 h.1 h.2 h.3 inner
                  (λ m' s' q ends f g'. ap (λ (x : ℕ × ℕ). x.1) (the_pair p (m', s') (only m' s' (passes_possible definite keepers values d q) ends f g')))
                  w.with-drives.ensures
                  (λ high. (
                    (λ yes. let z = (by definite keepers high).0 yes in (p.1, (z.0, refl), z.1)),
                    λ v. (by definite keepers high).1 (v.1.0, subst (λ (k : ℕ). value_of values k ≢ side high) v.1.1 v.2),
                  ))
                  (j.2 definite keepers)),
            );
            cost = c.wire-device.ensures.cost ∙ cost;
          }
      | in_default w ↦ record {
        driven = (
          d ∷ j.0,
          at,
          λ definite keepers. subst (λ (x : Drives). IsTold x definite keepers (IsLed [] (PassesSort (sort_of definite keepers) values) (is_first sources) (d ∷ j.0) net) values) (sym w.drives-is)
              (told_skip [] (PassesSort (sort_of definite keepers) values) (is_first sources) j.0 d net values c.loop-place.drives definite keepers
              (λ m' s' q ends f g' at'. none_is_none (m', s') ((w.in_default.ensures {u = tt}).only m' s' (passes_possible definite keepers values d q) ends f g'))
              (j.2 definite keepers)),
        );
        cost = c.wire-device.ensures.cost ∙ cost;
      }
    ]

pub loop-place-init : goal.loop-place-init
loop-place-init g c = record {
  driven = (
    [],
    walked-none c.args.wires.now c.args.places.now,
    λ definite keepers high. ((λ e. absurd (never e (has_none definite keepers high))), λ w. absurd (omega (arith, w.1.1.1))),
  );
  cost = omega arith;
}

pub returns-clause-driven : goal.returns-clause-driven
returns-clause-driven g c = λ definite keepers.
    let j = c.loop-place.invariant.driven in
    let devices = c.args.wires.now in
    let free = is_first c.args.sources in
    let values = c.args.values.now in
    let places = c.args.places.now in
    let net = c.args.net in
    let class = one_class devices free (net ∷ []) places c.requires.closed values (omega arith) (sort_of definite keepers) [] in
    let at = walked-all devices places c.loop-place.place-index j.0 j.1 c.loop-place-test.false (omega (arith, c.loop-place.auto.place-index-end)) in
    shared_told devices free (net ∷ []) places c.requires.closed values (sort_of definite keepers) [] class j.0 at net (Contains-first net [])
    c.loop-place.drives definite keepers (j.2 definite keepers)
