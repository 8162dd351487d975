use Rattle.std.proofs.Common.{arith, ap, ◌∙◌, ◌≡◌, inl, inr, sym, subst, get_or, ℕ}
use Rattle.std.specs.Prelude.{Some, slice_get}
use Rattle.std.proofs.lemmas.List.{get_or_default}
use Rattle.std.proofs.lemmas.List.Elements.{Contains-get_or}
use Rattle.std.proofs.lemmas.Option.{slice_get-get_or}
use Rattle.dom_base.specs.declared.kind.Kind.TheVariants.{N as nch}
use Rattle.deck.specs.Nets.{IsInRange}
use Rattle.deck.specs.declared.device.Device.{Device}
use Rattle.switch_model.specs.Components.{IsAt}
use Rattle.switch_model.proofs.ComponentLists.{below-more, joins-more, more-below}
use Rattle.switch_model.proofs.Walking.{the_same}
use Rattle.switch_model.proofs.components.touch_devices.Goals as goal

abbrev zero_device : Device
zero_device = record { kind = nch; drain = 0; gate = 0; source = 0 }

pub bounds-devices-place : goal.bounds-devices-place
bounds-devices-place c =
    let places = c.args.places.now in
    c.requires.within (get_or places c.loop-place.place-index 0) (Contains-get_or places c.loop-place.place-index 0 c.loop-place-test.true)

pub touch_device-requires-clause-within : goal.touch_device-requires-clause-within
touch_device-requires-clause-within c =
    let places = c.args.places.now in
    let lt = c.requires.within (get_or places c.loop-place.place-index 0) (Contains-get_or places c.loop-place.place-index 0 c.loop-place-test.true) in
    let d = get_or c.args.devices.now (get_or places c.loop-place.place-index 0) zero_device in
    subst (λ (n : ℕ). IsInRange n d) (sym c.loop-place.invariant.long) (c.requires.in_range (get_or places c.loop-place.place-index 0) zero_device lt)

pub loop-place-preserved : goal.loop-place-preserved
loop-place-preserved c =
    let i = c.loop-place.invariant in
    let places = c.args.places.now in
    let devices = c.args.devices.now in
    let at = c.loop-place.place-index in
    let lt = c.requires.within (get_or places at 0) (Contains-get_or places at 0 c.loop-place-test.true) in
    let d = get_or devices (get_or places at 0) zero_device in
    let here : slice_get devices (get_or places at 0) ≡ Some d = slice_get-get_or devices (get_or places at 0) zero_device lt in
    let done = c.in_ok-touch_device.ensures in
    record {
      long = done.long ∙ i.long;
      rising = done.rising;
      so_far = λ x k.
          joins-more (done.touched x k) (i.so_far x k)
          (λ z. more-below (λ (j : ℕ). (e : Device) × (slice_get devices (get_or places j 0) ≡ Some e) × IsAt e x) at
          (elim z [ inl s ↦ inl s | inr a ↦ inr (d, here, a) ]))
          (λ t. elim (below-more (λ (j : ℕ). (e : Device) × (slice_get devices (get_or places j 0) ≡ Some e) × IsAt e x) at t) [
            | inl s ↦ inl s
            | inr p ↦ inr (subst (λ (e : Device). IsAt e x) (sym (the_same d p.0 (sym here ∙ p.1))) p.2)
          ]);
    }

pub returns-clause-touched : goal.returns-clause-touched
returns-clause-touched c = λ x k.
    let i = c.loop-place.invariant.so_far x k in
    let places = c.args.places.now in
    let devices = c.args.devices.now in (
      λ h. elim (i.0 h) [
        | inl o ↦ inl o
        | inr z ↦ inr (z.0, (get_or places z.1.0 0, z.1.2.0, Contains-get_or places z.1.0 0 (omega (arith, z.1.1, c.loop-place.auto.place-index-end)), z.1.2.1, z.1.2.2))
      ],
      λ h. i.1 (elim h [
        | inl o ↦ inl o
        | inr z ↦
            let m = z.1.2 in
            let e : get_or places m.0 0 ≡ z.1.0 = get_or_default places m.0 0 z.1.0 m.1 ∙ m.2 in
            inr (z.0, (m.0, omega (arith, m.1, c.loop-place-test.false), (z.1.1, ap (slice_get devices) e ∙ z.1.3, z.1.4)))
      ]),
    )
