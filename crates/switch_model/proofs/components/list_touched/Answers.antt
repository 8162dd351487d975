use Rattle.std.proofs.Common.{arith, ◌∙◌, ◌≡◌, ◌<◌, ◌⊎◌, inl, inr, sym, subst, length, List, ℕ}
use Rattle.std.specs.List.Sorted.{IsStrictlyIncreasing}
use Rattle.std.specs.Prelude.{◌↔◌, Contains}
use Rattle.dom_base.proofs.Decided.{dec_nat}
use Rattle.switch_model.specs.ComponentLists.{IsTouchedBy, list_at}
use Rattle.switch_model.proofs.ComponentLists.{joins-more, rising-later}
use Rattle.switch_model.proofs.components.list_touched.Goals as goal

pub touch_nets-requires-clause-within : goal.touch_nets-requires-clause-within
touch_nets-requires-clause-within c = λ n h.
    let lt = c.requires.nets c.loop-number.number n (subst (λ (l : List ℕ). Contains l n) c.at.ensures h) in
    omega (arith, lt, c.loop-number.invariant.long)

pub touch_devices-requires-clause-within : goal.touch_devices-requires-clause-within
touch_devices-requires-clause-within c = λ place h.
    c.requires.places c.loop-number.number place (subst (λ (l : List ℕ). Contains l place) c.at-in-loop-number.ensures h)

pub loop-number-preserved : goal.loop-number-preserved
loop-number-preserved c =
    let i = c.loop-number.invariant in
    let number = c.loop-number.number in
    let devices = c.args.devices.now in
    let nets = list_at c.args.nets.now number in
    let places = list_at c.args.places.now number in
    let one = c.in_ok-touch_nets.ensures in
    let two = c.in_ok-touch_devices.ensures in
    let step : (x k : ℕ) → Contains (list_at c.touch_devices.new.touched x) k ↔ (Contains (list_at c.loop-number.touched x) k ⊎ ((k ≡ number) × IsTouchedBy devices nets places x)) =
    λ x k. subst (λ (l : List ℕ). Contains (list_at c.touch_devices.new.touched x) k ↔ (Contains (list_at c.loop-number.touched x) k ⊎ ((k ≡ number) × IsTouchedBy devices l places x))) c.at.ensures
    (subst (λ (l : List ℕ). Contains (list_at c.touch_devices.new.touched x) k ↔ (Contains (list_at c.loop-number.touched x) k ⊎ ((k ≡ number) × IsTouchedBy devices c.at.result.now l x))) c.at-in-loop-number.ensures
    (joins-more (two.touched x k) (one.touched x k) (λ z. z) (λ z. z))) in
    record {
      long = two.long ∙ one.long ∙ i.long;
      rising = rising-later number c.touch_devices.new.touched two.rising;
      so_far = λ x k. (
        λ h. elim ((step x k).0 h) [
          | inl o ↦ let z = (i.so_far x k).0 o in (omega (arith, z.0), z.1)
          | inr z ↦ (omega (arith, z.0), subst (λ (m : ℕ). IsTouchedBy devices (list_at c.args.nets.now m) (list_at c.args.places.now m) x) (sym z.0) z.1)
        ],
        λ z. (step x k).1 (elim (dec_nat k number) [
          | inl e ↦ inr (e, subst (λ (m : ℕ). IsTouchedBy devices (list_at c.args.nets.now m) (list_at c.args.places.now m) x) e z.1)
          | inr ne ↦ inl ((i.so_far x k).1 (omega (arith, z.0, ne), z.1))
        ]),
      );
    }

pub returns-clause-rising : goal.returns-clause-rising
returns-clause-rising c =
    subst (λ (l : List (List ℕ)). (x : ℕ) → IsStrictlyIncreasing (list_at l x)) (sym c.in_ok-groups.ensures) (λ x. (c.loop-number.invariant.rising x).rising)

pub returns-clause-touched : goal.returns-clause-touched
returns-clause-touched c =
    let nets = c.args.nets.now in
    subst (λ (l : List (List ℕ)). (x k : ℕ) → Contains (list_at l x) k ↔ ((k < length nets) × IsTouchedBy c.args.devices.now (list_at nets k) (list_at c.args.places.now k) x)) (sym c.in_ok-groups.ensures)
    (λ x k.
    let i = c.loop-number.invariant.so_far x k in (
      λ h. let z = i.0 h in (omega (arith, z.0, c.loop-number.auto.number-end, c.len.ensures), z.1),
      λ z. i.1 (omega (arith, z.0, c.loop-number-test.false, c.len.ensures), z.1),
    ))
