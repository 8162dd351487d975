use Rattle.std.proofs.Common.{arith, ◌∙◌, ◌≡◌, ◌<◌, inl, inr, sym, length, get_or, ℕ}
use Rattle.std.proofs.lemmas.List.{get_or_default}
use Rattle.std.proofs.lemmas.List.Elements.{Contains-get_or}
use Rattle.switch_model.proofs.ComponentLists.{below-more, joins-more, more-below}
use Rattle.switch_model.proofs.components.touch_nets.Goals as goal

pub touch-requires-clause-within : goal.touch-requires-clause-within
touch-requires-clause-within c =
    let nets = c.args.nets.now in
    let lt = c.requires.within (get_or nets c.loop-net.net-index 0) (Contains-get_or nets c.loop-net.net-index 0 c.loop-net-test.true) in
    omega (arith, lt, c.loop-net.invariant.long)

pub loop-net-preserved : goal.loop-net-preserved
loop-net-preserved c =
    let i = c.loop-net.invariant in
    let nets = c.args.nets.now in
    let at = c.loop-net.net-index in
    let done = c.in_ok-touch.ensures in
    record {
      long = done.long ∙ i.long;
      rising = done.rising;
      so_far = λ x k.
          joins-more (done.touched x k) (i.so_far x k)
          (λ z. more-below (λ (j : ℕ). get_or nets j 0 ≡ x) at (elim z [ inl s ↦ inl s | inr e ↦ inr (sym e) ]))
          (λ t. elim (below-more (λ (j : ℕ). get_or nets j 0 ≡ x) at t) [ inl s ↦ inl s | inr e ↦ inr (sym e) ]);
    }

pub returns-clause-touched : goal.returns-clause-touched
returns-clause-touched c = λ x k.
    let i = c.loop-net.invariant.so_far x k in
    let nets = c.args.nets.now in (
      λ h. elim (i.0 h) [
        | inl o ↦ inl o
        | inr z ↦
            let lt : z.1.0 < length nets = omega (arith, z.1.1, c.loop-net.auto.net-index-end) in
            inr (z.0, (z.1.0, lt, get_or_default nets z.1.0 x 0 lt ∙ z.1.2))
      ],
      λ h. i.1 (elim h [
        | inl o ↦ inl o
        | inr z ↦ inr (z.0, (z.1.0, omega (arith, z.1.1, c.loop-net-test.false), get_or_default nets z.1.0 0 x z.1.1 ∙ z.1.2))
      ]),
    )
