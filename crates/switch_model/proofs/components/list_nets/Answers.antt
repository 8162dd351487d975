use Rattle.std.proofs.Common.{arith, ap, ◌∙◌, ◌≡◌, ◌+◌, ◌<◌, inl, inr, sym, subst, false, length, length-set, List, ℕ}
use Rattle.std.specs.Prelude.{◌↔◌, Contains}
use Rattle.dom_base.proofs.Decided.{dec_nat}
use Rattle.switch_model.specs.ComponentLists.{list_at, with_number}
use Rattle.switch_model.specs.Joins.{top_of}
use Rattle.switch_model.specs.LinksData.{is_first}
use Rattle.switch_model.proofs.ComponentLists.{added}
use Rattle.switch_model.proofs.Forests.{top_low}
use Rattle.switch_model.proofs.Searches.{first-false}
use Rattle.switch_model.proofs.components.list_nets.Goals as goal

pub add-requires : goal.add-requires
add-requires c = omega (arith, c.top.ensures, top_low c.args.parents.now c.requires.forest c.loop-net.net, c.loop-net-test.true, c.loop-net.invariant.long)

pub loop-net-preserved : goal.loop-net-preserved
loop-net-preserved c =
    let i = c.loop-net.invariant in
    let parents = c.args.parents.now in
    let net = c.loop-net.net in
    let free = first-false c.args.sources net (omega (arith, c.loop-net.auto.net)) in
    let lt : c.top.result < length c.loop-net.nets = omega (arith, c.top.ensures, top_low parents c.requires.forest net, c.loop-net-test.true, i.long) in
    let step : (k n : ℕ) → Contains (list_at (with_number c.loop-net.nets c.top.result net) k) n ↔ ((n < net + 1) × (n < length parents) × (is_first c.args.sources n ≡ false) × (top_of parents n ≡ k)) =
    λ k n. (
      λ h. elim ((added c.loop-net.nets c.top.result net lt k n).0 h) [
        | inl o ↦ let z = (i.so_far k n).0 o in (omega (arith, z.0), z.1, z.2, z.3)
        | inr z ↦ (omega (arith, z.0), omega (arith, z.0, c.loop-net-test.true), subst (λ (m : ℕ). is_first c.args.sources m ≡ false) (sym z.0) free, ap (top_of parents) z.0 ∙ sym c.top.ensures ∙ sym z.1)
      ],
      λ z. (added c.loop-net.nets c.top.result net lt k n).1 (elim (dec_nat n net) [
        | inl e ↦ inr (e, sym z.3 ∙ ap (top_of parents) e ∙ sym c.top.ensures)
        | inr ne ↦ inl ((i.so_far k n).1 (omega (arith, z.0, ne), z.1, z.2, z.3))
      ]),
    ) in
    record {
      long = ap length c.in_ok-add.ensures ∙ length-set _ _ _ ∙ i.long;
      so_far = subst (λ (l : List (List ℕ)). (k n : ℕ) → Contains (list_at l k) n ↔ ((n < net + 1) × (n < length parents) × (is_first c.args.sources n ≡ false) × (top_of parents n ≡ k))) (sym c.in_ok-add.ensures) step;
    }

pub returns-clause-nets : goal.returns-clause-nets
returns-clause-nets c =
    let parents = c.args.parents.now in
    subst (λ (l : List (List ℕ)). (k n : ℕ) → Contains (list_at l k) n ↔ ((n < length parents) × (is_first c.args.sources n ≡ false) × (top_of parents n ≡ k))) (sym c.in_ok-groups.ensures)
    (λ k n.
    let i = c.loop-net.invariant.so_far k n in (
      λ h. let z = i.0 h in (z.1, z.2, z.3),
      λ z. i.1 (omega (arith, z.0, c.loop-net-test.false), z.0, z.1, z.2),
    ))
