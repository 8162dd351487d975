use Rattle.std.proofs.Common.{arith, ap, ◌∙◌, ◌≡◌, ◌<◌, ◌+◌, inl, inr, sym, subst, All, get_or, length, take, List, ℕ}
use Rattle.std.specs.List.{sum_by}
use Rattle.std.specs.Prelude.{Contains}
use Rattle.std.proofs.lemmas.List.{get_or_default}
use Rattle.std.proofs.lemmas.List.Elements.{Contains-get_or}
use Rattle.std.proofs.lemmas.List.Sums.{sum_by_more}
use Rattle.dom_base.proofs.Decided.{dec_nat}
use Rattle.switch_model.specs.ComponentLists.{list_at, number_in}
use Rattle.switch_model.specs.Components.{IsClosedPart}
use Rattle.switch_model.specs.LinksData.{is_first}
use Rattle.switch_model.specs.Targets.{IsTarget}
use Rattle.switch_model.proofs.ClosedGroups.{group_closed, group_nets, group_places}
use Rattle.switch_model.proofs.refresh.refresh_all.Goals as goal

pub refresh_component-requires-clause-nets : goal.refresh_component-requires-clause-nets
refresh_component-requires-clause-nets g c =
    let number = get_or c.args.numbers.now c.loop-number.number-index 0 in
    subst (λ (l : List ℕ). All (λ (n : ℕ). n < length c.args.values.now) l) (sym c.at.ensures)
    (group_nets c.args.wires.now (is_first c.args.sources) (length c.args.values.now) c.args.components.now c.requires.components c.requires.in_range number)

pub refresh_component-requires-clause-places : goal.refresh_component-requires-clause-places
refresh_component-requires-clause-places g c =
    let number = get_or c.args.numbers.now c.loop-number.number-index 0 in
    let few = c.requires.numbers c.loop-number.number-index 0 c.loop-number-test.true in
    subst (λ (l : List ℕ). All (λ (n : ℕ). n < length c.args.wires.now) l) (sym c.at-in-loop-number.ensures)
    (group_places c.args.wires.now (is_first c.args.sources) (length c.args.values.now) c.args.components.now c.requires.components c.requires.in_range number few)

pub refresh_component-requires-clause-closed : goal.refresh_component-requires-clause-closed
refresh_component-requires-clause-closed g c =
    let number = get_or c.args.numbers.now c.loop-number.number-index 0 in
    let few = c.requires.numbers c.loop-number.number-index 0 c.loop-number-test.true in
    let free = is_first c.args.sources in
    subst (λ (l : List ℕ). IsClosedPart c.args.wires.now free l c.at-in-loop-number.result.now) (sym c.at.ensures)
    (subst (λ (l : List ℕ). IsClosedPart c.args.wires.now free (list_at c.args.components.now.nets number) l) (sym c.at-in-loop-number.ensures)
    (group_closed c.args.wires.now free (length c.args.values.now) c.args.components.now c.requires.components c.requires.in_range number few))

pub loop-number-preserved : goal.loop-number-preserved
loop-number-preserved g c =
    let i = c.loop-number.invariant in
    let done = c.refresh_component.ensures in
    let nets = c.args.components.now.nets in
    let at = c.loop-number.number-index in
    let number = get_or c.args.numbers.now at 0 in
    let made = c.requires.components in
    let size : ℕ → ℕ = λ k. length (list_at c.args.components.now.places k) in
    record {
      rooms = done.rooms;
      whole = done.whole ∙ i.whole;
      rising = λ up. done.rising (i.rising up);
      here = λ n j below member.
          let z = (made.nets_are (get_or c.args.numbers.now j 0) n).0 member in
          elim (dec_nat (number_in c.args.components.now n) number) [
            | inl e ↦ done.here n (subst (λ (l : List ℕ). Contains l n) (sym c.at.ensures) ((made.nets_are number n).1 (z.0, z.1, e)))
            | inr ne ↦
                let o = done.others n (λ m. ne ((made.nets_are number n).0 (subst (λ (l : List ℕ). Contains l n) c.at.ensures m)).2) in
                elim (dec_nat j at) [
                  | inl same ↦ absurd (ne (z.2 ∙ ap (λ (k : ℕ). get_or c.args.numbers.now k 0) same))
                  | inr other ↦
                      let h = i.here n j (omega (arith, below, other)) member in
                      (λ x. h.0 (o.0 x), λ x. o.1 (h.1 x))
                ]
          ];
      others = λ n none.
          let o = done.others n (λ m. none at (omega arith) (subst (λ (l : List ℕ). Contains l n) c.at.ensures m)) in
          let h = i.others n (λ j below. none j (omega (arith, below))) in
          (λ x. h.0 (o.0 x), λ x. o.1 (h.1 x));
      targets = λ n j below member.
          let z = (made.nets_are (get_or c.args.numbers.now j 0) n).0 member in
          elim (dec_nat (number_in c.args.components.now n) number) [
            | inl e ↦ done.targets n (subst (λ (l : List ℕ). Contains l n) (sym c.at.ensures) ((made.nets_are number n).1 (z.0, z.1, e)))
            | inr ne ↦
                let o = done.kept n (λ m. ne ((made.nets_are number n).0 (subst (λ (l : List ℕ). Contains l n) c.at.ensures m)).2) in
                elim (dec_nat j at) [
                  | inl same ↦ absurd (ne (z.2 ∙ ap (λ (k : ℕ). get_or c.args.numbers.now k 0) same))
                  | inr other ↦ subst (IsTarget c.args.wires.now (is_first c.args.sources) c.args.values.now n) (sym o) (i.targets n j (omega (arith, below, other)) member)
                ]
          ];
      kept = λ n none.
          done.kept n (λ m. none at (omega arith) (subst (λ (l : List ℕ). Contains l n) c.at.ensures m))
          ∙ i.kept n (λ j below. none j (omega (arith, below)));
      cost =
          let more : sum_by size (take (at + 1) c.args.numbers.now) ≡ sum_by size (take at c.args.numbers.now) + size number =
          sum_by_more size c.args.numbers.now at 0 c.loop-number-test.true in
          let places : length c.at-in-loop-number.result.now ≡ size number = ap (λ (l : List ℕ). length l) c.at-in-loop-number.ensures in
          omega (arith, done.cost, i.cost, more, places);
    }

pub returns-clause-here : goal.returns-clause-here
returns-clause-here g c = λ net number member inside.
    let numbers = c.args.numbers.now in
    let e : get_or numbers member.0 0 ≡ number = get_or_default numbers member.0 0 number member.1 ∙ member.2 in
    c.loop-number.invariant.here net member.0 (omega (arith, member.1, c.loop-number-test.false))
    (subst (λ (k : ℕ). Contains (list_at c.args.components.now.nets k) net) (sym e) inside)

pub returns-clause-targets : goal.returns-clause-targets
returns-clause-targets g c = λ net number member inside.
    let numbers = c.args.numbers.now in
    let e : get_or numbers member.0 0 ≡ number = get_or_default numbers member.0 0 number member.1 ∙ member.2 in
    c.loop-number.invariant.targets net member.0 (omega (arith, member.1, c.loop-number-test.false))
    (subst (λ (k : ℕ). Contains (list_at c.args.components.now.nets k) net) (sym e) inside)

pub returns-clause-kept : goal.returns-clause-kept
returns-clause-kept g c = λ net none.
    c.loop-number.invariant.kept net (λ j below.
    none (get_or c.args.numbers.now j 0) (Contains-get_or c.args.numbers.now j 0 (omega (arith, below, c.loop-number.auto.number-index-end))))

pub returns-clause-others : goal.returns-clause-others
returns-clause-others g c = λ net none.
    c.loop-number.invariant.others net (λ j below.
    none (get_or c.args.numbers.now j 0) (Contains-get_or c.args.numbers.now j 0 (omega (arith, below, c.loop-number.auto.number-index-end))))
