-- No uses are counted at first, and all of them then.
use Rattle.std.proofs.Common.{◌≡◌, ◌∙◌, true, Option, List, [], length, vec_len, replicate, ap, sym, subst, arith, rules}
use Rattle.std.proofs.lemmas.List.{length-replicate}
use Rattle.phase_assign.specs.Uses.{AreBelow, AreUses, asked_by_sinks, living, used}
use Rattle.phase_assign.specs.ArmsData.{ArmsData as Arms}
use Rattle.dual_rail.specs.declared.signed.SignedNode.{SignedNode}
use Rattle.dual_rail.proofs.SignedValues.{signed_same}
use Rattle.phase_assign.proofs.Exchanges.{sinks_few}
use Rattle.phase_assign.proofs.Searches.{few_living, none_counted, none_living, sinks_below}
use Rattle.phase_assign.proofs.search.Search.start.Goals as goal

pub supply-requires-clause-size : goal.supply-requires-clause-size
supply-requires-clause-size c = sym (none_living c.in_ok-uses.uses.items _ (length c.as_slice-2.result.now) (c.in_ok-uses.ensures.items_if_clones_equal (λ y e. signed_same y _ e)))

pub supply-requires-clause-below : goal.supply-requires-clause-below
supply-requires-clause-below c =
    let ends = c.as_slice.ensures.value in
    let arms = c.as_slice-2.ensures.value in
    subst (AreBelow (length c.as_slice-2.result.now)) (sym c.in_ok-work.ensures)
    (subst (λ (xs : List Arms). AreBelow (length xs) (asked_by_sinks c.as_slice.result.now (replicate (length c.as_slice.result.now) true))) (sym arms)
    (subst (λ (es : List (Option SignedNode)). AreBelow (length c.args.wiring.now.arms.items) (asked_by_sinks es (replicate (length es) true))) (sym ends)
    (sinks_below (length c.args.wiring.now.arms.items) c.args.wiring.now.ends.items (replicate (length c.args.wiring.now.ends.items) true) (λ k e s at. c.requires.ends_below k e s at))))

pub supply-requires-clause-uses : goal.supply-requires-clause-uses
supply-requires-clause-uses c =
    let arms : length c.as_slice-2.result.now ≡ length c.args.wiring.now.arms.items = ap length c.as_slice-2.ensures.value in
    let ends : length c.as_slice.result.now ≡ length c.args.wiring.now.ends.items = ap length c.as_slice.ensures.value in
    let work : length c.in_ok-work.work.items ≡ length (asked_by_sinks c.as_slice.result.now (replicate (length c.as_slice.result.now) true)) = ap length c.in_ok-work.ensures in
    let few = sinks_few c.as_slice.result.now (replicate (length c.as_slice.result.now) true) in (
      c.in_ok-work.work.items,
      omega (arith, c.requires.few),
      none_counted c.as_slice-2.result.now c.in_ok-uses.uses.items _ c.in_ok-work.work.items (c.in_ok-uses.ensures.items_if_clones_equal (λ y e. signed_same y _ e)),
    )

pub overflow_cast-needed : goal.overflow_cast-needed
overflow_cast-needed c =
    let arms : length c.as_slice-2.result.now ≡ length c.args.wiring.now.arms.items = ap length c.as_slice-2.ensures.value in
    let small = few_living (used c.supply.new.self.uses.items) (length c.as_slice-2.result.now) in
    omega (arith, c.requires.few, c.in_ok-supply.ensures.size)

pub returns-clause-search : goal.returns-clause-search
returns-clause-search c =
    let counted : vec_len c.args.wiring.now.ends ≡ length c.args.wiring.now.ends.items = search rules in
    let signs : c.in_ok-signs.signs.items ≡ replicate (length c.args.wiring.now.ends.items) true =
    c.in_ok-signs.ensures.items_if_clones_equal (λ y e. e) ∙ ap (λ n. replicate n true) (c.len.ensures ∙ counted) in
    let work : c.in_ok-work.work.items ≡ asked_by_sinks c.args.wiring.now.ends.items c.in_ok-signs.signs.items =
    c.in_ok-work.ensures ∙ ap (λ (es : List (Option SignedNode)). asked_by_sinks es (replicate (length es) true)) c.as_slice.ensures.value
    ∙ ap (asked_by_sinks c.args.wiring.now.ends.items) (sym signs) in
    let supplied = c.in_ok-supply.ensures.uses c.in_ok-work.work.items
    (none_counted c.as_slice-2.result.now c.in_ok-uses.uses.items _ c.in_ok-work.work.items (c.in_ok-uses.ensures.items_if_clones_equal (λ y e. signed_same y _ e))) in
    let arms : length c.as_slice-2.result.now ≡ length c.args.wiring.now.arms.items = ap length c.as_slice-2.ensures.value in
    let small = few_living (used c.supply.new.self.uses.items) (length c.as_slice-2.result.now) in
    let whole = supplied.whole (omega (arith, c.requires.few, c.in_ok-supply.ensures.size)) in
    record {
      one_each = ap length signs ∙ length-replicate (length c.args.wiring.now.ends.items) true;
      count = c.in_ok-supply.ensures.count ∙ arms;
      uses_are = subst (λ (xs : List Arms). AreUses xs (used c.supply.new.self.uses.items) (asked_by_sinks c.args.wiring.now.ends.items c.in_ok-signs.signs.items) [] []) c.as_slice-2.ensures.value
          (subst (λ (ps : List SignedNode). AreUses c.as_slice-2.result.now (used c.supply.new.self.uses.items) ps [] []) work
          (subst (λ (ws : List SignedNode). AreUses c.as_slice-2.result.now (used c.supply.new.self.uses.items) c.in_ok-work.work.items ws []) whole supplied.uses));
      size_is = c.in_ok-supply.ensures.size ∙ ap (living (used c.supply.new.self.uses.items)) arms;
    }

pub returns-clause-trials : goal.returns-clause-trials
returns-clause-trials c =
    let ends : vec_len c.args.wiring.now.ends ≡ length c.args.wiring.now.ends.items = search rules in
    let arms : vec_len c.args.wiring.now.arms ≡ length c.args.wiring.now.arms.items = search rules in
    let changed : vec_len c.in_ok-changed.changed ≡ length c.in_ok-changed.changed.items = search rules in
    record {
      one_each = omega (arith, c.in_ok-trials.ensures.0);
      changed_count = omega (arith, c.in_ok-changed.ensures.len);
      each = λ k trial e b at at_e at_b. absurd (c.in_ok-trials.ensures.1 k trial at);
    }
