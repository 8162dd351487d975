-- A sink's use with the other sign, kept where fewer pairs are used; a sink that is settled stays.
use Rattle.std.proofs.Common.{◌≡◌, ◌<◌, ◌++◌, ◌∙◌, ℕ, true, not, List, [], length, set, Some, None, slice_get, ap, sym, refl, subst, arith, rules}
use Rattle.std.proofs.lemmas.List.{get_or_default}
use Rattle.std.proofs.lemmas.Option.{slice_get-get_or}
use Rattle.dual_rail.proofs.Marks.{written_over}
use Rattle.phase_assign.specs.LookedPairs.{looked_pairs}
use Rattle.phase_assign.specs.Refusals.{IsSignChangeRefused}
use Rattle.phase_assign.specs.Trials.{AreTrials}
use Rattle.phase_assign.specs.Uses.{AreBelow, AreUses, HasFewRoots, asked, asked_by_sinks, living, used}
use Rattle.phase_assign.specs.ArmsData.{ArmsData as Arms}
use Rattle.dual_rail.specs.declared.signed.SignedNode.{SignedNode}
use Rattle.phase_assign.proofs.Exchanges.{living_alike, uses_alike}
use Rattle.phase_assign.proofs.Searches.{few_living, search_size, turn_changed, turn_uses}
use Rattle.phase_assign.proofs.TrialSteps.{refused_none, settled_none, trial_below, trials_changed, trials_kept}
use Rattle.phase_assign.proofs.Turns.{changed_is, turn_kept, turn_made}
use Rattle.phase_assign.proofs.search.Search.turn.Goals as goal

pub is_settled-requires-clause-below : goal.is_settled-requires-clause-below
is_settled-requires-clause-below c = λ trial at.
    trial_below c.args.wiring.now.arms.items c.args.wiring.now.ends.items c.args.self.now.signs.items c.args.self.now.needed.uses.items c.args.self.now.needed.size c.args.sink
    c.args.self.now.changed.items c.args.self.now.trials.items c.requires.search c.requires.trials c.requires.sink trial at

pub returns-then-is_settled-clause-turn : goal.returns-then-is_settled-clause-turn
returns-then-is_settled-clause-turn c = λ gates order wired.
    let found = c.is_settled.ensures c.if-is_settled.true in
    turn_kept gates c.args.self.now.signs.items c.args.self.now.signs.items c.args.sink
    (settled_none gates order c.args.wiring.now.arms.items c.args.wiring.now.ends.items c.requires.wiring wired c.args.self.now.signs.items c.args.self.now.needed.uses.items c.args.self.now.needed.size
    c.args.sink c.args.self.now.changed.items c.args.self.now.trials.items c.requires.search c.requires.trials c.requires.sink found.0 found.1 found.2) refl

pub exchange-requires-clause-uses : goal.exchange-requires-clause-uses
exchange-requires-clause-uses c =
    let within : c.args.sink < length c.args.self.now.signs.items = omega (arith, c.requires.sink, c.requires.search.one_each) in
    let at : slice_get c.args.wiring.now.ends.items c.args.sink ≡ Some c.index.result.now =
    slice_get-get_or c.args.wiring.now.ends.items c.args.sink c.index.result.now c.requires.sink ∙ ap Some (sym c.index.ensures) in
    subst
    (λ (arms : List Arms). (others : List SignedNode) × HasFewRoots arms (others ++ asked c.index.result.now c.index-sign.result.now)
    × AreUses arms (used c.args.self.now.needed.uses.items) others [] (asked c.index.result.now c.index-sign.result.now))
    (sym c.as_slice-arms.ensures.value)
    (turn_uses c.args.wiring.now.arms.items c.args.wiring.now.ends.items c.requires.wiring c.args.self.now.signs.items c.args.self.now.needed.uses.items c.args.self.now.needed.size c.args.sink
    c.index.result.now c.index-sign.result.now _ c.requires.search at within c.index-sign.ensures)

pub overflow_cast-size : goal.overflow_cast-size
overflow_cast-size c =
    let small = few_living (used c.exchange.new.self.uses.items) (length c.as_slice-arms.result.now) in
    let arms : length c.as_slice-arms.result.now ≡ length c.args.wiring.now.arms.items = ap length c.as_slice-arms.ensures.value in
    omega (arith, c.requires.wiring.few, c.in_ok-exchange.ensures.size)

pub returns-then-exchange-clause-search : goal.returns-then-exchange-clause-search
returns-then-exchange-clause-search c =
    let within : c.args.sink < length c.args.self.now.signs.items = omega (arith, c.requires.sink, c.requires.search.one_each) in
    let at : slice_get c.args.wiring.now.ends.items c.args.sink ≡ Some c.index.result.now =
    slice_get-get_or c.args.wiring.now.ends.items c.args.sink c.index.result.now c.requires.sink ∙ ap Some (sym c.index.ensures) in
    (turn_changed c.args.wiring.now.arms.items c.as_slice-arms.result.now c.args.wiring.now.ends.items c.args.self.now.signs.items c.args.self.now.needed.uses.items c.exchange.new.self.uses.items
    c.args.self.now.needed.size c.exchange.new.self.size c.args.sink c.index.result.now c.index-sign.result.now _ c.as_slice-arms.ensures.value c.requires.search at within c.index-sign.ensures
    c.in_ok-exchange.ensures.count c.in_ok-exchange.ensures.size (c.in_ok-exchange.ensures.changed c.if-exchange.true))

pub returns-then-exchange-clause-trials : goal.returns-then-exchange-clause-trials
returns-then-exchange-clause-trials c =
    let len : c.args.self.now.changed.len ≡ length c.args.self.now.changed.items = search rules in
    let noted = written_over c.args.self.now.changed.len c.note_change.new.changed c.args.self.now.changed.items (len ∙ sym (c.note_change.auto.changed ∙ ap length c.as_mut_slice.ensures.value)) in
    subst
    (λ (ns : List ℕ). AreTrials c.args.wiring.now.arms.items c.args.wiring.now.ends.items (set c.args.self.now.signs.items c.args.sink (not c.index-sign.result.now)) c.exchange.new.self.uses.items
    c.exchange.new.self.size ns (set c.args.self.now.trials.items c.args.sink None))
    (sym noted)
    (trials_changed c.args.wiring.now.arms.items c.args.wiring.now.ends.items c.args.self.now.signs.items c.args.self.now.needed.uses.items c.exchange.new.self.uses.items c.args.self.now.needed.size
    c.exchange.new.self.size c.args.sink c.as_mut_slice.result.now c.note_change.new.changed c.args.self.now.trials.items (looked_pairs c.in_ok-exchange.exchange.looked) (not c.index-sign.result.now)
    (subst (λ (cs : List ℕ). AreTrials c.args.wiring.now.arms.items c.args.wiring.now.ends.items c.args.self.now.signs.items c.args.self.now.needed.uses.items c.args.self.now.needed.size cs c.args.self.now.trials.items)
    (sym c.as_mut_slice.ensures.value) c.requires.trials)
    (c.in_ok-exchange.ensures.lower c.if-exchange.true)
    c.in_ok-exchange.ensures.elsewhere
    c.note_change.ensures c.note_change.auto.changed)

pub returns-then-exchange-clause-turn : goal.returns-then-exchange-clause-turn
returns-then-exchange-clause-turn c = λ gates order wired.
    let within : c.args.sink < length c.args.self.now.signs.items = omega (arith, c.requires.sink, c.requires.search.one_each) in
    let at : slice_get c.args.wiring.now.ends.items c.args.sink ≡ Some c.index.result.now =
    slice_get-get_or c.args.wiring.now.ends.items c.args.sink c.index.result.now c.requires.sink ∙ ap Some (sym c.index.ensures) in
    turn_made gates c.args.self.now.signs.items (set c.args.self.now.signs.items c.args.sink (not c.index-sign.result.now)) c.args.sink c.args.self.now.needed.size c.exchange.new.self.size
    (search_size gates order c.args.wiring.now.arms.items c.args.wiring.now.ends.items c.requires.wiring wired c.args.self.now.signs.items c.args.self.now.needed.uses.items c.args.self.now.needed.size
    c.requires.search)
    (search_size gates order c.args.wiring.now.arms.items c.args.wiring.now.ends.items c.requires.wiring wired (set c.args.self.now.signs.items c.args.sink (not c.index-sign.result.now))
    c.exchange.new.self.uses.items c.exchange.new.self.size
    (turn_changed c.args.wiring.now.arms.items c.as_slice-arms.result.now c.args.wiring.now.ends.items c.args.self.now.signs.items c.args.self.now.needed.uses.items c.exchange.new.self.uses.items
    c.args.self.now.needed.size c.exchange.new.self.size c.args.sink c.index.result.now c.index-sign.result.now _ c.as_slice-arms.ensures.value c.requires.search at within c.index-sign.ensures
    c.in_ok-exchange.ensures.count c.in_ok-exchange.ensures.size (c.in_ok-exchange.ensures.changed c.if-exchange.true)))
    (changed_is c.args.self.now.signs.items c.args.sink c.index-sign.result.now _ within c.index-sign.ensures) (c.in_ok-exchange.ensures.lower c.if-exchange.true)

pub returns-else-exchange-clause-search : goal.returns-else-exchange-clause-search
returns-else-exchange-clause-search c = record {
  one_each = c.requires.search.one_each;
  count = c.in_ok-exchange.ensures.count ∙ ap length c.as_slice-arms.ensures.value;
  uses_are = uses_alike c.args.wiring.now.arms.items (used c.args.self.now.needed.uses.items) (used c.exchange.new.self.uses.items)
      (asked_by_sinks c.args.wiring.now.ends.items c.args.self.now.signs.items) [] [] (λ n s. sym (c.in_ok-exchange.ensures.kept c.if-exchange.false n s)) c.requires.search.uses_are;
  size_is = c.in_ok-exchange.ensures.size ∙ ap (λ (arms : List Arms). living (used c.exchange.new.self.uses.items) (length arms)) c.as_slice-arms.ensures.value;
}

pub returns-else-exchange-clause-trials : goal.returns-else-exchange-clause-trials
returns-else-exchange-clause-trials c =
    let within : c.args.sink < length c.args.self.now.signs.items = omega (arith, c.requires.sink, c.requires.search.one_each) in
    let at : slice_get c.args.wiring.now.ends.items c.args.sink ≡ Some c.index.result.now =
    slice_get-get_or c.args.wiring.now.ends.items c.args.sink c.index.result.now c.requires.sink ∙ ap Some (sym c.index.ensures) in
    let own : slice_get c.args.self.now.signs.items c.args.sink ≡ Some c.index-sign.result.now =
    slice_get-get_or c.args.self.now.signs.items c.args.sink c.index-sign.result.now within ∙ ap Some (sym c.index-sign.ensures) in
    let alike = living_alike (used c.exchange.new.self.uses.items) (used c.args.self.now.needed.uses.items) (length c.args.wiring.now.arms.items) (c.in_ok-exchange.ensures.kept c.if-exchange.false) in
    let size : c.exchange.new.self.size ≡ living (used c.exchange.new.self.uses.items) (length c.args.wiring.now.arms.items) =
    c.in_ok-exchange.ensures.size ∙ ap (λ (arms : List Arms). living (used c.exchange.new.self.uses.items) (length arms)) c.as_slice-arms.ensures.value in
    trials_kept c.args.wiring.now.arms.items c.args.wiring.now.ends.items c.args.self.now.signs.items c.args.self.now.needed.uses.items c.exchange.new.self.uses.items c.args.self.now.needed.size c.exchange.new.self.size
    c.args.sink c.args.self.now.changed.items c.args.self.now.trials.items (record { size = c.args.self.now.needed.size; looked = c.in_ok-exchange.exchange.looked }) c.index.result.now
    c.index-sign.result.now c.requires.trials (omega (arith, c.requires.search.size_is)) refl (c.in_ok-exchange.ensures.kept c.if-exchange.false)
    (subst (λ (arms : List Arms). IsSignChangeRefused arms (used c.args.self.now.needed.uses.items) c.index.result.now c.index-sign.result.now (looked_pairs c.in_ok-exchange.exchange.looked))
    c.as_slice-arms.ensures.value (c.in_ok-exchange.ensures.refused c.if-exchange.false))
    (subst (λ (arms : List Arms). AreBelow (length arms) (looked_pairs c.in_ok-exchange.exchange.looked)) c.as_slice-arms.ensures.value c.in_ok-exchange.ensures.below) at own

pub returns-else-exchange-clause-turn : goal.returns-else-exchange-clause-turn
returns-else-exchange-clause-turn c = λ gates order wired.
    let within : c.args.sink < length c.args.self.now.signs.items = omega (arith, c.requires.sink, c.requires.search.one_each) in
    let at : slice_get c.args.wiring.now.ends.items c.args.sink ≡ Some c.index.result.now =
    slice_get-get_or c.args.wiring.now.ends.items c.args.sink c.index.result.now c.requires.sink ∙ ap Some (sym c.index.ensures) in
    turn_kept gates c.args.self.now.signs.items c.args.self.now.signs.items c.args.sink
    (refused_none gates order c.args.wiring.now.arms.items c.args.wiring.now.ends.items c.requires.wiring wired c.args.self.now.signs.items c.args.self.now.needed.uses.items c.args.self.now.needed.size
    c.args.sink c.requires.search within c.index.result.now c.index-sign.result.now at
    (c.index-sign.ensures ∙ get_or_default c.args.self.now.signs.items c.args.sink c.index-sign.result.now true within) (looked_pairs c.in_ok-exchange.exchange.looked)
    (subst (λ (arms : List Arms). IsSignChangeRefused arms (used c.args.self.now.needed.uses.items) c.index.result.now c.index-sign.result.now (looked_pairs c.in_ok-exchange.exchange.looked))
    c.as_slice-arms.ensures.value (c.in_ok-exchange.ensures.refused c.if-exchange.false))) refl
