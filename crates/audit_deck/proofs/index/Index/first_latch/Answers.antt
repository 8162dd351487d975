use Rattle.std.specs.Prelude.{Some, slice_get}
use Rattle.std.proofs.Common.{[], arith, inl, inr, refl, subst, sym, ◌∙◌, ◌≡◌}
use Rattle.std.specs.List.{AllByRecursion}
use Rattle.std.proofs.Common.{ap, ◌<◌}
use Rattle.std.proofs.lemmas.Option.{slice_get-get_or}
use Rattle.dom_base.proofs.Decided.{lt_or_ge}
use Rattle.deck_audit.specs.Audits.{latch}
use Rattle.deck_audit.specs.Rules.{HasLatch, IsAtControl}
use Rattle.deck_audit.specs.Words.{own_nets}
use Rattle.audit_deck.proofs.LatchLists.{control_low, has_met, kept_from, latch_break, met_has, own_all_low, own_more}
use Rattle.audit_deck.proofs.index.Index.first_latch.Goals as goal

pub meet_own-requires : goal.meet_own-requires
meet_own-requires c =
    let l = c.group-item.result in
    let i = c.loop-group.group-index in
    let at : slice_get c.args.groups.now i ≡ Some l = slice_get-get_or c.args.groups.now i l c.loop-group-test.true ∙ ap Some (sym c.group-item.is) in
    record {
      within = subst (λ r. AllByRecursion (λ n. n < r) (own_nets l.group)) (sym c.loop-group.invariant.room)
          (own_all_low c.args.self.now.devices c.args.roles c.args.self.now.nets c.requires.in_range l.group l.places (c.requires.groups.sound i l at));
    }

pub loop-group-preserved : goal.loop-group-preserved
loop-group-preserved c =
    let l = c.group-item.result in
    let i = c.loop-group.group-index in
    let at : slice_get c.args.groups.now i ≡ Some l = slice_get-get_or c.args.groups.now i l c.loop-group-test.true ∙ ap Some (sym c.group-item.is) in
    record {
      room = c.in_ok-meet_own.ensures.room ∙ c.loop-group.invariant.room;
      met = own_more c.args.groups.now i l [] c.loop-group.own.nets c.meet_own.new.met.nets at c.loop-group.invariant.met c.in_ok-meet_own.ensures.met;
    }

pub returns-then-lacks_latch-clause-some : goal.returns-then-lacks_latch-clause-some
returns-then-lacks_latch-clause-some c =
    let ds = c.args.self.now.devices in
    let z = c.lacks_latch.ensures.yes c.if-lacks_latch.true in
    record {
      broken = latch z.0 (λ h. z.1
          (has_met ds c.args.roles c.args.groups.now c.requires.groups c.loop-group.group-index c.loop-group-test.false c.loop-group.own.nets c.loop-group.invariant.met
          c.loop-net.net h));
      smallest = λ m lt b. let y = latch_break ds c.args.roles c.args.self.now.nets 4 m b refl in y.1 (c.loop-net.invariant m lt y.0);
    }

pub loop-net-preserved : goal.loop-net-preserved
loop-net-preserved c = λ m lt control.
    let ds = c.args.self.now.devices in
    elim (lt_or_ge m c.loop-net.net) [
      | inl y ↦ c.loop-net.invariant m y control
      | inr y ↦
          let e : m ≡ c.loop-net.net = omega (arith, y, lt) in
          subst (HasLatch ds c.args.roles) (sym e)
          (met_has ds c.args.roles c.args.groups.now c.requires.groups c.loop-group.group-index c.loop-group-test.false c.loop-group.own.nets c.loop-group.invariant.met
          c.loop-net.net (c.lacks_latch.ensures.no c.if-lacks_latch.false (subst (IsAtControl ds c.args.roles) e control)))
    ]

pub returns-clause-none : goal.returns-clause-none
returns-clause-none c =
    let ds = c.args.self.now.devices in
    kept_from ds c.args.roles c.args.self.now.nets (λ m control.
    let low = control_low ds c.args.roles c.args.self.now.nets c.requires.in_range m control in
    c.loop-net.invariant m (omega (arith, low, c.requires.count, c.loop-net-test.false)) control)
