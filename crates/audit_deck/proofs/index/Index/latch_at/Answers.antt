use Rattle.std.proofs.Common.{get_or, length, refl, rules, subst, sym, ◌<◌, ◌≡◌}
use Rattle.audit_deck.specs.Groups.{IsAlone}
use Rattle.audit_deck.specs.Latches.{StandsAlone}
use Rattle.audit_deck.proofs.PartsAlone.{all_parts_low, no_latch, part_group, part_nets, part_places, parts_alone}
use Rattle.audit_deck.proofs.index.Index.latch_at.Goals as goal

pub stands_alone-requires-clause-within : goal.stands_alone-requires-clause-within
stands_alone-requires-clause-within c = λ k d.
    let parts = c.in-Some.parts in
    let nets : c.as_slice.result.now ≡ part_nets c.args.net parts = search rules in
    subst (λ l. k < length l → get_or l k d < c.args.self.now.nets) (sym nets)
    (all_parts_low c.args.self.now.devices c.args.roles c.args.self.now.nets c.requires.in_range c.args.net parts c.in-Some.ensures.some c.requires.within k d)

pub returns-then-not-stands_alone-clause-none : goal.returns-then-not-stands_alone-clause-none
returns-then-not-stands_alone-clause-none c =
    let ds = c.args.self.now.devices in
    let parts = c.in-Some.parts in
    let nets : c.as_slice.result.now ≡ part_nets c.args.net parts = search rules in
    let places : c.as_slice-2.result.now ≡ part_places parts = search rules in
    no_latch ds c.args.roles c.args.net parts c.in-Some.ensures.some
    (λ s. c.stands_alone.ensures.no c.if-not-stands_alone.true
    (subst (λ l. StandsAlone ds c.args.roles l c.as_slice-2.result.now) (sym nets)
    (subst (StandsAlone ds c.args.roles (part_nets c.args.net parts)) (sym places) s)))

pub returns-clause-some : goal.returns-clause-some
returns-clause-some c =
    let ds = c.args.self.now.devices in
    let parts = c.in-Some.parts in
    let nets : c.as_slice.result.now ≡ part_nets c.args.net parts = search rules in
    let places : c.as_slice-2.result.now ≡ part_places parts = search rules in
    let kept : c.in_ok-places.places.items ≡ part_places parts = search rules in (
      subst (IsAlone ds c.args.roles (part_group c.args.net parts)) (sym kept)
          (parts_alone ds c.args.roles c.args.net parts c.in-Some.ensures.some
          (subst (StandsAlone ds c.args.roles (part_nets c.args.net parts)) places
          (subst (λ l. StandsAlone ds c.args.roles l c.as_slice-2.result.now) nets (c.stands_alone.ensures.yes c.if-not-stands_alone.false)))),
      refl,
    )
