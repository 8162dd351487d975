use Rattle.std.proofs.Common.{get_or, length, subst, sym, ℕ, ◌<◌, ◌∙◌, ◌≡◌}
use Rattle.audit_deck.specs.CellTrees.{IsFootAt}
use Rattle.audit_deck.specs.Indexes.{AreThose}
use Rattle.audit_deck.specs.Numberings.{IsMet}
use Rattle.audit_deck.specs.Walks.{IsChannelAmong}
use Rattle.audit_deck.proofs.CellTrees.{foot_there}
use Rattle.audit_deck.proofs.index.Index.tree.Goals as goal

pub returns-then-not-are_inside-clause-none : goal.returns-then-not-are_inside-clause-none
returns-then-not-are_inside-clause-none c = λ bottom t h.
    let y = c.are_inside.ensures.no c.if-not-are_inside.true in
    let m : IsMet c.reach.new.met.nets y.0 = subst (λ l. IsMet l y.0) c.nets.ensures.nets y.1 in
    y.3 (h.inside y.0 (c.in_ok-reach.ensures.reached.sound m.0 y.0 m.1) y.2)

pub foot-requires-clause-within : goal.foot-requires-clause-within
foot-requires-clause-within c =
    let ds = c.args.self.now.devices in
    let room : c.meet_channels.new.met.room ≡ length ds = c.in_ok-meet_channels.ensures.room ∙ c.requires.places_room in
    subst (λ l. (k d : ℕ) → k < length l → get_or l k d < length ds) (sym c.nets-3.ensures.nets)
    (subst (λ r. (k d : ℕ) → k < length c.meet_channels.new.met.nets → get_or c.meet_channels.new.met.nets k d < r) room c.nets-3.ensures.within)

pub returns-in_default-clause-none : goal.returns-in_default-clause-none
returns-in_default-clause-none c = λ bottom t h.
    let ds = c.args.self.now.devices in
    let places = c.meet_channels.new.met.nets in
    let channels = subst (λ l. AreThose (IsChannelAmong ds l) places) c.nets-2.ensures.nets c.in_ok-meet_channels.ensures.met in
    let y = foot_there ds c.args.top.roles c.args.top.net c.requires.free c.reach.new.met.nets places c.in_ok-reach.ensures.reached channels c.args.top.clock bottom t h in
    c.in_default.ensures.none y.0 (subst (λ l. IsFootAt ds c.args.top.roles c.args.top.net c.args.top.clock l y.0) (sym c.nets-3.ensures.nets) y.1)

pub shape-requires-clause-rooms : goal.shape-requires-clause-rooms
shape-requires-clause-rooms c = (c.in_ok-reach.ensures.room ∙ c.requires.nets_room, c.in_ok-meet_channels.ensures.room ∙ c.requires.places_room)

pub shape-requires-clause-met : goal.shape-requires-clause-met
shape-requires-clause-met c = record {
  free = c.requires.free;
  reached = c.in_ok-reach.ensures.reached;
  channels = subst (λ l. AreThose (IsChannelAmong c.args.self.now.devices l) c.meet_channels.new.met.nets) c.nets-2.ensures.nets c.in_ok-meet_channels.ensures.met;
}

pub shape-requires-clause-foot : goal.shape-requires-clause-foot
shape-requires-clause-foot c =
    subst (λ l. IsFootAt c.args.self.now.devices c.args.top.roles c.args.top.net c.args.top.clock l c.in-Some.foot) c.nets-3.ensures.nets c.in-Some.ensures.some

pub shape-requires-clause-inside : goal.shape-requires-clause-inside
shape-requires-clause-inside c = λ n m ne.
    c.are_inside.ensures.yes c.if-not-are_inside.false n (subst (λ l. IsMet l n) (sym c.nets.ensures.nets) m) ne
