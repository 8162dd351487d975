use Rattle.std.specs.Prelude.{None, Some}
use Rattle.audit_deck.proofs.Picks.{clocked_suits, fed_joins, fed_suits, inner_same, pick_within}
use Rattle.audit_deck.proofs.index.Index.branch.Goals as goal

pub returns-in_default-clause-none : goal.returns-in_default-clause-none
returns-in_default-clause-none c = λ b one.
    c.in_default.ensures.none b.clocked (clocked_suits c.args.self.now.devices c.args.roles c.args.net c.args.kind c.args.clock c.args.supply b one)

pub device-requires : goal.device-requires
device-requires c =
    pick_within c.args.self.now.devices c.args.roles c.args.net c.args.kind (Some c.args.clock) c.in-Some.clocked c.in-Some.ensures.some

pub returns-in_default-pick-clause-none : goal.returns-in_default-pick-clause-none
returns-in_default-pick-clause-none c = λ b one.
    let e = inner_same c.args.self.now.devices c.args.roles c.args.net c.args.kind c.args.clock c.args.supply b one c.in-Some.clocked c.far_end-inner.result
    c.device.result c.in-Some.ensures.some c.device.ensures.there c.far_end-inner.ensures in
    c.in_default-pick.ensures.none b.fed (fed_suits c.args.self.now.devices c.args.roles c.args.net c.args.kind c.args.clock c.args.supply b one c.far_end-inner.result e)

pub device-last-requires : goal.device-last-requires
device-last-requires c =
    pick_within c.args.self.now.devices c.args.roles c.far_end-inner.result c.args.kind None c.in-Some-pick.fed c.in-Some-pick.ensures.some

pub returns-then-not-joins-clause-none : goal.returns-then-not-joins-clause-none
returns-then-not-joins-clause-none c = λ b one.
    let e = inner_same c.args.self.now.devices c.args.roles c.args.net c.args.kind c.args.clock c.args.supply b one c.in-Some.clocked c.far_end-inner.result
    c.device.result c.in-Some.ensures.some c.device.ensures.there c.far_end-inner.ensures in
    c.joins.ensures.no c.if-not-joins.true (fed_joins c.args.self.now.devices c.args.roles c.args.net c.args.kind c.args.clock c.args.supply b one c.far_end-inner.result
    c.in-Some-pick.fed c.device-last.result e c.in-Some-pick.ensures.some c.device-last.ensures.there)
