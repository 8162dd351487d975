use Rattle.dom_base.specs.declared.kind.Kind.TheVariants.{Keep, P as pch}
use Rattle.audit_deck.proofs.Found.{front_found, one_keeper, one_precharge, only_within}
use Rattle.audit_deck.proofs.index.Index.front.Goals as goal

pub returns-in_default-clause-none : goal.returns-in_default-clause-none
returns-in_default-clause-none c = λ clock output f.
    c.in_default.ensures.none f.precharge (one_precharge c.args.self.now.devices c.args.roles c.args.net clock output f)

pub returns-in_default-only-clause-none : goal.returns-in_default-only-clause-none
returns-in_default-only-clause-none c = λ clock output f.
    c.in_default-only.ensures.none f.keeper (one_keeper c.args.self.now.devices c.args.roles c.args.net clock output f)

pub device-pull-requires : goal.device-pull-requires
device-pull-requires c = only_within c.args.self.now.devices c.args.net c.in-Some.precharge pch c.in-Some.ensures.some

pub device-hold-requires : goal.device-hold-requires
device-hold-requires c = only_within c.args.self.now.devices c.args.net c.in-Some-only.keeper Keep c.in-Some-only.ensures.some

pub returns-clause-some : goal.returns-clause-some
returns-clause-some c =
    front_found c.args.self.now.devices c.args.roles c.args.net c.in-Some.precharge c.in-Some-only.keeper c.device-pull.result c.device-hold.result
    c.in-Some.ensures.some c.in-Some-only.ensures.some c.device-pull.ensures.there c.device-hold.ensures.there
    (c.is_inner.ensures.yes c.if-not-is_inner.false) (c.is_clock.ensures.yes c.if-not-is_clock.false) (c.joins.ensures.yes c.if-not-joins.false)
    (c.joins-else-not-joins.ensures.yes c.if-not-joins-2.false)
