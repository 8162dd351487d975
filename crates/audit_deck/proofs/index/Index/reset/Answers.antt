use Rattle.std.specs.Prelude.{Some}
use Rattle.std.proofs.Common.{subst, sym, ◌+◌}
use Rattle.dom_base.specs.declared.kind.Kind.TheVariants.{N as nch, P as pch}
use Rattle.audit_deck.specs.Latches.{SuitsAt}
use Rattle.audit_deck.proofs.Picks.{pick_within, reset_suits}
use Rattle.audit_deck.proofs.index.Index.reset.Goals as goal

pub returns-in_default-pick-clause-none : goal.returns-in_default-pick-clause-none
returns-in_default-pick-clause-none c = λ r one.
    let ds = c.args.self.now.devices in
    let e = c.reset_pair-low.ensures in
    c.in_default-pick.ensures.none r.place
    (subst (λ k. SuitsAt ds c.args.roles c.args.net pch (Some (k + 1)) r.place) (sym e)
    (reset_suits ds c.args.roles c.args.net r one
    (λ p h. c.in_default.ensures.none p (subst (λ k. SuitsAt ds c.args.roles c.args.net nch (Some k) p) (sym e) h))))

pub device-requires-2 : goal.device-requires-2
device-requires-2 c =
    pick_within c.args.self.now.devices c.args.roles c.args.net pch (Some (c.reset_pair-low.result + 1)) c.in-Some-pick.place c.in-Some-pick.ensures.some
