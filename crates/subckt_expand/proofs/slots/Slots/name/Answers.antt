use Rattle.std.proofs.Common.{rules, ◌≡◌, ◌∙◌, ◌++◌, ◌∷◌, [], ap, ℕ, List, length, Some, set, sym, subst}
use Rattle.subckt_expand.specs.Units.{AreSlots}
use Rattle.subckt_expand.proofs.MoreSlots.{slots_more}
use Rattle.subckt_expand.proofs.slots.Slots.name.Goals as goal

pub invariant_of-self-then-is_none : goal.invariant_of-self-then-is_none
invariant_of-self-then-is_none c =
    let count : c.in-Ok-try_from.slot ≡ length c.self.inside.nets.items = search rules in
    let place : c.in-Ok.place ≡ c.args.net = (c.in-Ok.ensures).1 in
    let items = c.in_ok-push.ensures.items ∙ ap (λ net. c.self.inside.nets.items ++ net ∷ []) place in
    subst (λ (p : ℕ × List ℕ). AreSlots (record { of_net = set c.self.inside.of_net.items c.args.net (Some p.0); nets = p.1 }))
    (λ i. (sym count i, sym items i)) (slots_more c.self.inside.of_net.items c.self.inside.nets.items c.args.net c.self.invariant)
