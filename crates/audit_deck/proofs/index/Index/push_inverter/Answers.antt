use Rattle.std.proofs.Common.{[], refl, ◌∷◌}
use Rattle.audit_deck.specs.Fronts.{IsInverterAt}
use Rattle.audit_deck.proofs.DeckOrders.{two_pushed}
use Rattle.link_reduce.proofs.Options.{some_is}
use Rattle.audit_deck.proofs.index.Index.push_inverter.Goals as goal

pub returns : goal.returns
returns c =
    let i = c.unwrap-inverter.result in
    let v = some_is c.inverter.result i (IsInverterAt c.args.self.now.devices c.args.net) c.unwrap-inverter.ensures c.inverter.ensures.some in (
      (v.inverts).up ∷ (v.inverts).down ∷ [],
      record { input = i.input; inverter = v.inverts; places_are = refl },
      two_pushed c.args.places.now.items c.push.new.self.items c.push-2.new.self.items i.up i.down (v.inverts).up (v.inverts).down c.in_ok-push.ensures.items c.in_ok-push-2.ensures.items v.up_is v.down_is,
    )
