use Rattle.std.proofs.Common.{ℕ, List, [], ◌∷◌}
use Rattle.deck.specs.NamedDevices.{NamedDevice}
use Rattle.dom_base.specs.declared.kind.Kind.TheVariants.{N as nch, P as pch}
use Rattle.plan_text.specs.Nets.{net_text}
use Rattle.plan_text.proofs.DeviceTexts.{then_put}
use Rattle.plan_text.proofs.device_text.DeviceText.put_inverter.Goals as goal

pub returns : goal.returns
returns c =
    let first : NamedDevice (List ℕ) = record { kind = pch; drain = net_text c.args.out; gate = net_text c.args.gate; source = net_text c.args.vdd } in
    let second : NamedDevice (List ℕ) = record { kind = nch; drain = net_text c.args.out; gate = net_text c.args.gate; source = net_text c.args.vss } in
    then_put c.args.self.now c.put.new.self c.put-2.new.self (first ∷ []) (second ∷ []) c.in_ok-put.ensures c.in_ok-put-2.ensures
