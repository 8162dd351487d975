use Rattle.std.proofs.Common.{◌∙◌, [], ap, map, Bor}
use Rattle.subckt_expand.specs.Definitions.{CallData}
use Rattle.subckt_expand.specs.Units.{definitions}
use Rattle.subckt_expand.proofs.WholeCircuit.{made_whole}
use Rattle.subckt_expand.proofs.units.Units.expanded.Goals as goal

pub returns : goal.returns
returns c =
    let value : Bor CallData → CallData = λ r. r.now in
    let units = ap definitions c.as_slice-units.ensures.value ∙ c.self.view_is in
    made_whole _ c.args.unit _ _ _ c.push_parts.new.self c.args.self.now _ _ _ c.in_ok-push_parts.ensures.made units (ap (map value) c.new.ensures.items) c.requires.ports c.new-3.ensures.items
    (λ i. record { name = []; phases = []; ports = 0; nets = (c.expanding.view_is i).nets; devices = (c.expanding.view_is i).devices })
