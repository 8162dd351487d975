use Rattle.std.proofs.Common.{arith, get_or}
use Rattle.std.proofs.lemmas.List.Elements.{Contains-get_or}
use Rattle.switch_model.proofs.PlainClasses.{one_list}
use Rattle.switch_model.proofs.refresh.single.Goals as goal

pub returns : goal.returns
returns c =
    let nets = c.args.nets.now in
    let one = c.is_single.ensures.0 c.if-not-is_single.false in
    one_list nets (get_or nets 0 0) (omega (arith, one)) (Contains-get_or nets 0 0 (omega (arith, one)))
