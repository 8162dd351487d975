use Rattle.std.proofs.Common.{◌<◌, sym, [], length, arith, subst}
use Rattle.std.proofs.lemmas.List.{get_or_read, take_all}
use Rattle.std.proofs.lemmas.List.Elements.{All-more, All-same}
use Rattle.dom_base.specs.Names.{IsNetName}
use Rattle.deck.proofs.circuit.see_names.Goals as goal

pub loop-name-preserved : goal.loop-name-preserved
loop-name-preserved c =
    let lt : c.loop-name.name-index < length c.args.names.now = omega arith in
    let read = get_or_read c.args.names.now c.loop-name.name-index c.name-item.result lt c.name-item.is [] in
    All-more IsNetName c.args.names.now c.loop-name.name-index [] lt c.loop-name.invariant (subst IsNetName read c.as_bytes.ensures.good)

pub returns : goal.returns
returns c = All-same IsNetName _ _ (sym (take_all c.loop-name.name-index c.args.names.now (omega arith))) c.loop-name.invariant
