use Rattle.std.proofs.Common.{◌<◌, ◌-◌, ap, subst, sym, length, map, drop, take}
use Rattle.std.specs.List.{AllByRecursion}
use Rattle.std.specs.Str.{str_to_ascii_lowercase}
use Rattle.std.proofs.lemmas.List.Elements.{All-from_recursion, All-take, recursion_from_All}
use Rattle.dom_base.specs.Names.{IsNetName}
use Rattle.dom_base.proofs.Lists.{AllByRecursion-drop}
use Rattle.subckt_expand.specs.Definitions.{DefinitionData}
use Rattle.spice_read.specs.ReadSubckts.{numbers_in}
use Rattle.spice_read.proofs.PassedNumbers.{numbers_there}
use Rattle.spice_read.proofs.Ports.{All-unmapped}
use Rattle.spice_read.proofs.subckt.push_call.Goals as goal

pub numbers_of-requires : goal.numbers_of-requires
numbers_of-requires c =
    let words = c.args.card.now.words in
    let all = All-take IsNetName (length words - 2) (drop 1 words) (All-from_recursion IsNetName (drop 1 words) (AllByRecursion-drop IsNetName 1 words c.requires.names.names)) in
    All-unmapped IsNetName (λ w. str_to_ascii_lowercase w.now) _ (subst (AllByRecursion IsNetName) (sym c.passed.ensures) (recursion_from_All IsNetName (take (length words - 2) (drop 1 words)) all))

pub push_call-requires-clause-nets : goal.push_call-requires-clause-nets
push_call-requires-clause-nets c =
    let names = map (λ w. str_to_ascii_lowercase w.now) c.passed.result.now in
    let there = numbers_there c.args.subckt.now.nets names in
    let nets = ap (λ (d : DefinitionData). d.nets) c.in_ok-nets.ensures.nets in
    subst (AllByRecursion (λ net. net < length c.numbers_of.new.subckt.nets)) (sym c.in_ok-nets.ensures.numbers)
    (subst (λ l. AllByRecursion (λ net. net < length l) (numbers_in c.args.subckt.now.nets names)) (sym nets) there)
