use Rattle.std.proofs.Common.{◌∙◌, ap, sym, arith, subst, length}
use Rattle.std.specs.List.{AllByRecursion}
use Rattle.std.specs.Str.{str_to_ascii_lowercase}
use Rattle.std.proofs.lemmas.List.{length-map}
use Rattle.dom_base.specs.Names.{IsNetName}
use Rattle.deck.specs.DeckCards.{port_names}
use Rattle.deck.specs.Numbers.{with_all}
use Rattle.dom_base.proofs.Lists.{AllByRecursion-drop}
use Rattle.spice_read.proofs.AnsweredFaults.{answered}
use Rattle.spice_read.proofs.Ports.{All-unmapped, good_ports, many_fault, no_fault_of_ports, twice_fault, with_all-ports}
use Rattle.spice_read.proofs.subckts.opened.Goals as goal

pub nets_of-requires : goal.nets_of-requires
nets_of-requires c =
    All-unmapped IsNetName (λ w. str_to_ascii_lowercase w.now) _ (subst (AllByRecursion IsNetName) (sym c.ports.ensures) (AllByRecursion-drop IsNetName 2 c.args.card.now.words c.requires.names))

pub returns-then-len-ports-clause-fault : goal.returns-then-len-ports-clause-fault
returns-then-len-ports-clause-fault c = λ line kind is.
    let keys = c.in_ok-nets.ensures ∙ ap (with_all _) c.ports.ensures in
    let all = sym (length-map c.ports-2.result.now (λ w. str_to_ascii_lowercase w.now)) ∙ ap length c.ports-2.ensures in
    answered c.fault.result c.args.card.now.number line _ kind _ c.fault.ensures (twice_fault c.args.card.now c.in_ok-nets.nets.keys keys _ all (omega (arith, c.if-len-ports.true, c.len.ensures.len))) is

pub returns-then-len-clause-fault : goal.returns-then-len-clause-fault
returns-then-len-clause-fault c = λ line kind is.
    let keys = c.in_ok-nets.ensures ∙ ap (with_all _) c.ports.ensures in
    let all = sym (length-map c.ports-2.result.now (λ w. str_to_ascii_lowercase w.now)) ∙ ap length c.ports-2.ensures in
    answered c.fault-then-len.result c.args.card.now.number line _ kind _ c.fault-then-len.ensures (many_fault c.args.card.now c.in_ok-nets.nets.keys keys _ all (λ l. omega (arith, c.if-len-ports.false, c.len.ensures.len, l)) (omega (arith, c.if-len.true, c.len-2.ensures.len))) is

pub returns-clause-opened : goal.returns-clause-opened
returns-clause-opened c =
    let keys = c.in_ok-nets.ensures ∙ ap (with_all _) c.ports.ensures in
    let all = sym (length-map c.ports-2.result.now (λ w. str_to_ascii_lowercase w.now)) ∙ ap length c.ports-2.ensures in
    let clean = no_fault_of_ports c.args.card.now c.in_ok-nets.nets.keys keys _ all (λ l. omega (arith, c.if-len-ports.false, c.len.ensures.len, l)) (λ l. omega (arith, c.if-len.false, c.len-2.ensures.len, l)) in
    let ports = with_all-ports (port_names c.args.card.now) (good_ports c.args.card.now clean).differ in
    let named = keys ∙ ports in
    let count = c.len-ports.ensures.len ∙ ap length named in
    (clean, (λ i. record { name = c.args.name; phases = c.new.ensures.items i; ports = count i; nets = named i; devices = c.new-2.ensures.items i }))
