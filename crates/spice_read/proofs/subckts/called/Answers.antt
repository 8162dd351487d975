use Rattle.std.proofs.Common.{◌≡◌, ◌∙◌, ◌-◌, ap, sym, length, eq-eqb}
use Rattle.std.specs.Str.{str_to_ascii_lowercase}
use Rattle.std.proofs.lemmas.List.{length-map}
use Rattle.deck.specs.Nets.{net_number}
use Rattle.subckt_expand.specs.Definitions.{DefinitionData}
use Rattle.subckt_expand.specs.Units.{names_of}
use Rattle.spice_read.specs.ReadSubckts.{call_fault, called}
use Rattle.spice_read.proofs.AnsweredFaults.{answered}
use Rattle.spice_read.proofs.FoundUnits.{found_none, found_some, no_call_fault, no_room, other_number, passed_count, wrong_count}
use Rattle.spice_read.proofs.subckts.called.Goals as goal

pub returns-in_default-clause-fault : goal.returns-in_default-clause-fault
returns-in_default-clause-fault c = λ line kind is.
    let named = c.in_ok-name.ensures ∙ c.unit.ensures in
    let none = sym (ap (called c.args.units.now) named) ∙ found_none c.args.units.now c.in_ok-name.name c.in_default.ensures in
    answered c.fault.result c.args.card.now.number line _ kind _ c.fault.ensures (ap (λ o. call_fault c.args.devices o c.args.card.now) none) is

pub returns-then-not-has_room-clause-fault : goal.returns-then-not-has_room-clause-fault
returns-then-not-has_room-clause-fault c = λ line kind is.
    let named = c.in_ok-name.ensures ∙ c.unit.ensures in
    let here = c.in-Some.ensures in
    let found = sym (ap (called c.args.units.now) named) ∙ found_some c.args.units.now c.in_ok-name.name c.in-Some.unit c.in-Some.found.now here.0 here.1 here.2 in
    let full = no_room c.args.devices c.in-Some.found.now c.args.card.now (sym c.has_room.ensures ∙ c.if-not-has_room.true) in
    answered c.fault-then-not-has_room.result c.args.card.now.number line _ kind _ c.fault-then-not-has_room.ensures (ap (λ o. call_fault c.args.devices o c.args.card.now) found ∙ full) is

pub returns-then-found-passed-clause-fault : goal.returns-then-found-passed-clause-fault
returns-then-found-passed-clause-fault c = λ line kind is.
    let named = c.in_ok-name.ensures ∙ c.unit.ensures in
    let here = c.in-Some.ensures in
    let found = sym (ap (called c.args.units.now) named) ∙ found_some c.args.units.now c.in_ok-name.name c.in-Some.unit c.in-Some.found.now here.0 here.1 here.2 in
    let ports = ap (λ (d : DefinitionData). d.ports) c.found.view_is in
    let count : length c.passed.result.now ≡ length c.args.card.now.words - 2 = sym (length-map c.passed.result.now (λ w. str_to_ascii_lowercase w.now)) ∙ ap length c.passed.ensures ∙ passed_count c.args.card.now c.requires.more in
    let wrong = other_number c.in-Some.found.now.ports (length c.args.card.now.words - 2) (λ e. c.if-found-passed.true (ports ∙ e ∙ sym count)) in
    answered c.fault-then-found-passed.result c.args.card.now.number line _ kind _ c.fault-then-found-passed.ensures
    (ap (λ o. call_fault c.args.devices o c.args.card.now) found ∙ wrong_count c.args.devices c.in-Some.found.now c.args.card.now (sym c.has_room.ensures ∙ c.if-not-has_room.false) wrong) is

pub returns-clause-called : goal.returns-clause-called
returns-clause-called c =
    let named = c.in_ok-name.ensures ∙ c.unit.ensures in
    let here = c.in-Some.ensures in
    let found = sym (ap (called c.args.units.now) named) ∙ found_some c.args.units.now c.in_ok-name.name c.in-Some.unit c.in-Some.found.now here.0 here.1 here.2 in
    let ports = ap (λ (d : DefinitionData). d.ports) c.found.view_is in
    let count : length c.passed.result.now ≡ length c.args.card.now.words - 2 = sym (length-map c.passed.result.now (λ w. str_to_ascii_lowercase w.now)) ∙ ap length c.passed.ensures ∙ passed_count c.args.card.now c.requires.more in
    record {
      definition = c.in-Some.found.now;
      found = found;
      unit_is = here.0 ∙ ap (net_number (names_of c.args.units.now)) named;
      count_is = ap (λ (d : DefinitionData). d.devices) c.found.view_is;
      depth_is = ap (λ (d : DefinitionData). d.depth) c.found.view_is;
      no_fault = no_call_fault c.args.devices c.in-Some.found.now c.args.card.now (sym c.has_room.ensures ∙ c.if-not-has_room.false)
          (eq-eqb c.in-Some.found.now.ports (length c.args.card.now.words - 2) (sym ports ∙ c.if-found-passed.false ∙ count));
    }
