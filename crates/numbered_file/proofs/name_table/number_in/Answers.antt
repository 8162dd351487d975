use Rattle.std.proofs.Common.{length}
use Rattle.std.proofs.lemmas.Option.{slice_get_within}
use Rattle.numbered_file.specs.declared.slots.Lookup.TheVariants as look
use Rattle.numbered_file.specs.Slots.{slots_of}
use Rattle.numbered_file.proofs.SlotSteps.{free_slot_is, said_number}
use Rattle.numbered_file.proofs.TableSteps.{free_step, says_at, taken_step}
use Rattle.numbered_file.proofs.name_table.number_in.Goals as goal

pub add-requires : goal.add-requires
add-requires c =
    let names = c.args.names.now.items in
    let slots = c.args.slots.now.items in
    let name = c.args.name.now in
    let says = says_at names c.deref.result.now slots c.deref-2.result.now name c.look_up.result (look.Free c.in-Free.slot) c.deref.ensures.value
    c.deref-2.ensures.value c.in-Free.is c.look_up.ensures in
    slice_get_within slots c.in-Free.slot 0 (free_slot_is names slots name (slots_of (length slots) name) c.in-Free.slot says)

pub returns-in-Known-clause-number : goal.returns-in-Known-clause-number
returns-in-Known-clause-number c =
    let names = c.args.names.now.items in
    let slots = c.args.slots.now.items in
    let name = c.args.name.now in
    let says = says_at names c.deref.result.now slots c.deref-2.result.now name c.look_up.result (look.Known c.in-Known.number) c.deref.ensures.value
    c.deref-2.ensures.value c.in-Known.is c.look_up.ensures in
    said_number names slots name (slots_of (length slots) name) c.in-Known.number says

pub returns-in-Free-clause-table : goal.returns-in-Free-clause-table
returns-in-Free-clause-table c =
    let names = c.args.names.now.items in
    let slots = c.args.slots.now.items in
    let name = c.args.name.now in
    let says = says_at names c.deref.result.now slots c.deref-2.result.now name c.look_up.result (look.Free c.in-Free.slot) c.deref.ensures.value
    c.deref-2.ensures.value c.in-Free.is c.look_up.ensures in
    let answer = free_step names slots c.args.others.now name c.requires c.in-Free.slot says c.add.result c.add.new.names.items c.add.new.slots.items
    c.add.ensures.number c.add.ensures.names c.add.ensures.slots c.add.ensures.kept_names c.add.ensures.kept_slots in
    answer.0

pub returns-in-Free-clause-one : goal.returns-in-Free-clause-one
returns-in-Free-clause-one c =
    let names = c.args.names.now.items in
    let slots = c.args.slots.now.items in
    let name = c.args.name.now in
    let says = says_at names c.deref.result.now slots c.deref-2.result.now name c.look_up.result (look.Free c.in-Free.slot) c.deref.ensures.value
    c.deref-2.ensures.value c.in-Free.is c.look_up.ensures in
    let answer = free_step names slots c.args.others.now name c.requires c.in-Free.slot says c.add.result c.add.new.names.items c.add.new.slots.items
    c.add.ensures.number c.add.ensures.names c.add.ensures.slots c.add.ensures.kept_names c.add.ensures.kept_slots in
    answer.1

pub returns-in-Free-clause-number : goal.returns-in-Free-clause-number
returns-in-Free-clause-number c =
    let names = c.args.names.now.items in
    let slots = c.args.slots.now.items in
    let name = c.args.name.now in
    let says = says_at names c.deref.result.now slots c.deref-2.result.now name c.look_up.result (look.Free c.in-Free.slot) c.deref.ensures.value
    c.deref-2.ensures.value c.in-Free.is c.look_up.ensures in
    let answer = free_step names slots c.args.others.now name c.requires c.in-Free.slot says c.add.result c.add.new.names.items c.add.new.slots.items
    c.add.ensures.number c.add.ensures.names c.add.ensures.slots c.add.ensures.kept_names c.add.ensures.kept_slots in
    answer.2

pub returns-in-Taken-clause-table : goal.returns-in-Taken-clause-table
returns-in-Taken-clause-table c =
    let names = c.args.names.now.items in
    let slots = c.args.slots.now.items in
    let name = c.args.name.now in
    let says = says_at names c.deref.result.now slots c.deref-2.result.now name c.look_up.result look.Taken c.deref.ensures.value
    c.deref-2.ensures.value c.in-Taken.is c.look_up.ensures in
    let answer = taken_step names slots c.args.others.now name c.requires says c.number_beside.result c.number_beside.new.names.items c.number_beside.new.others
    c.number_beside.ensures.number c.number_beside.ensures.even c.number_beside.ensures.kept_names c.number_beside.ensures.kept_others in
    answer.0

pub returns-in-Taken-clause-one : goal.returns-in-Taken-clause-one
returns-in-Taken-clause-one c =
    let names = c.args.names.now.items in
    let slots = c.args.slots.now.items in
    let name = c.args.name.now in
    let says = says_at names c.deref.result.now slots c.deref-2.result.now name c.look_up.result look.Taken c.deref.ensures.value
    c.deref-2.ensures.value c.in-Taken.is c.look_up.ensures in
    let answer = taken_step names slots c.args.others.now name c.requires says c.number_beside.result c.number_beside.new.names.items c.number_beside.new.others
    c.number_beside.ensures.number c.number_beside.ensures.even c.number_beside.ensures.kept_names c.number_beside.ensures.kept_others in
    answer.1

pub returns-in-Taken-clause-number : goal.returns-in-Taken-clause-number
returns-in-Taken-clause-number c =
    let names = c.args.names.now.items in
    let slots = c.args.slots.now.items in
    let name = c.args.name.now in
    let says = says_at names c.deref.result.now slots c.deref-2.result.now name c.look_up.result look.Taken c.deref.ensures.value
    c.deref-2.ensures.value c.in-Taken.is c.look_up.ensures in
    let answer = taken_step names slots c.args.others.now name c.requires says c.number_beside.result c.number_beside.new.names.items c.number_beside.new.others
    c.number_beside.ensures.number c.number_beside.ensures.even c.number_beside.ensures.kept_names c.number_beside.ensures.kept_others in
    answer.2
