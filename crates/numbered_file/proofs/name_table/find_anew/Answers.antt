use Rattle.std.proofs.Common.{Some, length, ap, refl, sym, subst, ◌∙◌}
use Rattle.std.specs.Prelude.{slice_set}
use Rattle.std.proofs.lemmas.Option.{slice_get-get_or, slice_get_within}
use Rattle.std.proofs.lemmas.List.{length-set}
use Rattle.numbered_file.specs.Slots.{HasAsked, IsLookup, Leads, slots_of}
use Rattle.numbered_file.proofs.SlotSteps.{asked_grown, asked_has, asked_numbered, found_next, free_slot_is, known_found, one_number, other_found, said_number, Leads-grown, Leads-new, Leads-set}
use Rattle.numbered_file.proofs.name_table.find_anew.Goals as goal

pub fill-requires : goal.fill-requires
fill-requires c =
    let name = c.word.inside.0.now in
    let slots = c.args.slots.now in
    let says = subst (IsLookup c.args.names.now slots name (slots_of (length slots) name)) c.in-Free.is c.look_up.ensures in
    slice_get_within slots c.in-Free.slot 0 (free_slot_is c.args.names.now slots name (slots_of (length slots) name) c.in-Free.slot says)

pub returns-in-Known-clause-found : goal.returns-in-Known-clause-found
returns-in-Known-clause-found c =
    let names = c.args.names.now in
    let name = c.word.inside.0.now in
    let slots = c.args.slots.now in
    let others = c.args.others.now in
    let tries = slots_of (length slots) name in
    let there = slice_get-get_or names c.args.number _ c.requires.number ∙ ap Some (sym (c.word.view_is ∙ c.index-names-number.is)) in
    let says = subst (IsLookup names slots name tries) c.in-Known.is c.look_up.ensures in
    let one = one_number names c.in-Known.field-0 c.args.number name c.requires.distinct (said_number names slots name tries c.in-Known.field-0 says) there in
    found_next names slots slots others others refl (λ k other more leads. leads) c.args.number name there c.requires.found
    (subst (λ k. Leads slots others k name tries) one (known_found names slots others name c.in-Known.field-0 tries says))

pub returns-in_ok-as_u32-in-Free-clause-found : goal.returns-in_ok-as_u32-in-Free-clause-found
returns-in_ok-as_u32-in-Free-clause-found c =
    let names = c.args.names.now in
    let name = c.word.inside.0.now in
    let slots = c.args.slots.now in
    let others = c.args.others.now in
    let tries = slots_of (length slots) name in
    let slot = c.in-Free.slot in
    let next = c.in_ok-as_u32-in-Free.field-0 in
    let there = slice_get-get_or names c.args.number _ c.requires.number ∙ ap Some (sym (c.word.view_is ∙ c.index-names-number.is)) in
    let says = subst (IsLookup names slots name tries) c.in-Free.is c.look_up.ensures in
    let is_free = free_slot_is names slots name tries slot says in
    rw c.fill.ensures
    (found_next names slots (slice_set slots slot next) others others (length-set slots slot next)
    (λ k other more leads. Leads-set slots others slot next is_free k other more leads)
    c.args.number name there c.requires.found
    (Leads-new slots others slot next is_free names c.args.number name tries c.in_ok-as_u32-in-Free.ensures says))

pub returns-in_ok-number-in-Taken-clause-numbered : goal.returns-in_ok-number-in-Taken-clause-numbered
returns-in_ok-number-in-Taken-clause-numbered c =
    let names = c.args.names.now in
    let name = c.word.inside.0.now in
    let there = slice_get-get_or names c.args.number _ c.requires.number ∙ ap Some (sym (c.word.view_is ∙ c.index-names-number.is)) in
    let asked = subst (λ n. HasAsked c.args.others.now name n c.in_ok-number-in-Taken.field-0 c.number.new.self) c.in_ok-as_u32-in-Taken.ensures
    c.in_ok-number-in-Taken.ensures.number in
    asked_numbered names c.args.others.now c.number.new.self name c.args.number c.in_ok-number-in-Taken.ensures.even c.requires.distinct
    c.requires.numbered there c.in_ok-number-in-Taken.field-0 asked

pub returns-in_ok-number-in-Taken-clause-found : goal.returns-in_ok-number-in-Taken-clause-found
returns-in_ok-number-in-Taken-clause-found c =
    let names = c.args.names.now in
    let name = c.word.inside.0.now in
    let slots = c.args.slots.now in
    let before = c.args.others.now in
    let after = c.number.new.self in
    let known = c.in_ok-number-in-Taken.field-0 in
    let even = c.in_ok-number-in-Taken.ensures.even in
    let tries = slots_of (length slots) name in
    let there = slice_get-get_or names c.args.number _ c.requires.number ∙ ap Some (sym (c.word.view_is ∙ c.index-names-number.is)) in
    let says = subst (IsLookup names slots name tries) c.in-Taken.is c.look_up.ensures in
    let asked = subst (λ n. HasAsked before name n known after) c.in_ok-as_u32-in-Taken.ensures c.in_ok-number-in-Taken.ensures.number in
    let grown = asked_grown names before after name c.args.number even c.requires.distinct c.requires.numbered there known asked in
    let has = asked_has names before after name c.args.number even c.requires.distinct c.requires.numbered there known asked in
    found_next names slots slots before after refl (Leads-grown slots before after grown) c.args.number name there c.requires.found
    (other_found names slots after name c.args.number tries says has)
