use Rattle.std.proofs.Common.{[], ◌∷◌, ap, ap₂, length, subst, ◌∙◌}
use Rattle.numbered_file.specs.Slots.{first_slot, second_slot, IsLookup}
use Rattle.numbered_file.proofs.SlotSteps.{at_once, in_turn}
use Rattle.numbered_file.proofs.slots.look_up.Goals as goal

pub returns-in-Taken : goal.returns-in-Taken
returns-in-Taken c =
    let names = c.args.names.now in
    let slots = c.args.slots.now in
    let name = c.args.name.now in
    let count = length slots in
    let first = c.first_slot.ensures ∙ ap (first_slot count) c.letters_mark-mark.ensures in
    let second = c.second_slot.ensures ∙ ap (second_slot count) c.letters_mark-mark.ensures in
    let says = c.look_in-in-Taken.result in
    subst (λ tries. IsLookup names slots name tries says) (ap₂ (λ a b. a ∷ b ∷ []) first second)
    (in_turn names slots name c.first_slot.result (c.second_slot.result ∷ []) says
    (subst (λ l. IsLookup names slots name (c.first_slot.result ∷ []) l) c.in-Taken.is c.look_in.ensures)
    c.look_in-in-Taken.ensures)

pub returns-in_default : goal.returns-in_default
returns-in_default c =
    let names = c.args.names.now in
    let slots = c.args.slots.now in
    let name = c.args.name.now in
    let count = length slots in
    let first = c.first_slot.ensures ∙ ap (first_slot count) c.letters_mark-mark.ensures in
    let second = second_slot count c.letters_mark-mark.result in
    let says = c.look_in.result in
    subst (λ tries. IsLookup names slots name tries says) (ap₂ (λ a b. a ∷ b ∷ []) first (ap (second_slot count) c.letters_mark-mark.ensures))
    (at_once names slots name c.first_slot.result (second ∷ []) says c.in_default.not-Taken c.look_in.ensures)
