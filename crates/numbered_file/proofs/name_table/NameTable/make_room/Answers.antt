use Rattle.std.proofs.Common.{length, refl, subst}
use Rattle.numbered_file.specs.Slots.{AreNumbered}
use Rattle.numbered_file.proofs.SlotSteps.{found_kept, grown-trans, Leads-grown}
use Rattle.numbered_file.proofs.name_table.NameTable.make_room.Goals as goal

pub invariant_of-self : goal.invariant_of-self
invariant_of-self c =
    let before = c.self.inside.others in
    let after = c.find_anew.new.others in
    let names = c.self.inside.names.items in
    let slots = c.self.inside.slots.items in
    let grown = grown-trans before c.loop-number.self-inside.others after c.loop-number.invariant.grown c.find_anew.ensures.grown in
    let numbered = subst (λ l. AreNumbered l after) c.deref.ensures.value c.find_anew.ensures.numbered in
    rw c.loop-number.invariant.slots
    (record {
      distinct = rw c.loop-number.invariant.names c.self.invariant.distinct;
      numbered = numbered;
      found = rw c.loop-number.invariant.names
          (found_kept names slots slots before after refl (Leads-grown slots before after grown) (length names) c.self.invariant.found);
    })
