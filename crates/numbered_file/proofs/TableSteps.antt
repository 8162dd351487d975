-- What becomes of a table of names where the number of one is asked for.
use Rattle.std.proofs.Common.{◌≡◌, ◌⊎◌, inl, inr, ℕ, ◌+◌, false, List, [], ◌∷◌, ◌++◌, Some, None, Result, Ok, Err, length, refl, sym, ap, subst, ◌∙◌}
use Rattle.std.specs.Prelude.{slice_get, slice_set, IfOk, OnOk, OnErr}
use Rattle.std.specs.List.{list_any}
use Rattle.std.proofs.lemmas.List.{length-set, length_push}
use Rattle.std.proofs.lemmas.Option.{slice_get_within}
use Rattle.std.specs.Cmp.Lexicographic.{bytes_decides}
use Rattle.blif_ast.specs.Cards.{same}
use Rattle.dom_base.proofs.Lists.{AllByRecursion-contains, Contains-slice_get, none-list_any, slice_get-push}
use Rattle.dom_base.specs.declared.memory.OutOfMemory.{OutOfMemory}
use Rattle.numbered_file.specs.declared.slots.Lookup.{Lookup}
use Rattle.numbered_file.specs.declared.slots.Lookup.TheVariants as look
use Rattle.numbered_file.specs.NameNumbers.{AddsAtMost}
use Rattle.numbered_file.specs.Slots.{AreFound, HasAsked, IsLookup, IsTable, OtherNames, slots_of, with_other}
use Rattle.numbered_file.proofs.SlotSteps.{distinct_more, found_grown, found_next, free_slot_is, grown_added, is_other, not_among, not_there, numbered_grown, numbered_added, has_added, other_found, other_number, Leads-grown, Leads-new, Leads-set}

module _ (names : List (List ℕ)) (slots : List ℕ) (others : OtherNames) (name : List ℕ) (table : IsTable names slots others) where
  abbrev IsAnswer : List (List ℕ) → List ℕ → OtherNames → Result ℕ OutOfMemory → Type 0
  IsAnswer names' slots' others' r =
      IsTable names' slots' others' × AddsAtMost name names names' × IfOk r (λ n. slice_get names' n ≡ Some name)

  -- a name with a free slot is new
  module _ (slot : ℕ) (says : IsLookup names slots name (slots_of (length slots) name) (look.Free slot)) where
    nowhere_free : (k : ℕ) → slice_get names k ≡ Some name → ⊥
    nowhere_free k at =
        not_there names slots others name k slot (slots_of (length slots) name) says (table.found k name (slice_get_within names k name at) at) at

    pub free_table : IsTable (names ++ name ∷ []) (slice_set slots slot (length names + 1)) others
    free_table =
        let is_free = free_slot_is names slots name (slots_of (length slots) name) slot says in
        let next = length names + 1 in
        record {
          distinct = distinct_more names name table.distinct nowhere_free;
          numbered = numbered_grown names name others table.numbered;
          found = subst (AreFound (names ++ name ∷ []) (slice_set slots slot next) others) (sym (length_push names name))
              (found_next (names ++ name ∷ []) slots (slice_set slots slot next) others others (length-set slots slot next)
              (λ k other more leads. Leads-set slots others slot next is_free k other more leads)
              (length names) name (slice_get-push names name) (found_grown names name slots others table.found)
              (Leads-new slots others slot next is_free names (length names) name (slots_of (length slots) name) refl says));
        }

    pub free_one : AddsAtMost name names (names ++ name ∷ [])
    free_one = inr (not_among names name nowhere_free, refl)

    pub free_step : (r : Result ℕ OutOfMemory) (names' : List (List ℕ)) (slots' : List ℕ) → IfOk r (λ n. n ≡ length names)
        → OnOk r (names' ≡ names ++ name ∷ []) → OnOk r (slots' ≡ slice_set slots slot (length names + 1)) → OnErr r (names' ≡ names)
        → OnErr r (slots' ≡ slots) → IsAnswer names' slots' others r
    free_step (Ok n) names' slots' number is_names is_slots _ _ = (
      subst (λ l. IsTable l slots' others) (sym is_names) (subst (λ l. IsTable (names ++ name ∷ []) l others) (sym is_slots) free_table),
      subst (AddsAtMost name names) (sym is_names) free_one,
      ap (λ l. slice_get l n) is_names ∙ ap (slice_get (names ++ name ∷ [])) number ∙ slice_get-push names name,
    )
    free_step (Err e) names' slots' _ _ _ is_names is_slots =
        (subst (λ l. IsTable l slots' others) (sym is_names) (subst (λ l. IsTable names l others) (sym is_slots) table), inl is_names, tt)

  -- a name whose slots are taken is one of the others, or new
  module _ (says : IsLookup names slots name (slots_of (length slots) name) look.Taken) where
    pub known_number : (number : ℕ) (after : OtherNames) → HasAsked others name (length names) (Some number) after → slice_get names number ≡ Some name
    known_number number after asked = other_number names others number name table.numbered asked.1

    pub known_table : (number : ℕ) (after : OtherNames) → HasAsked others name (length names) (Some number) after → IsTable names slots after
    known_table number after asked = subst (IsTable names slots) (sym asked.0) table

    nowhere_taken : list_any (same name) others.names ≡ false → (k : ℕ) → slice_get names k ≡ Some name → ⊥
    nowhere_taken none k at =
        let has = is_other names slots others name k (slots_of (length slots) name) says (table.found k name (slice_get_within names k name at) at) at in
        let apart = AllByRecursion-contains (λ other. same name other ≡ false) others.names name (none-list_any (same name) others.names none)
        (Contains-slice_get others.names has.0 name has.1) in
        cc (sym apart ∙ (bytes_decides name name).1 refl)

    pub taken_one : (after : OtherNames) → HasAsked others name (length names) None after → AddsAtMost name names (names ++ name ∷ [])
    taken_one after asked = inr (not_among names name (nowhere_taken asked.0), refl)

    pub taken_table : length others.numbers ≡ length others.names → (after : OtherNames) → HasAsked others name (length names) None after → IsTable (names ++ name ∷ []) slots after
    taken_table even after asked =
        let grown = grown_added names others name (length names) even in
        let more = with_other others name (length names) in
        let there = slice_get-push names name in
        subst (IsTable (names ++ name ∷ []) slots) (sym asked.1)
        (record {
          distinct = distinct_more names name table.distinct (nowhere_taken asked.0);
          numbered = numbered_added (names ++ name ∷ []) others name (length names) even (numbered_grown names name others table.numbered) there;
          found = subst (AreFound (names ++ name ∷ []) slots more) (sym (length_push names name))
              (found_next (names ++ name ∷ []) slots slots others more refl (Leads-grown slots others more grown) (length names) name there
              (found_grown names name slots others table.found)
              (other_found names slots more name (length names) (slots_of (length slots) name) says (has_added names others name (length names) even)));
        })

    pub taken_step : (r : Result ℕ OutOfMemory) (names' : List (List ℕ)) (others' : OtherNames)
        → IfOk r (λ number. ((names' ≡ names) × HasAsked others name (length names) (Some number) others')
        ⊎ ((number ≡ length names) × (names' ≡ names ++ name ∷ []) × HasAsked others name (length names) None others'))
        → OnOk r (length others.numbers ≡ length others.names) → OnErr r (names' ≡ names) → OnErr r (others' ≡ others)
        → IsAnswer names' slots others' r
    taken_step (Ok n) names' others' (inl known) _ _ _ = (
      subst (λ l. IsTable l slots others') (sym known.0) (known_table n others' known.1),
      inl known.0,
      ap (λ l. slice_get l n) known.0 ∙ known_number n others' known.1,
    )
    taken_step (Ok n) names' others' (inr new) even _ _ = (
      subst (λ l. IsTable l slots others') (sym new.1) (taken_table even others' new.2),
      subst (AddsAtMost name names) (sym new.1) (taken_one others' new.2),
      ap (λ l. slice_get l n) new.1 ∙ ap (slice_get (names ++ name ∷ [])) new.0 ∙ slice_get-push names name,
    )
    taken_step (Err e) names' others' _ _ is_names is_others =
        (subst (λ l. IsTable l slots others') (sym is_names) (subst (IsTable names slots) (sym is_others) table), inl is_names, tt)

-- what is said of the same names in the same slots
pub says_at : (names names' : List (List ℕ)) (slots slots' : List ℕ) (name : List ℕ) (said says : Lookup) → names' ≡ names → slots' ≡ slots → said ≡ says
    → IsLookup names' slots' name (slots_of (length slots') name) said → IsLookup names slots name (slots_of (length slots) name) says
says_at names names' slots slots' name said says same_names same_slots same_said lookup =
    subst (IsLookup names slots name (slots_of (length slots) name)) same_said
    (subst (λ l. IsLookup l slots name (slots_of (length slots) name) said) same_names
    (subst (λ l. IsLookup names' l name (slots_of (length l) name) said) same_slots lookup))
