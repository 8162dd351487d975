-- How a table of names finds them: what slots say of a name, and what becomes of the names where one is added.
use Rattle.std.proofs.Common.{◌≡◌, ◌≢◌, inl, inr, ℕ, suc, ◌+◌, ◌<◌, false, List, [], ◌∷◌, ◌++◌, Option, Some, None, length, refl, sym, ap, subst, ◌∙◌, arith, append-nil, append_assoc, zero}
use Rattle.std.specs.Prelude.{slice_get, slice_set}
use Rattle.std.proofs.lemmas.Option.{same_Some, slice_get-get_or, slice_get_within}
use Rattle.std.proofs.lemmas.Bool.{cases_lt}
use Rattle.std.proofs.lemmas.List.{get_or-set_same}
use Rattle.std.proofs.Math.Seq.{lt-length-set}
use Rattle.numbered_file.specs.declared.slots.Lookup.{Lookup}
use Rattle.numbered_file.specs.declared.slots.Lookup.TheVariants as look
use Rattle.std.specs.List.{IsDistinct, AllByRecursion, list_any}
use Rattle.std.specs.Cmp.Lexicographic.{bytes_decides}
use Rattle.blif_ast.specs.Cards.{same}
use Rattle.dom_base.proofs.Bools.{not_true}
use Rattle.dom_base.proofs.Lists.{AllByRecursion-contains, AllByRecursion-from_places, Contains-slice_get, IsDistinct-append, list_any-none, slice_get-append, slice_get-push, slice_get-push_cases, slice_get-set_other}
use Rattle.numbered_file.specs.Slots.{AreFound, AreNumbered, HasAsked, HasOther, IsLookup, Leads, OtherNames, OthersGrow, known, free, taken, none, slots_of, with_other}

-- a slot of its own, and then others
pub in_turn : (names : List (List ℕ)) (slots : List ℕ) (name : List ℕ) (slot : ℕ) (more : List ℕ) (says : Lookup)
    → IsLookup names slots name (slot ∷ []) look.Taken → IsLookup names slots name more says → IsLookup names slots name (slot ∷ more) says
in_turn names slots name slot more says (taken other none) rest = taken other rest

pub at_once : (names : List (List ℕ)) (slots : List ℕ) (name : List ℕ) (slot : ℕ) (more : List ℕ) (says : Lookup)
    → (says ≡ look.Taken → ⊥) → IsLookup names slots name (slot ∷ []) says → IsLookup names slots name (slot ∷ more) says
at_once names slots name slot more _ some (known at is) = known at is
at_once names slots name slot more _ some (free at) = free at
at_once names slots name slot more _ some (taken other none) = absurd (some refl)

-- the name of the number that is said
pub said_number : (names : List (List ℕ)) (slots : List ℕ) (name : List ℕ) (tries : List ℕ) (n : ℕ)
    → IsLookup names slots name tries (look.Known n) → slice_get names n ≡ Some name
said_number names slots name _ n (known at is) = is
said_number names slots name _ n (taken {more = more} other rest) = said_number names slots name more n rest

module _ (names : List (List ℕ)) (slots : List ℕ) (others : OtherNames) (name : List ℕ) where
  -- where a slot is free, the name isn't there
  pub not_there : (k free_slot : ℕ) (tries : List ℕ) → IsLookup names slots name tries (look.Free free_slot) → Leads slots others k name tries
      → slice_get names k ≡ Some name → ⊥
  not_there k _ _ (free at) (inl leads) is = let e : 0 ≡ k + 1 = cc in absurd (omega (arith, e))
  not_there k _ _ (free at) (inr leads) is = leads.0 at
  not_there k f _ (taken other rest) (inl leads) is = other.1 k leads is
  not_there k f _ (taken {more = more} other rest) (inr leads) is = not_there k f more rest leads.1 is

  -- where all slots are taken, it is one of the others
  pub is_other : (k : ℕ) (tries : List ℕ) → IsLookup names slots name tries look.Taken → Leads slots others k name tries
      → slice_get names k ≡ Some name → HasOther others k name
  is_other k _ none leads is = leads
  is_other k _ (taken other rest) (inl leads) is = absurd (other.1 k leads is)
  is_other k _ (taken {more = more} other rest) (inr leads) is = is_other k more rest leads.1 is

  -- and so it is found if it is one of them
  pub other_found : (k : ℕ) (tries : List ℕ) → IsLookup names slots name tries look.Taken → HasOther others k name → Leads slots others k name tries
  other_found k _ none has = has
  other_found k _ (taken {more = more} other rest) has = inr (other.0, other_found k more rest has)

  -- a number that is said is found
  pub known_found : (n : ℕ) (tries : List ℕ) → IsLookup names slots name tries (look.Known n) → Leads slots others n name tries
  known_found n _ (known at is) = inl at
  known_found n _ (taken {more = more} other rest) = inr (other.0, known_found n more rest)

-- others that grow
pub grown-refl : (others : OtherNames) → OthersGrow others others
grown-refl others = (([], sym (append-nil others.names)), ([], sym (append-nil others.numbers)))

pub grown-trans : (a b c : OtherNames) → OthersGrow a b → OthersGrow b c → OthersGrow a c
grown-trans a b c f g = (
  (f.0.0 ++ g.0.0, g.0.1 ∙ ap (λ l. l ++ g.0.0) f.0.1 ∙ append_assoc a.names f.0.0 g.0.0),
  (f.1.0 ++ g.1.0, g.1.1 ∙ ap (λ l. l ++ g.1.0) f.1.1 ∙ append_assoc a.numbers f.1.0 g.1.0),
)

pub HasOther-grown : (before after : OtherNames) → OthersGrow before after → (k : ℕ) (name : List ℕ) → HasOther before k name → HasOther after k name
HasOther-grown before after grown k name (i, named, numbered) = (
  i,
  ap (λ l. slice_get l i) grown.0.1 ∙ slice_get-append before.names grown.0.0 i name named,
  ap (λ l. slice_get l i) grown.1.1 ∙ slice_get-append before.numbers grown.1.0 i k numbered,
)

pub Leads-grown : (slots : List ℕ) (before after : OtherNames) → OthersGrow before after → (k : ℕ) (name tries : List ℕ)
    → Leads slots before k name tries → Leads slots after k name tries
Leads-grown slots before after grown k name [] leads = HasOther-grown before after grown k name leads
Leads-grown slots before after grown k name (slot ∷ more) (inl at) = inl at
Leads-grown slots before after grown k name (slot ∷ more) (inr leads) = inr (leads.0, Leads-grown slots before after grown k name more leads.1)

-- a free slot that gets a number
module _ (slots : List ℕ) (others : OtherNames) (free_slot number : ℕ) (is_free : slice_get slots free_slot ≡ Some 0) where
  within : free_slot < length slots
  within = slice_get_within slots free_slot 0 is_free

  pub set_here : slice_get (slice_set slots free_slot number) free_slot ≡ Some number
  set_here =
      slice_get-get_or (slice_set slots free_slot number) free_slot 0 (lt-length-set slots free_slot number within)
      ∙ ap Some (get_or-set_same slots free_slot number 0 within)

  not_free : (slot : ℕ) → slice_get slots slot ≢ Some 0 → slice_get (slice_set slots free_slot number) slot ≡ slice_get slots slot
  not_free slot some = slice_get-set_other slots free_slot slot number (λ e. some (subst (λ s. slice_get slots s ≡ Some 0) (sym e) is_free))

  pub Leads-set : (k : ℕ) (name tries : List ℕ) → Leads slots others k name tries → Leads (slice_set slots free_slot number) others k name tries
  Leads-set k name [] leads = leads
  Leads-set k name (slot ∷ more) (inl at) = inl (not_free slot (λ z. let e : 0 ≡ k + 1 = cc in absurd (omega (arith, e))) ∙ at)
  Leads-set k name (slot ∷ more) (inr leads) = inr ((λ z. leads.0 (sym (not_free slot leads.0) ∙ z)), Leads-set k name more leads.1)

  -- the slot that was free leads to its number
  pub Leads-new : (names : List (List ℕ)) (k : ℕ) (name tries : List ℕ) → number ≡ k + 1 → IsLookup names slots name tries (look.Free free_slot)
      → Leads (slice_set slots free_slot number) others k name tries
  Leads-new names k name _ is (free at) = inl (set_here ∙ ap Some is)
  Leads-new names k name _ is (taken {slot = slot} {more = more} other rest) = inr ((λ z. other.0 (sym (not_free slot other.0) ∙ z)), Leads-new names k name more is rest)

-- equal names have one number
pub one_number : (names : List (List ℕ)) (i j : ℕ) (name : List ℕ) → IsDistinct same names → slice_get names i ≡ Some name → slice_get names j ≡ Some name → i ≡ j
unfolding IsDistinct
one_number [] i j name apart a b = cc a
one_number (first ∷ names) zero zero name apart a b = refl
one_number (first ∷ names) zero (suc j) name apart a b =
    let one : first ≡ name = cc in
    cc (sym (AllByRecursion-contains _ names name apart.0 (Contains-slice_get names j name b)) ∙ (bytes_decides first name).1 one)
one_number (first ∷ names) (suc i) zero name apart a b =
    let one : first ≡ name = cc in
    cc (sym (AllByRecursion-contains _ names name apart.0 (Contains-slice_get names i name a)) ∙ (bytes_decides first name).1 one)
one_number (first ∷ names) (suc i) (suc j) name apart a b = ap suc (one_number names i j name apart.1 a b)

-- a name that stands nowhere
pub not_among : (names : List (List ℕ)) (name : List ℕ) → ((k : ℕ) → slice_get names k ≡ Some name → ⊥) → list_any (same name) names ≡ false
not_among names name nowhere =
    list_any-none (same name) names (AllByRecursion-from_places (λ other. same name other ≡ false) names
    (λ i other at. not_true (same name other) (λ e. nowhere i (at ∙ ap Some (sym ((bytes_decides name other).0 e))))))

pub distinct_more : (names : List (List ℕ)) (name : List ℕ) → IsDistinct same names → ((k : ℕ) → slice_get names k ≡ Some name → ⊥)
    → IsDistinct same (names ++ name ∷ [])
unfolding IsDistinct
distinct_more names name apart nowhere =
    IsDistinct-append same names (name ∷ []) apart (tt, tt)
    (AllByRecursion-from_places (λ other. AllByRecursion (λ y. same other y ≡ false) (name ∷ [])) names
    (λ i other at. (not_true (same other name) (λ e. nowhere i (at ∙ ap Some ((bytes_decides other name).0 e))), tt)))

-- a free slot is one of the slots
pub free_slot_is : (names : List (List ℕ)) (slots : List ℕ) (name : List ℕ) (tries : List ℕ) (slot : ℕ)
    → IsLookup names slots name tries (look.Free slot) → slice_get slots slot ≡ Some 0
free_slot_is names slots name _ slot (free at) = at
free_slot_is names slots name _ slot (taken {more = more} other rest) = free_slot_is names slots name more slot rest

-- what was found is found in other slots, and one name more
module _ (names : List (List ℕ)) (slots slots' : List ℕ) (others others' : OtherNames) (same_length : length slots' ≡ length slots)
    (keeps : (k : ℕ) (name tries : List ℕ) → Leads slots others k name tries → Leads slots' others' k name tries) where
  pub found_kept : (count : ℕ) → AreFound names slots others count → AreFound names slots' others' count
  found_kept count found k name below at =
      subst (λ n. Leads slots' others' k name (slots_of n name)) (sym same_length) (keeps k name (slots_of (length slots) name) (found k name below at))

  pub found_next : (count : ℕ) (name : List ℕ) → slice_get names count ≡ Some name → AreFound names slots others count
      → Leads slots' others' count name (slots_of (length slots) name) → AreFound names slots' others' (count + 1)
  found_next count name there found leads k other below at = elim (cases_lt k count) [
    | inl less ↦ found_kept count found k other less at
    | inr more ↦ let number : count ≡ k = omega (arith, more, below) in
        let one = same_Some name other (sym there ∙ ap (slice_get names) number ∙ at) in
        subst (λ n. Leads slots' others' k other (slots_of n other)) (sym same_length)
        (subst (λ o. Leads slots' others' k o (slots_of (length slots) o)) one
        (subst (λ i. Leads slots' others' i name (slots_of (length slots) name)) number leads))
  ]

-- names to which one is added
module _ (names : List (List ℕ)) (name : List ℕ) where
  pub found_grown : (slots : List ℕ) (others : OtherNames) → AreFound names slots others (length names)
      → AreFound (names ++ name ∷ []) slots others (length names)
  found_grown slots others found k other below at = elim (slice_get-push_cases names name k other at) [
    | inl old ↦ found k other below old
    | inr new ↦ absurd (omega (arith, below, new.0))
  ]

  pub numbered_grown : (others : OtherNames) → AreNumbered names others → AreNumbered (names ++ name ∷ []) others
  numbered_grown others numbered i n at =
      let one = numbered i n at in
      (one.0, one.1, slice_get-append names (name ∷ []) n one.0 one.2)

-- a name that is one of the others has its number
pub other_number : (names : List (List ℕ)) (others : OtherNames) (number : ℕ) (name : List ℕ) → AreNumbered names others → HasOther others number name
    → slice_get names number ≡ Some name
other_number names others number name numbered (i, named, at) =
    let one = numbered i number at in
    one.2 ∙ sym one.1 ∙ named

-- others to which one is added
module _ (names : List (List ℕ)) (others : OtherNames) (name : List ℕ) (number : ℕ) (even : length others.numbers ≡ length others.names) where
  pub has_added : HasOther (with_other others name number) number name
  has_added = (
    length others.names,
    slice_get-push others.names name,
    subst (λ i. slice_get (others.numbers ++ number ∷ []) i ≡ Some number) even (slice_get-push others.numbers number),
  )

  pub numbered_added : AreNumbered names others → slice_get names number ≡ Some name → AreNumbered names (with_other others name number)
  numbered_added numbered there i n at = elim (slice_get-push_cases others.numbers number i n at) [
    | inl old ↦ let one = numbered i n old in (one.0, slice_get-append others.names (name ∷ []) i one.0 one.1, one.2)
    | inr new ↦ (
      name,
      subst (λ j. slice_get (others.names ++ name ∷ []) j ≡ Some name) (sym even ∙ sym new.0) (slice_get-push others.names name),
      subst (λ m. slice_get names m ≡ Some name) new.1 there,
    )
  ]

  pub grown_added : OthersGrow others (with_other others name number)
  grown_added = ((name ∷ [], refl), (number ∷ [], refl))

-- where the name of a number is asked for and none is known, it gets this number
module _ (names : List (List ℕ)) (before after : OtherNames) (name : List ℕ) (number : ℕ) (even : length before.numbers ≡ length before.names)
    (apart : IsDistinct same names) (numbered : AreNumbered names before) (there : slice_get names number ≡ Some name) where
  pub asked_grown : (known : Option ℕ) → HasAsked before name number known after → OthersGrow before after
  asked_grown None asked = subst (OthersGrow before) (sym asked.1) (grown_added names before name number even)
  asked_grown (Some n) asked = subst (OthersGrow before) (sym asked.0) (grown-refl before)

  pub asked_numbered : (known : Option ℕ) → HasAsked before name number known after → AreNumbered names after
  asked_numbered None asked = subst (AreNumbered names) (sym asked.1) (numbered_added names before name number even numbered there)
  asked_numbered (Some n) asked = subst (AreNumbered names) (sym asked.0) numbered

  pub asked_has : (known : Option ℕ) → HasAsked before name number known after → HasOther after number name
  asked_has None asked = subst (λ o. HasOther o number name) (sym asked.1) (has_added names before name number even)
  asked_has (Some n) asked =
      let one = one_number names n number name apart (other_number names before n name numbered asked.1) there in
      subst (λ o. HasOther o number name) (sym asked.0) (subst (λ m. HasOther before m name) one asked.1)
