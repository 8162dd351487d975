-- Lists after a push that had room, and after a pop.
use Rattle.std.proofs.Common.{◌≡◌, ◌<◌, ◌≤◌, ℕ, ◌+◌, true, if◌then◌else◌, List, [], ◌∷◌, ◌++◌, length, Option, Some, None, MatchOption, Result, Ok, Err, OnErr, is_ok, slice_index_or, refl, sym, ◌∙◌, subst, arith}
use Rattle.std.proofs.lemmas.Option.{get_or_from_slice_get, slice_get_within}
use Rattle.subckt_expand.specs.Frames.{IsEmpty}

-- a result that is no error
ok_unless : {X E : Type 0} (r : Result X E) (P : Type 0) → OnErr r P → (P → ⊥) → is_ok r ≡ true
ok_unless (Ok x) P h never = refl
ok_unless (Err e) P h never = absurd (never h)

-- the items after a push, where there was room
pub pushed_items : {X Y E : Type 0} (r : Result X E) (new old : List Y) (y : Y) (capacity len : ℕ) → new ≡ (if is_ok r then old ++ y ∷ [] else old)
    → OnErr r (capacity ≤ len) → len + 1 ≤ capacity → new ≡ old ++ y ∷ []
pushed_items r new old y capacity len items full room =
    let ok = ok_unless r (capacity ≤ len) full (λ h. omega (arith, h, room)) in
    subst (λ b. new ≡ (if b then old ++ y ∷ [] else old)) ok items

-- one item fewer after a pop
pub popped_one : {X : Type 0} (o : Option X) (after before : ℕ) → MatchOption o ((before ≡ 0) × (after ≡ 0)) (λ _. after + 1 ≡ before) → 0 < before → after + 1 ≡ before
popped_one None after before h lt = absurd (omega (arith, h.0, lt))
popped_one (Some x) after before h lt = h

-- a row whose items are no numbers
pub empty_row : (row : List (Option ℕ)) → ((k : ℕ) → k < length row → slice_index_or row k None ≡ None) → IsEmpty row
empty_row row none = λ slot number at.
    let low = slice_get_within row slot (Some number) at in
    let is : slice_index_or row slot None ≡ Some number = get_or_from_slice_get row slot (Some number) None at in
    let never : None ≡ Some number = sym (none slot low) ∙ is in cc
