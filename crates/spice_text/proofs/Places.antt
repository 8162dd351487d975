-- The places of the nets of a group.
use Rattle.std.proofs.Common.{◌≡◌, ◌⊎◌, inl, inr, ℕ, zero, suc, ◌<◌, ◌≤◌, ◌+◌, ◌||◌, Bool, true, false, if◌then◌else◌, nat_eq, List, []}
use Rattle.std.proofs.Common.{◌∷◌}
use Rattle.std.proofs.Common.{◌++◌, Some, length, get_or, set, refl, ap, sym, ◌∙◌, subst, arith, length-append, slice_get}
use Rattle.std.specs.List.{list_any, position_or_len}
use Rattle.std.proofs.lemmas.Bool.Decides.{Decides-eqb}
use Rattle.std.proofs.lemmas.List.{length-set}
use Rattle.std.proofs.lemmas.Map.Keys.{any_passes_from_place}
use Rattle.std.proofs.lemmas.Option.{same_Some, slice_get_read}
use Rattle.dom_base.proofs.Bools.{never}
use Rattle.dom_base.proofs.Lists.{slice_get-push_cases, slice_get-set_other}
use Rattle.deck.specs.declared.device.Device.{Device}
use Rattle.spice_text.specs.GroupNets.{GroupNetsData, HavePlaces, place_of, with_number, with_ends}

-- a number that stands at one place alone
first_place : (n : ℕ) (xs : List ℕ) (i : ℕ) → slice_get xs i ≡ Some n → ((j : ℕ) → slice_get xs j ≡ Some n → j ≡ i)
    → (list_any (nat_eq n) xs ≡ true) × (position_or_len (nat_eq n) xs ≡ i)
first_place n [] i at only = absurd (cc)
first_place n (x ∷ xs) zero at only =
    let yes : nat_eq n x ≡ true = (Decides-eqb n x).1 (sym (same_Some x n at)) in
    (rw yes refl, rw yes refl)
first_place n (x ∷ xs) (suc i) at only = by (nat_eq n x) refl
    (first_place n xs i at (λ j e. (let next : suc j ≡ suc i = only (suc j) e in omega arith)))
  where
    by : (b : Bool) → nat_eq n x ≡ b → (list_any (nat_eq n) xs ≡ true) × (position_or_len (nat_eq n) xs ≡ i)
        → (list_any (nat_eq n) (x ∷ xs) ≡ true) × (position_or_len (nat_eq n) (x ∷ xs) ≡ suc i)
    by true e rest = let none : 0 ≡ suc i = only 0 (ap Some (sym ((Decides-eqb n x).0 e))) in absurd (omega arith)
    by false e rest = (rw e rest.0, rw e (omega (arith, rest.1)))

-- a number that stands nowhere
no_place : (n : ℕ) (xs : List ℕ) → ((j : ℕ) → slice_get xs j ≡ Some n → ⊥) → list_any (nat_eq n) xs ≡ false
no_place n [] none = refl
no_place n (x ∷ xs) none = by (nat_eq n x) refl (no_place n xs (λ j e. none (suc j) e))
  where
    by : (b : Bool) → nat_eq n x ≡ b → list_any (nat_eq n) xs ≡ false → list_any (nat_eq n) (x ∷ xs) ≡ false
    by true e rest = absurd (none 0 (ap Some (sym ((Decides-eqb n x).0 e))))
    by false e rest = rw e rest

-- where no item passes the test, the place is behind the items
pub position_or_len-none : {X : Type 0} (test : X → Bool) (xs : List X) → list_any test xs ≡ false → position_or_len test xs ≡ length xs
position_or_len-none test [] none = refl
position_or_len-none test (x ∷ xs) none = by (test x) refl (λ rest. position_or_len-none test xs rest)
  where
    by : (b : Bool) → test x ≡ b → (list_any test xs ≡ false → position_or_len test xs ≡ length xs)
        → position_or_len test (x ∷ xs) ≡ length (x ∷ xs)
    by true e behind = absurd (never (ap (λ b. b || list_any test xs) e) none)
    by false e behind =
        let rest : list_any test xs ≡ false = sym (ap (λ b. b || list_any test xs) e) ∙ none in
        rw e (omega (arith, behind rest))

-- a net that stands at the place that is kept for it
pub found_place : (nets places : List ℕ) (net place at : ℕ) → HavePlaces nets places → net < length places → place ≡ get_or places net place
    → place < length nets → at ≡ get_or nets place at → at ≡ net → (list_any (nat_eq net) nets ≡ true) × (place ≡ place_of nets net)
found_place nets places net place at have within kept low is same =
    let stands : slice_get nets place ≡ Some net = slice_get_read nets (length nets) place at refl low is ∙ ap Some same in
    let tells : slice_get places net ≡ Some place = slice_get_read places (length places) net place refl within kept in
    let both = first_place net nets place stands (λ j e. same_Some j place (sym (have j net e) ∙ tells)) in
    (both.0, sym both.1)

-- a net that doesn't stand there stands nowhere
pub lost_place : (nets places : List ℕ) (net place : ℕ) → HavePlaces nets places → net < length places → place ≡ get_or places net place
    → (slice_get nets place ≡ Some net → ⊥) → list_any (nat_eq net) nets ≡ false
lost_place nets places net place have within kept other =
    let tells : slice_get places net ≡ Some place = slice_get_read places (length places) net place refl within kept in
    no_place net nets (λ j e. other (subst (λ k. slice_get nets k ≡ Some net) (same_Some j place (sym (have j net e) ∙ tells)) e))

slice_get-set : (xs : List ℕ) (i y : ℕ) → i < length xs → slice_get (set xs i y) i ≡ Some y
slice_get-set [] i y lt = absurd (omega arith)
slice_get-set (x ∷ xs) zero y lt = refl
slice_get-set (x ∷ xs) (suc i) y lt = slice_get-set xs i y (omega arith)

-- a new net, at the end
pub push_place : (nets places : List ℕ) (net : ℕ) → HavePlaces nets places → net < length places → list_any (nat_eq net) nets ≡ false
    → HavePlaces (nets ++ net ∷ []) (set places net (length nets))
push_place nets places net have within none i n at = by (slice_get-push_cases nets net i n at)
  where
    other : slice_get nets i ≡ Some n → n ≡ net → ⊥
    other e same = never (any_passes_from_place (nat_eq net) nets i n e ((Decides-eqb net n).1 (sym same))) none

    by : (slice_get nets i ≡ Some n) ⊎ ((i ≡ length nets) × (net ≡ n)) → slice_get (set places net (length nets)) n ≡ Some i
    by (inl e) = slice_get-set_other places net n (length nets) (other e) ∙ have i n e
    by (inr h) =
        subst (λ m. slice_get (set places net (length nets)) m ≡ Some i) h.1
        (slice_get-set places net (length nets) within ∙ ap Some (sym h.0))

-- nothing stands among no nets
pub no_places : (places : List ℕ) → HavePlaces [] places
no_places places i n at = absurd (cc)

pub with_number-stands : (nets : List ℕ) (net : ℕ) → list_any (nat_eq net) nets ≡ true → with_number nets net ≡ nets
with_number-stands nets net e = rw e refl

pub with_number-new : (nets : List ℕ) (net : ℕ) → list_any (nat_eq net) nets ≡ false → with_number nets net ≡ nets ++ net ∷ []
with_number-new nets net e = rw e refl

with_number-long : (nets : List ℕ) (net : ℕ) → length (with_number nets net) ≤ length nets + 1
with_number-long nets net = by (list_any (nat_eq net) nets)
  where
    by : (b : Bool) → length (if b then nets else nets ++ net ∷ []) ≤ length nets + 1
    by true = omega arith
    by false = omega (arith, length-append nets (net ∷ []))

-- a device adds at most three nets
pub with_ends-long : (nets : List ℕ) (d : Device) → length (with_ends nets d) ≤ length nets + 3
with_ends-long nets d =
    omega (
      arith,
      with_number-long nets d.drain,
      with_number-long (with_number nets d.drain) d.gate,
      with_number-long
          (with_number (with_number nets d.drain) d.gate) d.source,
    )

-- the nets of a group, where one was added
pub made_nets : (c : ℕ) (now : GroupNetsData) (places nets new : List ℕ) (net next : ℕ) → record { count = length places; nets = nets }
    ≡ now → new ≡ with_number nets net
    → record { count = length (set places net next); nets = new } ≡ record now { nets = with_number now.nets net }
made_nets c now places nets new net next is e = λ i. record {
  count = (length-set places net next ∙ ap (λ (d : GroupNetsData). d.count) is) i;
  nets = (e ∙ ap (λ (d : GroupNetsData). with_number d.nets net) is) i;
}
