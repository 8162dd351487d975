-- The numbers of names among nets, and the nets when names are added: a name that is new takes the next number.
use Rattle.std.proofs.Common.{◌≡◌, ◌<◌, ◌≤◌, ℕ, zero, suc, ◌+◌, Bool, true, false, if◌then◌else◌, max, List, [], ◌∷◌, ◌++◌, ◌⊎◌, inl, inr, length, take, Some, slice_get, refl, sym, ap, ◌∙◌, subst, arith, nat_eq, append_assoc, append-nil, length-append}
use Rattle.std.specs.List.{list_any, position_or_len, AllByRecursion, IsDistinct}
use Rattle.std.specs.Cmp.Lexicographic.{pointwise, bytes_decides}
use Rattle.std.proofs.lemmas.List.Sums.{fold-append}
use Rattle.std.proofs.lemmas.Map.Keys.{IsDistinct-push}
use Rattle.indexmap.proofs.SetLemmas.{set_all_distinct}
use Rattle.dom_base.proofs.Bools.{or_none}
use Rattle.dom_base.proofs.Lists.{AllByRecursion-take, slice_get-append}
use Rattle.dom_base.proofs.Names.{names_equal}
use Rattle.deck.specs.Nets.{net_name, net_number, with_net}
use Rattle.deck.specs.NumberedDevices.{HasNumber}
use Rattle.deck.specs.Numbers.{with_all}

-- a test of names is passed by one of them, or their number is the number of names
pub number_cases : {X : Type 0} (p : X → Bool) (xs : List X)
    → ((list_any p xs ≡ true) × (position_or_len p xs < length xs)) ⊎ ((list_any p xs ≡ false) × (position_or_len p xs ≡ length xs))
number_cases p [] = inr (refl, refl)
number_cases p (x ∷ xs) = grind (arith, number_cases p xs)

-- the number of a net is one of the nets or the next one, and once it is added they are long enough for it
pub record NumberFits (nets : List (List ℕ)) (name : List ℕ) : Type 0 where
  pub within : net_number nets name ≤ length nets
  pub length_then : length (with_net nets name) ≡ max (length nets) (net_number nets name + 1)

pub number_fits : (nets : List (List ℕ)) (name : List ℕ) → NumberFits nets name
number_fits nets name = by (number_cases (pointwise nat_eq name) nets)
  where
    by : ((list_any (pointwise nat_eq name) nets ≡ true) × (net_number nets name < length nets)) ⊎ ((list_any (pointwise nat_eq name) nets ≡ false) × (net_number nets name ≡ length nets)) → NumberFits nets name
    by (inl h) = record { within = omega (arith, h.1); length_then = rw h.0 (omega (arith, h.1)) }
    by (inr h) = record { within = omega (arith, h.1); length_then = rw h.0 (omega (arith, h.1, length-append nets (name ∷ []))) }

-- a net that is added stands once
pub IsDistinct-with_net : (nets : List (List ℕ)) (name : List ℕ) → IsDistinct (pointwise nat_eq) nets → IsDistinct (pointwise nat_eq) (with_net nets name)
IsDistinct-with_net nets name d = by (list_any (pointwise nat_eq name) nets) refl
  where
    by : (b : Bool) → list_any (pointwise nat_eq name) nets ≡ b → IsDistinct (pointwise nat_eq) (with_net nets name)
    by true e = rw e d
    by false e = rw e (IsDistinct-push names_equal nets name d e)

pub with_net-grows : (nets : List (List ℕ)) (name : List ℕ) → (more : List (List ℕ)) × (with_net nets name ≡ nets ++ more)
with_net-grows nets name = by (list_any (pointwise nat_eq name) nets) refl
  where
    by : (b : Bool) → list_any (pointwise nat_eq name) nets ≡ b → (more : List (List ℕ)) × (with_net nets name ≡ nets ++ more)
    by true e = ([], rw e (sym (append-nil nets)))
    by false e = (name ∷ [], rw e refl)

-- a net stands at its number once it is added
pub slice_get-with_net : (nets : List (List ℕ)) (name : List ℕ) → slice_get (with_net nets name) (net_number nets name) ≡ Some name
slice_get-with_net [] name = refl
slice_get-with_net (x ∷ xs) name = by (pointwise nat_eq name x) refl (slice_get-with_net xs name)
  where
    tail_case : (a : Bool) → (if a then x ∷ xs else (x ∷ xs) ++ name ∷ []) ≡ x ∷ (if a then xs else xs ++ name ∷ [])
    tail_case true = refl
    tail_case false = refl

    by : (b : Bool) → pointwise nat_eq name x ≡ b → slice_get (with_net xs name) (net_number xs name) ≡ Some name → slice_get (with_net (x ∷ xs) name) (net_number (x ∷ xs) name) ≡ Some name
    by true e rest = rw e (ap Some (sym ((bytes_decides name x).0 e)))
    by false e rest = rw e (
        let next : 1 + net_number xs name ≡ suc (net_number xs name) = omega arith in
        ap (λ (n : ℕ). slice_get (if list_any (pointwise nat_eq name) xs then x ∷ xs else (x ∷ xs) ++ name ∷ []) n) next
        ∙ ap (λ l. slice_get l (suc (net_number xs name))) (tail_case (list_any (pointwise nat_eq name) xs)) ∙ rest
        )

-- the nets with more behind them
abbrev pub Longer : List (List ℕ) → List (List ℕ) → Type 0
Longer old new = (more : List (List ℕ)) × (new ≡ old ++ more)

pub Longer-trans : (a b c : List (List ℕ)) → Longer a b → Longer b c → Longer a c
Longer-trans a b c (xs, e) (ys, f) = (xs ++ ys, f ∙ ap (λ l. l ++ ys) e ∙ append_assoc a xs ys)

next : (n : ℕ) → 1 + n ≡ suc n
next n = omega arith

net_number-first : (x : List ℕ) (xs : List (List ℕ)) (name : List ℕ) → pointwise nat_eq name x ≡ true → net_number (x ∷ xs) name ≡ 0
net_number-first x xs name e = rw e refl

net_number-later : (x : List ℕ) (xs : List (List ℕ)) (name : List ℕ) → pointwise nat_eq name x ≡ false → net_number (x ∷ xs) name ≡ suc (net_number xs name)
net_number-later x xs name e = rw e (next (net_number xs name))

HasNumber-head : (x : List ℕ) (xs : List (List ℕ)) (name : List ℕ) → pointwise nat_eq name x ≡ true → HasNumber (x ∷ xs) name
HasNumber-head x xs name e = ap (slice_get (x ∷ xs)) (net_number-first x xs name e) ∙ ap Some (sym ((bytes_decides name x).0 e))

HasNumber-cons : (x : List ℕ) (xs : List (List ℕ)) (name : List ℕ) → pointwise nat_eq name x ≡ false → HasNumber xs name → HasNumber (x ∷ xs) name
HasNumber-cons x xs name e at = ap (slice_get (x ∷ xs)) (net_number-later x xs name e) ∙ at

HasNumber-tail : (x : List ℕ) (xs : List (List ℕ)) (name : List ℕ) → pointwise nat_eq name x ≡ false → HasNumber (x ∷ xs) name → HasNumber xs name
HasNumber-tail x xs name e at = ap (slice_get (x ∷ xs)) (sym (net_number-later x xs name e)) ∙ at

-- a name that stands somewhere stands at its number
pub HasNumber-from : (nets : List (List ℕ)) (i : ℕ) (name : List ℕ) → slice_get nets i ≡ Some name → HasNumber nets name
HasNumber-from [] i name at = absurd (cc)
HasNumber-from (x ∷ xs) zero name at = let same : x ≡ name = cc in HasNumber-head x xs name ((bytes_decides name x).1 (sym same))
HasNumber-from (x ∷ xs) (suc i) name at = by (pointwise nat_eq name x) refl (HasNumber-from xs i name at)
  where
    by : (b : Bool) → pointwise nat_eq name x ≡ b → HasNumber xs name → HasNumber (x ∷ xs) name
    by true e rest = HasNumber-head x xs name e
    by false e rest = HasNumber-cons x xs name e rest

-- a name whose number is one of the nets stands there
pub HasNumber-below : (nets : List (List ℕ)) (name : List ℕ) → net_number nets name < length nets → HasNumber nets name
HasNumber-below nets name low = by (number_cases (pointwise nat_eq name) nets)
  where
    by : ((list_any (pointwise nat_eq name) nets ≡ true) × (net_number nets name < length nets)) ⊎ ((list_any (pointwise nat_eq name) nets ≡ false) × (net_number nets name ≡ length nets)) → HasNumber nets name
    by (inl h) = rw h.0 at (slice_get-with_net nets name)
    by (inr h) = absurd (omega (arith, h.1, low))

-- it keeps its number in longer nets
pub net_number-append : (nets more : List (List ℕ)) (name : List ℕ) → HasNumber nets name → net_number (nets ++ more) name ≡ net_number nets name
net_number-append [] more name at = absurd (cc)
net_number-append (x ∷ xs) more name at = by (pointwise nat_eq name x) refl (net_number-append xs more name)
  where
    by : (b : Bool) → pointwise nat_eq name x ≡ b → (HasNumber xs name → net_number (xs ++ more) name ≡ net_number xs name)
        → net_number (x ∷ xs ++ more) name ≡ net_number (x ∷ xs) name
    by true e rest = net_number-first x (xs ++ more) name e ∙ sym (net_number-first x xs name e)
    by false e rest =
        net_number-later x (xs ++ more) name e ∙ ap suc (rest (HasNumber-tail x xs name e at)) ∙ sym (net_number-later x xs name e)

pub HasNumber-append : (nets more : List (List ℕ)) (name : List ℕ) → HasNumber nets name → HasNumber (nets ++ more) name
HasNumber-append nets more name at = HasNumber-from (nets ++ more) (net_number nets name) name (slice_get-append nets more (net_number nets name) name at)

-- a name that is new stands behind the others
pub net_number-new : (nets more : List (List ℕ)) (name : List ℕ) → list_any (pointwise nat_eq name) nets ≡ false → net_number (nets ++ name ∷ more) name ≡ length nets
net_number-new [] more name none = net_number-first name more name ((bytes_decides name name).1 refl)
net_number-new (x ∷ xs) more name none =
    let other = or_none (pointwise nat_eq name x) (list_any (pointwise nat_eq name) xs) none in
    net_number-later x (xs ++ name ∷ more) name other.0 ∙ ap suc (net_number-new xs more name other.1)

-- the number of a net is the same before and after it is added
pub net_number-with_net : (nets : List (List ℕ)) (name : List ℕ) → net_number (with_net nets name) name ≡ net_number nets name
net_number-with_net nets name = by (number_cases (pointwise nat_eq name) nets)
  where
    by : ((list_any (pointwise nat_eq name) nets ≡ true) × (net_number nets name < length nets)) ⊎ ((list_any (pointwise nat_eq name) nets ≡ false) × (net_number nets name ≡ length nets))
        → net_number (with_net nets name) name ≡ net_number nets name
    by (inl h) = rw h.0 refl
    by (inr h) = rw h.0 (net_number-new nets [] name h.0 ∙ sym h.1)

-- two names with one number are one
pub same_number : (nets : List (List ℕ)) (a b : List ℕ) → HasNumber nets a → HasNumber nets b → net_number nets a ≡ net_number nets b → a ≡ b
same_number nets a b at at' e = let same : Some a ≡ Some b = sym at ∙ ap (slice_get nets) e ∙ at' in cc

-- a name that does not stand among the first nets has a number behind them
pub net_number-behind : (nets more : List (List ℕ)) (name : List ℕ) → list_any (pointwise nat_eq name) nets ≡ false → length nets ≤ net_number (nets ++ more) name
net_number-behind [] more name none = omega arith
net_number-behind (x ∷ xs) more name none =
    let other = or_none (pointwise nat_eq name x) (list_any (pointwise nat_eq name) xs) none in
    omega (arith, net_number-later x (xs ++ more) name other.0, net_number-behind xs more name other.1)

-- the number that a net gets is its number in the end
pub net_number-kept : (old new : List (List ℕ)) (name : List ℕ) → Longer (with_net old name) new → (net_number old name ≡ net_number new name) × HasNumber new name
net_number-kept old new name (more, is) =
    let at : HasNumber (with_net old name) name = HasNumber-from (with_net old name) (net_number old name) name (slice_get-with_net old name) in (
      sym (ap (λ l. net_number l name) is ∙ net_number-append (with_net old name) more name at ∙ net_number-with_net old name),
      subst (λ l. HasNumber l name) (sym is) (HasNumber-append (with_net old name) more name at),
    )

-- a name is itself
pub same_name : (x : List ℕ) → pointwise nat_eq x x ≡ true
same_name x = (bytes_decides x x).1 refl

-- a name behind the first differs from the first
differs_from_first : (x : List ℕ) (xs : List (List ℕ)) (e : ℕ) → AllByRecursion (λ y. pointwise nat_eq x y ≡ false) xs → e < length xs
    → pointwise nat_eq (net_name xs e) x ≡ false
differs_from_first x [] e apart lt = absurd (omega arith)
differs_from_first x (y ∷ xs) zero apart lt = by (pointwise nat_eq y x) refl
  where
    by : (b : Bool) → pointwise nat_eq y x ≡ b → pointwise nat_eq y x ≡ false
    by false e = e
    by true e =
        let same : x ≡ y = sym ((bytes_decides y x).0 e) in
        let yes : pointwise nat_eq x y ≡ true = (bytes_decides x y).1 same in
        let never : true ≡ false = sym yes ∙ apart.0 in
        absurd (let none : ⊥ = cc in none)
differs_from_first x (y ∷ xs) (suc e) apart lt = differs_from_first x xs e apart.1 (omega arith)

-- where some of the first nets stand, the next one or an earlier one has its own number
pub net_number-take : (nets : List (List ℕ)) → IsDistinct (pointwise nat_eq) nets → (n e : ℕ) → e ≤ n → e < length nets
    → net_number (take n nets) (net_name nets e) ≡ e
unfolding IsDistinct
net_number-take [] d n e le lt = absurd (omega arith)
net_number-take (x ∷ xs) d zero zero le lt = refl
net_number-take (x ∷ xs) d zero (suc e) le lt = absurd (omega arith)
net_number-take (x ∷ xs) d (suc n) zero le lt = rw (same_name x) refl
net_number-take (x ∷ xs) d (suc n) (suc e) le lt =
    let rest = net_number-take xs d.1 n e (omega arith) (omega arith) in
    rw (differs_from_first x xs e d.0 (omega arith)) (omega (arith, rest))

-- and it is added where it is the next one
pub with_net-take : (nets : List (List ℕ)) → IsDistinct (pointwise nat_eq) nets → (n e : ℕ) → e ≤ n → e < length nets
    → with_net (take n nets) (net_name nets e) ≡ take (max n (e + 1)) nets
unfolding IsDistinct
with_net-take [] d n e le lt = absurd (omega arith)
with_net-take (x ∷ xs) d zero zero le lt = refl
with_net-take (x ∷ xs) d zero (suc e) le lt = absurd (omega arith)
with_net-take (x ∷ xs) d (suc n) zero le lt =
    let next : max (suc n) (0 + 1) ≡ suc n = omega arith in
    rw (same_name x) (ap (λ (m : ℕ). take m (x ∷ xs)) (sym next))
with_net-take (x ∷ xs) d (suc n) (suc e) le lt =
    let next : max (suc n) (suc e + 1) ≡ suc (max n (e + 1)) = omega arith in
    let rest = with_net-take xs d.1 n e (omega arith) (omega arith) in
    rw (differs_from_first x xs e d.0 (omega arith))
    (behind (list_any (pointwise nat_eq (net_name xs e)) (take n xs)) ∙ ap (λ l. x ∷ l) rest ∙ ap (λ (m : ℕ). take m (x ∷ xs)) (sym next))
  where
    behind : (b : Bool) → (if b then x ∷ take n xs else (x ∷ take n xs) ++ net_name xs e ∷ []) ≡ x ∷ (if b then take n xs else take n xs ++ net_name xs e ∷ [])
    behind true = refl
    behind false = refl

-- the first of some names that differ
pub IsDistinct-take : (n : ℕ) (nets : List (List ℕ)) → IsDistinct (pointwise nat_eq) nets → IsDistinct (pointwise nat_eq) (take n nets)
unfolding IsDistinct
IsDistinct-take zero nets d = tt
IsDistinct-take (suc n) [] d = tt
IsDistinct-take (suc n) (x ∷ nets) d = (AllByRecursion-take (λ y. pointwise nat_eq x y ≡ false) n nets d.0, IsDistinct-take n nets d.1)

-- names that differ stand in order once they are added
pub with_all-distinct : (lead pins outs : List (List ℕ)) → IsDistinct (pointwise nat_eq) (lead ++ pins ++ outs) → with_all (with_all (with_all [] lead) pins) outs ≡ lead ++ pins ++ outs
with_all-distinct lead pins outs apart =
    ap (λ nets. with_all nets outs) (sym (fold-append with_net [] lead pins)) ∙ sym (fold-append with_net [] (lead ++ pins) outs) ∙ set_all_distinct names_equal [] (lead ++ pins ++ outs) apart

with_all-suc : (nets names : List (List ℕ)) (i : ℕ) (name : List ℕ) → slice_get names i ≡ Some name
    → with_all nets (take (suc i) names) ≡ with_net (with_all nets (take i names)) name
with_all-suc nets [] i name at = absurd (cc)
with_all-suc nets (x ∷ xs) zero name at = let same : x ≡ name = cc in ap (with_net nets) same
with_all-suc nets (x ∷ xs) (suc i) name at = with_all-suc (with_net nets x) xs i name at

-- one more name, as a loop adds it
pub with_all-more : (nets names : List (List ℕ)) (i : ℕ) (name : List ℕ) → slice_get names i ≡ Some name
    → with_all nets (take (i + 1) names) ≡ with_net (with_all nets (take i names)) name
with_all-more nets names i name at =
    let next : i + 1 ≡ suc i = omega arith in
    ap (λ (n : ℕ). with_all nets (take n names)) next ∙ with_all-suc nets names i name at
