-- Lists by their last entries.
use Rattle.std.proofs.Common.{◌≡◌, ◌≢◌, ℕ, zero, suc, ◌+◌, ◌<◌, ◌≤◌, All, List, [], ◌∷◌, ◌++◌, length, nat_eq, replicate, reverse, set, get_or, true, false, refl, sym, ap, subst, ◌∙◌, arith}
use Rattle.std.proofs.lemmas.List.{append_assoc, get_or-map, get_or_append_left, get_or_push, length-map, length_push, map-set, reverse-append}
use Rattle.std.proofs.lemmas.Bool.{eq-eqb, eqb-true}
use Rattle.std.proofs.lemmas.List.Elements.{Contains-push}
use Rattle.std.specs.Prelude.{Contains}
use Rattle.switch_model.specs.ComponentLists.{list_at, with_number}
use Rattle.switch_model.specs.Chains.{AreBackward, chain, chains, entry_at}
use Rattle.switch_model.specs.declared.lists.Entry.{Entry}

-- more may be told than there are
pub chain-most : (entries : List Entry) → AreBackward entries → (n m end : ℕ) → end ≤ n → end ≤ m → chain entries n end ≡ chain entries m end
chain-most entries back zero zero end le le' = refl
chain-most entries back zero (suc m) zero le le' = refl
chain-most entries back zero (suc m) (suc k) le le' = absurd (omega (arith, le))
chain-most entries back (suc n) zero zero le le' = refl
chain-most entries back (suc n) zero (suc k) le le' = absurd (omega (arith, le'))
chain-most entries back (suc n) (suc m) zero le le' = refl
chain-most entries back (suc n) (suc m) (suc k) le le' =
    ap (λ l. l ++ (entry_at entries k).number ∷ [])
    (chain-most entries back n m (entry_at entries k).before (omega (arith, back k, le)) (omega (arith, back k, le')))

module _ (entries : List Entry) (back : AreBackward entries) (number before : ℕ) (le : before ≤ length entries) where
  abbrev entry : Entry
  entry = record { number = number; before = before }

  old : (k : ℕ) → k < length entries → entry_at (entries ++ entry ∷ []) k ≡ entry_at entries k
  old k lt = get_or_append_left entries (entry ∷ []) (record { number = 0; before = 0 }) k lt

  new : entry_at (entries ++ entry ∷ []) (length entries) ≡ entry
  new = get_or_push entries entry (record { number = 0; before = 0 }) (length entries) refl

  -- the lists that were there stay
  pub chain-push : (n end : ℕ) → end ≤ length entries → chain (entries ++ entry ∷ []) n end ≡ chain entries n end
  chain-push zero end within = refl
  chain-push (suc n) zero within = refl
  chain-push (suc n) (suc k) within =
      let e = old k (omega (arith, within)) in
      ap (λ (d : Entry). chain (entries ++ entry ∷ []) n d.before ++ d.number ∷ []) e
      ∙ ap (λ l. l ++ (entry_at entries k).number ∷ []) (chain-push n (entry_at entries k).before (omega (arith, back k, within)))

  -- the list of the new entry
  chain-new : chain (entries ++ entry ∷ []) (length entries + 1) (length entries + 1) ≡ chain entries before before ++ number ∷ []
  chain-new =
      ap (λ n. chain (entries ++ entry ∷ []) n n) {x = length entries + 1} {y = suc (length entries)} (omega arith)
      ∙ ap (λ (d : Entry). chain (entries ++ entry ∷ []) (length entries) d.before ++ d.number ∷ []) new
      ∙ ap (λ l. l ++ number ∷ []) (chain-push (length entries) before le ∙ chain-most entries back (length entries) before before le (omega arith))

  chains-push : (ends : List ℕ) → All (λ end. end ≤ length entries) ends → chains (entries ++ entry ∷ []) ends ≡ chains entries ends
  chains-push [] within = refl
  chains-push (end ∷ ends) within =
      ap (λ l. l ∷ chains (entries ++ entry ∷ []) ends) (chain-push end end (within 0 0 (omega arith)))
      ∙ ap (λ ls. chain entries end end ∷ ls) (chains-push ends (λ k d lt. within (suc k) d (omega (arith, lt))))

  pub chains-add : (ends : List ℕ) (list : ℕ) → list < length ends → All (λ end. end ≤ length entries) ends → before ≡ get_or ends list 0
      → chains (entries ++ entry ∷ []) (set ends list (length entries + 1)) ≡ with_number (chains entries ends) list number
  chains-add ends list lt within is =
      map-set (λ end. chain (entries ++ entry ∷ []) end end) ends list (length entries + 1)
      ∙ ap (λ ls. set ls list (chain (entries ++ entry ∷ []) (length entries + 1) (length entries + 1))) (chains-push ends within)
      ∙ ap (set (chains entries ends) list)
      (chain-new ∙ ap (λ l. l ++ number ∷ []) (ap (λ n. chain entries n n) is ∙ sym (get_or-map (λ end. chain entries end end) ends list 0 [] lt)))

-- a list by its last entry
pub chain-last : (entries : List Entry) → AreBackward entries → (k : ℕ)
    → chain entries (k + 1) (k + 1) ≡ chain entries (entry_at entries k).before (entry_at entries k).before ++ (entry_at entries k).number ∷ []
chain-last entries back k =
    ap (λ n. chain entries n n) {x = k + 1} {y = suc k} (omega arith)
    ∙ ap (λ l. l ++ (entry_at entries k).number ∷ []) (chain-most entries back k (entry_at entries k).before (entry_at entries k).before (back k) (omega arith))

-- the last entry goes over to the numbers that are told
pub chain-back : (entries : List Entry) → AreBackward entries → (k : ℕ) (numbers : List ℕ)
    → (numbers ++ (entry_at entries k).number ∷ []) ++ reverse (chain entries (entry_at entries k).before (entry_at entries k).before)
    ≡ numbers ++ reverse (chain entries (k + 1) (k + 1))
chain-back entries back k numbers =
    append_assoc numbers ((entry_at entries k).number ∷ []) _
    ∙ ap (λ l. numbers ++ l) (sym (ap reverse (chain-last entries back k)
    ∙ reverse-append (chain entries (entry_at entries k).before (entry_at entries k).before) ((entry_at entries k).number ∷ [])))

pub chains-none : (entries : List Entry) (count : ℕ) → chains entries (replicate count 0) ≡ replicate count []
chains-none entries zero = refl
chains-none entries (suc count) = ap (λ ls. [] ∷ ls) (chains-none entries count)

-- a list by where it ends
pub chains-at : (entries : List Entry) (ends : List ℕ) (list : ℕ) → list < length ends → list_at (chains entries ends) list ≡ chain entries (get_or ends list 0) (get_or ends list 0)
chains-at entries ends list lt = get_or-map (λ end. chain entries end end) ends list 0 [] lt

pub below-ends : (entries : List Entry) (ends : List ℕ) (list : ℕ) → list < length (chains entries ends) → list < length ends
below-ends entries ends list lt = omega (arith, lt, length-map ends (λ end. chain entries end end))

-- what comes at the end is the last
pub last-there : (xs : List ℕ) (n number : ℕ) → nat_eq n number ≡ true → Contains (xs ++ n ∷ []) number
last-there xs n number e = subst (Contains (xs ++ n ∷ [])) (eqb-true n number e) (Contains-push xs n)

pub last-other : (xs : List ℕ) (n number : ℕ) → nat_eq n number ≡ false → (k : ℕ) → k + 1 ≡ length (xs ++ n ∷ []) → get_or (xs ++ n ∷ []) k 0 ≢ number
last-other xs n number ne k long e = clash (sym ne ∙ eq-eqb n number (sym (get_or_push xs n 0 k (omega (arith, long, length_push xs n))) ∙ e))
  where
    clash : false ≡ true → ⊥
    clash h = cc
