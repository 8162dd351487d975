-- Sums over the pairs of nodes, where one term changes, and how often pairs stand in lists.
use Rattle.std.proofs.Common.{◌≡◌, ◌⊎◌, inl, inr, refl, sym, ap, subst, ◌∙◌, ℕ, zero, suc, ◌+◌, ◌*◌, ◌≤◌, ◌<◌, ◌^◌, ◌==◌, Bool, true, false, List, [], ◌∷◌, ◌++◌, length, take, drop, get_or, arith, eqb-true, eq-eqb, add-one}
use Rattle.std.proofs.Math.Seq.{drop-cons}
use Rattle.std.proofs.lemmas.Bool.{cases_eq}
use Rattle.std.proofs.lemmas.List.{drop-append-le, get_or_default, take-append-le}
use Rattle.dom_base.proofs.Bools.{and_both}
use Rattle.dual_rail.specs.SignedValues.{same_sign}
use Rattle.phase_assign.specs.Uses.{AreBelow, is_pair, is_some_use, one_if, times, total}
use Rattle.dual_rail.specs.declared.signed.SignedNode.{SignedNode}

-- a sum in which all terms are alike from some node on
pub total_beyond : (f g : ℕ → Bool → ℕ) (k : ℕ) → ((m : ℕ) (t : Bool) → k < m → f m t ≡ g m t) → (a n : ℕ) → k < a → total f a n ≡ total g a n
total_beyond f g k same a zero lt = refl
total_beyond f g k same a (suc n) lt =
    let x = same a true lt in
    let y = same a false lt in
    let r = total_beyond f g k same (a + 1) n (omega arith) in
    omega arith

-- a sum in which one term differs
pub total_changed : (f g : ℕ → Bool → ℕ) (k : ℕ) (u : Bool) → ((m : ℕ) (t : Bool) → (m ≡ k → t ≡ u → ⊥) → f m t ≡ g m t) → (a n : ℕ) → a ≤ k → k < a + n
    → total f a n + g k u ≡ total g a n + f k u
total_changed f g k u same a zero le lt = absurd (omega arith)
total_changed f g k u same a (suc n) le lt = by (cases_eq a k) (λ low high. total_changed f g k u same (a + 1) n low high)
  where
    here : (u : Bool) → ((m : ℕ) (t : Bool) → (m ≡ k → t ≡ u → ⊥) → f m t ≡ g m t) → total f (k + 1) n ≡ total g (k + 1) n
        → f k true + f k false + total f (k + 1) n + g k u ≡ g k true + g k false + total g (k + 1) n + f k u
    here true same r = let x = same k false (λ e d. cc) in omega arith
    here false same r = let x = same k true (λ e d. cc) in omega arith

    by : (a ≡ k) ⊎ (a ≡ k → ⊥) → (a + 1 ≤ k → k < a + 1 + n → total f (a + 1) n + g k u ≡ total g (a + 1) n + f k u)
        → f a true + f a false + total f (a + 1) n + g k u ≡ g a true + g a false + total g (a + 1) n + f k u
    by (inl e) more =
        subst (λ i. f i true + f i false + total f (i + 1) n + g k u ≡ g i true + g i false + total g (i + 1) n + f k u) (sym e)
        (here u same (total_beyond f g k (λ m t low. same m t (λ d c. absurd (omega arith))) (k + 1) n (omega arith)))
    by (inr ne) more =
        let x = same a true (λ e d. ne e) in
        let y = same a false (λ e d. ne e) in
        let r = more (omega arith) (omega arith) in
        omega arith

-- a sum of larger terms
pub total_le : (f g : ℕ → Bool → ℕ) → ((m : ℕ) (t : Bool) → f m t ≤ g m t) → (a n : ℕ) → total f a n ≤ total g a n
total_le f g le a zero = omega arith
total_le f g le a (suc n) =
    let x = le a true in
    let y = le a false in
    let r = total_le f g le (a + 1) n in
    omega arith

-- and one of small terms
pub total_few : (f : ℕ → Bool → ℕ) (b : ℕ) → ((m : ℕ) (t : Bool) → f m t ≤ b) → (a n : ℕ) → total f a n ≤ n * (b + b)
total_few f b le a zero = omega arith
total_few f b le a (suc n) =
    let x = le a true in
    let y = le a false in
    let r = total_few f b le (a + 1) n in
    omega arith

-- a term is within the sum
pub total_at : (f : ℕ → Bool → ℕ) (k : ℕ) (u : Bool) (a n : ℕ) → a ≤ k → k < a + n → f k u ≤ total f a n
total_at f k u a zero le lt = absurd (omega arith)
total_at f k u a (suc n) le lt = by (cases_eq a k) (λ low high. total_at f k u (a + 1) n low high)
  where
    here : (u : Bool) → f a u ≤ f a true + f a false + total f (a + 1) n
    here true = omega arith
    here false = omega arith

    by : (a ≡ k) ⊎ (a ≡ k → ⊥) → (a + 1 ≤ k → k < a + 1 + n → f k u ≤ total f (a + 1) n) → f k u ≤ f a true + f a false + total f (a + 1) n
    by (inl e) more = subst (λ i. f i u ≤ f a true + f a false + total f (a + 1) n) e (here u)
    by (inr ne) more = let r = more (omega arith) (omega arith) in omega arith

-- a sum above zero has a term above zero
pub total_some : (f : ℕ → Bool → ℕ) (a n : ℕ) → 0 < total f a n → (k : ℕ) × (u : Bool) × (k < a + n) × (0 < f k u)
total_some f a zero lt = absurd (omega arith)
total_some f a (suc n) lt = by (f a true) (f a false) refl refl (λ some. total_some f (a + 1) n some)
  where
    by : (x y : ℕ) → f a true ≡ x → f a false ≡ y → (0 < total f (a + 1) n → (k : ℕ) × (u : Bool) × (k < a + 1 + n) × (0 < f k u)) → (k : ℕ) × (u : Bool) × (k < a + suc n) × (0 < f k u)
    by (suc x) y e d more = (a, true, omega arith, omega arith)
    by zero (suc y) e d more = (a, false, omega arith, omega arith)
    by zero zero e d more = let r = more (omega arith) in (r.0, r.1, omega (arith, r.2), r.3)

-- counts above zero
pub some_true : (n : ℕ) → 0 < n → is_some_use n ≡ true
some_true zero lt = absurd (omega arith)
some_true (suc n) lt = refl

pub true_some : (n : ℕ) → is_some_use n ≡ true → 0 < n
true_some zero e = absurd (cc)
true_some (suc n) e = omega arith

pub none_false : (n : ℕ) → n ≡ 0 → is_some_use n ≡ false
none_false n e = ap is_some_use e

-- a pair is itself, and no other
same_sign-self : (a : Bool) → same_sign a a ≡ true
same_sign-self true = refl
same_sign-self false = refl

same_sign-is : (a b : Bool) → same_sign a b ≡ true → a ≡ b
same_sign-is true true e = refl
same_sign-is true false e = absurd (cc)
same_sign-is false true e = absurd (cc)
same_sign-is false false e = refl

pub pair_self : (p : SignedNode) → is_pair p.node p.plus p ≡ true
pair_self p = rw (eq-eqb p.node p.node refl, same_sign-self p.plus) refl

pub pair_is : (n : ℕ) (s : Bool) (p : SignedNode) → is_pair n s p ≡ true → (p.node ≡ n) × (p.plus ≡ s)
pair_is n s p e = let q = and_both (p.node == n) (same_sign p.plus s) e in (eqb-true p.node n q.0, same_sign-is p.plus s q.1)

-- how often a pair stands in lists
pub times-append : (n : ℕ) (s : Bool) (xs ys : List SignedNode) → times n s (xs ++ ys) ≡ times n s xs + times n s ys
times-append n s [] ys = omega arith
times-append n s (x ∷ xs) ys = let r = times-append n s xs ys in omega arith

pub times-le : (n : ℕ) (s : Bool) (xs : List SignedNode) → times n s xs ≤ length xs
times-le n s [] = omega arith
times-le n s (x ∷ xs) = let r = times-le n s xs in let o = one (is_pair n s x) in omega arith
  where
    one : (b : Bool) → one_if b ≤ 1
    one true = omega arith
    one false = omega arith

pub times_below : (n m : ℕ) (s : Bool) (xs : List SignedNode) → AreBelow n xs → 0 < times m s xs → m < n
times_below n m s [] all lt = absurd (omega arith)
times_below n m s (x ∷ xs) all lt = by (is_pair m s x) refl (λ some. times_below n m s xs all.1 some)
  where
    by : (b : Bool) → is_pair m s x ≡ b → (0 < times m s xs → m < n) → m < n
    by true e more = let is = (pair_is m s x e).0 in let here = all.0 in omega arith
    by false e more = more (let none : one_if (is_pair m s x) ≡ 0 = ap one_if e in omega arith)

pub below_at : (n : ℕ) (xs : List SignedNode) (i : ℕ) (d : SignedNode) → AreBelow n xs → i < length xs → (get_or xs i d).node < n
below_at n [] i d all lt = absurd (omega arith)
below_at n (x ∷ xs) zero d all lt = all.0
below_at n (x ∷ xs) (suc i) d all lt = below_at n xs i d all.1 (omega arith)

pub below_item : (n : ℕ) (xs : List SignedNode) (i : ℕ) (x : SignedNode) → AreBelow n xs → i < length xs → x ≡ get_or xs i x → x.node < n
below_item n xs i x all lt e = subst (λ (y : SignedNode). y.node < n) (sym e) (below_at n xs i x all lt)

pub below_more : (m n : ℕ) (xs : List SignedNode) → m ≤ n → AreBelow m xs → AreBelow n xs
below_more m n [] le all = tt
below_more m n (x ∷ xs) le all = (let here = all.0 in omega arith, below_more m n xs le all.1)

-- the next item of a queue
pub queue_next : (xs : List SignedNode) (i : ℕ) (x : SignedNode) → i < length xs → x ≡ get_or xs i x → drop i xs ≡ x ∷ drop (i + 1) xs
queue_next xs i x lt e = rw (add-one, drop-cons xs i x) (ap (λ y. y ∷ drop (suc i) xs) (sym e))

pub queue_pushed : (xs new more : List SignedNode) (i : ℕ) → i < length xs → new ≡ xs ++ more → drop (i + 1) new ≡ drop (i + 1) xs ++ more
queue_pushed xs new more i lt e = ap (drop (i + 1)) e ∙ drop-append-le (i + 1) xs more (omega arith)

pub times_next : (n : ℕ) (s : Bool) (xs : List SignedNode) (i : ℕ) (x : SignedNode) → i < length xs → x ≡ get_or xs i x → times n s (take (i + 1) xs) ≡ times n s (take i xs) + one_if (is_pair n s x)
times_next n s xs i x lt e = rw (add-one) (step xs i lt ∙ ap (λ y. times n s (take i xs) + one_if (is_pair n s y)) (sym e))
  where
    step : (xs : List SignedNode) (i : ℕ) → i < length xs → times n s (take (suc i) xs) ≡ times n s (take i xs) + one_if (is_pair n s (get_or xs i x))
    step [] i lt = absurd (omega arith)
    step (y ∷ xs) zero lt = omega arith
    step (y ∷ xs) (suc i) lt = let r = step xs i (omega arith) in omega arith

pub times_pushed : (n : ℕ) (s : Bool) (xs new more : List SignedNode) (i : ℕ) (x : SignedNode) → i < length xs → x ≡ get_or xs i x → new ≡ xs ++ more
    → times n s (take (i + 1) new) ≡ times n s (take i xs) + one_if (is_pair n s x)
times_pushed n s xs new more i x lt e f = ap (λ ys. times n s (take (i + 1) ys)) f ∙ ap (times n s) (take-append-le (i + 1) xs more (omega arith)) ∙ times_next n s xs i x lt e

pub times_within : (n : ℕ) (s : Bool) (xs : List SignedNode) (i : ℕ) → times n s (take i xs) ≤ times n s xs
times_within n s [] zero = omega arith
times_within n s [] (suc i) = omega arith
times_within n s (x ∷ xs) zero = omega arith
times_within n s (x ∷ xs) (suc i) = let r = times_within n s xs i in omega arith

pub below_append : (n : ℕ) (xs ys : List SignedNode) → AreBelow n xs → AreBelow n ys → AreBelow n (xs ++ ys)
below_append n [] ys a b = b
below_append n (x ∷ xs) ys a b = (a.0, below_append n xs ys a.1 b)

pub below_left : (n : ℕ) (xs ys : List SignedNode) → AreBelow n (xs ++ ys) → AreBelow n xs
below_left n [] ys all = tt
below_left n (x ∷ xs) ys all = (all.0, below_left n xs ys all.1)

pub below_right : (n : ℕ) (xs ys : List SignedNode) → AreBelow n (xs ++ ys) → AreBelow n ys
below_right n [] ys all = all
below_right n (x ∷ xs) ys all = below_right n xs ys all.1

-- uses that are taken away or added one after another
pub item_next : (xs : List SignedNode) (i : ℕ) (d : SignedNode) → i < length xs → (n : ℕ) (s : Bool) → times n s (take (i + 1) xs) ≡ times n s (take i xs) + one_if (is_pair n s (get_or xs i d))
item_next xs i d lt n s = times_next n s xs i (get_or xs i d) lt (get_or_default xs i d (get_or xs i d) lt)

own_next : (xs : List SignedNode) (i : ℕ) (d : SignedNode) → i < length xs → times (get_or xs i d).node (get_or xs i d).plus (take i xs) + 1 ≤ times (get_or xs i d).node (get_or xs i d).plus xs
own_next xs i d lt =
    let p : SignedNode = get_or xs i d in
    let next : times p.node p.plus (take (i + 1) xs) ≡ times p.node p.plus (take i xs) + one_if (is_pair p.node p.plus p) = item_next xs i d lt p.node p.plus in
    let one : one_if (is_pair p.node p.plus p) ≡ 1 = ap one_if (pair_self p) in
    let low : times p.node p.plus (take (i + 1) xs) ≤ times p.node p.plus xs = times_within p.node p.plus xs (i + 1) in
    omega arith

pub at_first : (xs : List SignedNode) (i : ℕ) (d : SignedNode) → i < length xs → (now old : ℕ → Bool → ℕ) → ((n : ℕ) (s : Bool) → now n s + times n s (take i xs) ≡ old n s) → ((n : ℕ) (s : Bool) → times n s xs ≤ old n s)
    → 0 < now (get_or xs i d).node (get_or xs i d).plus
at_first xs i d lt now old so_far some =
    let p : SignedNode = get_or xs i d in
    let own : times p.node p.plus (take i xs) + 1 ≤ times p.node p.plus xs = own_next xs i d lt in
    let a : now p.node p.plus + times p.node p.plus (take i xs) ≡ old p.node p.plus = so_far p.node p.plus in
    let b : times p.node p.plus xs ≤ old p.node p.plus = some p.node p.plus in
    omega arith

pub item_taken : (xs : List SignedNode) (i : ℕ) (d : SignedNode) → i < length xs → (n : ℕ) (s : Bool) (now old new : ℕ) → now + times n s (take i xs) ≡ old → new + one_if (is_pair n s (get_or xs i d)) ≡ now
    → new + times n s (take (i + 1) xs) ≡ old
item_taken xs i d lt n s now old new so_far step = let next = item_next xs i d lt n s in omega arith

pub room_left : (xs : List SignedNode) (i : ℕ) (d : SignedNode) → i < length xs → (now old : ℕ → Bool → ℕ) → ((n : ℕ) (s : Bool) → now n s ≡ old n s + times n s (take i xs)) → ((n : ℕ) (s : Bool) → old n s + times n s xs < 2 ^ 32)
    → now (get_or xs i d).node (get_or xs i d).plus + 1 < 2 ^ 32
room_left xs i d lt now old so_far room =
    let p : SignedNode = get_or xs i d in
    let own : times p.node p.plus (take i xs) + 1 ≤ times p.node p.plus xs = own_next xs i d lt in
    let a : now p.node p.plus ≡ old p.node p.plus + times p.node p.plus (take i xs) = so_far p.node p.plus in
    let b : old p.node p.plus + times p.node p.plus xs < 2 ^ 32 = room p.node p.plus in
    omega arith

pub item_added : (xs : List SignedNode) (i : ℕ) (d : SignedNode) → i < length xs → (n : ℕ) (s : Bool) (now old new : ℕ) → now ≡ old + times n s (take i xs) → new ≡ now + one_if (is_pair n s (get_or xs i d))
    → new ≡ old + times n s (take (i + 1) xs)
item_added xs i d lt n s now old new so_far step = let next = item_next xs i d lt n s in omega arith
