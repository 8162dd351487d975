-- Facts of each element of a list, by recursion; fronts that pass a test; reverses; elements by index; lists that are apart.
use Rattle.std.proofs.Common.{◌≡◌, ℕ, zero, suc, Bool, true, false, List, [], ◌∷◌, ◌++◌, map, filter, take, drop, refl, ap, arith, ◌≢◌, ◌<◌, ◌+◌, cond, not, ◌==◌, length, get_or, reverse, All, Option, None, eqb-true, sym, ap₂, ◌∙◌, subst, append_assoc, set, ◌⊎◌, inl, inr}
use Rattle.std.specs.Prelude.{◌&&◌, ◌||◌, Contains, Some, replicate, slice_get, slice_index_or}
use Rattle.std.specs.List.{AllByRecursion, flat_map, list_all, list_any, prefix_len, take_while, before_first, cons_option, filter_map, IsDistinct, AllZip, enumerate_from}
use Rattle.std.proofs.lemmas.List.Elements.{recursion_from_All, All-contains, All-from_recursion, Contains-append_left, Contains-append_right, All-head, All-tail}
use Rattle.std.specs.Option.{option_to_list}
use Rattle.std.proofs.lemmas.List.{reverse-append}
use Rattle.std.proofs.lemmas.Option.{slice_get-get_or, same_Some}
use Rattle.dom_base.specs.Apart.{AreApart}
use Rattle.dom_base.proofs.Bools.{false_from_not}

pub AllByRecursion-append : {X : Type 0} (P : X → Type 0) (xs ys : List X) → AllByRecursion P xs → AllByRecursion P ys → AllByRecursion P (xs ++ ys)
AllByRecursion-append P [] ys h k = k
AllByRecursion-append P (x ∷ xs) ys h k = (h.0, AllByRecursion-append P xs ys h.1 k)

pub AllByRecursion-left : {X : Type 0} (P : X → Type 0) (xs ys : List X) → AllByRecursion P (xs ++ ys) → AllByRecursion P xs
AllByRecursion-left P [] ys h = tt
AllByRecursion-left P (x ∷ xs) ys h = (h.0, AllByRecursion-left P xs ys h.1)

pub AllByRecursion-right : {X : Type 0} (P : X → Type 0) (xs ys : List X) → AllByRecursion P (xs ++ ys) → AllByRecursion P ys
AllByRecursion-right P [] ys h = h
AllByRecursion-right P (x ∷ xs) ys h = AllByRecursion-right P xs ys h.1

-- lists that are joined to one
pub AllByRecursion-groups : {X : Type 0} (P : X → Type 0) (groups : List (List X)) → AllByRecursion P (flat_map (λ group. group) groups) → AllByRecursion (AllByRecursion P) groups
AllByRecursion-groups P [] h = tt
AllByRecursion-groups P (group ∷ groups) h =
    (AllByRecursion-left P group (flat_map (λ g. g) groups) h, AllByRecursion-groups P groups (AllByRecursion-right P group (flat_map (λ g. g) groups) h))

-- what holds of each element at its place
pub AllByRecursion-from_places : {X : Type 0} (P : X → Type 0) (xs : List X) → ((i : ℕ) (x : X) → slice_get xs i ≡ Some x → P x) → AllByRecursion P xs
AllByRecursion-from_places P [] h = tt
AllByRecursion-from_places P (x ∷ xs) h = (h 0 x refl, AllByRecursion-from_places P xs (λ i. h (suc i)))

-- a fact of every value
pub AllByRecursion-every : {X : Type 0} (P : X → Type 0) → ((x : X) → P x) → (xs : List X) → AllByRecursion P xs
AllByRecursion-every P h [] = tt
AllByRecursion-every P h (x ∷ xs) = (h x, AllByRecursion-every P h xs)

pub AllByRecursion-map : {X Y : Type 0} (P : Y → Type 0) (f : X → Y) (xs : List X) → AllByRecursion (λ x. P (f x)) xs → AllByRecursion P (map f xs)
AllByRecursion-map P f [] h = tt
AllByRecursion-map P f (x ∷ xs) h = (h.0, AllByRecursion-map P f xs h.1)

pub AllByRecursion-take : {X : Type 0} (P : X → Type 0) (n : ℕ) (xs : List X) → AllByRecursion P xs → AllByRecursion P (take n xs)
AllByRecursion-take P zero xs h = tt
AllByRecursion-take P (suc n) [] h = tt
AllByRecursion-take P (suc n) (x ∷ xs) h = (h.0, AllByRecursion-take P n xs h.1)

pub AllByRecursion-drop : {X : Type 0} (P : X → Type 0) (n : ℕ) (xs : List X) → AllByRecursion P xs → AllByRecursion P (drop n xs)
AllByRecursion-drop P zero xs h = h
AllByRecursion-drop P (suc n) [] h = tt
AllByRecursion-drop P (suc n) (x ∷ xs) h = AllByRecursion-drop P n xs h.1

-- what a filter keeps passes its test
pub AllByRecursion-filter : {X : Type 0} (P : X → Type 0) (test : X → Bool) (xs : List X) → AllByRecursion P xs → AllByRecursion (λ x. (test x ≡ true) × P x) (filter test xs)
AllByRecursion-filter P test [] h = tt
AllByRecursion-filter P test (x ∷ xs) h = by (test x) refl (AllByRecursion-filter P test xs h.1)
  where
    by : (t : Bool) → test x ≡ t → AllByRecursion (λ y. (test y ≡ true) × P y) (filter test xs) → AllByRecursion (λ y. (test y ≡ true) × P y) (filter test (x ∷ xs))
    by true e rest = rw e ((e, h.0), rest)
    by false e rest = rw e rest

pub AllByRecursion-weaker : {X : Type 0} (P Q : X → Type 0) → ((x : X) → P x → Q x) → (xs : List X) → AllByRecursion P xs → AllByRecursion Q xs
AllByRecursion-weaker P Q f [] h = tt
AllByRecursion-weaker P Q f (x ∷ xs) h = (f x h.0, AllByRecursion-weaker P Q f xs h.1)

pub AllByRecursion-both : {X : Type 0} (P Q : X → Type 0) (xs : List X) → AllByRecursion P xs → AllByRecursion Q xs → AllByRecursion (λ x. P x × Q x) xs
AllByRecursion-both P Q [] h k = tt
AllByRecursion-both P Q (x ∷ xs) h k = ((h.0, k.0), AllByRecursion-both P Q xs h.1 k.1)

-- where each element passes the test, all are kept
pub filter_all : {X : Type 0} (test : X → Bool) (xs : List X) → AllByRecursion (λ x. test x ≡ true) xs → filter test xs ≡ xs
filter_all test [] h = refl
filter_all test (x ∷ xs) h = rw h.0 (ap (λ l. x ∷ l) (filter_all test xs h.1))

pub AllByRecursion-contains : {X : Type 0} (P : X → Type 0) (xs : List X) (x : X) → AllByRecursion P xs → Contains xs x → P x
AllByRecursion-contains P xs x h c = All-contains P xs x (All-from_recursion P xs h) c

pub Contains-first : {X : Type 0} (x : X) (xs : List X) → Contains (x ∷ xs) x
Contains-first x xs = Contains-append_left (x ∷ []) xs x (0, omega arith, refl)

pub Contains-later : {X : Type 0} (x : X) (xs : List X) (y : X) → Contains xs y → Contains (x ∷ xs) y
Contains-later x xs y h = Contains-append_right (x ∷ []) xs y h

pub Contains-slice_get : {X : Type 0} (xs : List X) (i : ℕ) (x : X) → slice_get xs i ≡ Some x → Contains xs x
Contains-slice_get [] i x e = absurd (cc)
Contains-slice_get (y ∷ ys) zero x e = let z : y ≡ x = cc in rw (← z) (Contains-first y ys)
Contains-slice_get (y ∷ ys) (suc i) x e = Contains-later y ys x (Contains-slice_get ys i x e)

pub list_all-map : {X Y : Type 0} (p : Y → Bool) (f : X → Y) (xs : List X) → list_all p (map f xs) ≡ list_all (λ x. p (f x)) xs
list_all-map p f [] = refl
list_all-map p f (x ∷ xs) = ap (λ b. p (f x) && b) (list_all-map p f xs)

pub list_any-map : {X Y : Type 0} (p : Y → Bool) (f : X → Y) (xs : List X) → list_any p (map f xs) ≡ list_any (λ x. p (f x)) xs
list_any-map p f [] = refl
list_any-map p f (x ∷ xs) = ap (λ b. p (f x) || b) (list_any-map p f xs)

-- what a filter keeps has what all have
pub AllByRecursion-kept : {X : Type 0} (P : X → Type 0) (test : X → Bool) (xs : List X) → AllByRecursion P xs → AllByRecursion P (filter test xs)
AllByRecursion-kept P test xs h = AllByRecursion-weaker (λ x. (test x ≡ true) × P x) P (λ x both. both.1) (filter test xs) (AllByRecursion-filter P test xs h)

-- the converse of `AllByRecursion-map`
pub AllByRecursion-unmap : {X Y : Type 0} (P : Y → Type 0) (f : X → Y) (xs : List X) → AllByRecursion P (map f xs) → AllByRecursion (λ x. P (f x)) xs
AllByRecursion-unmap P f [] h = tt
AllByRecursion-unmap P f (x ∷ xs) h = (h.0, AllByRecursion-unmap P f xs h.1)

pub AllByRecursion-reverse : {X : Type 0} (P : X → Type 0) (xs : List X) → AllByRecursion P xs → AllByRecursion P (reverse xs)
AllByRecursion-reverse P [] h = tt
AllByRecursion-reverse P (x ∷ xs) h =
    subst (AllByRecursion P) (sym (reverse-append (x ∷ []) xs)) (AllByRecursion-append P (reverse xs) (x ∷ []) (AllByRecursion-reverse P xs h.1) (h.0, tt))

-- what a test says of each element
pub AllByRecursion-from_test : {X : Type 0} (P : X → Type 0) (test : X → Bool) → ((x : X) → test x ≡ true → P x) → (xs : List X) → list_all test xs ≡ true → AllByRecursion P xs
AllByRecursion-from_test P test f [] h = tt
AllByRecursion-from_test P test f (x ∷ xs) h = by (test x) refl h (λ rest. AllByRecursion-from_test P test f xs rest)
  where
    by : (t : Bool) → test x ≡ t → (t && list_all test xs) ≡ true → (list_all test xs ≡ true → AllByRecursion P xs) → AllByRecursion P (x ∷ xs)
    by true e both rest = (f x e, rest both)
    by false e both rest = absurd (cc)

pub All-from_test : {X : Type 0} (P : X → Type 0) (test : X → Bool) → ((x : X) → test x ≡ true → P x) → (xs : List X) → list_all test xs ≡ true → All P xs
All-from_test P test f xs h = All-from_recursion P xs (AllByRecursion-from_test P test f xs h)

-- a test that no element passes, both ways
pub list_any-none : {X : Type 0} (p : X → Bool) (xs : List X) → AllByRecursion (λ x. p x ≡ false) xs → list_any p xs ≡ false
list_any-none p [] h = refl
list_any-none p (x ∷ xs) h = rw h.0 (list_any-none p xs h.1)

pub none-list_any : {X : Type 0} (p : X → Bool) (xs : List X) → list_any p xs ≡ false → AllByRecursion (λ x. p x ≡ false) xs
none-list_any p [] h = tt
none-list_any p (x ∷ xs) h = by (p x) refl h (λ rest. none-list_any p xs rest)
  where
    by : (t : Bool) → p x ≡ t → (t || list_any p xs) ≡ false → (list_any p xs ≡ false → AllByRecursion (λ y. p y ≡ false) xs) → AllByRecursion (λ y. p y ≡ false) (x ∷ xs)
    by true e f rest = absurd (let never : true ≡ false = f in cc)
    by false e f rest = (e, rest f)

-- two tests that agree at each element
pub list_any-agree : {X : Type 0} (p q : X → Bool) (xs : List X) → All (λ x. p x ≡ q x) xs → list_any p xs ≡ list_any q xs
list_any-agree p q [] each = refl
list_any-agree p q (x ∷ xs) each =
    ap₂ ◌||◌ (All-head (λ y. p y ≡ q y) x xs each) (list_any-agree p q xs (All-tail (λ y. p y ≡ q y) x xs each))

take-more : {X : Type 0} (n : ℕ) (x : X) (xs : List X) → take (1 + n) (x ∷ xs) ≡ x ∷ take n xs
take-more n x xs = let next : 1 + n ≡ suc n = omega arith in ap (λ k. take k (x ∷ xs)) next

-- elements from the front on that pass a test
pub take_while-keep : {X : Type 0} (test : X → Bool) (x : X) (xs : List X) → test x ≡ true → take_while test (x ∷ xs) ≡ x ∷ take_while test xs
take_while-keep test x xs e = ap (λ b. take (cond b (1 + prefix_len test xs) 0) (x ∷ xs)) e ∙ take-more (prefix_len test xs) x xs

pub take_while-stop : {X : Type 0} (test : X → Bool) (x : X) (xs : List X) → test x ≡ false → take_while test (x ∷ xs) ≡ []
take_while-stop test x xs e = ap (λ b. take (cond b (1 + prefix_len test xs) 0) (x ∷ xs)) e

-- each of them passes it
pub take_while-passes : {X : Type 0} (test : X → Bool) (xs : List X) → AllByRecursion (λ x. test x ≡ true) (take_while test xs)
take_while-passes test [] = tt
take_while-passes test (x ∷ xs) = by (test x) refl (take_while-passes test xs)
  where
    by : (b : Bool) → test x ≡ b → AllByRecursion (λ y. test y ≡ true) (take_while test xs) → AllByRecursion (λ y. test y ≡ true) (take_while test (x ∷ xs))
    by true e rest = subst (AllByRecursion (λ y. test y ≡ true)) (sym (take_while-keep test x xs e)) (e, rest)
    by false e rest = subst (AllByRecursion (λ y. test y ≡ true)) (sym (take_while-stop test x xs e)) tt

-- a front that passes it, up to an element that doesn't
pub take_while-front : {X : Type 0} (test : X → Bool) (front : List X) (x : X) (rest : List X)
    → AllByRecursion (λ y. test y ≡ true) front → test x ≡ false → take_while test (front ++ x ∷ rest) ≡ front
take_while-front test [] x rest h stop = take_while-stop test x rest stop
take_while-front test (y ∷ front) x rest h stop = take_while-keep test y (front ++ x ∷ rest) h.0 ∙ ap (λ l. y ∷ l) (take_while-front test front x rest h.1 stop)

-- what stands before the first element that passes a test
pub before_first-all : {X : Type 0} (test : X → Bool) (xs : List X) → AllByRecursion (λ x. test x ≡ false) (before_first test xs)
before_first-all test xs =
    AllByRecursion-weaker (λ x. not (test x) ≡ true) (λ x. test x ≡ false) (λ x e. false_from_not (test x) e) (before_first test xs) (take_while-passes (λ x. not (test x)) xs)

pub before_first-none : {X : Type 0} (test : X → Bool) (xs : List X) → AllByRecursion (λ x. test x ≡ false) xs → before_first test xs ≡ xs
before_first-none test [] h = refl
before_first-none test (x ∷ xs) h = take_while-keep (λ y. not (test y)) x xs (ap not h.0) ∙ ap (λ l. x ∷ l) (before_first-none test xs h.1)

-- what stands at an index stands there in a longer list
pub slice_get-append : {X : Type 0} (xs ys : List X) (i : ℕ) (x : X) → slice_get xs i ≡ Some x → slice_get (xs ++ ys) i ≡ Some x
slice_get-append [] ys i x at = absurd (cc)
slice_get-append (y ∷ xs) ys zero x at = at
slice_get-append (y ∷ xs) ys (suc i) x at = slice_get-append xs ys i x at

-- what stands at an index behind a list
pub slice_get-behind : {X : Type 0} (xs ys : List X) (i : ℕ) → slice_get (xs ++ ys) (length xs + i) ≡ slice_get ys i
slice_get-behind [] ys i = ap (slice_get ys) (let z : 0 + i ≡ i = omega arith in z)
slice_get-behind (x ∷ xs) ys i = ap (slice_get (x ∷ xs ++ ys)) (let z : suc (length xs) + i ≡ suc (length xs + i) = omega arith in z) ∙ slice_get-behind xs ys i

-- what stands at an index of a list that is followed by more
pub slice_get-left : {X : Type 0} (xs ys : List X) (i : ℕ) → i < length xs → slice_get (xs ++ ys) i ≡ slice_get xs i
slice_get-left [] ys i lt = absurd (omega (arith, lt))
slice_get-left (x ∷ xs) ys zero lt = refl
slice_get-left (x ∷ xs) ys (suc i) lt = slice_get-left xs ys i (omega (arith, lt))

-- what stands at the end of a list that was appended to
pub slice_get-push : {X : Type 0} (xs : List X) (y : X) → slice_get (xs ++ y ∷ []) (length xs) ≡ Some y
slice_get-push [] y = refl
slice_get-push (x ∷ xs) y = slice_get-push xs y

-- what stands at an index of a list that was appended to
pub slice_get-push_cases : {X : Type 0} (xs : List X) (y : X) (i : ℕ) (x : X) → slice_get (xs ++ (y ∷ [])) i ≡ Some x
    → (slice_get xs i ≡ Some x) ⊎ ((i ≡ length xs) × (y ≡ x))
slice_get-push_cases [] y zero x e = inr (refl, same_Some y x e)
slice_get-push_cases [] y (suc i) x e = absurd (cc)
slice_get-push_cases (z ∷ xs) y zero x e = inl e
slice_get-push_cases (z ∷ xs) y (suc i) x e = elim (slice_get-push_cases xs y i x e) [ inl f ↦ inl f | inr f ↦ inr (ap suc f.0, f.1) ]

-- what stands at an index after another was set
pub slice_get-set_other : {X : Type 0} (xs : List X) (i j : ℕ) (y : X) → (j ≡ i → ⊥) → slice_get (set xs i y) j ≡ slice_get xs j
slice_get-set_other [] i j y other = refl
slice_get-set_other (x ∷ xs) zero zero y other = absurd (other refl)
slice_get-set_other (x ∷ xs) zero (suc j) y other = refl
slice_get-set_other (x ∷ xs) (suc i) zero y other = refl
slice_get-set_other (x ∷ xs) (suc i) (suc j) y other = slice_get-set_other xs i j y (λ e. other (ap suc e))

-- in a list of marks of which none is set none stands
pub none_set : (count i : ℕ) → slice_get (replicate count false) i ≡ Some true → ⊥
none_set zero i e = cc
none_set (suc count) zero e = let z : Some false ≡ Some true = e in cc
none_set (suc count) (suc i) e = none_set count i e

-- within a list something stands at each index
pub slice_get-there : {X : Type 0} (xs : List X) (i : ℕ) → i < length xs → (x : X) × (slice_get xs i ≡ Some x)
slice_get-there [] i lt = absurd (omega arith)
slice_get-there (x ∷ xs) zero lt = (x, refl)
slice_get-there (x ∷ xs) (suc i) lt = slice_get-there xs i (omega arith)

-- what stands at the end of a list that was appended to, by its place
pub slice_index_or-push : {X : Type 0} (xs : List X) (y d : X) → slice_index_or (xs ++ y ∷ []) (length xs) d ≡ y
slice_index_or-push [] y d = refl
slice_index_or-push (x ∷ xs) y d = slice_index_or-push xs y d

-- what a list has stands at an index
pub slice_get-contained : {X : Type 0} (xs : List X) (x : X) → Contains xs x → (i : ℕ) × (slice_get xs i ≡ Some x)
slice_get-contained xs x c = (c.0, slice_get-get_or xs c.0 x c.1 ∙ ap Some c.2)

-- what holds of all elements holds of the one at an index
pub All-at : {X : Type 0} (P : X → Type 0) (xs : List X) (i : ℕ) (x : X) → All P xs → slice_get xs i ≡ Some x → P x
All-at P xs i x all at = AllByRecursion-contains P xs x (recursion_from_All P xs all) (Contains-slice_get xs i x at)

-- an option in front of a list
pub cons_option-list : {X : Type 0} (o : Option X) (xs : List X) → cons_option o xs ≡ option_to_list o ++ xs
cons_option-list None xs = refl
cons_option-list (Some x) xs = refl

-- a function that has a value for no element
pub filter_map-none : {X Y : Type 0} (f : X → Option Y) (xs : List X) → AllByRecursion (λ x. f x ≡ None) xs → filter_map f xs ≡ []
filter_map-none f [] h = refl
filter_map-none f (x ∷ xs) h = rw h.0 (filter_map-none f xs h.1)

-- the first element, last in the reverse
pub reverse-cons : {X : Type 0} (x : X) (xs : List X) → reverse (x ∷ xs) ≡ reverse xs ++ x ∷ []
reverse-cons x xs = reverse-append (x ∷ []) xs

-- an element goes from the rest to those before it, the nearest first
pub reverse-onto : {X : Type 0} (x : X) (xs ys : List X) → reverse (x ∷ xs) ++ ys ≡ reverse xs ++ x ∷ ys
reverse-onto x xs ys = ap (λ l. l ++ ys) (reverse-append (x ∷ []) xs) ∙ append_assoc (reverse xs) (x ∷ []) ys

-- lists that are equal part by part
pub head_same : {X : Type 0} {x y : X} {xs ys : List X} → x ∷ xs ≡ y ∷ ys → x ≡ y
head_same {X} {x} e = ap (λ l. get_or l 0 x) e

pub tail_same : {X : Type 0} {x y : X} {xs ys : List X} → x ∷ xs ≡ y ∷ ys → xs ≡ ys
tail_same e = ap (drop 1) e

pub map-injective : {X Y : Type 0} (f : X → Y) → ((x y : X) → f x ≡ f y → x ≡ y) → (xs ys : List X) → map f xs ≡ map f ys → xs ≡ ys
map-injective f one [] [] e = refl
map-injective f one [] (y ∷ ys) e = absurd (omega (arith, ap length e))
map-injective f one (x ∷ xs) [] e = absurd (omega (arith, ap length e))
map-injective f one (x ∷ xs) (y ∷ ys) e =
    let first = one x y (head_same e) in
    let rest = map-injective f one xs ys (tail_same e) in
    cc

pub map-push : {X Y : Type 0} (f : X → Y) (xs : List X) (x : X) → map f (xs ++ x ∷ []) ≡ map f xs ++ f x ∷ []
map-push f [] x = refl
map-push f (y ∷ ys) x = ap (λ l. f y ∷ l) (map-push f ys x)

-- numbered elements and one more
pub enumerate_from-push : {X : Type 0} (k : ℕ) (xs : List X) (x : X)
    → enumerate_from k (xs ++ x ∷ []) ≡ enumerate_from k xs ++ (k + length xs, x) ∷ []
enumerate_from-push k [] x = ap (λ n. (n, x) ∷ []) (let z : k ≡ k + 0 = omega arith in z)
enumerate_from-push k (y ∷ ys) x =
    let z : k + 1 + length ys ≡ k + length (y ∷ ys) = omega arith in
    ap (λ l. (k, y) ∷ l) (enumerate_from-push (k + 1) ys x ∙ ap (λ n. enumerate_from (k + 1) ys ++ (n, x) ∷ []) z)

-- what goes with the items of a list, where one thing goes with each, is one list
pub AllZip-one : {X Y : Type 0} (R : X → Y → Type 0) → ((x : X) (y z : Y) → R x y → R x z → y ≡ z) → (xs : List X) (ys zs : List Y)
    → AllZip R xs ys → AllZip R xs zs → ys ≡ zs
AllZip-one R one [] [] [] a b = refl
AllZip-one R one [] [] (z ∷ zs) a b = absurd b
AllZip-one R one [] (y ∷ ys) zs a b = absurd a
AllZip-one R one (x ∷ xs) [] zs a b = absurd a
AllZip-one R one (x ∷ xs) (y ∷ ys) [] a b = absurd b
AllZip-one R one (x ∷ xs) (y ∷ ys) (z ∷ zs) a b = ap₂ (λ u us. u ∷ us) (one x y z a.0 b.0) (AllZip-one R one xs ys zs a.1 b.1)

pub length-some : {X : Type 0} (xs : List X) → xs ≢ [] → 0 < length xs
length-some [] n = absurd (n refl)
length-some (x ∷ xs) n = omega arith

pub length-none : {X : Type 0} (xs : List X) → length xs ≡ 0 → xs ≡ []
length-none [] e = refl
length-none (x ∷ xs) e = absurd (omega (arith, e))

-- a test of the length says that nothing is left
pub nothing_left : {X : Type 0} (rest : List X) (b : Bool) → b ≡ (length rest == 0) → b ≡ true → rest ≡ []
nothing_left [] b is test = refl
nothing_left (x ∷ xs) b is test = absurd (omega (arith, eqb-true (length (x ∷ xs)) 0 (sym is ∙ test)))

-- distinctness, by an equality of elements
module _ {X : Type 0} (eq : X → X → Bool) where
  pub AreApart-append : (xs ys zs : List X) → AreApart eq xs ys → AreApart eq xs zs → AreApart eq xs (ys ++ zs)
  AreApart-append [] ys zs a b = tt
  AreApart-append (x ∷ xs) ys zs a b = (AllByRecursion-append (λ y. eq x y ≡ false) ys zs a.0 b.0, AreApart-append xs ys zs a.1 b.1)

  pub IsDistinct-append : (xs ys : List X) → IsDistinct eq xs → IsDistinct eq ys → AreApart eq xs ys → IsDistinct eq (xs ++ ys)
  unfolding IsDistinct
  IsDistinct-append [] ys a b c = b
  IsDistinct-append (x ∷ xs) ys a b c = (AllByRecursion-append (λ y. eq x y ≡ false) xs ys a.0 c.0, IsDistinct-append xs ys a.1 b c.1)

-- what is left of a list from an element on
pub drop_next : {X : Type 0} (xs : List X) (k : ℕ) (x : X) → slice_get xs k ≡ Some x → drop k xs ≡ x ∷ drop (k + 1) xs
drop_next [] k x e = absurd cc
drop_next (y ∷ ys) zero x e = let i : y ≡ x = cc in ap (λ z. z ∷ ys) i
drop_next (y ∷ ys) (suc k) x e = drop_next ys k x e ∙ ap (λ n. x ∷ drop n (y ∷ ys)) (let z : suc (k + 1) ≡ suc k + 1 = omega arith in z)
