-- Names by their places among some names that differ.
use Rattle.std.proofs.Common.{◌≡◌, ℕ, suc, ◌≤◌, Bool, true, false, cond, List, [], ◌∷◌, ◌++◌, length, map, take, Some, refl, ap, sym, ◌∙◌, subst, arith}
use Rattle.std.specs.Prelude.{Contains, slice_get}
use Rattle.std.specs.Cmp.Lexicographic.{bytes_decides}
use Rattle.std.specs.List.{count_by}
use Rattle.std.proofs.lemmas.Cmp.{nat_list_eq_equiv}
use Rattle.std.proofs.lemmas.List.{map-append}
use Rattle.std.proofs.lemmas.List.Sums.{sum_by-cons}
use Rattle.std.proofs.lemmas.Option.{slice_get_within}
use Rattle.blif_ast.specs.Cards.{same}
use Rattle.numbered_file.specs.Numbered.{named, name_of}
use Rattle.dom_base.proofs.Lists.{Contains-slice_get, slice_get-contained}
use Rattle.network.proofs.IndexedLists.{take_get}
use Rattle.network.proofs.Lists.{count_twice, get_map, get_of_map}
use Rattle.local_names.specs.LocalNames.{AreLocals}
use Rattle.model_calls.proofs.Apart.{Apart, place_once}
use Rattle.model_calls.specs.ModelFaults.{IsTwiceIn}
use Rattle.numbered_calls.specs.PortMarks.{AreDistinct, AreTwice}

-- these places among some names are those of these items
abbrev pub AreAt : List (List ℕ) → List ℕ → List (List ℕ) → Type 0
AreAt names places items = map (slice_get names) places ≡ map Some items

-- places among numbers are places among the names of the numbers
pub named_at : (names : List (List ℕ)) (mine places numbers : List ℕ) → AreLocals mine numbers places → AreAt (named names mine) places (named names numbers)
named_at names mine [] [] e = refl
named_at names mine [] (n ∷ ns) e = absurd cc
named_at names mine (p ∷ ps) [] e = absurd cc
named_at names mine (p ∷ ps) (n ∷ ns) e =
    let head : slice_get mine p ≡ Some n = cc in
    let tail : map (slice_get mine) ps ≡ map Some ns = cc in
    let one = get_map (name_of names) mine p n head in
    let rest = named_at names mine ps ns tail in
    (λ i. one i ∷ rest i)

pub at_append : (names : List (List ℕ)) (ps qs : List ℕ) (xs ys : List (List ℕ)) → AreAt names ps xs → AreAt names qs ys → AreAt names (ps ++ qs) (xs ++ ys)
at_append names ps qs xs ys e f = map-append (slice_get names) ps qs ∙ (λ i. e i ++ f i) ∙ sym (map-append Some xs ys)

-- the place of an item, and the item of a place
pub place_of : (names : List (List ℕ)) (places : List ℕ) (items : List (List ℕ)) → AreAt names places items → (k : ℕ) (x : List ℕ) → slice_get items k ≡ Some x
    → (p : ℕ) × (slice_get places k ≡ Some p) × (slice_get names p ≡ Some x)
place_of names places items at k x e = get_of_map (slice_get names) places k (Some x) (ap (λ l. slice_get l k) at ∙ get_map Some items k x e)

pub item_of : (names : List (List ℕ)) (places : List ℕ) (items : List (List ℕ)) → AreAt names places items → (k p : ℕ) → slice_get places k ≡ Some p
    → (x : List ℕ) × (slice_get items k ≡ Some x) × (slice_get names p ≡ Some x)
item_of names places items at k p e =
    let h = get_of_map Some items k (slice_get names p) (ap (λ l. slice_get l k) (sym at) ∙ get_map (slice_get names) places k p e) in (h.0, h.1, sym h.2)

-- an item whose place is one of other places is one of their items
pub item_among : (names : List (List ℕ)) (places others : List ℕ) (items more : List (List ℕ)) → AreAt names places items → AreAt names others more
    → ((k : ℕ) → Contains places k → Contains others k) → (x : List ℕ) → Contains items x → Contains more x
item_among names places others items more at also among x c =
    let k = slice_get-contained items x c in
    let p = place_of names places items at k.0 x k.1 in
    let j = slice_get-contained others p.0 (among p.0 (Contains-slice_get places k.0 p.0 p.1)) in
    let y = item_of names others more also j.0 p.0 j.1 in
    let one : y.0 ≡ x = (let e : Some y.0 ≡ Some x = sym y.2 ∙ p.2 in cc) in
    subst (Contains more) one (Contains-slice_get more j.0 y.0 y.1)

-- the place of a name is one of the places of names that it is among
pub place_among : (names : List (List ℕ)) (others : List ℕ) (more : List (List ℕ)) → Apart names → AreAt names others more → (p : ℕ) (x : List ℕ) → slice_get names p ≡ Some x
    → Contains more x → Contains others p
place_among names others more apart also p x there c =
    let j = slice_get-contained more x c in
    let q = place_of names others more also j.0 x j.1 in
    subst (Contains others) (place_once names q.0 p x apart q.2 there) (Contains-slice_get others j.0 q.0 q.1)

-- the item of a place that is there twice is there twice
pub item_twice : (names : List (List ℕ)) (places : List ℕ) (items : List (List ℕ)) → AreAt names places items → AreTwice (length names) places
    → (x : List ℕ) × Contains items x × IsTwiceIn items x
item_twice names places items are t =
    let x = item_of names places items are t.at t.place t.there in
    let c = slice_get-contained (take t.at places) t.place (t.twice (slice_get_within names t.place x.0 x.2)) in
    let j = take_get places t.at c.0 t.place c.1 in
    let y = item_of names places items are c.0 t.place j.1 in
    let one : y.0 ≡ x.0 = (let e : Some y.0 ≡ Some x.0 = sym y.2 ∙ x.2 in cc) in
    let here = y.1 ∙ ap Some one in
    let itself = nat_list_eq_equiv.refl x.0 in
    (x.0, Contains-slice_get items t.at x.0 x.1, count_twice (same x.0) items c.0 t.at x.0 x.0 j.0 here x.1 itself itself)

-- what passes a test at no place, or at one, counts so often
none_counted : (p : List ℕ → Bool) (xs : List (List ℕ)) → ((k : ℕ) (y : List ℕ) → slice_get xs k ≡ Some y → p y ≡ true → ⊥) → count_by p xs ≡ 0
none_counted p [] h = refl
none_counted p (x ∷ xs) h = by (none_counted p xs (λ k. h (suc k))) (p x) refl
  where
    by : count_by p xs ≡ 0 → (b : Bool) → p x ≡ b → count_by p (x ∷ xs) ≡ 0
    by rest true e = absurd (h 0 x refl e)
    by rest false e = let c : ◌≡◌ {A = ℕ} (cond (p x) 1 0) 0 = ap (λ b. cond b 1 0) e in omega (arith, rest, c, sum_by-cons (λ w. cond (p w) 1 0) x xs)

once_counted : (p : List ℕ → Bool) (xs : List (List ℕ)) → ((j k : ℕ) (x y : List ℕ) → slice_get xs j ≡ Some x → slice_get xs k ≡ Some y → p x ≡ true → p y ≡ true → j ≡ k)
    → count_by p xs ≤ 1
once_counted p [] h = omega arith
once_counted p (x ∷ xs) h = by (once_counted p xs (λ j k y z e f a b. let s : suc j ≡ suc k = h (suc j) (suc k) y z e f a b in omega (arith, s))) (p x) refl
  where
    by : count_by p xs ≤ 1 → (b : Bool) → p x ≡ b → count_by p (x ∷ xs) ≤ 1
    by rest true e =
        let c : ◌≡◌ {A = ℕ} (cond (p x) 1 0) 1 = ap (λ b. cond b 1 0) e in
        let none = none_counted p xs (λ k y f g. let s : 0 ≡ suc k = h 0 (suc k) x y refl f e g in omega (arith, s)) in
        omega (arith, none, c, sum_by-cons (λ w. cond (p w) 1 0) x xs)
    by rest false e = let c : ◌≡◌ {A = ℕ} (cond (p x) 1 0) 0 = ap (λ b. cond b 1 0) e in omega (arith, rest, c, sum_by-cons (λ w. cond (p w) 1 0) x xs)

-- items whose places differ are there once each
pub not_twice : (names : List (List ℕ)) (places : List ℕ) (items : List (List ℕ)) → Apart names → AreAt names places items → AreDistinct places → (name : List ℕ) → IsTwiceIn items name → ⊥
not_twice names places items apart at differ name twice = omega (arith, twice, once_counted (same name) items once)
  where
    once : (j k : ℕ) (x y : List ℕ) → slice_get items j ≡ Some x → slice_get items k ≡ Some y → same name x ≡ true → same name y ≡ true → j ≡ k
    once j k x y e f a b =
        let p = place_of names places items at j x e in
        let q = place_of names places items at k y f in
        let one : x ≡ y = sym ((bytes_decides name x).0 a) ∙ (bytes_decides name y).0 b in
        differ j k p.0 p.1 (q.1 ∙ ap Some (sym (place_once names p.0 q.0 y apart (p.2 ∙ ap Some one) q.2)))
