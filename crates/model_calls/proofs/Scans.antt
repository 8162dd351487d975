-- What each look at a name of a list keeps, and what the first name that is wrong is in the end.
use Rattle.std.proofs.Common.{◌≡◌, ℕ, suc, cond, ◌<◌, ◌≤◌, ◌+◌, ◌⊎◌, inl, inr, Bool, true, false, min, List, [], ◌∷◌, ◌++◌, length, length-take-le, map, take, Option, Some, None, refl, ap, sym, ◌∙◌, subst, arith, append_assoc}
use Rattle.std.specs.Prelude.{Contains, IsTrue, ◌↔◌, ◌&&◌, option_and_then, slice_get, if◌then◌else◌}
use Rattle.std.specs.List.{count_by}
use Rattle.std.specs.Cmp.Lexicographic.{bytes_decides}
use Rattle.std.proofs.lemmas.List.{take_all}
use Rattle.std.proofs.lemmas.Bool.{cases_lt}
use Rattle.std.proofs.lemmas.List.Sums.{sum_by-cons}
use Rattle.std.proofs.lemmas.Option.{slice_get_within}
use Rattle.blif_ast.specs.Cards.{same}
use Rattle.dom_base.proofs.Lists.{Contains-slice_get, slice_get-append, slice_get-push, slice_get-push_cases}
use Rattle.graph_order.proofs.Lists.{take_get, take_next}
use Rattle.network.proofs.Lists.{count_twice}
use Rattle.model_calls.proofs.FirstFaults.{none_of_each, reported_of_each}
use Rattle.model_calls.specs.declared.first_fault.FirstFault.{FirstFault}
use Rattle.model_calls.specs.FirstFaults.{IsFirstFaultIn}
use Rattle.model_calls.specs.ModelFaults.{IsTwiceIn}
use Rattle.model_calls.specs.NameNumbers.{IsNameAdded}
use Rattle.model_calls.specs.Scans.{AreFirsts, IsLeastWrong, IsLooked, IsOnceIn, IsRightBelow, IsScan, IsWrong, IsFirstWrongName, ScanData, least_with, wrong_name}

-- the names of a list in order of first appearance

pub no_names : AreFirsts [] []
no_names = record { once = λ j k x e f. absurd cc; each = λ k x e. absurd cc; first = λ n x e. absurd cc }

module _ (seen names : List (List ℕ)) (firsts : AreFirsts seen names) (x : List ℕ) where
  -- what stands in the longer list before an index of the shorter one
  before_end : (j k : ℕ) (y z : List ℕ) → slice_get seen k ≡ Some y → j < k → slice_get (seen ++ x ∷ []) j ≡ Some z → slice_get seen j ≡ Some z
  before_end j k y z e l f = elim (slice_get-push_cases seen x j z f) [ inl g ↦ g | inr g ↦ absurd (omega (arith, g.0, l, slice_get_within seen k y e)) ]

  abbrev Earlier : List (List ℕ) → ℕ → ℕ → Type 0
  Earlier now k n = (j : ℕ) (z : List ℕ) → j < k → slice_get (seen ++ x ∷ []) j ≡ Some z → (m : ℕ) × (m < n) × (slice_get now m ≡ Some z)

  new_first : (Contains names x → ⊥) → AreFirsts (seen ++ x ∷ []) (names ++ x ∷ [])
  new_first new = record {
    once = λ j k y e f. once j k y (slice_get-push_cases names x j y e) (slice_get-push_cases names x k y f);
    each = λ k y e. each k y (slice_get-push_cases seen x k y e);
    first = λ n y e. first n y (slice_get-push_cases names x n y e);
  }
    where
      At : ℕ → List ℕ → Type 0
      At k y = (slice_get names k ≡ Some y) ⊎ ((k ≡ length names) × (x ≡ y))

      once : (j k : ℕ) (y : List ℕ) → At j y → At k y → j ≡ k
      once j k y (inl e) (inl f) = firsts.once j k y e f
      once j k y (inl e) (inr f) = absurd (new (Contains-slice_get names j x (e ∙ ap Some (sym f.1))))
      once j k y (inr e) (inl f) = absurd (new (Contains-slice_get names k x (f ∙ ap Some (sym e.1))))
      once j k y (inr e) (inr f) = e.0 ∙ sym f.0

      each : (k : ℕ) (y : List ℕ) → (slice_get seen k ≡ Some y) ⊎ ((k ≡ length seen) × (x ≡ y)) → (n : ℕ) × (slice_get (names ++ x ∷ []) n ≡ Some y)
      each k y (inl e) = let h = firsts.each k y e in (h.0, slice_get-append names (x ∷ []) h.0 y h.1)
      each k y (inr e) = (length names, slice_get-push names x ∙ ap Some e.1)

      first : (n : ℕ) (y : List ℕ) → At n y → (k : ℕ) × (slice_get (seen ++ x ∷ []) k ≡ Some y) × Earlier (names ++ x ∷ []) k n
      first n y (inl e) = let h = firsts.first n y e in (
        h.0,
        slice_get-append seen (x ∷ []) h.0 y h.1,
        λ j z l f. let g = h.2 j z l (before_end j h.0 y z h.1 l f) in (g.0, g.1, slice_get-append names (x ∷ []) g.0 z g.2),
      )
      first n y (inr e) = (
        length seen,
        slice_get-push seen x ∙ ap Some e.1,
        λ j z l f. elim (slice_get-push_cases seen x j z f) [
          | inl g ↦ let m = firsts.each j z g in (m.0, omega (arith, slice_get_within names m.0 z m.1, e.0), slice_get-append names (x ∷ []) m.0 z m.1)
          | inr g ↦ absurd (omega (arith, g.0, l))
        ],
      )

  again_first : (n : ℕ) → slice_get names n ≡ Some x → AreFirsts (seen ++ x ∷ []) names
  again_first n at = record {
    once = firsts.once;
    each = λ k y e. elim (slice_get-push_cases seen x k y e) [ inl f ↦ firsts.each k y f | inr f ↦ (n, at ∙ ap Some f.1) ];
    first = λ m y e. let h = firsts.first m y e in (h.0, slice_get-append seen (x ∷ []) h.0 y h.1, λ j z l f. h.2 j z l (before_end j h.0 y z h.1 l f));
  }

  pub firsts_with : (after : List (List ℕ)) (n : ℕ) (b : Bool) → IsNameAdded names x after n b → AreFirsts (seen ++ x ∷ []) after
  firsts_with after n true h = subst (AreFirsts (seen ++ x ∷ [])) (sym h.0) (new_first h.2)
  firsts_with after n false h = subst (AreFirsts (seen ++ x ∷ [])) (sym h.0) (again_first n h.1)

  -- names that stand at most once

  once_push : (y : List ℕ) → (y ≡ x → ⊥) → IsOnceIn seen y → IsOnceIn (seen ++ x ∷ []) y
  once_push y other once j k e f = by (slice_get-push_cases seen x j y e) (slice_get-push_cases seen x k y f)
    where
      by : (slice_get seen j ≡ Some y) ⊎ ((j ≡ length seen) × (x ≡ y)) → (slice_get seen k ≡ Some y) ⊎ ((k ≡ length seen) × (x ≡ y)) → j ≡ k
      by (inl e) (inl f) = once j k e f
      by (inr e) _ = absurd (other (sym e.1))
      by _ (inr f) = absurd (other (sym f.1))

  once_new : (Contains names x → ⊥) → IsOnceIn (seen ++ x ∷ []) x
  once_new new j k e f = by (slice_get-push_cases seen x j x e) (slice_get-push_cases seen x k x f)
    where
      never : (i : ℕ) → slice_get seen i ≡ Some x → ⊥
      never i e = let h = firsts.each i x e in new (Contains-slice_get names h.0 x h.1)

      by : (slice_get seen j ≡ Some x) ⊎ ((j ≡ length seen) × (x ≡ x)) → (slice_get seen k ≡ Some x) ⊎ ((k ≡ length seen) × (x ≡ x)) → j ≡ k
      by (inl e) _ = absurd (never j e)
      by _ (inl f) = absurd (never k f)
      by (inr e) (inr f) = e.0 ∙ sym f.0

  module _ (after : List (List ℕ)) (n : ℕ) where
    -- a number that is in use already, below that of the name
    old_at : (b : Bool) → IsNameAdded names x after n b → (k : ℕ) (y : List ℕ) → k < n → slice_get after k ≡ Some y → slice_get names k ≡ Some y
    old_at true h k y l e = elim (slice_get-push_cases names x k y (ap (λ xs. slice_get xs k) (sym h.0) ∙ e)) [ inl f ↦ f | inr f ↦ absurd (omega (arith, f.0, h.1, l)) ]
    old_at false h k y l e = ap (λ xs. slice_get xs k) (sym h.0) ∙ e

    other_name : (b : Bool) → IsNameAdded names x after n b → (k : ℕ) (y : List ℕ) → k < n → slice_get names k ≡ Some y → y ≡ x → ⊥
    other_name true h k y l e is = h.2 (Contains-slice_get names k x (e ∙ ap Some is))
    other_name false h k y l e is = omega (arith, l, firsts.once k n x (e ∙ ap Some is) h.1)

    still_there : (b : Bool) → IsNameAdded names x after n b → (k : ℕ) (y : List ℕ) → slice_get names k ≡ Some y → slice_get after k ≡ Some y
    still_there true h k y e = ap (λ xs. slice_get xs k) h.0 ∙ slice_get-append names (x ∷ []) k y e
    still_there false h k y e = ap (λ xs. slice_get xs k) h.0 ∙ e

    number_at : (b : Bool) → IsNameAdded names x after n b → slice_get after n ≡ Some x
    number_at true h = ap (slice_get after) h.1 ∙ ap (λ xs. slice_get xs (length names)) h.0 ∙ slice_get-push names x
    number_at false h = ap (λ xs. slice_get xs n) h.0 ∙ h.1

    number_most : (b : Bool) → IsNameAdded names x after n b → n ≤ length names
    number_most true h = omega (arith, h.1)
    number_most false h = omega (arith, slice_get_within names n x h.1)

    right_kept : (Good : List ℕ → Type 0) (b : Bool) → IsNameAdded names x after n b → (m bound : ℕ) → IsRightBelow Good seen names m → bound ≤ m → bound ≤ n
        → IsRightBelow Good (seen ++ x ∷ []) after bound
    right_kept Good b h m bound right low_m low_n k y l e =
        let f = old_at b h k y (omega (arith, l, low_n)) e in
        let r = right k y (omega (arith, l, low_m)) f in (r.0, once_push y (other_name b h k y (omega (arith, l, low_n)) f) r.1)

module _ (Good : List ℕ → Type 0) (all : List (List ℕ)) where
  twice : (seen names : List (List ℕ)) → AreFirsts seen names → (x : List ℕ) (n : ℕ) → slice_get names n ≡ Some x → seen ≡ take (length seen) all → slice_get all (length seen) ≡ Some x
      → IsTwiceIn all x
  twice seen names firsts x n at front next =
      let h = firsts.first n x at in
      let g = take_get all (length seen) h.0 x (ap (λ xs. slice_get xs h.0) (sym front) ∙ h.1) in
      let is = (bytes_decides x x).1 refl in count_twice (same x) all h.0 (length seen) x x g.0 g.1 next is is

  module _ (seen : List (List ℕ)) (before after : ScanData) (x : List ℕ) (scan : IsScan Good all seen before) (front : seen ≡ take (length seen) all) (next : slice_get all (length seen) ≡ Some x)
    where
      -- the name is wrong
      wrong_with : (n : ℕ) (b : Bool) → IsNameAdded before.names x after.names n b → IsWrong Good all x → (least : Option ℕ) → IsLeastWrong Good all seen before.names least
          → IsLeastWrong Good all (seen ++ x ∷ []) after.names (Some (least_with least n))
      wrong_with n b h wrong None right = (
        x,
        number_at seen before.names scan.firsts x after.names n b h,
        wrong,
        right_kept seen before.names scan.firsts x after.names n Good b h n n (λ k y l e. right k y e) (omega arith) (omega arith),
      )
      wrong_with n b h wrong (Some l) (y, there, wrong_before, right) = by (cases_lt n l)
        where
          by : (n < l) ⊎ (l ≤ n) → IsLeastWrong Good all (seen ++ x ∷ []) after.names (Some (min l n))
          by (inl low) = subst (λ m. IsLeastWrong Good all (seen ++ x ∷ []) after.names (Some m)) (let is : n ≡ min l n = omega (arith, low) in is) (
            x,
            number_at seen before.names scan.firsts x after.names n b h,
            wrong,
            right_kept seen before.names scan.firsts x after.names n Good b h l n right (omega (arith, low)) (omega arith),
          )
          by (inr high) = subst (λ m. IsLeastWrong Good all (seen ++ x ∷ []) after.names (Some m)) (let is : l ≡ min l n = omega (arith, high) in is) (
            y,
            still_there seen before.names scan.firsts x after.names n b h l y there,
            wrong_before,
            right_kept seen before.names scan.firsts x after.names n Good b h l l right (omega arith) (omega (arith, high)),
          )

      -- the name is new and good
      right_with : (n : ℕ) → IsNameAdded before.names x after.names n true → Good x → (least : Option ℕ) → IsLeastWrong Good all seen before.names least → IsLeastWrong Good all (seen ++ x ∷ []) after.names least
      right_with n h good None right = λ k y e. elim (slice_get-push_cases before.names x k y (ap (λ xs. slice_get xs k) (sym h.0) ∙ e)) [
        | inl f ↦ right_kept seen before.names scan.firsts x after.names n Good true h n n (λ j z l g. right j z g) (omega arith) (omega arith) k y
            (omega (arith, h.1, slice_get_within before.names k y f)) e
        | inr f ↦ subst (λ z. Good z × IsOnceIn (seen ++ x ∷ []) z) f.1 (good, once_new seen before.names scan.firsts x h.2)
      ]
      right_with n h good (Some l) (y, there, wrong, right) = (
        y,
        still_there seen before.names scan.firsts x after.names n true h l y there,
        wrong,
        right_kept seen before.names scan.firsts x after.names n Good true h l l right (omega arith) (omega (arith, h.1, slice_get_within before.names l y there)),
      )

      pub scan_with : (good : Bool) → IsTrue good ↔ Good x → IsLooked before x good after → IsScan Good all (seen ++ x ∷ []) after
      scan_with good goods looked = record {
        firsts = firsts_with seen before.names scan.firsts x after.names looked.number looked.new looked.added;
        least = subst (IsLeastWrong Good all (seen ++ x ∷ []) after.names) (sym looked.least) (by looked.new good looked.added goods);
      }
        where
          by : (new good : Bool) → IsNameAdded before.names x after.names looked.number new → IsTrue good ↔ Good x
              → IsLeastWrong Good all (seen ++ x ∷ []) after.names (if new && good then before.least else Some (least_with before.least looked.number))
          by true true h goods = right_with looked.number h (goods.0 refl) before.least scan.least
          by true false h goods = wrong_with looked.number true h (inl (λ good. let e : false ≡ true = goods.1 good in cc)) before.least scan.least
          by false good h goods = wrong_with looked.number false h (inr (twice seen before.names scan.firsts x looked.number h.1 front next)) before.least scan.least

-- a name that counts twice stands at two places
some_place : {X : Type 0} (p : X → Bool) (xs : List X) → 0 < count_by p xs → (k : ℕ) × (x : X) × (slice_get xs k ≡ Some x) × (p x ≡ true)
some_place p [] l = absurd (omega (arith, l))
some_place {X} p (z ∷ zs) l = by (some_place p zs) (p z) refl
  where
    by : (0 < count_by p zs → (k : ℕ) × (x : X) × (slice_get zs k ≡ Some x) × (p x ≡ true)) → (b : Bool) → p z ≡ b → (k : ℕ) × (x : X) × (slice_get (z ∷ zs) k ≡ Some x) × (p x ≡ true)
    by rest true e = (0, z, refl, e)
    by rest false e = let c : ◌≡◌ {A = ℕ} (cond (p z) 1 0) 0 = ap (λ b. cond b 1 0) e in
        let h = rest (omega (arith, l, sum_by-cons (λ w. cond (p w) 1 0) z zs, c)) in (suc h.0, h.1, h.2, h.3)

abbrev TwoPlaces : {X : Type 0} → (X → Bool) → List X → Type 0
TwoPlaces {X} p xs = (j : ℕ) × (k : ℕ) × (x : X) × (y : X) × (j < k) × (slice_get xs j ≡ Some x) × (slice_get xs k ≡ Some y) × (p x ≡ true) × (p y ≡ true)

two_places : {X : Type 0} (p : X → Bool) (xs : List X) → 1 < count_by p xs → TwoPlaces p xs
two_places p [] l = absurd (omega (arith, l))
two_places {X} p (z ∷ zs) l = by (two_places p zs) (p z) refl
  where
    by : (1 < count_by p zs → TwoPlaces p zs) → (b : Bool) → p z ≡ b → TwoPlaces p (z ∷ zs)
    by rest true e = let c : ◌≡◌ {A = ℕ} (cond (p z) 1 0) 1 = ap (λ b. cond b 1 0) e in
        let h = some_place p zs (omega (arith, l, sum_by-cons (λ w. cond (p w) 1 0) z zs, c)) in (0, suc h.0, z, h.1, omega arith, refl, h.2, e, h.3)
    by rest false e = let c : ◌≡◌ {A = ℕ} (cond (p z) 1 0) 0 = ap (λ b. cond b 1 0) e in
        let h = rest (omega (arith, l, sum_by-cons (λ w. cond (p w) 1 0) z zs, c)) in (suc h.0, suc h.1, h.2, h.3, omega (arith, h.4), h.5, h.6, h.7, h.8)

once_not_twice : (all : List (List ℕ)) (x : List ℕ) → IsOnceIn all x → IsTwiceIn all x → ⊥
once_not_twice all x once twice =
    let h = two_places (same x) all twice in
    let first : x ≡ h.2 = (bytes_decides x h.2).0 h.7 in
    let second : x ≡ h.3 = (bytes_decides x h.3).0 h.8 in
    omega (arith, h.4, once h.0 h.1 (h.5 ∙ ap Some (sym first)) (h.6 ∙ ap Some (sym second)))

-- what a whole scan has found
module _ (Good : List ℕ → Type 0) (all : List (List ℕ)) (s : ScanData) (scan : IsScan Good all all s) where
  not_wrong : (x : List ℕ) → Good x → IsOnceIn all x → IsWrong Good all x → ⊥
  not_wrong x good once (inl bad) = bad good
  not_wrong x good once (inr twice) = once_not_twice all x once twice

  pub none_wrong : wrong_name s ≡ None → (k : ℕ) (x : List ℕ) → slice_get all k ≡ Some x → IsWrong Good all x → ⊥
  none_wrong none k x there wrong = by s.least scan.least none
    where
      by : (least : Option ℕ) → IsLeastWrong Good all all s.names least → option_and_then (slice_get s.names) least ≡ None → ⊥
      by None right e = let n = scan.firsts.each k x there in let r = right n.0 x n.1 in not_wrong x r.0 r.1 wrong
      by (Some n) (y, at, _, _) e = let z : Some y ≡ None = sym at ∙ e in absurd cc

  abbrev pub IsFirstWrong : List ℕ → ℕ → Type 0
  IsFirstWrong x k = (slice_get all k ≡ Some x) × IsWrong Good all x × ((j : ℕ) (y : List ℕ) → j < k → slice_get all j ≡ Some y → IsWrong Good all y → ⊥)

  pub first_wrong : (x : List ℕ) → wrong_name s ≡ Some x → (k : ℕ) × IsFirstWrong x k
  first_wrong x is = by s.least scan.least is
    where
      by : (least : Option ℕ) → IsLeastWrong Good all all s.names least → option_and_then (slice_get s.names) least ≡ Some x → (k : ℕ) × IsFirstWrong x k
      by None right e = absurd cc
      by (Some n) (y, at, wrong, right) e =
          let same_name : y ≡ x = (let z : Some y ≡ Some x = sym at ∙ e in cc) in
          let h = scan.firsts.first n y at in (
            h.0,
            (
              h.1 ∙ ap Some same_name,
              subst (IsWrong Good all) same_name wrong,
              λ j z l there bad. let m = h.2 j z l there in let r = right m.0 z m.1 m.2 in not_wrong z r.0 r.1 bad,
            ),
          )

pub take_none : {X : Type 0} (xs : List X) → take 0 xs ≡ []
take_none [] = refl
take_none (x ∷ xs) = refl

-- no name was looked at
pub no_scan : (Good : List ℕ → Type 0) (all : List (List ℕ)) (s : ScanData) → s.names ≡ [] → s.least ≡ None → IsScan Good all (take 0 all) s
no_scan Good all s names least = subst (λ seen. IsScan Good all seen s) (sym (take_none all)) (record {
  firsts = subst (AreFirsts []) (sym names) no_names;
  least = subst (IsLeastWrong Good all [] s.names) (sym least) (λ k x e. let z : slice_get {X = List ℕ} [] k ≡ Some x = ap (λ l. slice_get l k) (sym names) ∙ e in absurd cc);
})

-- the next name was looked at
pub next_scan : (Good : List ℕ → Type 0) (all : List (List ℕ)) (k : ℕ) (before after : ScanData) (x : List ℕ) → IsScan Good all (take k all) before → slice_get all k ≡ Some x
    → (good : Bool) → IsTrue good ↔ Good x → IsLooked before x good after → IsScan Good all (take (k + 1) all) after
next_scan Good all k before after x scan there good goods looked =
    let long : length (take k all) ≡ k = length-take-le k all (omega (arith, slice_get_within all k x there)) in
    subst (λ seen. IsScan Good all seen after) (sym (take_next all k x there))
    (scan_with Good all (take k all) before after x scan (ap (λ n. take n all) (sym long)) (ap (slice_get all) long ∙ there) good goods looked)

-- what a whole scan reports of the elements that have these names
module _ {Element : Type 0} (Holds : Element → Type 0) (line_of : Element → ℕ) (name_of : Element → List ℕ) (element : List ℕ → Element) (Good : List ℕ → Type 0) (all : List (List ℕ))
    (wrong_holds : (x : List ℕ) → IsWrong Good all x → Holds (element x)) (holds_wrong : (x : List ℕ) → Holds (element x) → IsWrong Good all x)
    (line : ℕ) (lines : (x : List ℕ) → line ≡ line_of (element x)) (names : (x : List ℕ) → x ≡ name_of (element x)) where
  pub scan_faults : (s : ScanData) (k : ℕ) → length all ≤ k → IsScan Good all (take k all) s → (found : Option FirstFault) → IsFirstWrongName s line found
      → IsFirstFaultIn (λ before. Holds) (map element all) line_of name_of found
  scan_faults s k most scan found report = by found report
    where
      whole : IsScan Good all all s
      whole = subst (λ seen. IsScan Good all seen s) (take_all k all most) scan

      by : (found : Option FirstFault) → IsFirstWrongName s line found → IsFirstFaultIn (λ before. Holds) (map element all) line_of name_of found
      by None none = none_of_each Holds line_of name_of element all (λ k x there holds. none_wrong Good all s whole none k x there (holds_wrong x holds))
      by (Some r) (line_is, name_is) = let h = first_wrong Good all s whole r.name name_is in
          reported_of_each Holds line_of name_of element all h.0 r.name h.1.0 (wrong_holds r.name h.1.1) (λ j y l there holds. h.1.2 j y l there (holds_wrong y holds))
          r.line r.name (line_is ∙ lines r.name) (names r.name)

-- names of a list that are added in turn
pub firsts_next : (seen list names after : List (List ℕ)) (k : ℕ) (x : List ℕ) (n : ℕ) (b : Bool) → slice_get list k ≡ Some x → AreFirsts (seen ++ take k list) names → IsNameAdded names x after n b
    → AreFirsts (seen ++ take (k + 1) list) after
firsts_next seen list names after k x n b there firsts added =
    subst (λ all. AreFirsts all after) (append_assoc seen (take k list) (x ∷ []) ∙ ap (λ l. seen ++ l) (sym (take_next list k x there)))
    (firsts_with (seen ++ take k list) names firsts x after n b added)
