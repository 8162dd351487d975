-- Prefixes of letters `w` that names are followed by digits only: the widths that are taken, and the least one that isn't.
use Rattle.std.proofs.Common.{◌≡◌, ℕ, zero, suc, ◌<◌, ◌≤◌, ◌+◌, inl, inr, ◌⊎◌, Bool, true, false, cond, List, [], ◌∷◌, ◌++◌, drop, get_or, length, map, replicate, set, take, Option, Some, None, refl, ap, ap₂, sym, ◌∙◌, subst, arith}
use Rattle.std.specs.Prelude.{◌≢◌, ◌==◌, ◌&&◌, not, nat_eq, nat_le, All, Contains, if◌then◌else◌, position, slice_get, ◌↔◌}
use Rattle.std.specs.Char.{is_ascii_digit}
use Rattle.std.specs.List.{AllByRecursion, enumerate_from, list_all, list_any}
use Rattle.std.specs.Fmt.{decimal}
use Rattle.std.specs.Option.{option_map, unwrap_or}
use Rattle.std.specs.Set.{unique_keys}
use Rattle.std.proofs.lemmas.Bool.{true≢false}
use Rattle.std.proofs.lemmas.Bool.Decides.{nat_tests}
use Rattle.std.proofs.lemmas.List.{length-append, length-map, length-replicate, length-set, length-take-le, take-append-drop}
use Rattle.std.proofs.lemmas.Option.{slice_get-map, slice_get_past, slice_get_within}
use Rattle.std.proofs.Math.Nat.{le_of_lt}
use Rattle.std.proofs.lemmas.List.Elements.{All-contains, All-head, All-push, All-weaker, Contains-append_left, Contains-append_right, Contains-get_or, Contains-push_cases, recursion_from_All}
use Rattle.dom_base.proofs.Decided.{lt_or_ge}
use Rattle.dom_base.proofs.Lists.{All-at, All-from_test, Contains-first, Contains-later, enumerate_from-push, head_same, length-some, map-push, none_set, tail_same}
use Rattle.blif_ast.specs.Cards.{same}
use Rattle.net_flatten.specs.NetworkNames.{IsNoLongerTaking, IsTakenWidth, MarksTaken, network_name, network_names}
use Rattle.model_calls.specs.Numbering.{IsDecimalDigit, IsFreePrefix, IsLeastPrefixAmong, IsPrefixedNumber, is_main, letters_w, name_by_number, names_by_number}
use Rattle.model_calls.specs.Signals.{Signal, signal_of}
use Rattle.model_calls.proofs.Fitting.{contains_cons, contains_unique}
use Rattle.network.proofs.IndexedLists.{get_left, get_set, take_next}
use Rattle.model_calls.proofs.UniqueNames.{position_cons}

-- a byte that is no `w`
abbrev pub is_other : ℕ → Bool
is_other byte = not (byte == 119)

digit_is_other : (byte : ℕ) → IsDecimalDigit byte → is_other byte ≡ true
digit_is_other byte h = let e : nat_eq byte 119 ≡ false = grind (arith, nat_tests, h.1) in ap not e

only_w : (byte : ℕ) → is_other byte ≡ false → 119 ≡ byte
only_w byte e = by (nat_eq byte 119) refl e
  where
    by : (t : Bool) → nat_eq byte 119 ≡ t → not t ≡ false → 119 ≡ byte
    by true test f = grind (arith, nat_tests, test)
    by false test f = absurd (true≢false f)

-- the letters `w` of such a name end at its first digit
ends_at : (width : ℕ) (digits : List ℕ) → digits ≢ [] → All IsDecimalDigit digits
    → position is_other (letters_w width ++ digits) ≡ Some width
ends_at zero [] some all = absurd (some refl)
ends_at zero (d ∷ ds) some all =
    position_cons is_other d ds
    ∙ ap (λ t. cond t (Some 0) (option_map suc (position is_other ds))) (digit_is_other d (All-head IsDecimalDigit d ds all))
ends_at (suc width) digits some all =
    position_cons is_other 119 (letters_w width ++ digits) ∙ ap (option_map suc) (ends_at width digits some all)

pub prefix_ends : {width : ℕ} {name : List ℕ} → IsPrefixedNumber (letters_w width) name → position is_other name ≡ Some width
prefix_ends {width} h = ap (position is_other) h.name_is ∙ ends_at width h.digits h.some h.all

pub one_width : {a b : ℕ} {name : List ℕ} → IsPrefixedNumber (letters_w a) name → IsPrefixedNumber (letters_w b) name → a ≡ b
one_width {a} {b} g h = let e : Some a ≡ Some b = sym (prefix_ends g) ∙ prefix_ends h in cc

-- what stands before the first byte that is no `w`, and what is left from there on
abbrev SplitsAt : List ℕ → ℕ → Type 0
SplitsAt name width = (name ≡ letters_w width ++ drop width name) × (drop width name ≢ [])

split_at_end : (name : List ℕ) (width : ℕ) → position is_other name ≡ Some width → SplitsAt name width
split_at_end [] width e = absurd cc
split_at_end (x ∷ xs) width e = by (split_at_end xs) (is_other x) refl (position is_other xs) refl (sym (position_cons is_other x xs) ∙ e)
  where
    found : (t : Bool) → is_other x ≡ t → cond (is_other x) (Some 0) (option_map suc (position is_other xs)) ≡ Some width
        → cond t (Some 0) (option_map suc (position is_other xs)) ≡ Some width
    found t is e = ap (λ b. cond b (Some 0) (option_map suc (position is_other xs))) (sym is) ∙ e

    by : ((k : ℕ) → position is_other xs ≡ Some k → SplitsAt xs k) → (t : Bool) → is_other x ≡ t
        → (p : Option ℕ) → position is_other xs ≡ p
        → cond (is_other x) (Some 0) (option_map suc (position is_other xs)) ≡ Some width → SplitsAt (x ∷ xs) width
    by deeper true t p at e =
        let i : Some 0 ≡ Some width = found true t e in
        let z : 0 ≡ width = cc in
        subst (SplitsAt (x ∷ xs)) z (refl, λ none. absurd cc)
    by deeper false t None at e = absurd (
        let i : option_map suc None ≡ Some width = ap (option_map suc) (sym at) ∙ found false t e in cc
        )
    by deeper false t (Some k) at e =
        let i : Some (suc k) ≡ Some width = ap (option_map suc) (sym at) ∙ found false t e in
        let z : suc k ≡ width = cc in
        let rest = deeper k at in
        subst (SplitsAt (x ∷ xs)) z (ap (λ b. b ∷ xs) (sym (only_w x t)) ∙ ap (λ l. 119 ∷ l) rest.0, rest.1)

digit_of : (byte : ℕ) → is_ascii_digit byte ≡ true → IsDecimalDigit byte
digit_of byte e = by (nat_le 48 byte) refl (nat_le byte 57) refl e
  where
    by : (s : Bool) → nat_le 48 byte ≡ s → (t : Bool) → nat_le byte 57 ≡ t → (s && t) ≡ true → IsDecimalDigit byte
    by true a true b e = (grind (arith, nat_tests, a), grind (arith, nat_tests, b))
    by true a false b e = absurd (true≢false (sym e))
    by false a t b e = absurd (true≢false (sym e))

digit_test : (byte : ℕ) → IsDecimalDigit byte → is_ascii_digit byte ≡ true
digit_test byte h =
    let a : nat_le 48 byte ≡ true = grind (arith, nat_tests, h.0) in
    let b : nat_le byte 57 ≡ true = grind (arith, nat_tests, h.1) in
    ap (λ s. s && nat_le byte 57) a ∙ b

digits_test : (digits : List ℕ) → AllByRecursion IsDecimalDigit digits → list_all is_ascii_digit digits ≡ true
digits_test [] h = refl
digits_test (d ∷ ds) h = ap (λ s. s && list_all is_ascii_digit ds) (digit_test d h.0) ∙ digits_test ds h.1

drop_letters : (width : ℕ) (digits : List ℕ) → drop width (letters_w width ++ digits) ≡ digits
drop_letters zero digits = refl
drop_letters (suc width) digits = drop_letters width digits

-- how a name is tested: by what stands from the first byte on that is no `w`
pub digits_follow : {width : ℕ} {name : List ℕ} → position is_other name ≡ Some width
    → list_all is_ascii_digit (drop width name) ≡ true → IsPrefixedNumber (letters_w width) name
digits_follow {width} {name} at all = let split = split_at_end name width at in record {
  digits = drop width name;
  name_is = split.0;
  some = split.1;
  all = All-from_test IsDecimalDigit is_ascii_digit digit_of (drop width name) all;
}

pub others_follow : {end : ℕ} {name : List ℕ} → position is_other name ≡ Some end
    → list_all is_ascii_digit (drop end name) ≡ false → (width : ℕ) → IsPrefixedNumber (letters_w width) name → ⊥
others_follow {end} {name} at some width h =
    let i : Some width ≡ Some end = sym (prefix_ends h) ∙ at in
    let z : width ≡ end = cc in
    let rest : drop end name ≡ h.digits = ap (λ k. drop k name) (sym z) ∙ ap (drop width) h.name_is ∙ drop_letters width h.digits in
    let all = digits_test h.digits (recursion_from_All IsDecimalDigit h.digits h.all) in
    true≢false (sym (ap (list_all is_ascii_digit) rest ∙ all) ∙ some)

pub only_letters : {name : List ℕ} → position is_other name ≡ None
    → (width : ℕ) → IsPrefixedNumber (letters_w width) name → ⊥
only_letters at width h = let i : Some width ≡ None = sym (prefix_ends h) ∙ at in absurd cc

width_within : {width : ℕ} {name : List ℕ} → IsPrefixedNumber (letters_w width) name → width < length name
width_within {width} h =
    let all = ap length h.name_is ∙ length-append (letters_w width) h.digits in
    let letters : length (letters_w width) ≡ width = length-replicate width 119 in
    omega (arith, all, letters, length-some h.digits h.some)

-- the widths that names take, where one more name comes behind them
taken_before : (names : List (List ℕ)) (name : List ℕ) (width : ℕ)
    → IsTakenWidth names width → IsTakenWidth (names ++ name ∷ []) width
taken_before names name width (other, c, h) = (other, Contains-append_left names (name ∷ []) other c, h)

taken_last : (names : List (List ℕ)) (name : List ℕ) (width : ℕ)
    → IsPrefixedNumber (letters_w width) name → IsTakenWidth (names ++ name ∷ []) width
taken_last names name width h = (name, Contains-append_right names (name ∷ []) name (Contains-first name []), h)

taken_cases : (names : List (List ℕ)) (name : List ℕ) (width : ℕ) → IsTakenWidth (names ++ name ∷ []) width
    → IsTakenWidth names width ⊎ IsPrefixedNumber (letters_w width) name
taken_cases names name width (other, c, h) = elim (Contains-push_cases names name other c) [
  | inl before ↦ inl (other, before, h)
  | inr is ↦ inr (subst (IsPrefixedNumber (letters_w width)) (sym is) h)
]

set_true : (marks : List Bool) (k j : ℕ) → k < length marks
    → (j ≡ k) ⊎ (slice_get marks j ≡ Some true) → slice_get (set marks k true) j ≡ Some true
set_true [] k j l h = absurd (omega (arith, l))
set_true (x ∷ xs) zero zero l h = refl
set_true (x ∷ xs) zero (suc j) l (inl i) = absurd (omega (arith, i))
set_true (x ∷ xs) zero (suc j) l (inr e) = e
set_true (x ∷ xs) (suc k) zero l (inl i) = absurd (omega (arith, i))
set_true (x ∷ xs) (suc k) zero l (inr e) = e
set_true (x ∷ xs) (suc k) (suc j) l (inl i) = set_true xs k j (omega (arith, l)) (inl (omega (arith, i)))
set_true (x ∷ xs) (suc k) (suc j) l (inr e) = set_true xs k j (omega (arith, l)) (inr e)

-- the widths that the first names take are marked, and there are marks for those that the others take
pub record AreMarked (names : List (List ℕ)) (count : ℕ) (marks : List Bool) : Type 0 where
  pub long : All (IsNoLongerTaking (length marks)) names
  pub marked : MarksTaken (take count names) marks

untaken : (width : ℕ) → IsTakenWidth [] width → ⊥
untaken width (name, there, h) = absurd (omega (arith, there.1))

pub none_marked : (names : List (List ℕ)) (marks : List Bool) (n : ℕ) → marks ≡ replicate n false → All (IsNoLongerTaking n) names → AreMarked names 0 marks
none_marked names marks n is long = record {
  long = subst (λ m. All (IsNoLongerTaking m) names) (sym (ap length is ∙ length-replicate n false)) long;
  marked = λ width. ((λ e. absurd (none_set n width (ap (λ l. slice_get l width) (sym is) ∙ e))), λ t. absurd (untaken width t));
}

pub has_mark : (names : List (List ℕ)) (count : ℕ) (name : List ℕ) (marks : List Bool) (width : ℕ)
    → slice_get names count ≡ Some name → IsPrefixedNumber (letters_w width) name → AreMarked names count marks → width < length marks
has_mark names count name marks width at h m =
    let most = All-at (IsNoLongerTaking (length marks)) names count name m.long at width h in
    omega (arith, most, width_within h)

pub width_marked : (names : List (List ℕ)) (count : ℕ) (name : List ℕ) (marks : List Bool) (width : ℕ)
    → slice_get names count ≡ Some name → IsPrefixedNumber (letters_w width) name → AreMarked names count marks
    → AreMarked names (count + 1) (set marks width true)
width_marked names count name marks width at h m = record {
  long = rw (length-set marks width true) m.long;
  marked = rw (take_next names count name at) each;
}
  where
    each : MarksTaken (take count names ++ name ∷ []) (set marks width true)
    each other = (marked, taken)
      where
        marked : slice_get (set marks width true) other ≡ Some true → IsTakenWidth (take count names ++ name ∷ []) other
        marked e = elim (get_set marks width other true true e) [
          | inl this ↦ taken_last (take count names) name other (subst (λ w. IsPrefixedNumber (letters_w w) name) (sym this.0) h)
          | inr before ↦ taken_before (take count names) name other ((m.marked other).0 before.1)
        ]

        taken : IsTakenWidth (take count names ++ name ∷ []) other → slice_get (set marks width true) other ≡ Some true
        taken t =
            let long = All-at (IsNoLongerTaking (length marks)) names count name m.long at width h in
            set_true marks width other (omega (arith, long, width_within h)) (elim (taken_cases (take count names) name other t) [
              | inl before ↦ inr ((m.marked other).1 before)
              | inr this ↦ inl (one_width this h)
            ])

pub none_added : (names : List (List ℕ)) (count : ℕ) (name : List ℕ) (marks : List Bool)
    → slice_get names count ≡ Some name → ((width : ℕ) → IsPrefixedNumber (letters_w width) name → ⊥) → AreMarked names count marks
    → AreMarked names (count + 1) marks
none_added names count name marks at none m = record {
  long = m.long;
  marked = rw (take_next names count name at) each;
}
  where
    each : MarksTaken (take count names ++ name ∷ []) marks
    each other = (
      (λ e. taken_before (take count names) name other ((m.marked other).0 e)),
      λ t. elim (taken_cases (take count names) name other t) [
        | inl before ↦ (m.marked other).1 before
        | inr this ↦ absurd (none other this)
      ],
    )

-- a name more, which takes a width, or none
pub longer_taking : (names : List (List ℕ)) (count : ℕ) (name : List ℕ) (longest most : ℕ) → slice_get names count ≡ Some name
    → longest ≤ most → length name ≤ most → All (IsNoLongerTaking longest) (take count names) → All (IsNoLongerTaking most) (take (count + 1) names)
longer_taking names count name longest most at more long all = rw (take_next names count name at)
    (All-push (IsNoLongerTaking most) (take count names) name
    (All-weaker (IsNoLongerTaking longest) (IsNoLongerTaking most) (λ n l width h. let below = l width h in omega (arith, below, more)) (take count names) all)
    (λ width h. long))

pub nothing_taking : (names : List (List ℕ)) (count : ℕ) (name : List ℕ) (longest : ℕ) → slice_get names count ≡ Some name
    → ((width : ℕ) → IsPrefixedNumber (letters_w width) name → ⊥) → All (IsNoLongerTaking longest) (take count names)
    → All (IsNoLongerTaking longest) (take (count + 1) names)
nothing_taking names count name longest at none all = rw (take_next names count name at)
    (All-push (IsNoLongerTaking longest) (take count names) name all (λ width h. absurd (none width h)))

-- no mark where no name takes a width
pub nothing_taken : (names : List (List ℕ)) (marks : List Bool) → length marks ≡ 0 → All (IsNoLongerTaking (length marks)) names → MarksTaken names marks
nothing_taken names marks none long width = (
  (λ e. let past = slice_get_within marks width true e in absurd (omega (arith, past, none))),
  λ t. let most = All-contains (IsNoLongerTaking (length marks)) names t.0 long t.1 width t.2 in absurd (omega (arith, most, width_within t.2, none)),
)

-- the first width that isn't marked
pub first_is_least : (names : List (List ℕ)) (marks : List Bool) (width : ℕ) → MarksTaken names marks → 1 ≤ width
    → slice_get marks width ≢ Some true → ((other : ℕ) → 1 ≤ other → other < width → slice_get marks other ≡ Some true)
    → IsLeastPrefixAmong names width
first_is_least names marks width m some free first = record {
  is_free = record {
    some = some;
    free = λ k d l h. free ((m width).1 (get_or names k d, Contains-get_or names k d l, h));
  };
  least = λ other f. elim (lt_or_ge other width) [
    | inl below ↦ absurd (
        let t = (m other).0 (first other f.some below) in
        All-contains (λ name. IsPrefixedNumber (letters_w other) name → ⊥) names t.0 f.free t.1 t.2
        )
    | inr above ↦ above
  ];
}

-- the same prefix is the least one where each name stands once
contains_of_unique : (names : List (List ℕ)) (name : List ℕ) → Contains (unique_keys same names) name → Contains names name
contains_of_unique [] name c = c
contains_of_unique (x ∷ xs) name c = by (contains_of_unique xs name) (list_any (same x) xs) c
  where
    by : (Contains (unique_keys same xs) name → Contains xs name) → (t : Bool)
        → Contains (cond t (unique_keys same xs) (x ∷ unique_keys same xs)) name → Contains (x ∷ xs) name
    by deeper true c = Contains-later x xs name (deeper c)
    by deeper false c = elim (contains_cons x (unique_keys same xs) name c) [
      | inl is ↦ subst (Contains (x ∷ xs)) is (Contains-first x xs)
      | inr later ↦ Contains-later x xs name (deeper later)
    ]

abbrev IsFree : ℕ → List ℕ → Type 0
IsFree width name = IsPrefixedNumber (letters_w width) name → ⊥

free_of_unique : {width : ℕ} (names : List (List ℕ)) → IsFreePrefix (unique_keys same names) width → IsFreePrefix names width
free_of_unique {width} names f = record {
  some = f.some;
  free = λ k d l. All-contains (IsFree width) (unique_keys same names) (get_or names k d) f.free
      (contains_unique names (get_or names k d) (Contains-get_or names k d l));
}

unique_of_free : {width : ℕ} (names : List (List ℕ)) → IsFreePrefix names width → IsFreePrefix (unique_keys same names) width
unique_of_free {width} names f = record {
  some = f.some;
  free = λ k d l. All-contains (IsFree width) names (get_or (unique_keys same names) k d) f.free
      (contains_of_unique names (get_or (unique_keys same names) k d) (Contains-get_or (unique_keys same names) k d l));
}

pub least_of_unique : {width : ℕ} (names : List (List ℕ))
    → IsLeastPrefixAmong (unique_keys same names) width ↔ IsLeastPrefixAmong names width
least_of_unique names = (
  (λ p. record { is_free = free_of_unique names p.is_free; least = λ other f. p.least other (unique_of_free names f) }),
  λ p. record { is_free = unique_of_free names p.is_free; least = λ other f. p.least other (free_of_unique names f) },
)

pub next_name : (names : List (List ℕ)) (prefix : List ℕ) (numbers : List ℕ) (index x : ℕ) → slice_get numbers index ≡ Some x
    → network_names names prefix (take (index + 1) numbers)
    ≡ network_names names prefix (take index numbers) ++ network_name names prefix index x ∷ []
next_name names prefix numbers index x at =
    let count : length (take index numbers) ≡ index = length-take-le index numbers (le_of_lt (slice_get_within numbers index x at)) in
    let last : 0 + length (take index numbers) ≡ index = omega (arith, count) in
    ap (network_names names prefix) (take_next numbers index x at)
    ∙ ap (map name_at) (enumerate_from-push 0 (take index numbers) x)
    ∙ map-push name_at (enumerate_from 0 (take index numbers)) (0 + length (take index numbers), x)
    ∙ ap (λ n. network_names names prefix (take index numbers) ++ network_name names prefix n x ∷ []) last
  where
    name_at : ℕ × ℕ → List ℕ
    name_at p = network_name names prefix p.0 p.1

-- the names by numbers are those by signals, where the numbers stand for signals of a file whose main model's names come first
name_is : (names : List (List ℕ)) (prefix : List ℕ) (others : List Signal) → All (λ (s : Signal). is_main s.path ≡ false) others
    → (index x : ℕ) (s : Signal) → slice_get (map (signal_of []) names ++ others) x ≡ Some s
    → network_name names prefix index x ≡ name_by_number prefix index s
name_is names prefix others below index x s at =
    elim (get_left (map (signal_of []) names) others x s at) [
      | inl there ↦ own (slice_get names x) refl (sym (slice_get-map (signal_of []) names x) ∙ there)
      | inr there ↦
          let past = slice_get_past names x (omega (arith, there.1, length-map names (signal_of []))) in
          let other = All-at (λ (t : Signal). is_main t.path ≡ false) others there.0 s below there.2 in
          ap (λ o. unwrap_or o numbered) past ∙ ap (λ b. if b then s.name else numbered) (sym other)
    ]
  where
    numbered : List ℕ
    numbered = prefix ++ decimal index

    own : (found : Option (List ℕ)) → slice_get names x ≡ found → option_map (signal_of []) (slice_get names x) ≡ Some s
        → network_name names prefix index x ≡ name_by_number prefix index s
    own None e is = absurd (
        let i : option_map (signal_of []) None ≡ Some s = ap (option_map (signal_of [])) (sym e) ∙ is in cc
        )
    own (Some name) e is =
        let i : Some (signal_of [] name) ≡ Some s = ap (option_map (signal_of [])) (sym e) ∙ is in
        let same : signal_of [] name ≡ s = cc in
        ap (λ o. unwrap_or o numbered) e ∙ ap (name_by_number prefix index) same

names_are : (names : List (List ℕ)) (prefix : List ℕ) (others : List Signal) → All (λ (s : Signal). is_main s.path ≡ false) others
    → (index : ℕ) (numbers : List ℕ) (signals : List Signal)
    → map (slice_get (map (signal_of []) names ++ others)) numbers ≡ map Some signals
    → map (λ (p : ℕ × ℕ). network_name names prefix p.0 p.1) (enumerate_from index numbers)
    ≡ map (λ (p : ℕ × Signal). name_by_number prefix p.0 p.1) (enumerate_from index signals)
names_are names prefix others below index [] [] e = refl
names_are names prefix others below index [] (s ∷ signals) e = absurd (omega (arith, ap length e))
names_are names prefix others below index (x ∷ numbers) [] e = absurd (omega (arith, ap length e))
names_are names prefix others below index (x ∷ numbers) (s ∷ signals) e =
    let first = name_is names prefix others below index x s (head_same e) in
    let rest = names_are names prefix others below (index + 1) numbers signals (tail_same e) in
    ap₂ ◌∷◌ first rest

pub names_by_signals : (names : List (List ℕ)) (prefix : List ℕ) (all : List Signal)
    → take (length names) all ≡ map (signal_of []) names → All (λ (s : Signal). is_main s.path ≡ false) (drop (length names) all)
    → (numbers : List ℕ) (signals : List Signal) → map (slice_get all) numbers ≡ map Some signals
    → network_names names prefix numbers ≡ names_by_number prefix signals
names_by_signals names prefix all first below numbers signals e =
    let others = drop (length names) all in
    let whole : all ≡ map (signal_of []) names ++ others = sym (take-append-drop (length names) all) ∙ ap (λ l. l ++ others) first in
    names_are names prefix others below 0 numbers signals (ap (λ l. map (slice_get l) numbers) (sym whole) ∙ e)
