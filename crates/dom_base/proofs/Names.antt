-- Names by their bytes: their equality, names of which one begins so, and words that are names of nets.
use Rattle.std.proofs.Common.{inl, inr, ◌≡◌, ℕ, Bool, true, false, List, [], ◌∷◌, refl, ap, sym, ◌∙◌, arith, All, ◌==◌, ◌&&◌, ◌||◌, suc, nat_eq, rules, length}
use Rattle.std.specs.List.{AllByRecursion, list_any, list_all, starts_with}
use Rattle.std.proofs.lemmas.Bool.Decides.{nat_tests}
use Rattle.std.proofs.lemmas.List.Elements.{All-from_recursion, recursion_from_All, All-weaker}
use Rattle.dom_base.specs.Lines.{is_blank, is_control, is_word, IsLower, IsLowerWord}
use Rattle.dom_base.specs.Names.{IsNetByte, IsNetName, is_net_byte, is_net_name}
use Rattle.std.proofs.lemmas.List.Folds.{list_any_none}
use Rattle.std.specs.Cmp.{IsEquivalence}
use Rattle.std.specs.Cmp.Rules.{comparing}
use Rattle.std.specs.Cmp.Lexicographic.{pointwise, bytes_decides}
use Rattle.dom_base.specs.Apart.{AreApart}
use Rattle.dom_base.proofs.Lists.{list_any-none, none-list_any, AllByRecursion-weaker}

-- equality of names by bytes is an equivalence
pub names_equal : IsEquivalence (pointwise nat_eq)
names_equal = search (comparing, rules)

-- of two names only one begins so
pub apart_by_start : (p x y : List ℕ) → starts_with nat_eq x p ≡ false → starts_with nat_eq y p ≡ true → pointwise nat_eq x y ≡ false
apart_by_start p x y begins_not begins = by (pointwise nat_eq x y) refl
  where
    by : (b : Bool) → pointwise nat_eq x y ≡ b → pointwise nat_eq x y ≡ false
    by true e = let same : x ≡ y = (bytes_decides x y).0 e in let bad : starts_with nat_eq y p ≡ false = ap (λ (z : List ℕ). starts_with nat_eq z p) (sym same) ∙ begins_not in let never : true ≡ false = sym begins ∙ bad in cc
    by false e = e

pub apart_from_each : (p x : List ℕ) (ys : List (List ℕ)) → starts_with nat_eq x p ≡ false → All (λ y. starts_with nat_eq y p ≡ true) ys → AllByRecursion (λ y. pointwise nat_eq x y ≡ false) ys
apart_from_each p x [] begins_not h = tt
apart_from_each p x (y ∷ ys) begins_not h = (apart_by_start p x y begins_not (h 0 y (omega arith)), apart_from_each p x ys begins_not (λ k d lt. h (suc k) d (omega arith)))

-- names of which none begins so, and names that all do
pub AreApart-from_start : (p : List ℕ) (xs ys : List (List ℕ)) → list_any (λ x. starts_with nat_eq x p) xs ≡ false → All (λ y. starts_with nat_eq y p ≡ true) ys → AreApart (pointwise nat_eq) xs ys
AreApart-from_start p [] ys begins_not h = tt
AreApart-from_start p (x ∷ xs) ys begins_not h = by (starts_with nat_eq x p) refl begins_not (λ rest. AreApart-from_start p xs ys rest h)
  where
    by : (b : Bool) → starts_with nat_eq x p ≡ b → (b || list_any (λ z. starts_with nat_eq z p) xs) ≡ false → (list_any (λ z. starts_with nat_eq z p) xs ≡ false → AreApart (pointwise nat_eq) xs ys) → AreApart (pointwise nat_eq) (x ∷ xs) ys
    by true e f later = absurd (let never : true ≡ false = f in cc)
    by false e f later = (apart_from_each p x ys e h, later f)

-- a name among names that all begin otherwise
pub none_begins : (p x : List ℕ) (ys : List (List ℕ)) → starts_with nat_eq x p ≡ false → All (λ y. starts_with nat_eq y p ≡ true) ys → list_any (pointwise nat_eq x) ys ≡ false
none_begins p x ys begins_not begin =
    list_any_none (pointwise nat_eq x) ys
    (All-weaker (λ y. starts_with nat_eq y p ≡ true) (λ y. pointwise nat_eq x y ≡ false) (λ y begins. apart_by_start p x y begins_not begins) ys begin)

-- a byte of a name is no control byte
pub net_byte_no_control : (b : ℕ) → IsNetByte b → is_control b ≡ false
net_byte_no_control b h = grind (arith, nat_tests, h.0, h.1)

-- a name has no control byte
pub no_control-name : (word : List ℕ) → IsNetName word → All (λ b. is_control b ≡ false) word
no_control-name word h = All-weaker IsNetByte (λ b. is_control b ≡ false) net_byte_no_control word h.good

pub no_control_in-name : (word : List ℕ) → IsNetName word → list_any is_control word ≡ false
no_control_in-name word h = list_any-none is_control word (recursion_from_All (λ b. is_control b ≡ false) word (no_control-name word h))

net_byte_from : (b : ℕ) → IsLower b → is_blank b ≡ false → is_control b ≡ false → IsNetByte b
net_byte_from b lower blank control = (grind (arith, nat_tests), grind (arith, nat_tests), lower)

net_bytes_from : (word : List ℕ) → AllByRecursion (λ b. IsLower b × (is_blank b ≡ false)) word → AllByRecursion (λ b. is_control b ≡ false) word → AllByRecursion IsNetByte word
net_bytes_from [] h k = tt
net_bytes_from (b ∷ bs) h k = (net_byte_from b h.0.0 h.0.1 k.0, net_bytes_from bs h.1 k.1)

-- such a word without control bytes is the name of a net
pub IsNetName-word : (word : List ℕ) → IsLowerWord word → All (λ b. is_control b ≡ false) word → IsNetName word
IsNetName-word word h k = record {
  some = λ e. let never : true ≡ false = sym h.0 ∙ ap is_word e in cc;
  good = All-from_recursion IsNetByte word (net_bytes_from word h.1 (recursion_from_All (λ b. is_control b ≡ false) word k));
}

-- words without upper-case letters and control bytes are names of nets
pub plain_words : (all : List (List ℕ)) → AllByRecursion IsLowerWord all → AllByRecursion (All (λ b. is_control b ≡ false)) all → AllByRecursion IsNetName all
plain_words [] h k = tt
plain_words (word ∷ all) h k = (IsNetName-word word h.0 k.0, plain_words all h.1 k.1)

-- words in which a test finds no control byte
pub visible_word : (word : List ℕ) → list_any is_control word ≡ false → AllByRecursion (λ b. is_control b ≡ false) word
visible_word word h = none-list_any is_control word h

pub visible_words : (all : List (List ℕ)) → list_any (list_any is_control) all ≡ false → AllByRecursion (All (λ b. is_control b ≡ false)) all
visible_words all h =
    AllByRecursion-weaker (λ word. list_any is_control word ≡ false) (All (λ b. is_control b ≡ false))
    (λ word k. All-from_recursion (λ b. is_control b ≡ false) word (visible_word word k)) all (none-list_any (list_any is_control) all h)

net_byte-from_test : (b : ℕ) → is_net_byte b ≡ true → IsNetByte b
net_byte-from_test b h = (grind (arith, nat_tests), grind (arith, nat_tests), grind (arith, nat_tests))

net_bytes-from_test : (bs : List ℕ) → list_all is_net_byte bs ≡ true → AllByRecursion IsNetByte bs
net_bytes-from_test [] h = tt
net_bytes-from_test (b ∷ bs) h = by (is_net_byte b) refl h (λ rest. net_bytes-from_test bs rest)
  where
    by : (t : Bool) → is_net_byte b ≡ t → (t && list_all is_net_byte bs) ≡ true → (list_all is_net_byte bs ≡ true → AllByRecursion IsNetByte bs) → AllByRecursion IsNetByte (b ∷ bs)
    by true e both rest = (net_byte-from_test b e, rest both)
    by false e both rest = absurd (cc)

-- a word that passes the test is a name
pub IsNetName-from_test : (word : List ℕ) → is_net_name word ≡ true → IsNetName word
IsNetName-from_test [] h = absurd (cc)
IsNetName-from_test (b ∷ bs) h = record {
  some = λ e. cc;
  good = All-from_recursion IsNetByte (b ∷ bs) (net_bytes-from_test (b ∷ bs) h);
}

-- a name passes the test
byte_test : (b : ℕ) → IsNetByte b → is_net_byte b ≡ true
byte_test b (high, no_delete, inl low) = grind (arith, nat_tests, high, no_delete, low)
byte_test b (high, no_delete, inr above) = grind (arith, nat_tests, high, no_delete, above)

bytes_test : (bs : List ℕ) → AllByRecursion IsNetByte bs → list_all is_net_byte bs ≡ true
bytes_test [] h = refl
bytes_test (b ∷ bs) h = rw (byte_test b h.0) (bytes_test bs h.1)

pub is_net_name-from : (word : List ℕ) → IsNetName word → is_net_name word ≡ true
is_net_name-from [] h = absurd (h.some refl)
is_net_name-from (b ∷ bs) h = bytes_test (b ∷ bs) (recursion_from_All IsNetByte (b ∷ bs) h.good)

-- the answer of the test
pub net_name_by_test : (word : List ℕ) → is_net_name word ≡ false → IsNetName word → ⊥
net_name_by_test word fails h = let never : true ≡ false = sym (is_net_name-from word h) ∙ fails in cc

-- the test of a word that has a byte
pub net_name_by_bytes : (word : List ℕ) → (length word == 0) ≡ false → list_all is_net_byte word ≡ is_net_name word
net_name_by_bytes [] e = absurd (let never : true ≡ false = e in cc)
net_name_by_bytes (b ∷ bs) e = refl
