-- Words by tests: without control bytes, without the byte `=`, and words for kinds of devices.
use Rattle.std.proofs.Common.{◌≡◌, ◌≢◌, ℕ, Bool, true, false, ◌==◌, ◌||◌, not, if◌then◌else◌, nat_eq, List, [], ◌∷◌, codes, refl, sym, ap, ◌∙◌, All, eq-eqb, ne_eqb}
use Rattle.std.specs.List.{AllByRecursion, list_all, list_any}
use Rattle.std.specs.Cmp.Lexicographic.{pointwise, bytes_decides}
use Rattle.std.proofs.lemmas.Bool.{true≢false}
use Rattle.std.proofs.lemmas.Bool.Decides.{Decides-eqb}
use Rattle.std.proofs.lemmas.List.Elements.{All-from_recursion, recursion_from_All}
use Rattle.dom_base.specs.Lines.{is_control}
use Rattle.dom_base.specs.declared.kind.Kind.{Kind}
use Rattle.dom_base.specs.declared.kind.Kind.TheVariants.{N as nch, P as pch, Keep}
use Rattle.dom_base.proofs.Lists.{All-from_test, AllByRecursion-weaker, list_any-none, none-list_any}
use Rattle.deck.specs.DeckCards.{has_equals, is_model_word, kind_of}
use Rattle.deck.specs.DeckText.{HasNoEquals, model_word}

-- words without control bytes, by the test
no_control_words : (all : List (List ℕ)) → AllByRecursion (All (λ b. is_control b ≡ false)) all → AllByRecursion (λ word. list_any is_control word ≡ false) all
no_control_words [] h = tt
no_control_words (word ∷ all) h = (list_any-none is_control word (recursion_from_All (λ b. is_control b ≡ false) word h.0), no_control_words all h.1)

pub none_has_control : (all : List (List ℕ)) → All (All (λ b. is_control b ≡ false)) all → list_any (list_any is_control) all ≡ false
none_has_control all h = list_any-none (list_any is_control) all (no_control_words all (recursion_from_All (All (λ b. is_control b ≡ false)) all h))

-- words without `=`, by the test
no_equals_byte : (word : List ℕ) → AllByRecursion (λ b. b ≢ 61) word → AllByRecursion (λ b. (b == 61) ≡ false) word
no_equals_byte [] h = tt
no_equals_byte (b ∷ bs) h = (ne_eqb b 61 h.0, no_equals_byte bs h.1)

no_equals_words : (all : List (List ℕ)) → AllByRecursion HasNoEquals all → AllByRecursion (λ word. has_equals word ≡ false) all
no_equals_words [] h = tt
no_equals_words (word ∷ all) h = (list_any-none (λ b. b == 61) word (no_equals_byte word (recursion_from_All (λ b. b ≢ 61) word h.0)), no_equals_words all h.1)

pub none_has_equals : (all : List (List ℕ)) → All HasNoEquals all → list_any has_equals all ≡ false
none_has_equals all h = list_any-none has_equals all (no_equals_words all (recursion_from_All HasNoEquals all h))

-- and back
word_no_equals : (word : List ℕ) → has_equals word ≡ false → HasNoEquals word
word_no_equals word h = All-from_recursion (λ b. b ≢ 61) word
    (AllByRecursion-weaker (λ b. (b == 61) ≡ false) (λ b. b ≢ 61) (λ b no e. true≢false (sym (eq-eqb b 61 e) ∙ no)) word (none-list_any (λ b. b == 61) word h))

pub words_no_equals : (all : List (List ℕ)) → list_any has_equals all ≡ false → AllByRecursion HasNoEquals all
words_no_equals all h = AllByRecursion-weaker (λ word. has_equals word ≡ false) HasNoEquals word_no_equals all (none-list_any has_equals all h)

-- a word without `=`, by a test of all its bytes
pub no_equals_by_test : (word : List ℕ) → list_all (λ b. not (nat_eq b 61)) word ≡ true → HasNoEquals word
no_equals_by_test word h = All-from_test (λ b. b ≢ 61) (λ b. not (nat_eq b 61))
    (λ b so e. (let yes : nat_eq b 61 ≡ true = (Decides-eqb b 61).1 e in let no : not true ≡ true = sym (ap not yes) ∙ so in cc)) word h

-- the word for a kind is known
pub model_known : (kind : Kind) → is_model_word (model_word kind) ≡ true
model_known nch = refl
model_known pch = refl
model_known Keep = refl

-- and its kind is that one
pub kind_back : (kind : Kind) → kind_of (model_word kind) ≡ kind
kind_back nch = refl
kind_back pch = refl
kind_back Keep = refl

-- a known word is the word for its kind
pub model_word-kind : (word : List ℕ) → is_model_word word ≡ true → word ≡ model_word (kind_of word)
model_word-kind word is = by (pointwise nat_eq word (codes "nch")) (pointwise nat_eq word (codes "pch")) (pointwise nat_eq word (codes "pkeep")) refl refl refl is
  where
    by : (a b d : Bool) → pointwise nat_eq word (codes "nch") ≡ a → pointwise nat_eq word (codes "pch") ≡ b → pointwise nat_eq word (codes "pkeep") ≡ d → (a || b || d) ≡ true
        → word ≡ model_word (kind_of word)
    by true b d x y z h = (bytes_decides word (codes "nch")).0 x ∙ ap (λ (t : Bool). model_word (if t then nch else (if pointwise nat_eq word (codes "pch") then pch else Keep))) (sym x)
    by false true d x y z h = (bytes_decides word (codes "pch")).0 y ∙ (λ i. model_word (if sym x i then nch else (if sym y i then pch else Keep)))
    by false false true x y z h = (bytes_decides word (codes "pkeep")).0 z ∙ (λ i. model_word (if sym x i then nch else (if sym y i then pch else Keep)))
    by false false false x y z h = absurd (true≢false (sym h))
