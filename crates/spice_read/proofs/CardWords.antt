-- The words of cards in their form.
use Rattle.std.proofs.Common.{◌≡◌, ◌<◌, ◌≤◌, ℕ, Bool, true, false, ◌==◌, ◌&&◌, not, List, [], ◌∷◌, length, drop, nat_eq, nat_lt, codes, slice_index, slice_index_or, refl, sym, ap, ◌∙◌, arith, eqb-true, All, subst}
use Rattle.std.specs.List.{AllByRecursion, list_any}
use Rattle.std.specs.Cmp.Lexicographic.{pointwise, bytes_decides}
use Rattle.std.proofs.lemmas.Bool.{true≢false}
use Rattle.std.proofs.lemmas.Bool.Decides.{nat_tests}
use Rattle.std.proofs.lemmas.List.Elements.{All-from_recursion}
use Rattle.dom_base.specs.Lines.{first_word}
use Rattle.deck.specs.DeckText.{model_word, HasNoEquals, IsDeviceCard}
use Rattle.deck.specs.DeckCards.{NumberedCard, has_first_word, dot_subckt, dot_ends, is_device, is_model_word, has_equals, port_names, kind_of, word_at, device_of_card}
use Rattle.deck.proofs.WordTests.{model_word-kind, words_no_equals}
use Rattle.spice_read.specs.Forms.{is_named_card}

-- the words of a device's card
pub device_card : (card : NumberedCard) → is_device card ≡ true → 5 < length card.words → is_model_word (word_at card 5) ≡ true → IsDeviceCard card.words (device_of_card card)
device_card card is long known = by card.words refl is long (model_word-kind (word_at card 5) known)
  where
    first_m : (word : List ℕ) → (slice_index word 0 == 109) ≡ true → (rest : List ℕ) × (word ≡ 109 ∷ rest)
    first_m [] h = absurd (true≢false (sym h))
    first_m (b ∷ bs) h = (bs, ap (λ x. x ∷ bs) (eqb-true b 109 h))

    by : (all : List (List ℕ)) → card.words ≡ all → (slice_index (first_word all) 0 == 109) ≡ true → 5 < length all → slice_index_or all 5 [] ≡ model_word (kind_of (slice_index_or all 5 []))
        → IsDeviceCard card.words (device_of_card card)
    by [] e m l k = absurd (omega (arith, l))
    by (a ∷ []) e m l k = absurd (omega (arith, l))
    by (a ∷ b ∷ []) e m l k = absurd (omega (arith, l))
    by (a ∷ b ∷ d ∷ []) e m l k = absurd (omega (arith, l))
    by (a ∷ b ∷ d ∷ f ∷ []) e m l k = absurd (omega (arith, l))
    by (a ∷ b ∷ d ∷ f ∷ g ∷ []) e m l k = absurd (omega (arith, l))
    by (a ∷ b ∷ d ∷ f ∷ g ∷ h ∷ more) e m l k =
        let name = first_m a m in
        let P : List (List ℕ) → Type 0 = λ ws. IsDeviceCard ws (record { kind = kind_of (slice_index_or ws 5 []); drain = slice_index_or ws 1 []; gate = slice_index_or ws 2 []; source = slice_index_or ws 3 [] }) in
        subst P (sym e) (record { name = name.0; bulk = g; more = more; words_are = λ i. name.1 i ∷ b ∷ d ∷ f ∷ g ∷ k i ∷ more })

-- the words of a `.subckt` in its form
pub record IsSubcktCard (card : NumberedCard) : Type 0 where
  pub words_are : card.words ≡ codes ".subckt" ∷ word_at card 1 ∷ port_names card
  pub no_equals : All HasNoEquals (word_at card 1 ∷ port_names card)

pub subckt_words : (card : NumberedCard) → has_first_word dot_subckt card ≡ true → is_named_card card ≡ true → IsSubcktCard card
subckt_words card is form = by (nat_lt 1 (length card.words)) (list_any has_equals card.words) refl refl form
  where
    shape : (all : List (List ℕ)) → card.words ≡ all → 1 < length all → pointwise nat_eq (first_word all) (codes ".subckt") ≡ true → AllByRecursion HasNoEquals all → IsSubcktCard card
    shape [] e l s h = absurd (omega (arith, l))
    shape (a ∷ []) e l s h = absurd (omega (arith, l))
    shape (a ∷ b ∷ more) e l s h =
        let first = (bytes_decides a (codes ".subckt")).0 s in
        record {
          words_are = e ∙ (λ i. first i ∷ slice_index_or (sym e i) 1 [] ∷ drop 2 (sym e i));
          no_equals = subst (λ ws. All HasNoEquals (slice_index_or ws 1 [] ∷ drop 2 ws)) (sym e) (All-from_recursion HasNoEquals (b ∷ more) h.1);
        }

    by : (s t : Bool) → nat_lt 1 (length card.words) ≡ s → list_any has_equals card.words ≡ t → (s && not t) ≡ true → IsSubcktCard card
    by true false e f h = shape card.words refl (grind (arith, nat_tests)) is (words_no_equals card.words f)
    by true true e f h = absurd (true≢false (sym h))
    by false t e f h = absurd (true≢false (sym h))

-- the words of a `.ends` in its form
pub ends_words : (card : NumberedCard) → has_first_word dot_ends card ≡ true → length card.words < 3 → (closing : List (List ℕ)) × (card.words ≡ codes ".ends" ∷ closing) × (length closing ≤ 1)
ends_words card is short = by card.words is short
  where
    by : (all : List (List ℕ)) → pointwise nat_eq (first_word all) (codes ".ends") ≡ true → length all < 3 → (closing : List (List ℕ)) × (all ≡ codes ".ends" ∷ closing) × (length closing ≤ 1)
    by [] e l = absurd (true≢false (sym e))
    by (a ∷ closing) e l = (closing, ap (λ w. w ∷ closing) ((bytes_decides a (codes ".ends")).0 e), omega (arith, l))
