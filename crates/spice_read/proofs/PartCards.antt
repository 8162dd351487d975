-- The cards of subcircuits, as the tests of cards see them.
use Rattle.std.proofs.Common.{◌≡◌, ℕ, ◌+◌, ◌-◌, suc, Bool, true, false, ◌==◌, ◌||◌, List, [], ◌∷◌, ◌++◌, length, take, drop, nat_eq, slice_index, slice_index_or, codes, refl, ap, ◌∙◌, arith, length-append}
use Rattle.std.specs.Cmp.Lexicographic.{pointwise, bytes_decides}
use Rattle.std.proofs.lemmas.List.{take_at}
use Rattle.dom_base.specs.Lines.{first_word}
use Rattle.dom_base.proofs.Bools.{or_swap}
use Rattle.deck.specs.DeckCards.{NumberedCard, has_first_word, dot_subckt, dot_ends, dot_end, dot_model, device_of_card, kind_of, word_at, call_of_card}
use Rattle.deck.specs.DeckText.{IsDeviceCard, is_skipped, IsCallCard}
use Rattle.deck.specs.NamedDevices.{NamedDevice}
use Rattle.deck.specs.Subckts.{Call, Single, Called}
use Rattle.deck.specs.SubcktCards.{card_parts}
use Rattle.deck.proofs.WordTests.{kind_back}
use Rattle.spice_read.proofs.CleanCards.{IsOf}

-- a card whose words begin with this word
of_word : (card : NumberedCard) (word : List ℕ) (more : List (List ℕ)) → card.words ≡ word ∷ more
    → IsOf card (slice_index word 0 == 109) (slice_index word 0 == 120) (pointwise nat_eq word dot_subckt) (pointwise nat_eq word dot_ends)
of_word card word more e = record {
  device_is = ap (λ ws. slice_index (first_word ws) 0 == 109) e;
  call_is = ap (λ ws. slice_index (first_word ws) 0 == 120) e;
  opening_is = ap (λ ws. pointwise nat_eq (first_word ws) dot_subckt) e;
  ending_is = ap (λ ws. pointwise nat_eq (first_word ws) dot_ends) e;
}

pub of_opening : (card : NumberedCard) (more : List (List ℕ)) → card.words ≡ codes ".subckt" ∷ more → IsOf card false false true false
of_opening card more e = of_word card (codes ".subckt") more e

pub of_ending : (card : NumberedCard) (more : List (List ℕ)) → card.words ≡ codes ".ends" ∷ more → IsOf card false false false true
of_ending card more e = of_word card (codes ".ends") more e

pub of_device : (card : NumberedCard) (name : List ℕ) (more : List (List ℕ)) → card.words ≡ (109 ∷ name) ∷ more → IsOf card true false false false
of_device card name more e = of_word card (109 ∷ name) more e

pub of_call : (card : NumberedCard) (name : List ℕ) (more : List (List ℕ)) → card.words ≡ (120 ∷ name) ∷ more → IsOf card false true false false
of_call card name more e = of_word card (120 ∷ name) more e

-- the words behind the first don't matter
first_is : (card : NumberedCard) (word : List ℕ) → has_first_word word card ≡ true → first_word card.words ≡ word
first_is card word h = (bytes_decides (first_word card.words) word).0 h

of_first : (card : NumberedCard) (word : List ℕ) → first_word card.words ≡ word
    → IsOf card (slice_index word 0 == 109) (slice_index word 0 == 120) (pointwise nat_eq word dot_subckt) (pointwise nat_eq word dot_ends)
of_first card word e = record {
  device_is = ap (λ (w : List ℕ). slice_index w 0 == 109) e;
  call_is = ap (λ (w : List ℕ). slice_index w 0 == 120) e;
  opening_is = ap (λ w. pointwise nat_eq w dot_subckt) e;
  ending_is = ap (λ w. pointwise nat_eq w dot_ends) e;
}

-- a card that is skipped
pub record IsSkippedCard (card : NumberedCard) : Type 0 where
  pub of : IsOf card false false false false
  pub known : (has_first_word dot_end card || has_first_word dot_model card) ≡ true

pub skipped_card : (card : NumberedCard) → is_skipped card.words ≡ true → IsSkippedCard card
skipped_card card h = by (has_first_word dot_model card) refl h
  where
    known : (has_first_word dot_end card || has_first_word dot_model card) ≡ true
    known = or_swap (has_first_word dot_model card) (has_first_word dot_end card) h

    by : (t : Bool) → has_first_word dot_model card ≡ t → (t || has_first_word dot_end card) ≡ true → IsSkippedCard card
    by true e f = record { of = of_first card dot_model (first_is card dot_model e); known = known }
    by false e f = record { of = of_first card dot_end (first_is card dot_end f); known = known }

pub skipped_adds : (card : NumberedCard) → IsOf card false false false false → card_parts card ≡ []
skipped_adds card o = rw (o.device_is, o.call_is) refl

-- the part of a device's card
pub device_part : (card : NumberedCard) (d : NamedDevice (List ℕ)) → IsDeviceCard card.words d → card_parts card ≡ Single d ∷ []
device_part card d is =
    let o = of_device card is.name _ is.words_are in
    let kind = ap (λ ws. kind_of (slice_index_or ws 5 [])) is.words_are ∙ kind_back d.kind in
    let drain : word_at card 1 ≡ d.drain = ap (λ ws. slice_index_or ws 1 []) is.words_are in
    let gate : word_at card 2 ≡ d.gate = ap (λ ws. slice_index_or ws 2 []) is.words_are in
    let source : word_at card 3 ≡ d.source = ap (λ ws. slice_index_or ws 3 []) is.words_are in
    let same : device_of_card card ≡ d = λ i. record { kind = kind i; drain = drain i; gate = gate i; source = source i } in
    rw o.device_is (ap (λ x. Single x ∷ []) same)

-- the last of some words
pub last_word : (words : List (List ℕ)) (last : List ℕ) → slice_index_or (words ++ last ∷ []) (length words) [] ≡ last
last_word [] last = refl
last_word (w ∷ words) last = last_word words last

pub call_length : (c : Call) → length (c.name ∷ c.nets ++ c.unit ∷ []) ≡ length c.nets + 2
call_length c = omega (arith, length-append c.nets (c.unit ∷ []))

-- the part of a call's card
pub call_is_part : (card : NumberedCard) (c : Call) → IsCallCard card.words c → call_of_card card ≡ c
call_is_part card c is =
    let count : length card.words ≡ length c.nets + 2 = ap length is.words_are ∙ call_length c in
    let name : first_word card.words ≡ c.name = ap first_word is.words_are in
    let nets : take (length card.words - 2) (drop 1 card.words) ≡ c.nets =
    ap (λ ws. take (length card.words - 2) (drop 1 ws)) is.words_are ∙ take_at c.nets (c.unit ∷ []) (length card.words - 2) (omega (arith, count)) in
    let unit : word_at card (length card.words - 1) ≡ c.unit =
    ap (λ (n : ℕ). slice_index_or card.words n []) (less count) ∙ ap (λ ws. slice_index_or ws (suc (length c.nets)) []) is.words_are ∙ last_word c.nets c.unit in
    λ i. record { name = name i; nets = nets i; unit = unit i }
  where
    less : length card.words ≡ length c.nets + 2 → length card.words - 1 ≡ suc (length c.nets)
    less e = omega (arith, e)

pub call_part : (card : NumberedCard) (c : Call) → IsCallCard card.words c → card_parts card ≡ Called c ∷ []
call_part card c is =
    let o = of_call card is.name _ (is.words_are ∙ ap (λ n. n ∷ c.nets ++ c.unit ∷ []) is.name_is) in
    rw (o.device_is, o.call_is) (ap (λ x. Called x ∷ []) (call_is_part card c is))
