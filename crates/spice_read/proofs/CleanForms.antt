-- What a card without a fault is.
use Rattle.std.proofs.Common.{◌≡◌, ◌≢◌, ℕ, suc, ◌+◌, ◌-◌, ◌<◌, ◌≤◌, Bool, true, false, not, ◌==◌, ◌||◌, ◌&&◌, List, [], ◌∷◌, ◌++◌, length, take, drop, nat_eq, nat_lt, slice_index, slice_index_or, codes, Option, Some, None, refl, sym, ap, ◌∙◌, arith}
use Rattle.std.specs.List.{list_any}
use Rattle.std.specs.Cmp.Lexicographic.{pointwise, bytes_decides}
use Rattle.std.proofs.lemmas.Bool.{eqb-true, true≢false}
use Rattle.std.proofs.lemmas.Bool.Decides.{nat_tests}
use Rattle.std.proofs.lemmas.List.Elements.{All-from_recursion}
use Rattle.dom_base.specs.Lines.{first_word}
use Rattle.dom_base.proofs.Bools.{and_both, false_from_not, or_none, or_swap}
use Rattle.deck.specs.DeckCards.{NumberedCard, has_first_word, dot_subckt, dot_ends, dot_end, dot_model, is_device, is_model_word, has_equals, port_names, names_twice, is_open, device_of_card, word_at, call_of_card, is_call}
use Rattle.deck.specs.DeckText.{HasNoEquals, IsDeviceCard, is_skipped, IsCallCard}
use Rattle.deck.specs.Limits.{most_devices, most_ports, most_depth}
use Rattle.spice_read.proofs.CardWords.{IsSubcktCard, device_card, ends_words, subckt_words}
use Rattle.deck.specs.declared.fault.DeckKind.TheVariants.{UnknownCard, BadCard, UnknownDevice, NoSubckt, SecondSubckt, DuplicatePort, TooMany, UnknownSubckt, WrongCount}
use Rattle.deck.specs.Subckts.{Size}
use Rattle.deck.specs.SubcktCards.{is_named_before}
use Rattle.deck.specs.DeckFaults.{called_size, open_count}
use Rattle.deck.proofs.WordTests.{words_no_equals}
use Rattle.spice_read.proofs.CleanCards.{IsClean, IsOf}
use Rattle.spice_read.proofs.PartCards.{of_call, of_device, of_ending, of_opening}

-- the forms of a card without a fault
pub data IsForm (before : List NumberedCard) (card : NumberedCard) : Type 0 where
  skipped : is_skipped card.words ≡ true → IsForm before card
  opening : is_skipped card.words ≡ false → IsOf card false false true false → IsSubcktCard card → is_open before ≡ false → is_named_before (word_at card 1) before ≡ false
      → names_twice card ≡ false → nat_lt most_ports (length (port_names card)) ≡ false → IsForm before card
  device : is_skipped card.words ≡ false → IsOf card true false false false → IsDeviceCard card.words (device_of_card card) → is_open before ≡ true
      → nat_lt most_devices (open_count before + 1) ≡ false → IsForm before card
  call : is_skipped card.words ≡ false → IsOf card false true false false → IsCallCard card.words (call_of_card card) → is_open before ≡ true → (s : Size) → called_size before card ≡ Some s
      → nat_lt most_devices (open_count before + s.devices) ≡ false → nat_lt most_depth (1 + s.depth) ≡ false → s.ports ≡ length card.words - 2 → IsForm before card
  ending : is_skipped card.words ≡ false → IsOf card false false false true → (closing : List (List ℕ)) → card.words ≡ codes ".ends" ∷ closing → length closing ≤ 1 → is_open before ≡ true → IsForm before card

-- a word that begins with a letter
letter_word : (word : List ℕ) (letter : ℕ) → letter ≢ 0 → (slice_index word 0 == letter) ≡ true → (rest : List ℕ) × (word ≡ letter ∷ rest)
letter_word [] letter some h = absurd (some (sym (eqb-true 0 letter h)))
letter_word (b ∷ bs) letter some h = (bs, ap (λ x. x ∷ bs) (eqb-true b letter h))

-- the first word and those behind it
record HasFirst (words : List (List ℕ)) (first : List ℕ) : Type 0 where
  more : List (List ℕ)
  is : words ≡ first ∷ more

first_of : (words : List (List ℕ)) (b : ℕ) (bs : List ℕ) → first_word words ≡ b ∷ bs → HasFirst words (b ∷ bs)
first_of [] b bs e = absurd (cc)
first_of (w ∷ words) b bs e = record { more = words; is = ap (λ x. x ∷ words) e }

-- some words, the last one apart
last_apart : (words : List (List ℕ)) → 0 < length words → words ≡ take (length words - 1) words ++ slice_index_or words (length words - 1) [] ∷ []
last_apart [] some = absurd (omega arith)
last_apart (w ∷ []) some = refl
last_apart (w ∷ x ∷ words) some =
    let rest = last_apart (x ∷ words) (omega arith) in
    let count : length (w ∷ x ∷ words) - 1 ≡ suc (length (x ∷ words) - 1) = omega arith in
    ap (λ l. w ∷ l) rest ∙ ap (λ (n : ℕ). take n (w ∷ x ∷ words) ++ slice_index_or (w ∷ x ∷ words) n [] ∷ []) (sym count)

-- the card of a call in its form
call_card : (card : NumberedCard) → is_call card ≡ true → nat_lt 1 (length card.words) ≡ true → list_any has_equals card.words ≡ false → IsCallCard card.words (call_of_card card)
call_card card is long none =
    let more : 1 < length card.words = grind (arith, nat_tests) in
    let first = letter_word (first_word card.words) 120 (λ e. omega (arith, e)) is in
    let front = first_of card.words 120 first.0 first.1 in
    let count : length card.words ≡ suc (length front.more) = ap length front.is ∙ omega arith in
    let behind = last_apart front.more (omega (arith, count, more)) in
    let nets : take (length card.words - 2) (drop 1 card.words) ≡ take (length front.more - 1) front.more =
    ap (λ ws. take (length card.words - 2) (drop 1 ws)) front.is ∙ ap (λ (n : ℕ). take n front.more) (less count) in
    let unit : slice_index_or card.words (length card.words - 1) [] ≡ slice_index_or front.more (length front.more - 1) [] =
    ap (λ ws. slice_index_or ws (length card.words - 1) []) front.is ∙ ap (λ (n : ℕ). slice_index_or ((120 ∷ first.0) ∷ front.more) n []) (next count more) in
    record {
      name = first.0;
      name_is = first.1;
      words_are = front.is ∙ ap (λ l. (120 ∷ first.0) ∷ l) behind ∙ (λ i. sym first.1 i ∷ sym nets i ++ sym unit i ∷ []);
      no_equals = All-from_recursion HasNoEquals card.words (words_no_equals card.words none);
    }
  where
    less : {n : ℕ} → length card.words ≡ suc n → length card.words - 2 ≡ n - 1
    less e = omega (arith, e)

    next : {n : ℕ} → length card.words ≡ suc n → 1 < length card.words → length card.words - 1 ≡ suc (n - 1)
    next e l = omega (arith, e)

-- a test that isn't passed by a card that passes another
form_true : (known form : Bool) → known ≡ true → (known && not form) ≡ false → form ≡ true
form_true true true k h = refl
form_true true false k h = absurd (true≢false h)
form_true false form k h = absurd (true≢false (sym k))

pub not_skipped : (card : NumberedCard) → has_first_word dot_end card ≡ false → has_first_word dot_model card ≡ false → is_skipped card.words ≡ false
not_skipped card e m = rw (m, e) refl

-- a card that begins with this word is none that is skipped
kept_word : (card : NumberedCard) (word : List ℕ) → first_word card.words ≡ word → pointwise nat_eq word dot_model ≡ false → pointwise nat_eq word dot_end ≡ false → is_skipped card.words ≡ false
kept_word card word is m e =
    not_skipped card (ap (λ w. pointwise nat_eq w dot_end) is ∙ e) (ap (λ w. pointwise nat_eq w dot_model) is ∙ m)

device_form : (before : List NumberedCard) (card : NumberedCard) → IsClean before card → is_device card ≡ true → IsForm before card
device_form before card clean is =
    let first = letter_word (first_word card.words) 109 (λ e. omega (arith, e)) is in
    let front = first_of card.words 109 first.0 first.1 in
    let o = of_device card first.0 front.more front.is in
    let bad = rw (o.call_is, o.device_is) at (clean BadCard) in
    let long : nat_lt 5 (length card.words) ≡ true = form_true true (nat_lt 5 (length card.words)) refl bad in
    let unknown = rw (o.device_is, long) at (clean UnknownDevice) in
    let known : is_model_word (slice_index_or card.words 5 []) ≡ true = form_true true (is_model_word (slice_index_or card.words 5 [])) refl unknown in
    let closed = rw o.device_is at (clean NoSubckt) in
    let many = rw (o.device_is, o.call_is, o.opening_is) at (clean TooMany) in
    let five : 5 < length card.words = grind (arith, nat_tests) in
    device (kept_word card (109 ∷ first.0) first.1 refl refl) o (device_card card is five known)
    (form_true true (is_open before) refl closed) ((or_none (nat_lt most_devices (open_count before + 1)) false ((or_none (nat_lt most_devices (open_count before + 1) || false) false many).0)).0)

call_form : (before : List NumberedCard) (card : NumberedCard) → IsClean before card → is_call card ≡ true → IsForm before card
call_form before card clean is =
    let first = letter_word (first_word card.words) 120 (λ e. omega (arith, e)) is in
    let front = first_of card.words 120 first.0 first.1 in
    let o = of_call card first.0 front.more front.is in
    let bad = rw o.call_is at (clean BadCard) in
    let both = and_both (nat_lt 1 (length card.words)) (not (list_any has_equals card.words)) (form_true true (nat_lt 1 (length card.words) && not (list_any has_equals card.words)) refl bad) in
    let closed = rw (o.device_is, o.call_is) at (clean NoSubckt) in
    found (called_size before card) refl o (call_card card is both.0 (false_from_not (list_any has_equals card.words) both.1)) (form_true true (is_open before) refl closed)
    (kept_word card (120 ∷ first.0) first.1 refl refl)
  where
    found : (s : Option Size) → called_size before card ≡ s → IsOf card false true false false → IsCallCard card.words (call_of_card card) → is_open before ≡ true → is_skipped card.words ≡ false → IsForm before card
    found None e o c opened kept = absurd (true≢false (rw (o.call_is, e) at (clean UnknownSubckt)))
    found (Some s) e o c opened kept =
        let wrong : not (s.ports == length card.words - 2) ≡ false = rw (o.call_is, e) at (clean WrongCount) in
        let many = rw (o.device_is, o.call_is, o.opening_is, e) at (clean TooMany) in
        let two = or_none (nat_lt most_devices (open_count before + s.devices)) (nat_lt most_depth (1 + s.depth)) ((or_none (nat_lt most_devices (open_count before + s.devices) || nat_lt most_depth (1 + s.depth)) false many).0) in
        call kept o c opened s e two.0 two.1 (eqb-true s.ports (length card.words - 2) (form_true true (s.ports == length card.words - 2) refl wrong))

opening_form : (before : List NumberedCard) (card : NumberedCard) → IsClean before card → has_first_word dot_subckt card ≡ true → IsForm before card
opening_form before card clean is =
    let word = (bytes_decides (first_word card.words) dot_subckt).0 is in
    let front = first_of card.words 46 (codes "subckt") word in
    let o = of_opening card front.more front.is in
    let bad = rw (o.call_is, o.device_is, o.opening_is) at (clean BadCard) in
    let form = form_true true (nat_lt 1 (length card.words) && not (list_any has_equals card.words)) refl bad in
    let second = or_none (is_open before) (is_named_before (word_at card 1) before) (rw o.opening_is at (clean SecondSubckt)) in
    let twice : names_twice card ≡ false = rw o.opening_is at (clean DuplicatePort) in
    let many : nat_lt most_ports (length (port_names card)) ≡ false = rw (o.call_is, o.device_is, o.opening_is) at (clean TooMany) in
    opening (kept_word card dot_subckt word refl refl) o (subckt_words card is form) second.0 second.1 twice many

ending_form : (before : List NumberedCard) (card : NumberedCard) → IsClean before card → has_first_word dot_ends card ≡ true → IsForm before card
ending_form before card clean is =
    let word = (bytes_decides (first_word card.words) dot_ends).0 is in
    let front = first_of card.words 46 (codes "ends") word in
    let o = of_ending card front.more front.is in
    let bad = rw (o.call_is, o.device_is, o.opening_is, o.ending_is) at (clean BadCard) in
    let short : nat_lt (length card.words) 3 ≡ true = form_true true (nat_lt (length card.words) 3) refl bad in
    let closed = rw (o.device_is, o.call_is, o.ending_is) at (clean NoSubckt) in
    let w = ends_words card is (grind (arith, nat_tests)) in
    ending (kept_word card dot_ends word refl refl) o w.0 w.1 w.2 (form_true true (is_open before) refl closed)

-- a card without a fault is of one of the forms
pub form_of : (before : List NumberedCard) (card : NumberedCard) → IsClean before card → IsForm before card
form_of before card clean = by (is_device card) (is_call card) (has_first_word dot_subckt card) (has_first_word dot_ends card) refl refl refl refl
  where
    by : (d c s e : Bool) → is_device card ≡ d → is_call card ≡ c → has_first_word dot_subckt card ≡ s → has_first_word dot_ends card ≡ e → IsForm before card
    by true c s e h k l m = device_form before card clean h
    by false true s e h k l m = call_form before card clean k
    by false false true e h k l m = opening_form before card clean l
    by false false false true h k l m = ending_form before card clean m
    by false false false false h k l m =
        let unknown : not (has_first_word dot_end card || has_first_word dot_model card) ≡ false = rw (k, h, l, m) at (clean UnknownCard) in
        skipped (or_swap (has_first_word dot_end card) (has_first_word dot_model card) (form_true true (has_first_word dot_end card || has_first_word dot_model card) refl unknown))
