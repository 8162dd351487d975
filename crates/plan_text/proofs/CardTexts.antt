-- Cards that are appended one after another.
use Rattle.std.proofs.Common.{◌≡◌, ℕ, ◌+◌, List, [], ◌++◌, length, sym, ap, ◌∙◌, arith, append_assoc, append-nil, length-append}
use Rattle.std.specs.List.{flat_map, enumerate_from}
use Rattle.std.proofs.lemmas.List.Concat.{flat_map-append}
use Rattle.deck.specs.NamedDevices.{NamedDevice}
use Rattle.spice_text.proofs.Lines.{enumerate_from-append}
use Rattle.plan_text.specs.CardTexts.{CardTextData, named_card, named_cards, with_named_cards}

-- the cards of two lists of devices
pub named_cards-append : (n : ℕ) (xs ys : List (NamedDevice (List ℕ))) → named_cards n (xs ++ ys) ≡ named_cards n xs ++ named_cards (n + length xs) ys
named_cards-append n xs ys =
    ap (flat_map named_card) (enumerate_from-append n xs ys)
    ∙ flat_map-append named_card (enumerate_from n xs) (enumerate_from (n + length xs) ys)

-- cards that are appended in two steps
pub with_named_cards-append : (t : CardTextData) (xs ys : List (NamedDevice (List ℕ))) → with_named_cards (with_named_cards t xs) ys ≡ with_named_cards t (xs ++ ys)
with_named_cards-append t xs ys =
    let text : (t.text ++ named_cards t.next xs) ++ named_cards (t.next + length xs) ys ≡ t.text ++ named_cards t.next (xs ++ ys) =
    append_assoc t.text (named_cards t.next xs) (named_cards (t.next + length xs) ys) ∙ ap (λ l. t.text ++ l) (sym (named_cards-append t.next xs ys)) in
    let next : (t.next + length xs) + length ys ≡ t.next + length (xs ++ ys) = omega (arith, length-append xs ys) in
    λ i. record { text = text i; next = next i }

-- a text that grew in two steps
pub then_cards : (a b c : CardTextData) (xs ys : List (NamedDevice (List ℕ))) → b ≡ with_named_cards a xs → c ≡ with_named_cards b ys → c ≡ with_named_cards a (xs ++ ys)
then_cards a b c xs ys e f = f ∙ ap (λ t. with_named_cards t ys) e ∙ with_named_cards-append a xs ys

-- no cards
pub no_cards : (t : CardTextData) → t ≡ with_named_cards t []
no_cards t =
    let text : t.text ≡ t.text ++ [] = sym (append-nil t.text) in
    let next : t.next ≡ t.next + 0 = omega arith in
    λ i. record { text = text i; next = next i }
