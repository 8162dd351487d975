-- The text of a circuit as rows of words.
use Rattle.std.proofs.Common.{◌≡◌, ℕ, List, [], ◌∷◌, ◌++◌, map, codes, refl, ap, sym, ◌∙◌, append_assoc, append-nil}
use Rattle.std.specs.List.{flat_map, enumerate_from}
use Rattle.std.specs.Fmt.{decimal}
use Rattle.std.proofs.lemmas.List.{map-append}
use Rattle.std.proofs.lemmas.List.Concat.{flat_map-append}
use Rattle.deck.specs.declared.device.Device.{Device}
use Rattle.deck.specs.declared.phase.Phase.{Phase}
use Rattle.deck.specs.CircuitData.{CircuitData}
use Rattle.dom_base.specs.Joined.{ended}
use Rattle.spice_text.specs.Text.{deck_line, sign_of, phase_line, eights, plus_lines, bulk_of, device_card, device_cards, text_with}
use Rattle.deck.specs.DeckText.{model_word}
use Rattle.deck.specs.Nets.{net_name}
use Rattle.spice_text.proofs.ReadRows.{row_line, text_of_rows, plus_rows}

-- the words of the first line
abbrev pub header_row : List (List ℕ)
header_row = codes "*" ∷ codes "domsyn" ∷ codes "deck" ∷ codes "1" ∷ []

-- the words of a phase's line
abbrev pub phase_row : Phase → List (List ℕ)
phase_row p = codes "*" ∷ codes "phase" ∷ p.net ∷ sign_of p.plus ∷ []

-- the words of the line with `.subckt`
abbrev pub opening_row : List ℕ → List (List ℕ) → List (List ℕ)
opening_row name leading = codes ".subckt" ∷ name ∷ leading

-- the words of a device's card
abbrev pub card_row : List (List ℕ) → ℕ × Device → List (List ℕ)
card_row nets p =
    (codes "m" ++ decimal p.0)
    ∷ net_name nets p.1.drain ∷ net_name nets p.1.gate ∷ net_name nets p.1.source ∷ bulk_of p.1.kind ∷ model_word p.1.kind ∷ []

-- the words of the devices' cards
abbrev pub card_rows : List (List ℕ) → List Device → List (List (List ℕ))
card_rows nets devices = map (card_row nets) (enumerate_from 0 devices)

-- the words of the last line
abbrev pub ending_row : List ℕ → List (List ℕ)
ending_row name = codes ".ends" ∷ name ∷ []

-- the comments that stand first
abbrev pub comment_rows : CircuitData → List (List (List ℕ))
comment_rows c = header_row ∷ map phase_row c.phases

-- the rows of the cards behind the first
abbrev pub rows_behind : CircuitData → List (List (List ℕ))
rows_behind c = card_rows c.nets c.devices ++ ending_row c.name ∷ []

-- the rows of the cards
abbrev pub rows_of_cards : CircuitData → List (List ℕ) → List (List (List ℕ)) → List (List (List ℕ))
rows_of_cards c leading groups = opening_row c.name leading ∷ plus_rows (flat_map eights groups) ++ rows_behind c

-- texts that are those of rows, one for each element
pub flat_map-rows : {X : Type 0} (f : X → List ℕ) (g : X → List (List ℕ)) → ((x : X) → f x ≡ ended (row_line (g x))) → (xs : List X)
    → flat_map f xs ≡ text_of_rows (map g xs)
flat_map-rows f g same [] = refl
flat_map-rows f g same (x ∷ xs) =
    ap (λ t. t ++ flat_map f xs) (same x) ∙ ap (λ t. ended (row_line (g x)) ++ t) (flat_map-rows f g same xs)

pub text_of_rows-append : (xs ys : List (List (List ℕ))) → text_of_rows (xs ++ ys) ≡ text_of_rows xs ++ text_of_rows ys
text_of_rows-append xs ys = flat_map-append (λ row. ended (row_line row)) xs ys

-- the lines with ports
pub plus_lines-rows : (groups : List (List (List ℕ))) → flat_map plus_lines groups ≡ text_of_rows (plus_rows (flat_map eights groups))
plus_lines-rows [] = refl
plus_lines-rows (names ∷ groups) =
    ap (λ t. t ++ flat_map plus_lines groups) (flat_map-rows (deck_line (codes "+")) (λ group. codes "+" ∷ group) (λ _. refl) (eights names))
    ∙ ap (λ t. text_of_rows (plus_rows (eights names)) ++ t) (plus_lines-rows groups)
    ∙ sym (text_of_rows-append (plus_rows (eights names)) (plus_rows (flat_map eights groups)))
    ∙ ap text_of_rows (sym (map-append (λ group. codes "+" ∷ group) (eights names) (flat_map eights groups)))

-- six texts, one behind the other
six_texts : (a b c d e f : List ℕ) → a ++ b ++ c ++ d ++ e ++ f ≡ a ++ (b ++ (c ++ (d ++ (e ++ f))))
six_texts a b c d e f = simp append_assoc

-- the text of six parts of rows
text_of_six : (first : List (List ℕ)) (b : List (List (List ℕ))) (third : List (List ℕ)) (d e : List (List (List ℕ))) (last : List (List ℕ))
    → ended (row_line first) ++ text_of_rows b ++ ended (row_line third) ++ text_of_rows d ++ text_of_rows e ++ ended (row_line last)
    ≡ text_of_rows ((first ∷ b) ++ (third ∷ d ++ (e ++ last ∷ [])))
text_of_six first b third d e last =
    let end : text_of_rows (last ∷ []) ≡ ended (row_line last) = append-nil (ended (row_line last)) in
    let fifth : text_of_rows (e ++ last ∷ []) ≡ text_of_rows e ++ ended (row_line last) = text_of_rows-append e (last ∷ []) ∙ ap (λ t. text_of_rows e ++ t) end in
    let fourth : text_of_rows (d ++ (e ++ last ∷ [])) ≡ text_of_rows d ++ (text_of_rows e ++ ended (row_line last)) = text_of_rows-append d (e ++ last ∷ []) ∙ ap (λ t. text_of_rows d ++ t) fifth in
    let second : text_of_rows (b ++ (third ∷ d ++ (e ++ last ∷ []))) ≡ text_of_rows b ++ (ended (row_line third) ++ (text_of_rows d ++ (text_of_rows e ++ ended (row_line last))))
    = text_of_rows-append b (third ∷ d ++ (e ++ last ∷ [])) ∙ ap (λ t. text_of_rows b ++ (ended (row_line third) ++ t)) fourth in
    six_texts (ended (row_line first)) (text_of_rows b) (ended (row_line third)) (text_of_rows d) (text_of_rows e) (ended (row_line last))
    ∙ ap (λ t. ended (row_line first) ++ t) (sym second)

-- the written text, from its parts
from_parts : (h h' b b' third d d' e e' last : List ℕ) → h ≡ h' → b ≡ b' → d ≡ d' → e ≡ e'
    → h ++ b ++ third ++ d ++ e ++ last ≡ h' ++ b' ++ third ++ d' ++ e' ++ last
from_parts h h' b b' third d d' e e' last p q r s = cc

header_is : codes "* domsyn deck 1" ++ 10 ∷ [] ≡ ended (row_line header_row)
header_is = refl

-- the written text is that of its rows
pub text_with-rows : (c : CircuitData) (leading : List (List ℕ)) (groups : List (List (List ℕ)))
    → text_with c leading groups ≡ text_of_rows (comment_rows c ++ rows_of_cards c leading groups)
text_with-rows c leading groups =
    from_parts (codes "* domsyn deck 1" ++ 10 ∷ []) (ended (row_line header_row))
    (flat_map phase_line c.phases) (text_of_rows (map phase_row c.phases))
    (deck_line (codes ".subckt") (c.name ∷ leading))
    (flat_map plus_lines groups) (text_of_rows (plus_rows (flat_map eights groups)))
    (device_cards c.nets c.devices) (text_of_rows (card_rows c.nets c.devices))
    (deck_line (codes ".ends") (c.name ∷ []))
    header_is (flat_map-rows phase_line phase_row (λ _. refl) c.phases) (plus_lines-rows groups) (flat_map-rows (device_card c.nets) (card_row c.nets) (λ _. refl) (enumerate_from 0 c.devices))
    ∙ text_of_six header_row (map phase_row c.phases) (opening_row c.name leading) (plus_rows (flat_map eights groups)) (card_rows c.nets c.devices) (ending_row c.name)

-- names in groups of eight, put together again
eights-names : (names : List (List ℕ)) → flat_map (λ group. group) (eights names) ≡ names
eights-names [] = refl
eights-names (a ∷ b ∷ c ∷ d ∷ e ∷ f ∷ g ∷ h ∷ more) = ap (λ l. a ∷ b ∷ c ∷ d ∷ e ∷ f ∷ g ∷ h ∷ l) (eights-names more)
eights-names (a ∷ []) = refl
eights-names (a ∷ b ∷ []) = refl
eights-names (a ∷ b ∷ c ∷ []) = refl
eights-names (a ∷ b ∷ c ∷ d ∷ []) = refl
eights-names (a ∷ b ∷ c ∷ d ∷ e ∷ []) = refl
eights-names (a ∷ b ∷ c ∷ d ∷ e ∷ f ∷ []) = refl
eights-names (a ∷ b ∷ c ∷ d ∷ e ∷ f ∷ g ∷ []) = refl

-- the same of several groups
pub eights-groups : (groups : List (List (List ℕ))) → flat_map (λ group. group) (flat_map eights groups) ≡ flat_map (λ group. group) groups
eights-groups [] = refl
eights-groups (names ∷ groups) =
    flat_map-append (λ (group : List (List ℕ)). group) (eights names) (flat_map eights groups)
    ∙ ap (λ l. l ++ flat_map (λ group. group) (flat_map eights groups)) (eights-names names)
    ∙ ap (λ l. names ++ l) (eights-groups groups)
