-- The text of a cell and of a call, appended part by part.
use Rattle.std.proofs.Common.{◌≡◌, ℕ, List, ◌∷◌, ◌++◌, [], codes, map, refl, ap, sym, ◌∙◌, append_assoc, append-nil, take}
use Rattle.std.specs.List.{flat_map, enumerate_from}
use Rattle.std.specs.Fmt.{decimal}
use Rattle.std.proofs.lemmas.List.Concat.{flat_map-append}
use Rattle.deck.specs.CircuitData.{CircuitData}
use Rattle.deck.specs.Nets.{net_name}
use Rattle.deck.specs.Ports.{leading_ports}
use Rattle.deck.specs.declared.device.Device.{Device}
use Rattle.spice_text.specs.Cells.{IsWrittenByCells, call_lines, cell_lines, cell_name, groups_from, shapes_of}
use Rattle.spice_text.specs.Parts.{IsSubckt, subckt_with}
use Rattle.spice_text.specs.Text.{deck_line, phase_line, plus_lines}

-- a blank and a word for each item
words_of : {X : Type 0} (f : X → List ℕ) (xs : List X) → flat_map (λ x. 32 ∷ f x) xs ≡ flat_map (λ word. 32 ∷ word) (map f xs)
words_of f [] = refl
words_of f (x ∷ xs) = ap (λ t. (32 ∷ f x) ++ t) (words_of f xs)

-- eight texts, one behind the other
eight_texts : (t a b c d e f g h : List ℕ) → t ++ a ++ b ++ c ++ d ++ e ++ f ++ g ++ h
    ≡ t ++ ((a ++ (b ++ c) ++ d) ++ e ++ (f ++ (g ++ []) ++ h))
eight_texts t a b c d e f g h = simp (append_assoc, append-nil)

-- a cell, where its parts are appended one after another
pub cell_parts : (t front name words cards back : List ℕ) {a b c d e f g h : List ℕ}
    → a ≡ t ++ front → b ≡ a ++ 32 ∷ name → c ≡ b ++ words → d ≡ c ++ 10 ∷ [] → e ≡ d ++ cards → f ≡ e ++ back → g ≡ f ++ 32 ∷ name → h
    ≡ g ++ 10 ∷ []
    → h ≡ t ++ ((front ++ ((32 ∷ name) ++ words) ++ 10 ∷ []) ++ cards ++ (back ++ ((32 ∷ name) ++ []) ++ 10 ∷ []))
cell_parts t front name words cards back ea eb ec ed ee ef eg eh =
    eh ∙ ap (λ l. l ++ 10 ∷ []) (eg ∙ ap (λ l. l ++ 32 ∷ name) (ef ∙ ap (λ l. l ++ back) (ee ∙ ap (λ l. l ++ cards)
    (ed ∙ ap (λ l. l ++ 10 ∷ []) (ec ∙ ap (λ l. l ++ words) (eb ∙ ap (λ l. l ++ 32 ∷ name) ea))))))
    ∙ eight_texts t front (32 ∷ name) words (10 ∷ []) cards back (32 ∷ name) (10 ∷ [])

five_texts : (t a b c d e : List ℕ) → t ++ a ++ b ++ c ++ d ++ e ≡ t ++ ((a ++ b) ++ (c ++ (d ++ [])) ++ e)
five_texts t a b c d e = simp (append_assoc, append-nil)

-- a call, where its parts are appended one after another
pub call_parts : (names : List (List ℕ)) (index number : ℕ) (nets : List ℕ) (t : List ℕ) {a b c d e : List ℕ}
    → a ≡ t ++ codes "x" → b ≡ a ++ decimal index → c ≡ b ++ flat_map (λ net. 32 ∷ net_name names net) nets → d ≡ c ++ 32 ∷ cell_name number
    → e ≡ d ++ 10 ∷ []
    → e ≡ t ++ deck_line (codes "x" ++ decimal index) (map (net_name names) nets ++ cell_name number ∷ [])
call_parts names index number nets t ea eb ec ed ee =
    let words : List ℕ = flat_map (λ net. 32 ∷ net_name names net) nets in
    let all : words ++ ((32 ∷ cell_name number) ++ []) ≡ flat_map (λ word. 32 ∷ word) (map (net_name names) nets ++ cell_name number ∷ []) =
    ap (λ l. l ++ ((32 ∷ cell_name number) ++ [])) (words_of (net_name names) nets)
    ∙ sym (flat_map-append (λ word. 32 ∷ word) (map (net_name names) nets) (cell_name number ∷ [])) in
    ee ∙ ap (λ l. l ++ 10 ∷ []) (ed ∙ ap (λ l. l ++ 32 ∷ cell_name number)
    (ec ∙ ap (λ l. l ++ words) (eb ∙ ap (λ l. l ++ decimal index) ea)))
    ∙ five_texts t (codes "x") (decimal index) words (32 ∷ cell_name number) (10 ∷ [])
    ∙ ap (λ l. t ++ ((codes "x" ++ decimal index) ++ l ++ 10 ∷ [])) all

-- the text by cells of a circuit from its parts
pub cells-whole : (c : CircuitData) (places before middle text : List ℕ)
    → before ≡ codes "* domsyn deck 2" ++ 10 ∷ [] ++ flat_map phase_line c.phases ++ flat_map cell_lines
    (enumerate_from 0 (shapes_of c.nets (groups_from 0 places c.devices)))
    → IsSubckt before c.name (take c.ports c.nets) middle
    → text ≡ middle ++ call_lines c.nets (groups_from 0 places c.devices) ++ deck_line (codes ".ends") (c.name ∷ [])
    → IsWrittenByCells c places text
cells-whole c places before middle text eb part et =
    let groups : List (List Device) = groups_from 0 places c.devices in
    let head : List ℕ = codes "* domsyn deck 2" ++ 10 ∷ [] ++ flat_map phase_line c.phases ++ flat_map cell_lines
    (enumerate_from 0 (shapes_of c.nets groups)) in
    let tail : List ℕ → List ℕ = λ m. m ++ call_lines c.nets groups ++ deck_line (codes ".ends") (c.name ∷ []) in
    record {
      with_roles = λ clocks pins outs has.
          et ∙ ap tail (part.with_roles clocks pins outs has
          ∙ ap (λ b. b ++ subckt_with c.name (leading_ports clocks) (pins ∷ outs ∷ [])) eb
          ∙ sym (append_assoc head (deck_line (codes ".subckt") (c.name ∷ leading_ports clocks)) (flat_map plus_lines (pins ∷ outs ∷ []))));
      without_roles = λ none.
          et ∙ ap tail (part.without_roles none
          ∙ ap (λ b. b ++ subckt_with c.name [] (take c.ports c.nets ∷ [])) eb
          ∙ sym (append_assoc head (deck_line (codes ".subckt") (c.name ∷ [])) (flat_map plus_lines (take c.ports c.nets ∷ []))));
    }
