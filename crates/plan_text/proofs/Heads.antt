-- The lines of a deck before its cards, appended part by part.
use Rattle.std.proofs.Common.{◌≡◌, ℕ, List, [], ◌∷◌, ◌++◌, take, sym, ap, ◌∙◌, append_assoc, append-nil}
use Rattle.std.specs.Prelude.{codes}
use Rattle.std.specs.List.{flat_map}
use Rattle.std.proofs.lemmas.List.Concat.{flat_map-append}
use Rattle.deck.specs.Ports.{clock_ports, latch_ports, leading_ports}
use Rattle.spice_text.specs.Parts.{subckt_with}
use Rattle.spice_text.specs.Text.{plus_lines}

-- a blank before each word
abbrev pub words : List (List ℕ) → List ℕ
words all = flat_map (λ word. 32 ∷ word) all

seven_texts : (t a b c d e f g : List ℕ) → t ++ a ++ b ++ c ++ d ++ (e ++ 10 ∷ []) ++ f ++ g ≡ t ++ ((a ++ (b ++ (c ++ (d ++ e))) ++ 10 ∷ []) ++ (f ++ (g ++ [])))
seven_texts t a b c d e f g = simp (append_assoc, append-nil)

-- the line of `.subckt` and the lines of ports
pub subckt_parts : (t name : List ℕ) (clocks : ℕ) (pins outs : List (List ℕ)) (x y z u v w r : List ℕ)
    → x ≡ t ++ codes ".subckt" → y ≡ x ++ 32 ∷ name → z ≡ y ++ codes " vdd vss" → u ≡ z ++ words (take clocks clock_ports)
    → v ≡ u ++ (words latch_ports ++ 10 ∷ []) → w ≡ v ++ plus_lines pins → r ≡ w ++ plus_lines outs
    → r ≡ t ++ subckt_with name (leading_ports clocks) (pins ∷ outs ∷ [])
subckt_parts t name clocks pins outs x y z u v w r ex ey ez eu ev ew er =
    let all : words (name ∷ leading_ports clocks) ≡ (32 ∷ name) ++ (codes " vdd vss" ++ (words (take clocks clock_ports) ++ words latch_ports)) =
    ap (λ l. (32 ∷ name) ++ (codes " vdd vss" ++ l)) (flat_map-append (λ word. 32 ∷ word) (take clocks clock_ports) latch_ports) in
    er ∙ ap (λ l. l ++ plus_lines outs) (ew ∙ ap (λ l. l ++ plus_lines pins) (ev ∙ ap (λ l. l ++ (words latch_ports ++ 10 ∷ []))
    (eu ∙ ap (λ l. l ++ words (take clocks clock_ports)) (ez ∙ ap (λ l. l ++ codes " vdd vss") (ey ∙ ap (λ l. l ++ 32 ∷ name) ex)))))
    ∙ seven_texts t (codes ".subckt") (32 ∷ name) (codes " vdd vss") (words (take clocks clock_ports)) (words latch_ports) (plus_lines pins) (plus_lines outs)
    ∙ ap (λ l. t ++ ((codes ".subckt" ++ l ++ 10 ∷ []) ++ (plus_lines pins ++ (plus_lines outs ++ [])))) (sym all)
