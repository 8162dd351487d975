-- The lines of the cards for ports, latches, instances and rows of BLIF, by what is appended to a text in turn.
use Rattle.std.proofs.Common.{◌≡◌, ℕ, Bool, true, false, if◌then◌else◌, ◌+◌, ◌≤◌, ◌∙◌, List, [], ◌∷◌, ◌++◌, map, ap, sym, subst, append_assoc, append-nil, codes}
use Rattle.std.proofs.lemmas.List.Folds.{flat_map-map}
use Rattle.std.proofs.lemmas.List.{map-append}
use Rattle.std.specs.List.{flat_map}
use Rattle.blif_ast.specs.declared.instance.Binding.{Binding}
use Rattle.blif_ast.specs.declared.latch.Latch.{Latch}
use Rattle.blif_ast.specs.declared.letter.Letter.{Letter}
use Rattle.blif_ast.specs.Printed.{guard, printed_line, letter_byte, ports_card, row_words, control_words, latch_words, binding_word}
use Rattle.blif_ast.proofs.LineWords.{spaced, line_end, ports_card-end, guard_digit, guard_binding}

-- the line of a card for ports, by what is appended to a text in turn
pub ports_end : (text card : List ℕ) (names : List (List ℕ)) (name : List ℕ)
    → (((text ++ card) ++ spaced names) ++ 32 ∷ name) ++ guard name ++ 10 ∷ [] ≡ text ++ flat_map printed_line (ports_card card (names ++ name ∷ []))
ports_end text card names name =
    rw (ports_card-end card names name) (line_end text card names name ∙ ap (λ end. text ++ end) (sym (append-nil (printed_line (card ∷ names ++ name ∷ [])))))

latch_pieces : (text card input output control value end : List ℕ)
    → ((((text ++ card) ++ input) ++ output) ++ control) ++ (value ++ end) ≡ (((text ++ card) ++ (input ++ (output ++ control))) ++ value) ++ [] ++ end
latch_pieces text card input output control value end = simp (append_assoc, append-nil)

-- the line of a latch's card
pub latch_end : (text : List ℕ) (l : Latch) → l.init ≤ 3
    → ((((text ++ codes ".latch") ++ 32 ∷ l.input) ++ 32 ∷ l.output) ++ spaced (control_words l.control)) ++ 32 ∷ (48 + l.init) ∷ 10 ∷ [] ≡ text ++ printed_line (latch_words l)
latch_end text l few =
    let words = l.input ∷ l.output ∷ control_words l.control in
    let value : List ℕ = (48 + l.init) ∷ [] in
    latch_pieces text (codes ".latch") (32 ∷ l.input) (32 ∷ l.output) (spaced (control_words l.control)) (32 ∷ value) (10 ∷ [])
    ∙ subst (λ end. (((text ++ codes ".latch") ++ spaced words) ++ 32 ∷ value) ++ end ++ 10 ∷ [] ≡ text ++ printed_line (latch_words l))
    (guard_digit l.init few) (line_end text (codes ".latch") words value)

-- the line of an instance's card, where it has bindings
pub instance_end : (text unit : List ℕ) (bindings others : List Binding) (last : Binding) → bindings ≡ others ++ last ∷ []
    → ((((text ++ codes ".subckt") ++ 32 ∷ unit) ++ flat_map (λ binding. 32 ∷ binding_word binding) others) ++ 32 ∷ binding_word last) ++ guard last.actual ++ 10 ∷ []
    ≡ text ++ printed_line (codes ".subckt" ∷ unit ∷ map binding_word bindings)
instance_end text unit bindings others last bound =
    let before = map binding_word others in
    let whole = line_end text (codes ".subckt") (unit ∷ before) (binding_word last) in
    let guarded = subst (λ end. (((text ++ codes ".subckt") ++ spaced (unit ∷ before)) ++ 32 ∷ binding_word last) ++ end ++ 10 ∷ []
    ≡ text ++ printed_line (codes ".subckt" ∷ unit ∷ before ++ binding_word last ∷ [])) (guard_binding last.formal last.actual) whole in
    let listed = subst (λ words. (((text ++ codes ".subckt") ++ ((32 ∷ unit) ++ words)) ++ 32 ∷ binding_word last) ++ guard last.actual ++ 10 ∷ []
    ≡ text ++ printed_line (codes ".subckt" ∷ unit ∷ before ++ binding_word last ∷ [])) (flat_map-map (λ word. 32 ∷ word) binding_word others) guarded in
    rw (bound, map-append binding_word others (last ∷ []))
    (ap (λ start. ((start ++ 32 ∷ binding_word last) ++ guard last.actual) ++ 10 ∷ []) (append_assoc (text ++ codes ".subckt") (32 ∷ unit) (flat_map (λ binding. 32 ∷ binding_word binding) others)) ∙ listed)

-- what stands between the letters of a row and its value
abbrev pub gap : List Letter → List ℕ
gap [] = []
gap (letter ∷ row) = 32 ∷ []

-- the line of a row, by what is appended to a text in turn
pub row_end : (text : List ℕ) (on : Bool) (row : List Letter)
    → text ++ printed_line (row_words on row) ≡ ((text ++ map letter_byte row) ++ gap row) ++ (if on then 49 ∷ 10 ∷ [] else 48 ∷ 10 ∷ [])
row_end text true [] = simp (append_assoc, append-nil)
row_end text false [] = simp (append_assoc, append-nil)
row_end text true (letter ∷ row) = simp (append_assoc)
row_end text false (letter ∷ row) = simp (append_assoc)
