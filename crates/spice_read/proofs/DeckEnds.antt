-- The line at which a deck ends.
use Rattle.std.proofs.Common.{◌≡◌, ℕ, ◌+◌, Bool, true, false, ◌||◌, if◌then◌else◌, List, [], ◌∷◌, length, map, sym, ◌∙◌, arith}
use Rattle.std.specs.List.{list_any}
use Rattle.dom_base.specs.Lines.{lines}
use Rattle.deck.specs.DeckText.{deck_lines, is_end, read_line, through_end}
use Rattle.deck.specs.DeckFaults.{end_line}
use Rattle.spice_read.specs.Readers.{end_from}

-- the end of the text by its lines
end-from : (n : ℕ) (raw : List (List ℕ)) → end_from (n + 1) (through_end raw) ≡ n + (if list_any is_end (through_end raw) then length (through_end raw) else length (through_end raw) + 1)
end-from n [] = omega arith
end-from n (line ∷ raw) = by (is_end line) (end-from (n + 1) raw)
  where
    goes_on : (s : Bool) → end_from (n + 1 + 1) (through_end raw) ≡ n + 1 + (if s then length (through_end raw) else length (through_end raw) + 1)
        → end_from (n + 1 + 1) (through_end raw) ≡ n + (if s then length (line ∷ through_end raw) else length (line ∷ through_end raw) + 1)
    goes_on true h = omega (arith, h)
    goes_on false h = omega (arith, h)

    by : (t : Bool) → end_from (n + 1 + 1) (through_end raw) ≡ n + 1 + (if list_any is_end (through_end raw) then length (through_end raw) else length (through_end raw) + 1)
        → (if t then n + 1 else end_from (n + 1 + 1) (if t then [] else through_end raw))
        ≡ n + (if t || list_any is_end (if t then [] else through_end raw) then length (line ∷ (if t then [] else through_end raw)) else length (line ∷ (if t then [] else through_end raw)) + 1)
    by true h = omega arith
    by false h = goes_on (list_any is_end (through_end raw)) h

pub end_line-from : (text : List ℕ) → end_line text ≡ end_from 1 (deck_lines text)
end_line-from text = sym (end-from 0 (map read_line (lines text)) ∙ zero_plus _)
  where
    zero_plus : (n : ℕ) → 0 + n ≡ n
    zero_plus n = omega arith
