-- Lines without faults: their words are good names, and their cards are in their forms.
use Rattle.std.proofs.Common.{◌≡◌, ℕ, zero, suc, ◌<◌, Bool, true, false, not, List, [], ◌∷◌, length, filter, take, slice_index_or, refl, ap, sym, ◌∙◌, arith, inl, inr, Some}
use Rattle.std.specs.List.{AllByRecursion, list_any}
use Rattle.std.proofs.lemmas.Bool.{false_from_ne_true}
use Rattle.std.proofs.lemmas.Bool.Decides.{nat_tests}
use Rattle.std.proofs.lemmas.List.Elements.{All-from_recursion}
use Rattle.dom_base.specs.Lines.{is_blank, is_control, is_word, first_word}
use Rattle.dom_base.proofs.Lists.{AllByRecursion-filter, AllByRecursion-weaker, none-list_any}
use Rattle.blif_ast.specs.Good.{IsNameByte, IsGoodName}
use Rattle.blif_ast.specs.declared.kind.BlifKind.{BlifKind}
use Rattle.blif_ast.specs.declared.kind.BlifKind.TheVariants.{ControlByte, BadCard}
use Rattle.blif_ast.specs.LogicalLines.{LogicalLine}
use Rattle.blif_ast.specs.declared.card.Card.{Card}
use Rattle.blif_ast.specs.declared.card.Card.TheVariants.{Model, Inputs, Outputs, Names, Latch, Subckt, Clock, End}
use Rattle.blif_ast.specs.Cards.{begins, card_named, card_of, card_word, is_form, is_out_of_form}
use Rattle.blif_ast.specs.Faults.{has_blif_fault}
use Rattle.blif_numbers.proofs.KnownWords.{same-true}
use Rattle.blif_read.proofs.AcceptedIsGoodWords.{IsNoMark, IsPlainWord, IsPlainLine}
use Rattle.blif_numbers.proofs.LineFaults.{FaultIn}

-- lines without faults, where these lines stand before them, the nearest first
abbrev pub Free : List LogicalLine → List LogicalLine → Type 0
Free before [] = Unit {0}
Free before (line ∷ more) = ((kind : BlifKind) → has_blif_fault kind before line ≡ false) × Free (line ∷ before) more

pub Free-from : (before all : List LogicalLine) → ((number : ℕ) (kind : BlifKind) → FaultIn before all number kind → ⊥) → Free before all
Free-from before [] none = tt
Free-from before (line ∷ more) none =
    (λ kind. false_from_ne_true (has_blif_fault kind before line) (λ e. none line.number kind (inl (refl, e))), Free-from (line ∷ before) more (λ number kind h. none number kind (inr h)))

pub Free-take : (n : ℕ) (before all : List LogicalLine) → Free before all → Free before (take n all)
Free-take zero before all h = tt
Free-take (suc n) before [] h = tt
Free-take (suc n) before (line ∷ more) h = (h.0, Free-take n (line ∷ before) more h.1)

-- a line that has words, each a good name
abbrev pub IsGoodLine : LogicalLine → Type 0
IsGoodLine line = (0 < length line.words) × AllByRecursion IsGoodName line.words

name_byte : (b : ℕ) → IsNoMark b → is_blank b ≡ false → is_control b ≡ false → IsNameByte b
name_byte b mark blank control = (grind (arith, nat_tests), grind (arith, nat_tests), grind (arith, nat_tests))

name_bytes : (word : List ℕ) → AllByRecursion (λ b. IsNoMark b × (is_blank b ≡ false)) word → AllByRecursion (λ b. is_control b ≡ false) word → AllByRecursion IsNameByte word
name_bytes [] h k = tt
name_bytes (b ∷ bs) h k = (name_byte b h.0.0 h.0.1 k.0, name_bytes bs h.1 k.1)

good_word : (word : List ℕ) → IsPlainWord word → list_any is_control word ≡ false → IsGoodName word
good_word word h k = record {
  some = λ e. let never : true ≡ false = sym h.0 ∙ ap is_word e in cc;
  bytes = All-from_recursion IsNameByte word (name_bytes word h.1 (none-list_any is_control word k));
}

good_words : (all : List (List ℕ)) → AllByRecursion IsPlainWord all → AllByRecursion (λ word. list_any is_control word ≡ false) all → AllByRecursion IsGoodName all
good_words [] h k = tt
good_words (word ∷ all) h k = (good_word word h.0 k.0, good_words all h.1 k.1)

pub good_lines : (before all : List LogicalLine) → Free before all → AllByRecursion IsPlainLine all → AllByRecursion IsGoodLine all
good_lines before [] free h = tt
good_lines before (line ∷ more) free h =
    ((h.0.0, good_words line.words h.0.1 (none-list_any (list_any is_control) line.words (free.0 ControlByte))), good_lines (line ∷ before) more free.1 h.1)

pub good_lines-filter : (test : LogicalLine → Bool) (all : List LogicalLine) → AllByRecursion IsGoodLine all → AllByRecursion IsGoodLine (filter test all)
good_lines-filter test all h =
    AllByRecursion-weaker (λ line. (test line ≡ true) × IsGoodLine line) IsGoodLine (λ line k. k.1) (filter test all) (AllByRecursion-filter IsGoodLine test all h)

-- a word of a line
pub good_word-at : (words : List (List ℕ)) (k : ℕ) → AllByRecursion IsGoodName words → k < length words → IsGoodName (slice_index_or words k [])
good_word-at words k h lt = All-from_recursion IsGoodName words h k [] lt

-- the word of a card names it
named : (card : Card) → card_named (card_word card) ≡ Some card
named Model = refl
named Inputs = refl
named Outputs = refl
named Names = refl
named Latch = refl
named Subckt = refl
named Clock = refl
named End = refl

no_fault : (form : Bool) → not form ≡ false → form ≡ true
no_fault true e = refl
no_fault false e = sym e

-- a card without faults is in its form
pub card_form : (card : Card) (before : List LogicalLine) (line : LogicalLine) → begins (card_word card) line ≡ true
    → ((kind : BlifKind) → has_blif_fault kind before line ≡ false) → is_form card line.words ≡ true
card_form card before line is free =
    let known : card_of line ≡ Some card = ap card_named (same-true (first_word line.words) (card_word card) is) ∙ named card in
    no_fault (is_form card line.words) (ap (λ o. is_out_of_form o line.words) (sym known) ∙ free BadCard)
