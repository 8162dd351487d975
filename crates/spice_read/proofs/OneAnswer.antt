-- A text is accepted with one circuit or refused for one fault.
use Rattle.std.proofs.Common.{Bool, true, ◌≡◌, ℕ, false, not, List, [], ◌∷◌, map, filter, reverse, find, refl, sym, ap, ◌∙◌, subst, All, inl, inr, ◌⊎◌, Option, Some, None, append-nil}
use Rattle.std.specs.List.{AllByRecursion, AllZip, flat_map}
use Rattle.std.proofs.lemmas.List.Elements.{All-from_recursion}
use Rattle.dom_base.specs.Answers.{HasOneAnswer, IsOnlyAnswer}
use Rattle.dom_base.specs.Lines.{is_control}
use Rattle.dom_base.proofs.Faults.{only_refusal, smallest_found}
use Rattle.dom_base.proofs.Lists.{AllByRecursion-reverse}
use Rattle.dom_base.proofs.Names.{visible_words}
use Rattle.deck.specs.CircuitData.{CircuitData}
use Rattle.deck.specs.DeckCards.{NumberedCard, numbered_cards, numbered_lines}
use Rattle.deck.specs.DeckFaults.{end_line, deck_faults, IsDeckFault, IsDeckFaultAt, has_deck_fault}
use Rattle.deck.specs.DeckText.{continues, bare_circuit, deck_cards, deck_phases, is_skipped, AreSubcktCards, AreSubckts, IsDeckOf}
use Rattle.deck.specs.NamedDevices.{with_devices}
use Rattle.spice_read.specs.Laws.{TextHasOneAnswer}
use Rattle.spice_read.specs.Readers.{BeginsNumbered, IsStrayAt}
use Rattle.spice_read.proofs.NumberedCards.{begins_a_card, deck_cards-numbered}
use Rattle.deck.specs.declared.fault.DeckKind.TheVariants.{BadCard, ControlByte, NoSubckt, NotClosed}
use Rattle.deck.specs.Subckts.{Subckt, expansion, expansions}
use Rattle.deck.specs.declared.fault.DeckKind.{DeckKind}
use Rattle.deck.specs.DeckKinds.{deck_kind_number}
use Rattle.spice_read.proofs.CleanForms.{form_of}
use Rattle.spice_read.proofs.FaultPlaces.{IsPassed, fault_at_card, fault_at_stray, none_passed, one_passed, deck_sound, fault_left_open, fault_none_begun}
use Rattle.spice_read.proofs.KindNumbers.{IsFound, kinds_rise, is_kind, kinds, kind_number-injective}
use Rattle.spice_read.proofs.NoFault.{left}
use Rattle.deck.proofs.DeckUnique.{IsDeckOf-unique}
use Rattle.spice_read.proofs.Reading.{IsRead, between, inside, read_more}
use Rattle.spice_read.proofs.Refusals.{deck_no_fault}
use Rattle.spice_read.proofs.Standing.{starts}

-- a circuit of a text
record HasCircuit (text : List ℕ) : Type 0 where
  circuit : CircuitData
  is_circuit : IsDeckOf text circuit

-- a fault that is told of a text
record HasFault (text : List ℕ) : Type 0 where
  number : ℕ
  kind : DeckKind
  is_fault : IsDeckFaultAt text number kind

-- the words of a card have no control byte
pub IsSeen : NumberedCard → Type 0
IsSeen card = All (All (λ b. is_control b ≡ false)) card.words

seen_words : (cards : List NumberedCard) → AllByRecursion IsSeen cards → AllByRecursion (All (All (λ b. is_control b ≡ false))) (map (λ card. card.words) cards)
unfolding IsSeen
seen_words [] h = tt
seen_words (card ∷ cards) h = (h.0, seen_words cards h.1)

pub nothing_read : IsRead []
nothing_read = between [] [] starts (λ name h. tt) (λ e. refl) refl tt tt

-- a text whose cards were all read is a deck
pub deck_of : (text : List ℕ) (before : List NumberedCard) (last : Subckt) (above : List Subckt) (groups : List (List (List (List ℕ)))) → BeginsNumbered (numbered_lines text) → IsPassed deck_faults text before []
    → AllByRecursion IsSeen before → left (reverse before) ≡ flat_map (λ group. group) groups → AllZip AreSubcktCards groups (reverse (last ∷ above)) → AreSubckts (last ∷ above)
    → (circuit : CircuitData) → circuit ≡ with_devices (bare_circuit last.name (deck_phases text) last.ports) (expansion (expansions above) last).devices → IsDeckOf text circuit
deck_of text before last above groups b p seen order zip sound circuit circuit_is =
    let all : numbered_cards text ≡ reverse before = p.split ∙ append-nil (reverse before) in
    let cards : deck_cards text ≡ map (λ (card : NumberedCard). card.words) (reverse before) = sym (deck_cards-numbered text) ∙ ap (map (λ (card : NumberedCard). card.words)) all in
    let visible = All-from_recursion (All (All (λ b. is_control b ≡ false))) (map (λ (card : NumberedCard). card.words) (reverse before)) (seen_words (reverse before) (AllByRecursion-reverse IsSeen before seen)) in
    record {
      last = last;
      above = above;
      groups = groups;
      begins = begins_a_card text b;
      visible = subst (All (All (All (λ b. is_control b ≡ false)))) (sym cards) visible;
      order = ap (filter (λ card. not (is_skipped card))) cards ∙ order;
      groups_are = zip;
      sound = sound;
      circuit_is = circuit_is;
    }

pub seen_after : (before : List NumberedCard) (card : NumberedCard) → AllByRecursion IsSeen before → IsFound deck_faults before card None → AllByRecursion IsSeen (card ∷ before)
unfolding IsSeen
seen_after before card v clean = (All-from_recursion (All (λ b. is_control b ≡ false)) card.words (visible_words card.words (clean ControlByte)), v)

answer_of_end : (text : List ℕ) (before : List NumberedCard) → BeginsNumbered (numbered_lines text) → IsPassed deck_faults text before [] → IsRead before → AllByRecursion IsSeen before → HasCircuit text ⊎ HasFault text
answer_of_end text before b p (between [] groups s named none order zip sound) v = inr (record { number = end_line text; kind = NoSubckt; is_fault = fault_none_begun text before b p (none refl) })
answer_of_end text before b p (between (last ∷ above) groups s named none order zip sound) v =
    inl (record { circuit = with_devices (bare_circuit last.name (deck_phases text) last.ports) (expansion (expansions above) last).devices; is_circuit = deck_of text before last above groups b p v order zip sound _ refl })
answer_of_end text before b p (inside done groups s cards t named order cards_are zip sound over) v = inr (record { number = end_line text; kind = NotClosed; is_fault = fault_left_open text before b p t.begun t.one_open })

answer_of_cards : (text : List ℕ) (before rest : List NumberedCard) → BeginsNumbered (numbered_lines text) → IsPassed deck_faults text before rest → IsRead before → AllByRecursion IsSeen before → HasCircuit text ⊎ HasFault text
unfolding IsSeen
answer_of_cards text before [] b p r v = answer_of_end text before b p r v
answer_of_cards text before (card ∷ rest) b p r v =
    by (find (λ kind. has_deck_fault kind before card) kinds) (smallest_found deck_kind_number 0 kinds kinds_rise is_kind (λ kind. has_deck_fault kind before card))
    (λ q s w. answer_of_cards text (card ∷ before) rest b q s w)
  where
    by : (o : Option DeckKind) → IsFound deck_faults before card o
        → (IsPassed deck_faults text (card ∷ before) rest → IsRead (card ∷ before) → AllByRecursion IsSeen (card ∷ before) → HasCircuit text ⊎ HasFault text) → HasCircuit text ⊎ HasFault text
    by None clean later =
        later (one_passed deck_faults text before card rest p clean) (read_more before card (form_of before card clean) r)
        (seen_after before card v clean)
    by (Some kind) found later = inr (record { number = card.number; kind = kind; is_fault = fault_at_card deck_faults deck_sound text before card rest kind b p found })

-- some lines of cards begin with a card or with a line that continues none
begin_or_stray : (ps : List (ℕ × List ℕ)) → BeginsNumbered ps ⊎ ((n : ℕ) × IsStrayAt ps n)
begin_or_stray [] = inl tt
begin_or_stray (p ∷ ps) = by (continues p.1) refl
  where
    by : (t : Bool) → continues p.1 ≡ t → BeginsNumbered (p ∷ ps) ⊎ ((n : ℕ) × IsStrayAt (p ∷ ps) n)
    by true e = inr (p.0, (refl, e))
    by false e = inl e

answer : (text : List ℕ) → HasCircuit text ⊎ HasFault text
answer text = by (begin_or_stray (numbered_lines text))
  where
    by : BeginsNumbered (numbered_lines text) ⊎ ((n : ℕ) × IsStrayAt (numbered_lines text) n) → HasCircuit text ⊎ HasFault text
    by (inl b) = answer_of_cards text [] (numbered_cards text) b (none_passed deck_faults text) nothing_read tt
    by (inr l) = inr (record { number = l.0; kind = BadCard; is_fault = fault_at_stray deck_faults text l.0 l.1 })

pub deck_once : (text : List ℕ) (circuit : CircuitData) → IsDeckOf text circuit → IsOnlyAnswer (IsDeckOf text) (IsDeckFault text) circuit
deck_once text circuit is = record {
  is_answer = is;
  one_answer = λ other h. IsDeckOf-unique text other circuit h is;
  no_fault = deck_no_fault text circuit is;
}

pub one_answer : TextHasOneAnswer
one_answer text = by (answer text)
  where
    by : HasCircuit text ⊎ HasFault text → HasOneAnswer (IsDeckOf text) (IsDeckFault text) (IsDeckFaultAt text)
    by (inl a) = inl (a.circuit, deck_once text a.circuit a.is_circuit)
    by (inr f) = inr (
      f.number,
      f.kind,
      only_refusal deck_kind_number (IsDeckFault text) (IsDeckOf text) kind_number-injective f.number f.kind f.is_fault
          (λ circuit is. deck_no_fault text circuit is f.number f.kind f.is_fault.fault),
    )
