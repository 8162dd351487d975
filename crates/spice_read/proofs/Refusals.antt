-- A deck that has a circuit is refused for nothing.
use Rattle.std.proofs.Common.{◌≡◌, ℕ, true, false, not, List, [], ◌∷◌, ◌++◌, map, filter, reverse, refl, sym, ap, ◌∙◌, subst, append-nil, All, inl, inr}
use Rattle.std.specs.List.{AllByRecursion, flat_map}
use Rattle.std.proofs.lemmas.List.{reverse-reverse}
use Rattle.std.proofs.lemmas.List.Elements.{recursion_from_All}
use Rattle.dom_base.specs.Lines.{is_control}
use Rattle.dom_base.proofs.Lists.{reverse-onto}
use Rattle.deck.specs.CircuitData.{CircuitData}
use Rattle.deck.specs.DeckCards.{NumberedCard, numbered_cards, has_subckt, is_open}
use Rattle.deck.specs.DeckText.{deck_cards, is_skipped, AreSubckts, IsDeckOf}
use Rattle.spice_read.proofs.NumberedCards.{begins_numbered, deck_cards-numbered}
use Rattle.deck.specs.declared.fault.DeckKind.TheVariants.{ControlByte, UnknownCard, BadCard, UnknownDevice, NoSubckt, SecondSubckt, NotClosed, DuplicatePort, TooMany, UnknownSubckt, WrongCount}
use Rattle.deck.specs.Subckts.{Subckt}
use Rattle.deck.specs.declared.fault.DeckKind.{DeckKind}
use Rattle.deck.specs.DeckFaults.{IsDeckFault, deck_faults, has_deck_fault, has_end_fault}
use Rattle.deck.proofs.WordTests.{none_has_control}
use Rattle.spice_read.proofs.FaultPlaces.{no_stray}
use Rattle.spice_read.proofs.CleanCards.{IsClean, HasNoControl}
use Rattle.spice_read.proofs.NoFault.{left, IsLeft, between, card_taken, inside}
use Rattle.spice_read.proofs.Standing.{starts}

-- the deck ends without a fault behind these cards, the nearest first
abbrev pub IsCleanEnd : List NumberedCard → Type 0
IsCleanEnd before = (kind : DeckKind) → has_end_fault kind before ≡ false

-- the cards that are left have no fault, and the deck ends without one
pub AreClean : List NumberedCard → List NumberedCard → Type 0
AreClean before [] = IsCleanEnd before
AreClean before (card ∷ rest) = IsClean before card × AreClean (card ∷ before) rest

end_clean : (before : List NumberedCard) → has_subckt before ≡ true → is_open before ≡ false → IsCleanEnd before
end_clean before h o ControlByte = refl
end_clean before h o UnknownCard = refl
end_clean before h o BadCard = refl
end_clean before h o UnknownDevice = refl
end_clean before h o NoSubckt = ap not h
end_clean before h o SecondSubckt = refl
end_clean before h o NotClosed = o
end_clean before h o DuplicatePort = refl
end_clean before h o TooMany = refl
end_clean before h o UnknownSubckt = refl
end_clean before h o WrongCount = refl

-- nothing is left of a deck
nothing_left : (last : Subckt) (above : List Subckt) (before : List NumberedCard) → IsLeft (last ∷ above) before [] → IsCleanEnd before
nothing_left last above before (between done [] [] s order zip whole) = end_clean before (s.begun last above whole) s.none_open
nothing_left last above before (between done [] (group ∷ groups) s order zip whole) = absurd zip
nothing_left last above before (between done (t ∷ todo) [] s order zip whole) = absurd zip
nothing_left last above before (between done (t ∷ todo) (group ∷ groups) s order zip whole) =
    absurd (let none = order ∙ ap (λ l. l ++ flat_map (λ group. group) groups) zip.0.cards_are in cc)
nothing_left last above before (inside done todo groups s parts more [] closing t is order cards_are few zip whole) = absurd (cc)
nothing_left last above before (inside done todo groups s parts more (card ∷ cards) closing t is order cards_are few zip whole) = absurd (cc)

all_clean : (last : Subckt) (above : List Subckt) (before rest : List NumberedCard) → AreSubckts (last ∷ above) → AllByRecursion HasNoControl rest → IsLeft (last ∷ above) before rest → AreClean before rest
unfolding AreClean
all_clean last above before [] sound v l = nothing_left last above before l
all_clean last above before (card ∷ rest) sound v l =
    let t = card_taken (last ∷ above) before card rest sound v.0 l in
    (t.clean, all_clean last above (card ∷ before) rest sound v.1 t.rest_left)

-- cards without control bytes
visible_cards : (cards : List NumberedCard) → AllByRecursion (All (All (λ b. is_control b ≡ false))) (map (λ card. card.words) cards) → AllByRecursion HasNoControl cards
visible_cards [] h = tt
visible_cards (card ∷ cards) h = (none_has_control card.words h.0, visible_cards cards h.1)

-- the cards of a deck have no fault
deck_clean : (text : List ℕ) (circuit : CircuitData) → IsDeckOf text circuit → AreClean [] (numbered_cards text)
deck_clean text circuit h =
    let words = deck_cards-numbered text in
    let visible = subst (AllByRecursion (All (All (λ b. is_control b ≡ false)))) (sym words) (recursion_from_All (All (All (λ b. is_control b ≡ false))) (deck_cards text) h.visible) in
    let whole : reverse (reverse (h.last ∷ h.above)) ++ [] ≡ h.last ∷ h.above = append-nil (reverse (reverse (h.last ∷ h.above))) ∙ reverse-reverse (h.last ∷ h.above) in
    let order : left (numbered_cards text) ≡ flat_map (λ group. group) h.groups = ap (filter (λ card. not (is_skipped card))) words ∙ h.order in
    all_clean h.last h.above [] (numbered_cards text) h.sound (visible_cards (numbered_cards text) visible)
    (between [] (reverse (h.last ∷ h.above)) h.groups starts order h.groups_are whole)

-- a card among them
clean_at : (front before : List NumberedCard) (card : NumberedCard) (after : List NumberedCard) → AreClean before (front ++ card ∷ after) → IsClean (reverse front ++ before) card
unfolding AreClean
clean_at [] before card after c = c.0
clean_at (f ∷ front) before card after c = subst (λ b. IsClean b card) (sym (reverse-onto f front before)) (clean_at front (f ∷ before) card after c.1)

-- and their end
clean_end : (rest before : List NumberedCard) → AreClean before rest → IsCleanEnd (reverse rest ++ before)
unfolding AreClean
clean_end [] before c = c
clean_end (card ∷ rest) before c = subst IsCleanEnd (sym (reverse-onto card rest before)) (clean_end rest (card ∷ before) c.1)

-- a deck that has a circuit has no fault
pub deck_no_fault : (text : List ℕ) (circuit : CircuitData) → IsDeckOf text circuit → (number : ℕ) (kind : DeckKind) → IsDeckFault text number kind → ⊥
deck_no_fault text circuit h number kind (inl f) =
    let clean = deck_clean text circuit h in
    let here = clean_at (reverse f.before) [] f.card f.after (subst (AreClean []) f.cards_are clean) in
    let back : reverse (reverse f.before) ++ [] ≡ f.before = append-nil (reverse (reverse f.before)) ∙ reverse-reverse f.before in
    let none : has_deck_fault kind f.before f.card ≡ false = subst (λ b. has_deck_fault kind b f.card ≡ false) back (here kind) in
    let never : true ≡ false = sym f.fault ∙ none in cc
deck_no_fault text circuit h number kind (inr (inl f)) = no_stray deck_faults text (begins_numbered text h.begins) number kind f
deck_no_fault text circuit h number kind (inr (inr f)) =
    let clean = clean_end (numbered_cards text) [] (deck_clean text circuit h) in
    let back = append-nil (reverse (numbered_cards text)) in
    let none : has_end_fault kind (reverse (numbered_cards text)) ≡ false = subst (λ b. has_end_fault kind b ≡ false) back (clean kind) in
    let never : true ≡ false = sym f.fault ∙ none in cc
