-- Kinds of faults by their numbers, and the fault of a card with the smallest number.
use Rattle.std.proofs.Common.{◌≡◌, List, [], ◌∷◌, refl, arith, Option, inl, inr}
use Rattle.std.specs.List.{find}
use Rattle.dom_base.specs.FaultKinds.{IsAmong, IsSmallest, RisesAbove}
use Rattle.dom_base.proofs.Faults.{number_of-injective, smallest_found}
use Rattle.deck.specs.declared.fault.DeckKind.{DeckKind}
use Rattle.deck.specs.declared.fault.DeckKind.TheVariants.{ControlByte, UnknownCard, BadCard, UnknownDevice, NoSubckt, SecondSubckt, NotClosed, DuplicatePort, TooMany, UnknownSubckt, WrongCount}
use Rattle.deck.specs.DeckCards.{NumberedCard}
use Rattle.deck.specs.DeckFaults.{deck_faults, has_deck_fault, FaultTable}
use Rattle.deck.specs.DeckKinds.{deck_kind_number}

-- the kinds by rising number
abbrev pub kinds : List DeckKind
kinds = ControlByte ∷ UnknownCard ∷ BadCard ∷ UnknownDevice ∷ NoSubckt ∷ SecondSubckt ∷ NotClosed ∷ DuplicatePort ∷ TooMany ∷ UnknownSubckt ∷ WrongCount ∷ []

pub is_kind : (kind : DeckKind) → IsAmong kind kinds
is_kind ControlByte = inl refl
is_kind UnknownCard = inr (inl refl)
is_kind BadCard = inr (inr (inl refl))
is_kind UnknownDevice = inr (inr (inr (inl refl)))
is_kind NoSubckt = inr (inr (inr (inr (inl refl))))
is_kind SecondSubckt = inr (inr (inr (inr (inr (inl refl)))))
is_kind NotClosed = inr (inr (inr (inr (inr (inr (inl refl))))))
is_kind DuplicatePort = inr (inr (inr (inr (inr (inr (inr (inl refl)))))))
is_kind TooMany = inr (inr (inr (inr (inr (inr (inr (inr (inl refl))))))))
is_kind UnknownSubckt = inr (inr (inr (inr (inr (inr (inr (inr (inr (inl refl)))))))))
is_kind WrongCount = inr (inr (inr (inr (inr (inr (inr (inr (inr (inr (inl refl))))))))))

pub kinds_rise : RisesAbove deck_kind_number 0 kinds
kinds_rise = (omega arith, (omega arith, (omega arith, (omega arith, (omega arith, (omega arith, (omega arith, (omega arith, (omega arith, (omega arith, (omega arith, tt)))))))))))

-- kinds of one number are the same
pub kind_number-injective : (a b : DeckKind) → deck_kind_number a ≡ deck_kind_number b → a ≡ b
kind_number-injective a b e = number_of-injective deck_kind_number 0 kinds a b kinds_rise (is_kind a) (is_kind b) e

-- the fault of a card with the smallest number, where the cards before it, the nearest first, are these
abbrev pub smallest_fault : List NumberedCard → NumberedCard → Option DeckKind
smallest_fault before card = find (λ kind. has_deck_fault kind before card) kinds

-- no kind of fault, or the smallest one
abbrev pub IsFound : {Kind : Type 0} → FaultTable Kind → List NumberedCard → NumberedCard → Option Kind → Type 0
IsFound table before card found = IsSmallest table.number_of (λ kind. table.of_card kind before card) found

pub smallest_is : (before : List NumberedCard) (card : NumberedCard) → IsFound deck_faults before card (smallest_fault before card)
smallest_is before card = smallest_found deck_kind_number 0 kinds kinds_rise is_kind (λ kind. has_deck_fault kind before card)
