-- What a search among closed subcircuits says.
use Rattle.std.proofs.Common.{◌≡◌, ◌<◌, ◌-◌, ℕ, Bool, true, false, not, ◌==◌, List, [], ◌∷◌, length, take, drop, eqb-true, nat_eq, is_some, Option, Some, None, MatchOption, refl, sym, ap, ◌∙◌, arith, ◌⊎◌, inl, inr}
use Rattle.std.specs.List.{list_any}
use Rattle.std.specs.Cmp.Lexicographic.{pointwise}
use Rattle.std.proofs.lemmas.List.{length-take-le}
use Rattle.std.proofs.lemmas.Option.{slice_get-get_or, slice_get_past}
use Rattle.deck.specs.declared.fault.DeckKind.TheVariants.{TooMany, WrongCount}
use Rattle.deck.specs.DeckCards.{NumberedCard, passed_nets}
use Rattle.deck.specs.Nets.{net_number}
use Rattle.deck.proofs.NetNumbers.{number_cases}
use Rattle.subckt_expand.specs.Definitions.{DefinitionData, no_definition}
use Rattle.subckt_expand.specs.Units.{definition_at, names_of}
use Rattle.subckt_expand.proofs.MoreClosed.{length-names}
use Rattle.spice_read.specs.ReadSubckts.{call_fault, called, has_room_for, is_closed_name}

-- a test and its opposite
pub not_back : (r s : Bool) → s ≡ not r → r ≡ not s
not_back true s e = sym (ap not e)
not_back false s e = sym (ap not e)

module _ (closed : List DefinitionData) (name : List ℕ) where
  -- a name is found where it is that of a closed subcircuit
  pub new_from_find : {X : Type 0} (o : Option (ℕ × X)) (Q : ℕ × X → Type 0)
      → MatchOption o (net_number (names_of closed) name ≡ length closed) (λ p. (p.0 ≡ net_number (names_of closed) name) × (p.0 < length closed) × Q p)
      → is_some o ≡ is_closed_name closed name
  new_from_find {X} o Q h = by o h (number_cases (pointwise nat_eq name) (names_of closed))
    where
      by : (x : Option (ℕ × X)) → MatchOption x (net_number (names_of closed) name ≡ length closed) (λ p. (p.0 ≡ net_number (names_of closed) name) × (p.0 < length closed) × Q p)
          → ((list_any (pointwise nat_eq name) (names_of closed) ≡ true) × (net_number (names_of closed) name < length (names_of closed)))
          ⊎ ((list_any (pointwise nat_eq name) (names_of closed) ≡ false) × (net_number (names_of closed) name ≡ length (names_of closed)))
          → is_some x ≡ is_closed_name closed name
      by None g (inl k) = absurd (omega (arith, g, k.1, length-names closed))
      by None g (inr k) = sym k.0
      by (Some p) g (inl k) = sym k.0
      by (Some p) g (inr k) = absurd (omega (arith, g.0, g.1, k.1, length-names closed))

  pub found_none : net_number (names_of closed) name ≡ length closed → called closed name ≡ None
  found_none last = slice_get_past closed (net_number (names_of closed) name) (omega (arith, last))

  pub found_some : (unit : ℕ) (d : DefinitionData) → unit ≡ net_number (names_of closed) name → unit < length closed → d ≡ definition_at closed unit → called closed name ≡ Some d
  found_some unit d is low d_is =
      let at = slice_get-get_or closed (net_number (names_of closed) name) no_definition (omega (arith, is, low)) in
      at ∙ ap Some (sym (ap (definition_at closed) is) ∙ sym d_is)

-- why a subcircuit can't be called, by the tests of the reader
pub no_room : (devices : ℕ) (u : DefinitionData) (card : NumberedCard) → has_room_for devices u ≡ false → call_fault devices (Some u) card ≡ Some TooMany
no_room devices u card none = rw none refl

pub wrong_count : (devices : ℕ) (u : DefinitionData) (card : NumberedCard) → has_room_for devices u ≡ true → (u.ports == length card.words - 2) ≡ false → call_fault devices (Some u) card ≡ Some WrongCount
wrong_count devices u card room wrong = rw (room, wrong) refl

pub no_call_fault : (devices : ℕ) (u : DefinitionData) (card : NumberedCard) → has_room_for devices u ≡ true → (u.ports == length card.words - 2) ≡ true → call_fault devices (Some u) card ≡ None
no_call_fault devices u card room right = rw (room, right) refl

-- so many nets are passed
pub passed_count : (card : NumberedCard) → 1 < length card.words → length (passed_nets card) ≡ length card.words - 2
passed_count card more = by card.words more
  where
    by : (ws : List (List ℕ)) → 1 < length ws → length (take (length ws - 2) (drop 1 ws)) ≡ length ws - 2
    by [] l = absurd (omega (arith, l))
    by (w ∷ ws) l = length-take-le (length (w ∷ ws) - 2) ws (omega arith)

-- numbers that differ
pub other_number : (a b : ℕ) → (a ≡ b → ⊥) → (a == b) ≡ false
other_number a b h = by (a == b) refl
  where
    by : (t : Bool) → (a == b) ≡ t → (a == b) ≡ false
    by true e = absurd (h (eqb-true a b e))
    by false e = e
