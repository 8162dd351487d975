-- What was read of the subcircuits of a deck stands for what the cards before say.
use Rattle.std.proofs.Common.{◌≡◌, ◌≤◌, ℕ, Bool, true, false, List, [], ◌∷◌, map, reverse, nat_eq, is_some, Some, None, option_map, refl, sym, ap, ◌∙◌, subst, arith}
use Rattle.std.specs.List.{AllByRecursion, IsDistinct}
use Rattle.std.specs.Cmp.Lexicographic.{pointwise, bytes_decides}
use Rattle.std.proofs.lemmas.Bool.{true≢false}
use Rattle.std.proofs.lemmas.List.{reverse-reverse}
use Rattle.dom_base.proofs.Lists.{AllByRecursion-reverse, list_any-none, none-list_any}
use Rattle.deck.specs.DeckCards.{NumberedCard, unit_word}
use Rattle.deck.specs.DeckFaults.{called_size, open_count}
use Rattle.deck.specs.Limits.{most_devices}
use Rattle.deck.specs.SubcktCards.{is_named_before, open_subckt}
use Rattle.deck.specs.Subckts.{Size, Subckt, size, size_named, sizes}
use Rattle.subckt_expand.specs.Definitions.{DefinitionData}
use Rattle.subckt_expand.specs.Live.{size_of}
use Rattle.subckt_expand.specs.StandsFor.{IsOpen, StandFor, StandsFor}
use Rattle.subckt_expand.specs.Units.{AreClosed, names_of}
use Rattle.subckt_expand.proofs.Closing.{closed-closed}
use Rattle.subckt_expand.proofs.FoundSizes.{size_found}
use Rattle.spice_read.specs.ReadSubckts.{SubcktsData, CanClose, IsClosable, called, is_closed_name}
use Rattle.spice_read.proofs.Contexts.{IsContext, count_in}
use Rattle.spice_read.proofs.Reading.{AllNamed}
use Rattle.spice_read.proofs.Standing.{NoneNamed, StandsBetween, StandsInside, starts}
use Rattle.spice_read.proofs.Ports.{none_differ}

-- the open subcircuit stands for this one
pub record IsOpenFor (closed : List DefinitionData) (done : List Subckt) (d : DefinitionData) (u : Subckt) : Type 0 where
  pub stands : StandsFor closed done d u
  pub is_open : IsOpen closed d
  pub apart : IsDistinct (pointwise nat_eq) d.nets
  pub new : is_closed_name closed d.name ≡ false

-- the closed subcircuits stand for these
pub record AreClosedFor (closed : List DefinitionData) (done : List Subckt) : Type 0 where
  pub are : AreClosed closed
  pub stand : StandFor closed done

pub data Stands (before : List NumberedCard) (s : SubcktsData) : Type 0 where
  between : (done : List Subckt) → s.current ≡ None → StandsBetween before done → AllNamed before done → AreClosedFor s.closed done → Stands before s
  inside : (done : List Subckt) (u : Subckt) (d : DefinitionData) → s.current ≡ Some d → StandsInside before done u → AllNamed before (u ∷ done) → AreClosedFor s.closed done
      → IsOpenFor s.closed done d u → Stands before s

-- what holds of the names of sizes
names_sized : (done : List Subckt) (P : List ℕ → Type 0) → AllByRecursion (λ (z : Size). P z.name) (sizes done) → AllByRecursion (λ (t : Subckt). P t.name) done
names_sized [] P h = tt
names_sized (t ∷ done) P h = (h.0, names_sized done P h.1)

sized_names : (done : List Subckt) (P : List ℕ → Type 0) → AllByRecursion (λ (t : Subckt). P t.name) done → AllByRecursion (λ (z : Size). P z.name) (sizes done)
sized_names [] P h = tt
sized_names (t ∷ done) P h = (h.0, sized_names done P h.1)

sizes_named : (closed : List DefinitionData) (P : List ℕ → Type 0) → AllByRecursion P (names_of closed) → AllByRecursion (λ (z : Size). P z.name) (map size_of closed)
sizes_named [] P h = tt
sizes_named (d ∷ closed) P h = (h.0, sizes_named closed P h.1)

named_sizes : (closed : List DefinitionData) (P : List ℕ → Type 0) → AllByRecursion (λ (z : Size). P z.name) (map size_of closed) → AllByRecursion P (names_of closed)
named_sizes [] P h = tt
named_sizes (d ∷ closed) P h = (h.0, named_sizes closed P h.1)

flip : (a b : List ℕ) → pointwise nat_eq a b ≡ false → pointwise nat_eq b a ≡ false
flip a b h = by (pointwise nat_eq b a) refl
  where
    by : (t : Bool) → pointwise nat_eq b a ≡ t → pointwise nat_eq b a ≡ false
    by true e = absurd (true≢false (sym ((bytes_decides a b).1 (sym ((bytes_decides b a).0 e))) ∙ h))
    by false e = e

-- a name that no closed subcircuit has, both ways
none_named : (closed : List DefinitionData) (done : List Subckt) (name : List ℕ) → StandFor closed done → is_closed_name closed name ≡ false → NoneNamed name done
none_named closed done name stand h =
    let P : List ℕ → Type 0 = λ n. pointwise nat_eq n name ≡ false in
    let back : AllByRecursion (λ (z : Size). P z.name) (reverse (map size_of closed)) =
    AllByRecursion-reverse (λ (z : Size). P z.name) (map size_of closed) (sizes_named closed P (each (names_of closed) (none-list_any (pointwise nat_eq name) (names_of closed) h))) in
    names_sized done P (subst (AllByRecursion (λ (z : Size). P z.name)) stand.sizes_are back)
  where
    each : (names : List (List ℕ)) → AllByRecursion (λ n. pointwise nat_eq name n ≡ false) names → AllByRecursion (λ n. pointwise nat_eq n name ≡ false) names
    each [] g = tt
    each (n ∷ names) g = (flip name n g.0, each names g.1)

named_none : (closed : List DefinitionData) (done : List Subckt) (name : List ℕ) → StandFor closed done → NoneNamed name done → is_closed_name closed name ≡ false
named_none closed done name stand h =
    let P : List ℕ → Type 0 = λ n. pointwise nat_eq name n ≡ false in
    let back = subst (AllByRecursion (λ (z : Size). P z.name)) (sym stand.sizes_are) (sized_names done P (each done h)) in
    let all = AllByRecursion-reverse (λ (z : Size). P z.name) (reverse (map size_of closed)) back in
    list_any-none (pointwise nat_eq name) (names_of closed) (named_sizes closed P (subst (AllByRecursion (λ (z : Size). P z.name)) (reverse-reverse (map size_of closed)) all))
  where
    each : (ts : List Subckt) → NoneNamed name ts → AllByRecursion (λ (t : Subckt). pointwise nat_eq name t.name ≡ false) ts
    each [] g = tt
    each (t ∷ ts) g = (flip t.name name g.0, each ts g.1)

-- the names of closed subcircuits are those that stand before, where none is open
pub named_is : (before : List NumberedCard) (closed : List DefinitionData) (done : List Subckt) → StandsBetween before done → AllNamed before done → StandFor closed done
    → (name : List ℕ) → is_named_before name before ≡ is_closed_name closed name
named_is before closed done sb named stand name = by (is_closed_name closed name) (is_named_before name before) refl refl
  where
    by : (t u : Bool) → is_closed_name closed name ≡ t → is_named_before name before ≡ u → is_named_before name before ≡ is_closed_name closed name
    by true true e f = f ∙ sym e
    by true false e f = absurd (true≢false (sym e ∙ named_none closed done name stand (named name f)))
    by false u e f = sb.none_named name (none_named closed done name stand e) ∙ sym e

-- the size of the subcircuit that a card calls
called_found : (before : List NumberedCard) (closed : List DefinitionData) (done : List Subckt) (card : NumberedCard) → AreClosedFor closed done → called_size before card ≡ size_named (unit_word card) (sizes done)
    → called_size before card ≡ option_map size_of (called closed (unit_word card))
called_found before closed done card are is =
    is ∙ ap (size_named (unit_word card)) (sym are.stand.sizes_are) ∙ size_found closed (unit_word card) are.are.names_differ

-- what was read says what the cards before say
pub context_of : (before : List NumberedCard) (s : SubcktsData) → Stands before s → IsContext before s
context_of before s (between done none sb named are) = record {
  open_is = sb.none_open ∙ sym (ap is_some none);
  count_is = λ e. absurd (true≢false (sym e ∙ ap is_some none));
  few = subst (λ o. count_in o ≤ most_devices) (sym none) (omega arith);
  named_is = λ e name. named_is before s.closed done sb named are.stand name;
  called_is = λ card. called_found before s.closed done card are (ap (λ l. size_named (unit_word card) (sizes l)) sb.closed_are);
}
context_of before s (inside done u d some si named are fits) =
    let count : open_count before ≡ d.devices =
    ap (λ l. (size (sizes l) (open_subckt before)).devices) si.closed_are ∙ ap (λ (t : Subckt). (size (sizes done) t).devices) si.open_is
    ∙ sym (ap (λ (z : Size). z.devices) fits.stands.size_is) in
    record {
      open_is = si.one_open ∙ sym (ap is_some some);
      count_is = λ e. count ∙ sym (ap count_in some);
      few = subst (λ o. count_in o ≤ most_devices) (sym some) fits.is_open.few_devices;
      named_is = λ e. absurd (true≢false (sym (ap is_some some) ∙ e));
      called_is = λ card. called_found before s.closed done card are (ap (λ l. size_named (unit_word card) (sizes l)) si.closed_are);
    }

-- at first nothing was read
pub none_stands : (s : SubcktsData) → s.closed ≡ [] → s.current ≡ None → Stands [] s
none_stands s none_closed none_open =
    let none : AreClosedFor [] [] = record { are = record { each = λ number lt. absurd (omega (arith, lt)); names_differ = none_differ }; stand = record { live_are = refl; sizes_are = refl } } in
    between [] none_open starts (λ name h. tt) (subst (λ l. AreClosedFor l []) (sym none_closed) none)

-- the open subcircuit can be closed
pub closable_of : (before : List NumberedCard) (s : SubcktsData) → Stands before s → IsClosable s
closable_of before s (between done none sb named are) = rw none tt
closable_of before s (inside done u d some si named are fits) =
    let can : CanClose s.closed d = record { new = fits.new; whole = closed-closed s.closed done d u are.are are.stand fits.stands fits.is_open fits.apart } in
    rw some can
