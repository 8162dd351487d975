-- What is so while a deck is read.
use Rattle.std.proofs.Common.{◌≡◌, ◌<◌, ℕ, true, false, if◌then◌else◌, nat_lt, List, [], ◌∷◌, ◌++◌, length, map, reverse, refl, sym, ap, ◌∙◌, subst, arith, Some, None, Option, append-nil}
use Rattle.std.specs.Prelude.{IsNone, is_some}
use Rattle.std.specs.List.{AllByRecursion}
use Rattle.std.proofs.lemmas.Bool.{true≢false}
use Rattle.std.proofs.lemmas.Bool.Decides.{nat_tests}
use Rattle.std.proofs.lemmas.List.{length-map, length-reverse}
use Rattle.dom_base.proofs.Lists.{AllByRecursion-right}
use Rattle.deck.specs.declared.fault.DeckKind.{DeckKind}
use Rattle.deck.specs.declared.fault.DeckKind.TheVariants.{BadCard, NoSubckt, NotClosed}
use Rattle.deck.specs.CircuitData.{CircuitData}
use Rattle.deck.specs.DeckText.{IsDeckOf, bare_circuit, deck_lines, deck_phases}
use Rattle.deck.specs.DeckCards.{NumberedCard, numbered_lines}
use Rattle.deck.specs.DeckFaults.{IsDeckFaultAt, end_line, deck_faults}
use Rattle.deck.specs.NamedDevices.{with_devices}
use Rattle.deck.specs.Subckts.{Expansion, Subckt, expansion, expansions, sizes}
use Rattle.subckt_expand.specs.Definitions.{DefinitionData, port_names}
use Rattle.subckt_expand.specs.Live.{size_of}
use Rattle.subckt_expand.specs.StandsFor.{StandFor}
use Rattle.subckt_expand.specs.Units.{definition_at}
use Rattle.subckt_expand.proofs.Closing.{expansion-last, subckt-last}
use Rattle.spice_read.specs.Readers.{cards_behind, cards_left, card_lines_left, end_from, phases_from, BeginsNumbered, IsAtFirstCard, IsStrayAt, Reader, ReadsCard}
use Rattle.spice_read.specs.ReadSubckts.{SubcktsData, end_fault, fault_in, subckts_after, IsClosable, IsFinished, IsWordedCard}
use Rattle.spice_read.proofs.NumberedCards.{cards_are_lower}
use Rattle.spice_read.proofs.KindNumbers.{IsFound, smallest_is}
use Rattle.spice_read.proofs.CleanForms.{form_of}
use Rattle.spice_read.proofs.Contexts.{fault_in-smallest}
use Rattle.spice_read.proofs.FaultPlaces.{IsPassed, fault_at_card, deck_sound, fault_at_stray, fault_left_open, fault_none_begun, none_passed, one_passed}
use Rattle.spice_read.proofs.NextState.{stands_after}
use Rattle.spice_read.proofs.OneAnswer.{IsSeen, deck_of, nothing_read, seen_after}
use Rattle.spice_read.proofs.ReadState.{Stands, between as apart, closable_of, context_of, inside as within, none_stands}
use Rattle.spice_read.proofs.Reading.{IsRead, between, inside, read_more}

-- a line that continues a card stands before the first card
pub stray_fault : (text : List ℕ) (n : ℕ) (kind : DeckKind) → IsStrayAt (numbered_lines text) n × (kind ≡ BadCard) → IsDeckFaultAt text n kind
stray_fault text n kind stray = subst (IsDeckFaultAt text n) (sym stray.1) (fault_at_stray deck_faults text n stray.0)

-- what is so after some cards: the reader stands here
pub record HasRead (text : List ℕ) (s : SubcktsData) (reader : Reader) : Type 0 where
  pub before : List NumberedCard
  pub begins : BeginsNumbered (numbered_lines text)
  pub passed : IsPassed deck_faults text before (cards_left reader)
  pub seen : AllByRecursion IsSeen before
  pub read : IsRead before
  pub stands : Stands before s
  pub phases_are : deck_phases text ≡ reader.phases ++ phases_from (deck_lines reader.left.rest)
  pub end_is : end_line text ≡ end_from reader.left.number (deck_lines reader.left.rest)
  pub last : IsNone reader.held → reader.left.rest ≡ []

pub no_card_read : (text : List ℕ) (s : SubcktsData) (reader : Reader) → s.closed ≡ [] → s.current ≡ None → IsAtFirstCard text reader → HasRead text s reader
no_card_read text s reader none_closed none_open first = record {
  before = [];
  begins = first.begins;
  passed = subst (IsPassed deck_faults text []) first.cards_are (none_passed deck_faults text);
  seen = tt;
  read = nothing_read;
  stands = none_stands s none_closed none_open;
  phases_are = first.phases_are;
  end_is = first.end_is;
  last = first.last;
}

-- the open subcircuit can be closed
pub can_close : {text : List ℕ} {s : SubcktsData} {reader : Reader} → HasRead text s reader → IsClosable s
can_close {s = s} so_far = closable_of so_far.before s so_far.stands

-- the next card is read
module _ {text : List ℕ} {s : SubcktsData} {reader : Reader} (so_far : HasRead text s reader) {card : NumberedCard} {next : Reader} (reads : ReadsCard reader card next) where
  passed_card : IsPassed deck_faults text so_far.before (card ∷ cards_left next)
  passed_card = subst (IsPassed deck_faults text so_far.before) reads.cards_are so_far.passed

  found_card : (found : Option DeckKind) → fault_in s card ≡ found → IsFound deck_faults so_far.before card found
  found_card found is =
      subst (IsFound deck_faults so_far.before card) (sym (fault_in-smallest so_far.before s card (context_of so_far.before s so_far.stands)) ∙ is) (smallest_is so_far.before card)

  pub card_worded : IsWordedCard card
  card_worded =
      let all = subst (AllByRecursion IsWordedCard) passed_card.split (cards_are_lower text) in
      (AllByRecursion-right IsWordedCard (reverse so_far.before) (card ∷ cards_left next) all).0

  pub card_fault : (n : ℕ) (kind : DeckKind) → (n ≡ card.number) × (fault_in s card ≡ Some kind) → IsDeckFaultAt text n kind
  card_fault n kind f =
      subst (λ l. IsDeckFaultAt text l kind) (sym f.0) (fault_at_card deck_faults deck_sound text so_far.before card (cards_left next) kind so_far.begins passed_card (found_card (Some kind) f.1))

  pub card_read : (after : SubcktsData) → fault_in s card ≡ None → after ≡ subckts_after s card → HasRead text after next
  card_read after clean is =
      let found = found_card None clean in
      let form = form_of so_far.before card found in
      record {
        before = card ∷ so_far.before;
        begins = so_far.begins;
        passed = one_passed deck_faults text so_far.before card (cards_left next) passed_card found;
        seen = seen_after so_far.before card so_far.seen found;
        read = read_more so_far.before card form so_far.read;
        stands = subst (Stands (card ∷ so_far.before)) (sym is) (stands_after so_far.before s card so_far.stands found form);
        phases_are = so_far.phases_are ∙ reads.text.same_phases;
        end_is = so_far.end_is ∙ reads.text.same_end;
        last = reads.last;
      }

-- as many subcircuits as are counted
sizes_count : (done : List Subckt) → length (sizes done) ≡ length done
sizes_count [] = refl
sizes_count (t ∷ done) = omega (arith, sizes_count done)

stand_count : (closed : List DefinitionData) (done : List Subckt) → StandFor closed done → length closed ≡ length done
stand_count closed done stand =
    omega (arith, ap length stand.sizes_are, length-reverse (map size_of closed), length-map closed size_of, sizes_count done)

-- all cards were read
module _ {text : List ℕ} {s : SubcktsData} {reader : Reader} (so_far : HasRead text s reader) (none : reader.held ≡ None) where
  all_passed : IsPassed deck_faults text so_far.before []
  all_passed = subst (λ h. IsPassed deck_faults text so_far.before (cards_behind h (card_lines_left reader.left))) none so_far.passed

  nothing : reader.left.rest ≡ []
  nothing = so_far.last (ap is_some none)

  phases_whole : reader.phases ≡ deck_phases text
  phases_whole = sym (so_far.phases_are ∙ ap (λ l. reader.phases ++ phases_from (deck_lines l)) nothing ∙ append-nil reader.phases)

  -- the circuit of the last subcircuit
  circuit_of : (circuit : CircuitData) (f : IsFinished s reader.phases circuit) (last : Subckt) (above : List Subckt) → StandFor s.closed (last ∷ above)
      → circuit ≡ with_devices (bare_circuit last.name (deck_phases text) last.ports) (expansion (expansions above) last).devices
  circuit_of circuit f last above stand =
      let whole = subckt-last s.closed last above f.last stand f.count in
      let name : (definition_at s.closed f.last).name ≡ last.name = ap (λ (t : Subckt). t.name) whole in
      let ports : port_names (definition_at s.closed f.last) ≡ last.ports = ap (λ (t : Subckt). t.ports) whole in
      let devices = ap (λ (e : Expansion). e.devices) (expansion-last s.closed last above f.last stand f.count) in
      f.circuit_is ∙ (λ i. with_devices (bare_circuit (name i) (phases_whole i) (ports i)) (devices i))

  pub deck_accepted : (circuit : CircuitData) → IsFinished s reader.phases circuit → IsDeckOf text circuit
  deck_accepted circuit f = by so_far.read so_far.stands
    where
      by : IsRead so_far.before → Stands so_far.before s → IsDeckOf text circuit
      by r (within done u d some si named are fits) = absurd (let never : None ≡ Some d = sym f.none_open ∙ some in cc)
      by (inside done groups u cards si named order cards_are zip sound over) (apart others closed_open sb all are) = absurd (true≢false (sym si.one_open ∙ sb.none_open))
      by (between [] groups sb named none_begun order zip sound) (apart others closed_open other all are) =
          let same : others ≡ [] = sym other.closed_are ∙ sb.closed_are in
          absurd (omega (arith, f.count, stand_count s.closed others are.stand, ap length same))
      by (between (last ∷ above) groups sb named none_begun order zip sound) (apart others closed_open other all are) =
          let same : others ≡ last ∷ above = sym other.closed_are ∙ sb.closed_are in
          deck_of text so_far.before last above groups so_far.begins all_passed so_far.seen order zip sound circuit (circuit_of circuit f last above (subst (StandFor s.closed) same are.stand))

  pub deck_end_fault : (n : ℕ) (kind : DeckKind) → (n ≡ reader.left.number) × (end_fault s ≡ Some kind) → IsDeckFaultAt text n kind
  deck_end_fault n kind f =
      let end : reader.left.number ≡ end_line text = sym (so_far.end_is ∙ ap (λ l. end_from reader.left.number (deck_lines l)) nothing) in
      subst (λ l. IsDeckFaultAt text l kind) (sym (f.0 ∙ end)) (by so_far.read so_far.stands f.1)
    where
      by : IsRead so_far.before → Stands so_far.before s → end_fault s ≡ Some kind → IsDeckFaultAt text (end_line text) kind
      by r (within done u d some si named are fits) g =
          let same : NotClosed ≡ kind = (let g2 : Some NotClosed ≡ Some kind = sym (ap (λ (o : Option DefinitionData). end_fault (record { closed = s.closed; current = o })) some) ∙ g in cc) in
          subst (IsDeckFaultAt text (end_line text)) same (fault_left_open text so_far.before so_far.begins all_passed si.begun si.one_open)
      by (inside done groups u cards si named order cards_are zip sound over) (apart others closed_open sb all are) g = absurd (true≢false (sym si.one_open ∙ sb.none_open))
      by (between (last ∷ above) groups sb named none_begun order zip sound) (apart others closed_open other all are) g =
          let same : others ≡ last ∷ above = sym other.closed_are ∙ sb.closed_are in
          let more : 0 < length s.closed = omega (arith, stand_count s.closed others are.stand, ap length same) in
          let some : nat_lt 0 (length s.closed) ≡ true = grind (arith, nat_tests, more) in
          absurd (let never : None ≡ Some kind = sym (λ i. if is_some (closed_open i) then Some NotClosed else (if some i then None else Some NoSubckt)) ∙ g in cc)
      by (between [] groups sb named none_begun order zip sound) (apart others closed_open other all are) g =
          let same : others ≡ [] = sym other.closed_are ∙ sb.closed_are in
          let count : length s.closed ≡ 0 = omega (arith, stand_count s.closed others are.stand, ap length same) in
          let none_closed : nat_lt 0 (length s.closed) ≡ false = grind (arith, nat_tests, count) in
          let kind_is : NoSubckt ≡ kind = (let g2 : Some NoSubckt ≡ Some kind = sym (λ i. if is_some (closed_open i) then Some NotClosed else (if none_closed i then None else Some NoSubckt)) ∙ g in cc) in
          subst (IsDeckFaultAt text (end_line text)) kind_is (fault_none_begun text so_far.before so_far.begins all_passed (none_begun refl))
