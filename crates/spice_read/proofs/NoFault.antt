-- A deck that has a circuit has no fault.
use Rattle.std.proofs.Common.{cond, not, filter, ◌≡◌, ◌≢◌, ℕ, ◌+◌, ◌-◌, ◌<◌, ◌≤◌, max, Bool, true, false, List, [], ◌∷◌, ◌++◌, map, reverse, length, drop, fold, sum_by, nat_eq, nat_lt, slice_index_or, codes, Some, None, IsSomeAnd, Option, refl, sym, ap, ◌∙◌, subst, arith, append_assoc, append-nil, eq-eqb}
use Rattle.std.specs.List.{AllByRecursion, AllZip, flat_map, list_any}
use Rattle.std.specs.Cmp.Lexicographic.{pointwise, bytes_decides}
use Rattle.std.specs.Set.{distinct_count}
use Rattle.std.proofs.lemmas.Bool.Decides.{nat_tests}
use Rattle.std.proofs.lemmas.List.Elements.{recursion_from_All}
use Rattle.std.proofs.lemmas.Map.Made.{distinct_count-from_IsDistinct}
use Rattle.dom_base.proofs.Lists.{reverse-onto, head_same, tail_same}
use Rattle.dom_base.proofs.Names.{names_equal}
use Rattle.deck.specs.DeckCards.{NumberedCard, has_first_word, dot_subckt, dot_ends, port_names, has_equals, is_model_word, word_at, unit_word}
use Rattle.deck.specs.DeckText.{IsDeviceCard, is_skipped, IsCallCard, IsPartCard, AreSubcktCards, IsCallOver, IsSubcktOver, AreSubckts}
use Rattle.deck.specs.Limits.{most_devices, most_ports, most_depth}
use Rattle.deck.specs.NamedDevices.{NamedDevice}
use Rattle.deck.specs.Subckts.{Call, SubcktPart, Single, Called, Subckt, Size, size_named, size, sizes, part_count, part_depth, devices_in, depth_over}
use Rattle.deck.specs.SubcktCards.{open_subckt, card_parts}
use Rattle.deck.specs.DeckFaults.{called_size, open_count}
use Rattle.deck.proofs.WordTests.{model_known, none_has_equals}
use Rattle.deck.proofs.Counts.{sum_from}
use Rattle.spice_read.proofs.CleanCards.{IsClean, HasNoControl, call_clean, device_clean, ending_clean, opening_clean, skipped_clean}
use Rattle.spice_read.proofs.PartCards.{call_is_part, call_length, call_part, device_part, of_call, of_device, of_ending, of_opening, skipped_adds, skipped_card}
use Rattle.spice_read.proofs.Standing.{NoneNamed, StandsBetween, StandsInside, between_skipped, closes, inside_more, opens}

-- the words of the cards that are left and add to the circuit
abbrev pub left : List NumberedCard → List (List (List ℕ))
left rest = filter (λ card. not (is_skipped card)) (map (λ card. card.words) rest)

pub left_more : (card : NumberedCard) (rest : List NumberedCard) → is_skipped card.words ≡ false → left (card ∷ rest) ≡ card.words ∷ left rest
left_more card rest e = ap (λ t. cond (not t) (card.words ∷ left rest) (left rest)) e

pub left_same : (card : NumberedCard) (rest : List NumberedCard) → is_skipped card.words ≡ true → left (card ∷ rest) ≡ left rest
left_same card rest e = ap (λ t. cond (not t) (card.words ∷ left rest) (left rest)) e

-- what is left of a deck whose subcircuits are these, the nearest first, behind some cards
pub data IsLeft (all : List Subckt) (before rest : List NumberedCard) : Type 0 where
  between : (done todo : List Subckt) (groups : List (List (List (List ℕ))))
      → StandsBetween before done → left rest ≡ flat_map (λ group. group) groups → AllZip AreSubcktCards groups todo → reverse todo ++ done ≡ all
      → IsLeft all before rest
  inside : (done todo : List Subckt) (groups : List (List (List (List ℕ)))) (s : Subckt) (parts more : List SubcktPart) (cards : List (List (List ℕ))) (closing : List (List ℕ))
      → StandsInside before done (record { name = s.name; ports = s.ports; parts = parts }) → s.parts ≡ parts ++ more
      → left rest ≡ cards ++ (codes ".ends" ∷ closing) ∷ flat_map (λ group. group) groups → AllZip IsPartCard cards more → length closing ≤ 1
      → AllZip AreSubcktCards groups todo → reverse todo ++ s ∷ done ≡ all
      → IsLeft all before rest

-- what a card leaves, and that it has no fault
pub record IsTaken (all : List Subckt) (before : List NumberedCard) (card : NumberedCard) (rest : List NumberedCard) : Type 0 where
  pub clean : IsClean before card
  pub rest_left : IsLeft all (card ∷ before) rest

taken_skipped : (all : List Subckt) (before : List NumberedCard) (card : NumberedCard) (rest : List NumberedCard) → is_skipped card.words ≡ true → HasNoControl card → IsLeft all before (card ∷ rest) → IsTaken all before card rest
taken_skipped all before card rest e v (between done todo groups s order zip whole) =
    let k = skipped_card card e in
    record {
      clean = skipped_clean before card k.of v k.known;
      rest_left = between done todo groups (between_skipped before card done k.of s) (sym (left_same card rest e) ∙ order) zip whole;
    }
taken_skipped all before card rest e v (inside done todo groups s parts more cards closing t is order cards_are few zip whole) =
    let k = skipped_card card e in
    let none : parts ++ card_parts card ≡ parts = ap (λ l. parts ++ l) (skipped_adds card k.of) ∙ append-nil parts in
    record {
      clean = skipped_clean before card k.of v k.known;
      rest_left = inside done todo groups s parts more cards closing
          (subst (λ l. StandsInside (card ∷ before) done (record { name = s.name; ports = s.ports; parts = l })) none
          (inside_more before card done (record { name = s.name; ports = s.ports; parts = parts }) (k.of).opening_is (k.of).ending_is t))
          is (sym (left_same card rest e) ∙ order) cards_are few zip whole;
    }

-- the subcircuits behind others are sound
sound_behind : (xs ys : List Subckt) → AreSubckts (xs ++ ys) → AreSubckts ys
sound_behind [] ys h = h
sound_behind (x ∷ xs) ys h = sound_behind xs ys h.1

over_done : (all done : List Subckt) (t : Subckt) (todo : List Subckt) → AreSubckts all → reverse todo ++ t ∷ done ≡ all → IsSubcktOver done t
over_done all done t todo sound whole = (sound_behind (reverse todo) (t ∷ done) (subst AreSubckts (sym whole) sound)).0

names_differ : (name : List ℕ) (done : List Subckt) → AllByRecursion (λ (t : Subckt). t.name ≢ name) done → NoneNamed name done
names_differ name [] h = tt
names_differ name (t ∷ done) h = (by (pointwise nat_eq t.name name) refl, names_differ name done h.1)
  where
    by : (b : Bool) → pointwise nat_eq t.name name ≡ b → pointwise nat_eq t.name name ≡ false
    by true e = absurd (h.0 ((bytes_decides t.name name).0 e))
    by false e = e

taken_opening : (all : List Subckt) (before : List NumberedCard) (card : NumberedCard) (rest : List NumberedCard) → AreSubckts all → is_skipped card.words ≡ false → HasNoControl card
    → (done : List Subckt) (t : Subckt) (todo : List Subckt) (group : List (List (List ℕ))) (groups : List (List (List (List ℕ))))
    → StandsBetween before done → left (card ∷ rest) ≡ group ++ flat_map (λ group. group) groups → AreSubcktCards group t → AllZip AreSubcktCards groups todo → reverse (t ∷ todo) ++ done ≡ all
    → IsTaken all before card rest
taken_opening all before card rest sound e v done t todo group groups s order are zip whole =
    let behind : group ++ flat_map (λ group. group) groups ≡ (codes ".subckt" ∷ t.name ∷ t.ports) ∷ are.part_cards ++ (codes ".ends" ∷ are.closing) ∷ flat_map (λ group. group) groups =
    ap (λ l. l ++ flat_map (λ group. group) groups) are.cards_are ∙ ap (λ l. (codes ".subckt" ∷ t.name ∷ t.ports) ∷ l) (append_assoc are.part_cards ((codes ".ends" ∷ are.closing) ∷ []) (flat_map (λ group. group) groups)) in
    let both = sym (left_more card rest e) ∙ order ∙ behind in
    let words : card.words ≡ codes ".subckt" ∷ t.name ∷ t.ports = head_same both in
    let more : left rest ≡ are.part_cards ++ (codes ".ends" ∷ are.closing) ∷ flat_map (λ group. group) groups = tail_same both in
    let here : reverse todo ++ t ∷ done ≡ all = sym (reverse-onto t todo done) ∙ whole in
    let over = over_done all done t todo sound here in
    let o = of_opening card (t.name ∷ t.ports) words in
    let name : word_at card 1 ≡ t.name = ap (λ ws. slice_index_or ws 1 []) words in
    let ports : port_names card ≡ t.ports = ap (drop 2) words in
    let count = distinct_count-from_IsDistinct names_equal t.ports over.ports_differ in
    let once : nat_lt (distinct_count (pointwise nat_eq) t.ports) (length t.ports) ≡ false = grind (arith, nat_tests) in
    let few : nat_lt most_ports (length t.ports) ≡ false = grind (arith, nat_tests, over.few_ports) in
    let none = none_has_equals (t.name ∷ t.ports) over.no_equals in
    let long : nat_lt 1 (length (codes ".subckt" ∷ t.name ∷ t.ports)) ≡ true = grind (arith, nat_tests) in
    record {
      clean = opening_clean before card o v (record {
        long = ap (λ ws. nat_lt 1 (length ws)) words ∙ long;
        no_equals = ap (list_any has_equals) words ∙ none;
        closed = s.none_open;
        new_name = s.none_named (word_at card 1) (subst (λ n. NoneNamed n done) (sym name) (names_differ t.name done (recursion_from_All (λ (u : Subckt). u.name ≢ t.name) done over.new_name)));
        once = subst (λ ps. nat_lt (distinct_count (pointwise nat_eq) ps) (length ps) ≡ false) (sym ports) once;
        few = subst (λ ps. nat_lt most_ports (length ps) ≡ false) (sym ports) few;
      });
      rest_left = inside done todo groups t [] t.parts are.part_cards are.closing
          (subst (λ n. StandsInside (card ∷ before) done (record { name = n; ports = t.ports; parts = [] })) name
          (subst (λ ps. StandsInside (card ∷ before) done (record { name = word_at card 1; ports = ps; parts = [] })) ports (opens before card done o s)))
          refl more are.parts_are are.few_closing zip here;
    }

-- devices counted behind others
sum_behind : (f : SubcktPart → ℕ) (n : ℕ) (ps : List SubcktPart) (q : SubcktPart) (qs : List SubcktPart) → fold (λ a p. a + f p) n ps + f q ≤ fold (λ a p. a + f p) n (ps ++ q ∷ qs)
sum_behind f n [] q qs = omega (arith, sum_from f (n + f q) qs)
sum_behind f n (p ∷ ps) q qs = sum_behind f (n + f p) ps q qs

-- the depth of each part
depth_from : (f : SubcktPart → ℕ) (n : ℕ) (ps : List SubcktPart) → n ≤ fold max n (map f ps)
depth_from f n [] = omega arith
depth_from f n (p ∷ ps) = omega (arith, depth_from f (max n (f p)) ps)

depth_in : (f : SubcktPart → ℕ) (n : ℕ) (ps : List SubcktPart) (q : SubcktPart) (qs : List SubcktPart) → f q ≤ fold max n (map f (ps ++ q ∷ qs))
depth_in f n [] q qs = omega (arith, depth_from f (max n (f q)) qs)
depth_in f n (p ∷ ps) q qs = depth_in f (max n (f p)) ps q qs

at_part : (P : SubcktPart → Type 0) (ps : List SubcktPart) (q : SubcktPart) (qs : List SubcktPart) → AllByRecursion P (ps ++ q ∷ qs) → P q
at_part P [] q qs h = h.0
at_part P (p ∷ ps) q qs h = at_part P ps q qs h.1

-- what is known of the next part
record IsNext (before : List NumberedCard) (done : List Subckt) (q : SubcktPart) : Type 0 where
  room : open_count before + part_count (sizes done) q ≤ most_devices
  deep : part_depth (sizes done) q ≤ most_depth
  over : IsCallOver (sizes done) q

is_next : (before : List NumberedCard) (done : List Subckt) (s : Subckt) (parts : List SubcktPart) (q : SubcktPart) (more : List SubcktPart) → StandsInside before done (record { name = s.name; ports = s.ports; parts = parts })
    → s.parts ≡ parts ++ q ∷ more → IsSubcktOver done s → IsNext before done q
is_next before done s parts q more t is over =
    let count : open_count before ≡ sum_by (part_count (sizes done)) parts = ap (λ l. (size (sizes l) (open_subckt before)).devices) t.closed_are ∙ ap (λ (u : Subckt). (size (sizes done) u).devices) t.open_is in
    let all : sum_by (part_count (sizes done)) s.parts ≡ sum_by (part_count (sizes done)) (parts ++ q ∷ more) = ap (sum_by (part_count (sizes done))) is in
    let deep : fold max 0 (map (part_depth (sizes done)) s.parts) ≡ fold max 0 (map (part_depth (sizes done)) (parts ++ q ∷ more)) = ap (λ l. fold max 0 (map (part_depth (sizes done)) l)) is in
    record {
      room = omega (arith, count, all, over.few_devices, sum_behind (part_count (sizes done)) 0 parts q more);
      deep = omega (arith, deep, over.shallow, depth_in (part_depth (sizes done)) 0 parts q more);
      over = at_part (IsCallOver (sizes done)) parts q more (subst (AllByRecursion (IsCallOver (sizes done))) is (recursion_from_All (IsCallOver (sizes done)) s.parts over.calls));
    }

clean_device : (before : List NumberedCard) (card : NumberedCard) (done : List Subckt) (u : Subckt) (d : NamedDevice (List ℕ)) → IsDeviceCard card.words d → HasNoControl card → StandsInside before done u
    → IsNext before done (Single d) → IsClean before card
clean_device before card done u d is v t n =
    let more : 5 < length card.words = omega (arith, ap length is.words_are) in
    device_clean before card (of_device card is.name _ is.words_are) v (record {
      long = grind (arith, nat_tests, more);
      known = ap (λ ws. is_model_word (slice_index_or ws 5 [])) is.words_are ∙ model_known d.kind;
      opened = t.one_open;
      room = grind (arith, nat_tests, n.room);
    })

-- a size that is found
record IsFoundSize (o : Option Size) (count : ℕ) : Type 0 where
  found : Size
  is : o ≡ Some found
  ports : found.ports ≡ count

found_size : (o : Option Size) (count : ℕ) → IsSomeAnd o (λ s. s.ports ≡ count) → IsFoundSize o count
found_size None count h = absurd h
found_size (Some s) count h = record { found = s; is = refl; ports = h }

clean_call : (before : List NumberedCard) (card : NumberedCard) (done : List Subckt) (u : Subckt) (c : Call) → IsCallCard card.words c → HasNoControl card → StandsInside before done u
    → IsNext before done (Called c) → IsClean before card
clean_call before card done u c is v t n =
    let same = call_is_part card c is in
    let f = found_size (size_named c.unit (sizes done)) (length c.nets) n.over in
    let unit : unit_word card ≡ c.unit = ap (λ (x : Call). x.unit) same in
    let called : called_size before card ≡ Some f.found = ap (λ l. size_named (unit_word card) (sizes l)) t.closed_are ∙ ap (λ w. size_named w (sizes done)) unit ∙ f.is in
    let devices : part_count (sizes done) (Called c) ≡ (f.found).devices = ap devices_in f.is in
    let depth : part_depth (sizes done) (Called c) ≡ 1 + (f.found).depth = ap depth_over f.is in
    let count : length card.words ≡ length c.nets + 2 = ap length is.words_are ∙ call_length c in
    let passed : (f.found).ports ≡ length card.words - 2 = omega (arith, f.ports, count) in
    call_clean before card (of_call card is.name _ (is.words_are ∙ ap (λ w. w ∷ c.nets ++ c.unit ∷ []) is.name_is)) v (record {
      long = grind (arith, nat_tests, count);
      no_equals = none_has_equals card.words is.no_equals;
      opened = t.one_open;
      called = f.found;
      called_is = called;
      room = grind (arith, nat_tests, n.room, devices);
      shallow = grind (arith, nat_tests, n.deep, depth);
      count = eq-eqb (f.found).ports (length card.words - 2) passed;
    })

clean_part : (before : List NumberedCard) (card : NumberedCard) (done : List Subckt) (u : Subckt) (q : SubcktPart) → IsPartCard card.words q → HasNoControl card → StandsInside before done u
    → IsNext before done q → IsClean before card
clean_part before card done u (Single d) is v t n = clean_device before card done u d is v t n
clean_part before card done u (Called c) is v t n = clean_call before card done u c is v t n

part_added : (card : NumberedCard) (q : SubcktPart) → IsPartCard card.words q → card_parts card ≡ q ∷ []
part_added card (Single d) is = device_part card d is
part_added card (Called c) is = call_part card c is

-- the card of a part is neither `.subckt` nor `.ends`
part_apart : (card : NumberedCard) (q : SubcktPart) → IsPartCard card.words q → (has_first_word dot_subckt card ≡ false) × (has_first_word dot_ends card ≡ false)
part_apart card (Single d) is = let o = of_device card is.name _ is.words_are in (o.opening_is, o.ending_is)
part_apart card (Called c) is = let o = of_call card is.name _ (is.words_are ∙ ap (λ w. w ∷ c.nets ++ c.unit ∷ []) is.name_is) in (o.opening_is, o.ending_is)

taken_inside : (all : List Subckt) (before : List NumberedCard) (card : NumberedCard) (rest : List NumberedCard) → AreSubckts all → HasNoControl card
    → (done todo : List Subckt) (groups : List (List (List (List ℕ)))) (s : Subckt) (parts more : List SubcktPart) (cards : List (List (List ℕ))) (closing : List (List ℕ))
    → StandsInside before done (record { name = s.name; ports = s.ports; parts = parts }) → s.parts ≡ parts ++ more
    → card.words ∷ left rest ≡ cards ++ (codes ".ends" ∷ closing) ∷ flat_map (λ group. group) groups → AllZip IsPartCard cards more → length closing ≤ 1
    → AllZip AreSubcktCards groups todo → reverse todo ++ s ∷ done ≡ all → IsTaken all before card rest
taken_inside all before card rest sound v done todo groups s parts [] [] closing t is order cards_are few zip whole =
    let words : card.words ≡ codes ".ends" ∷ closing = head_same order in
    let o = of_ending card closing words in
    let same : record { name = s.name; ports = s.ports; parts = parts } ≡ s = ap (λ l. record { name = s.name; ports = s.ports; parts = l }) (sym (is ∙ append-nil parts)) in
    let short : nat_lt (1 + length closing) 3 ≡ true = grind (arith, nat_tests, few) in
    record {
      clean = ending_clean before card o v (ap (λ ws. nat_lt (length ws) 3) words ∙ ap (λ n. nat_lt n 3) (one_more closing) ∙ short) t.one_open;
      rest_left = between (s ∷ done) todo groups (subst (λ u. StandsBetween (card ∷ before) (u ∷ done)) same (closes before card done (record { name = s.name; ports = s.ports; parts = parts }) o t)) (tail_same order) zip whole;
    }
  where
    one_more : (closing : List (List ℕ)) → length (codes ".ends" ∷ closing) ≡ 1 + length closing
    one_more closing = omega arith
taken_inside all before card rest sound v done todo groups s parts (q ∷ more) [] closing t is order cards_are few zip whole = absurd cards_are
taken_inside all before card rest sound v done todo groups s parts [] (one ∷ cards) closing t is order cards_are few zip whole = absurd cards_are
taken_inside all before card rest sound v done todo groups s parts (q ∷ more) (one ∷ cards) closing t is order cards_are few zip whole =
    let words : card.words ≡ one = head_same order in
    let part : IsPartCard card.words q = subst (λ ws. IsPartCard ws q) (sym words) cards_are.0 in
    let over = over_done all done s todo sound whole in
    let next = is_next before done s parts q more t is over in
    let apart = part_apart card q part in
    record {
      clean = clean_part before card done (record { name = s.name; ports = s.ports; parts = parts }) q part v t next;
      rest_left = inside done todo groups s (parts ++ q ∷ []) more cards closing
          (subst (λ l. StandsInside (card ∷ before) done (record { name = s.name; ports = s.ports; parts = parts ++ l })) (part_added card q part)
          (inside_more before card done (record { name = s.name; ports = s.ports; parts = parts }) apart.0 apart.1 t))
          (is ∙ sym (append_assoc parts (q ∷ []) more)) (tail_same order) cards_are.1 few zip whole;
    }

-- a card of a deck has no fault
pub card_taken : (all : List Subckt) (before : List NumberedCard) (card : NumberedCard) (rest : List NumberedCard) → AreSubckts all → HasNoControl card → IsLeft all before (card ∷ rest) → IsTaken all before card rest
card_taken all before card rest sound v l = by (is_skipped card.words) refl l
  where
    by : (b : Bool) → is_skipped card.words ≡ b → IsLeft all before (card ∷ rest) → IsTaken all before card rest
    by true e l = taken_skipped all before card rest e v l
    by false e (between done [] [] s order zip whole) = absurd (let none : card.words ∷ left rest ≡ [] = sym (left_more card rest e) ∙ order in cc)
    by false e (between done (t ∷ todo) [] s order zip whole) = absurd zip
    by false e (between done [] (group ∷ groups) s order zip whole) = absurd zip
    by false e (between done (t ∷ todo) (group ∷ groups) s order zip whole) = taken_opening all before card rest sound e v done t todo group groups s order zip.0 zip.1 whole
    by false e (inside done todo groups s parts more cards closing t is order cards_are few zip whole) =
        taken_inside all before card rest sound v done todo groups s parts more cards closing t is (sym (left_more card rest e) ∙ order) cards_are few zip whole
