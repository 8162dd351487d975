-- What a text without a fault is read as, card by card: its subcircuits.
use Rattle.std.proofs.Common.{◌≡◌, ◌≢◌, ℕ, ◌+◌, ◌≤◌, true, false, not, cond, List, [], ◌∷◌, ◌++◌, map, filter, reverse, length, sum_by, nat_eq, nat_lt, codes, Some, IsSomeAnd, refl, sym, ap, ap₂, ◌∙◌, subst, arith, append_assoc, append-nil}
use Rattle.std.specs.List.{AllByRecursion, AllZip, flat_map}
use Rattle.std.specs.Cmp.Lexicographic.{pointwise, bytes_decides}
use Rattle.std.proofs.lemmas.Bool.{true≢false}
use Rattle.std.proofs.lemmas.Bool.Decides.{nat_tests}
use Rattle.std.proofs.lemmas.List.{map-append}
use Rattle.std.proofs.lemmas.List.Concat.{flat_map-append}
use Rattle.std.proofs.lemmas.List.Elements.{All-from_recursion, All-nil, filter-append, recursion_from_All}
use Rattle.indexmap.proofs.SetLemmas.{AllZip-push}
use Rattle.dom_base.proofs.Bools.{or_none}
use Rattle.dom_base.proofs.Lists.{AllByRecursion-append, reverse-cons}
use Rattle.deck.specs.DeckCards.{NumberedCard, has_first_word, dot_subckt, dot_ends, has_subckt, names_twice, port_names, device_of_card, word_at, call_of_card, unit_word}
use Rattle.deck.specs.DeckText.{is_skipped, IsPartCard, AreSubcktCards, IsCallOver, IsSubcktOver, AreSubckts}
use Rattle.deck.specs.Limits.{most_devices, most_ports, most_depth}
use Rattle.spice_read.proofs.CardWords.{IsSubcktCard}
use Rattle.spice_read.proofs.Ports.{differ_from_count}
use Rattle.deck.specs.Subckts.{SubcktPart, Single, Called, Subckt, size_named, size, sizes, part_count, part_depth, devices_in, depth_over}
use Rattle.deck.specs.SubcktCards.{is_named_before, open_subckt, card_parts}
use Rattle.deck.specs.DeckFaults.{open_count}
use Rattle.deck.proofs.Counts.{depth_push, sum_push}
use Rattle.spice_read.proofs.CleanForms.{IsForm, call, device, ending, opening, skipped}
use Rattle.spice_read.proofs.CleanCards.{IsOf}
use Rattle.spice_read.proofs.NoFault.{left}
use Rattle.spice_read.proofs.PartCards.{call_length, call_part, device_part, skipped_adds, skipped_card}
use Rattle.spice_read.proofs.Standing.{NoneNamed, StandsBetween, StandsInside, between_skipped, closes, inside_more, opens}

-- no name but those that are told of
abbrev pub AllNamed : List NumberedCard → List Subckt → Type 0
AllNamed before done = (name : List ℕ) → is_named_before name before ≡ false → NoneNamed name done

-- the cards of some subcircuits, one behind the other
abbrev joined : List (List (List (List ℕ))) → List (List (List ℕ))
joined groups = flat_map (λ group. group) groups

-- what some cards, the last one first, were read as
pub data IsRead (before : List NumberedCard) : Type 0 where
  between : (done : List Subckt) (groups : List (List (List (List ℕ))))
      → StandsBetween before done → AllNamed before done → (done ≡ [] → has_subckt before ≡ false)
      → left (reverse before) ≡ joined groups → AllZip AreSubcktCards groups (reverse done) → AreSubckts done → IsRead before
  inside : (done : List Subckt) (groups : List (List (List (List ℕ)))) (s : Subckt) (cards : List (List (List ℕ)))
      → StandsInside before done s → AllNamed before (s ∷ done)
      → left (reverse before) ≡ joined groups ++ (codes ".subckt" ∷ s.name ∷ s.ports) ∷ cards → AllZip IsPartCard cards s.parts
      → AllZip AreSubcktCards groups (reverse done) → AreSubckts done → IsSubcktOver done s → IsRead before

left_kept : (before : List NumberedCard) (card : NumberedCard) → is_skipped card.words ≡ false → left (reverse (card ∷ before)) ≡ left (reverse before) ++ card.words ∷ []
left_kept before card e =
    ap left (reverse-cons card before)
    ∙ ap (filter (λ card. not (is_skipped card))) (map-append (λ (c : NumberedCard). c.words) (reverse before) (card ∷ []))
    ∙ filter-append (λ card. not (is_skipped card)) (map (λ (c : NumberedCard). c.words) (reverse before)) (card.words ∷ [])
    ∙ ap (λ t. left (reverse before) ++ cond (not t) (card.words ∷ []) []) e

left_skipped : (before : List NumberedCard) (card : NumberedCard) → is_skipped card.words ≡ true → left (reverse (card ∷ before)) ≡ left (reverse before)
left_skipped before card e =
    ap left (reverse-cons card before)
    ∙ ap (filter (λ card. not (is_skipped card))) (map-append (λ (c : NumberedCard). c.words) (reverse before) (card ∷ []))
    ∙ filter-append (λ card. not (is_skipped card)) (map (λ (c : NumberedCard). c.words) (reverse before)) (card.words ∷ [])
    ∙ ap (λ t. left (reverse before) ++ cond (not t) (card.words ∷ []) []) e
    ∙ append-nil (left (reverse before))

-- a card that opens none tells of no name
pub named_same : (before : List NumberedCard) (card : NumberedCard) (done : List Subckt) → has_first_word dot_subckt card ≡ false → AllNamed before done → AllNamed (card ∷ before) done
named_same before card done o n = λ name h. n name (rw o at h)

read_skipped : (before : List NumberedCard) (card : NumberedCard) → is_skipped card.words ≡ true → IsRead before → IsRead (card ∷ before)
read_skipped before card e (between done groups s named none order zip sound) =
    let k = skipped_card card e in
    between done groups (between_skipped before card done k.of s) (named_same before card done (k.of).opening_is named) (λ empty. rw (k.of).opening_is (none empty)) (left_skipped before card e ∙ order) zip sound
read_skipped before card e (inside done groups s cards t named order cards_are zip sound over) =
    let k = skipped_card card e in
    let same : s.parts ++ card_parts card ≡ s.parts = ap (λ l. s.parts ++ l) (skipped_adds card k.of) ∙ append-nil s.parts in
    inside done groups s cards
    (subst (λ l. StandsInside (card ∷ before) done (record { name = s.name; ports = s.ports; parts = l })) same (inside_more before card done s (k.of).opening_is (k.of).ending_is t))
    (named_same before card (s ∷ done) (k.of).opening_is named) (left_skipped before card e ∙ order) cards_are zip sound over

-- names that differ
names_differ : (name : List ℕ) (done : List Subckt) → NoneNamed name done → AllByRecursion (λ (t : Subckt). t.name ≢ name) done
names_differ name [] h = tt
names_differ name (t ∷ done) h = ((λ e. true≢false (sym ((bytes_decides t.name name).1 e) ∙ h.0)), names_differ name done h.1)

read_opening : (before : List NumberedCard) (card : NumberedCard) → is_skipped card.words ≡ false → IsOf card false false true false → IsSubcktCard card → is_named_before (word_at card 1) before ≡ false
    → names_twice card ≡ false → nat_lt most_ports (length (port_names card)) ≡ false
    → (done : List Subckt) (groups : List (List (List (List ℕ)))) → StandsBetween before done → AllNamed before done → left (reverse before) ≡ joined groups → AllZip AreSubcktCards groups (reverse done) → AreSubckts done
    → IsRead (card ∷ before)
read_opening before card e o words new once few done groups s named order zip sound =
    let fresh : Subckt = record { name = word_at card 1; ports = port_names card; parts = [] } in
    inside done groups fresh [] (opens before card done o s)
    (λ name h. let two = or_none (pointwise nat_eq (word_at card 1) name) (is_named_before name before) (rw o.opening_is at h) in (two.0, named name two.1))
    (left_kept before card e ∙ ap₂ (λ a b. a ++ b ∷ []) order words.words_are) tt zip sound
    (record {
      new_name = All-from_recursion (λ (t : Subckt). t.name ≢ word_at card 1) done (names_differ (word_at card 1) done (named (word_at card 1) new));
      no_equals = words.no_equals;
      ports_differ = differ_from_count (port_names card) once;
      few_ports = grind (arith, nat_tests);
      calls = All-nil _;
      few_devices = omega arith;
      shallow = omega arith;
    })

-- one more part of the open subcircuit
read_part : (before : List NumberedCard) (card : NumberedCard) (q : SubcktPart) → is_skipped card.words ≡ false → has_first_word dot_subckt card ≡ false → has_first_word dot_ends card ≡ false
    → IsPartCard card.words q → card_parts card ≡ q ∷ []
    → (done : List Subckt) (groups : List (List (List (List ℕ)))) (s : Subckt) (cards : List (List (List ℕ)))
    → StandsInside before done s → AllNamed before (s ∷ done)
    → left (reverse before) ≡ joined groups ++ (codes ".subckt" ∷ s.name ∷ s.ports) ∷ cards → AllZip IsPartCard cards s.parts
    → AllZip AreSubcktCards groups (reverse done) → AreSubckts done → IsSubcktOver done s
    → open_count before + part_count (sizes done) q ≤ most_devices → part_depth (sizes done) q ≤ most_depth → IsCallOver (sizes done) q → IsRead (card ∷ before)
read_part before card q e no_sub no_ends is adds done groups s cards t named order cards_are zip sound over room deep called =
    let more : Subckt = record { name = s.name; ports = s.ports; parts = s.parts ++ q ∷ [] } in
    let count : open_count before ≡ sum_by (part_count (sizes done)) s.parts = ap (λ l. (size (sizes l) (open_subckt before)).devices) t.closed_are ∙ ap (λ (u : Subckt). (size (sizes done) u).devices) t.open_is in
    let opening_row : List (List ℕ) = codes ".subckt" ∷ s.name ∷ s.ports in
    inside done groups more (cards ++ card.words ∷ [])
    (subst (λ l. StandsInside (card ∷ before) done (record { name = s.name; ports = s.ports; parts = s.parts ++ l })) adds (inside_more before card done s no_sub no_ends t))
    (λ name h. named_same before card (s ∷ done) no_sub named name h)
    (left_kept before card e ∙ ap (λ l. l ++ card.words ∷ []) order ∙ append_assoc (joined groups) (opening_row ∷ cards) (card.words ∷ []))
    (AllZip-push IsPartCard cards s.parts card.words q cards_are is) zip sound
    (record {
      new_name = over.new_name;
      no_equals = over.no_equals;
      ports_differ = over.ports_differ;
      few_ports = over.few_ports;
      calls = All-from_recursion (IsCallOver (sizes done)) (s.parts ++ q ∷ []) (AllByRecursion-append (IsCallOver (sizes done)) s.parts (q ∷ []) (recursion_from_All (IsCallOver (sizes done)) s.parts over.calls) (called, tt));
      few_devices = omega (arith, sum_push (part_count (sizes done)) 0 s.parts q, count, room);
      shallow = omega (arith, depth_push (part_depth (sizes done)) 0 s.parts q, over.shallow, deep);
    })

read_ending : (before : List NumberedCard) (card : NumberedCard) → is_skipped card.words ≡ false → IsOf card false false false true → (closing : List (List ℕ)) → card.words ≡ codes ".ends" ∷ closing → length closing ≤ 1
    → (done : List Subckt) (groups : List (List (List (List ℕ)))) (s : Subckt) (cards : List (List (List ℕ)))
    → StandsInside before done s → AllNamed before (s ∷ done)
    → left (reverse before) ≡ joined groups ++ (codes ".subckt" ∷ s.name ∷ s.ports) ∷ cards → AllZip IsPartCard cards s.parts
    → AllZip AreSubcktCards groups (reverse done) → AreSubckts done → IsSubcktOver done s → IsRead (card ∷ before)
read_ending before card e o closing words few done groups s cards t named order cards_are zip sound over =
    let opening_row : List (List ℕ) = codes ".subckt" ∷ s.name ∷ s.ports in
    let group : List (List (List ℕ)) = opening_row ∷ cards ++ (codes ".ends" ∷ closing) ∷ [] in
    let all : joined (groups ++ group ∷ []) ≡ joined groups ++ group = flat_map-append (λ (g : List (List (List ℕ))). g) groups (group ∷ []) ∙ ap (λ l. joined groups ++ l) (append-nil group) in
    between (s ∷ done) (groups ++ group ∷ []) (closes before card done s o t)
    (λ name h. named_same before card (s ∷ done) o.opening_is named name h)
    (λ empty. absurd (cc))
    (left_kept before card e ∙ ap₂ (λ a b. a ++ b ∷ []) order words ∙ append_assoc (joined groups) (opening_row ∷ cards) ((codes ".ends" ∷ closing) ∷ []) ∙ sym all)
    (subst (AllZip AreSubcktCards (groups ++ group ∷ [])) (sym (reverse-cons s done))
    (AllZip-push AreSubcktCards groups (reverse done) group s zip (record { part_cards = cards; closing = closing; cards_are = refl; parts_are = cards_are; few_closing = few })))
    (over, sound)

-- a card of one of the forms goes on with what was read
pub read_more : (before : List NumberedCard) (card : NumberedCard) → IsForm before card → IsRead before → IsRead (card ∷ before)
read_more before card (skipped e) r = read_skipped before card e r
read_more before card (opening e o words closed new once few) (between done groups s named none order zip sound) = read_opening before card e o words new once few done groups s named order zip sound
read_more before card (opening e o words closed new once few) (inside done groups s cards t named order cards_are zip sound over) = absurd (true≢false (sym t.one_open ∙ closed))
read_more before card (device e o is opened room) (between done groups s named none order zip sound) = absurd (true≢false (sym opened ∙ s.none_open))
read_more before card (device e o is opened room) (inside done groups s cards t named order cards_are zip sound over) =
    read_part before card (Single (device_of_card card)) e o.opening_is o.ending_is is (device_part card (device_of_card card) is) done groups s cards t named order cards_are zip sound over (grind (arith, nat_tests)) (omega arith) tt
read_more before card (call e o is opened found found_is room deep count) (between done groups s named none order zip sound) = absurd (true≢false (sym opened ∙ s.none_open))
read_more before card (call e o is opened found found_is room deep count) (inside done groups s cards t named order cards_are zip sound over) =
    let c = call_of_card card in
    let here : size_named (unit_word card) (sizes done) ≡ Some found = sym (ap (λ l. size_named (unit_word card) (sizes l)) t.closed_are) ∙ found_is in
    let devices : part_count (sizes done) (Called c) ≡ found.devices = ap devices_in here in
    let depth : part_depth (sizes done) (Called c) ≡ 1 + found.depth = ap depth_over here in
    let words : length card.words ≡ length c.nets + 2 = ap length is.words_are ∙ call_length c in
    read_part before card (Called c) e o.opening_is o.ending_is is (call_part card c is) done groups s cards t named order cards_are zip sound over
    (grind (arith, nat_tests, devices)) (grind (arith, nat_tests, depth))
    (subst (λ o. IsSomeAnd o (λ z. z.ports ≡ length c.nets)) (sym here) (omega (arith, count, words)))
read_more before card (ending e o closing words few opened) (between done groups s named none order zip sound) = absurd (true≢false (sym opened ∙ s.none_open))
read_more before card (ending e o closing words few opened) (inside done groups s cards t named order cards_are zip sound over) =
    read_ending before card e o closing words few done groups s cards t named order cards_are zip sound over
