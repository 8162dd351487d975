-- What was read of the subcircuits of a deck, with one card more.
use Rattle.std.proofs.Common.{◌≡◌, ◌<◌, ◌≤◌, ℕ, ◌+◌, ◌-◌, Bool, true, false, ◌==◌, List, [], ◌∷◌, ◌++◌, length, take, nat_eq, nat_lt, is_some, Option, Some, None, option_map, slice_index_or, Ok, refl, sym, ap, ◌∙◌, subst, arith, append-nil}
use Rattle.std.specs.List.{IsDistinct, list_any}
use Rattle.std.specs.Cmp.Lexicographic.{pointwise}
use Rattle.std.proofs.lemmas.Bool.{true≢false}
use Rattle.std.proofs.lemmas.Bool.Decides.{nat_tests}
use Rattle.std.proofs.lemmas.List.{take_all}
use Rattle.std.proofs.lemmas.Option.{get_or_from_slice_get, slice_get_within}
use Rattle.dom_base.specs.Lines.{first_word}
use Rattle.dom_base.proofs.Bools.{or_none}
use Rattle.deck.specs.declared.fault.DeckKind.TheVariants.{ControlByte}
use Rattle.deck.specs.DeckCards.{NumberedCard, call_of_card, device_of_card, has_equals, has_first_word, dot_subckt, dot_ends, is_model_word, kind_of, passed_nets, port_names, unit_word, word_at}
use Rattle.deck.specs.DeckFaults.{open_count}
use Rattle.deck.specs.DeckText.{IsCallCard, IsDeviceCard}
use Rattle.deck.specs.Limits.{most_devices, most_ports}
use Rattle.deck.specs.Nets.{net_name, net_number, with_net}
use Rattle.deck.specs.Numbers.{with_all}
use Rattle.deck.specs.SubcktCards.{card_parts}
use Rattle.deck.specs.Subckts.{Called, Single, Size, Subckt, SubcktPart, size_named, sizes}
use Rattle.deck.proofs.NetNumbers.{HasNumber-below, IsDistinct-with_net}
use Rattle.deck.proofs.WordTests.{model_known, none_has_equals}
use Rattle.subckt_expand.specs.Definitions.{DefinitionData, named_call, opened}
use Rattle.subckt_expand.specs.Live.{size_of}
use Rattle.subckt_expand.specs.StandsFor.{IsOpen, StandsFor}
use Rattle.subckt_expand.specs.Units.{definition_at, names_of}
use Rattle.subckt_expand.proofs.Closing.{closed-closed, stand-closed}
use Rattle.subckt_expand.proofs.MoreClosed.{are_closed-push, length-names}
use Rattle.subckt_expand.proofs.MoreOpen.{open-call, open-device, open-nets}
use Rattle.subckt_expand.proofs.MoreSizes.{stands-call, stands-device, stands-net, with_part}
use Rattle.spice_read.specs.declared.cards.Form.TheVariants.{Device, Call as Calling, Subckt as Opening, Ends, Skipped}
use Rattle.spice_read.specs.Forms.{card_form}
use Rattle.spice_read.specs.ReadSubckts.{SubcktsData, after_form, call_added, called, called_added, device_added, ends_added, is_closed_name, numbered_call, subckts_after, with_call_of, with_device_of}
use Rattle.spice_read.proofs.CardWords.{IsSubcktCard}
use Rattle.spice_read.proofs.CleanCards.{HasNoControl, IsClean, IsOf}
use Rattle.spice_read.proofs.CleanForms.{IsForm, skipped, opening, device, call, ending}
use Rattle.spice_read.proofs.Contexts.{count_in}
use Rattle.spice_read.proofs.PartCards.{IsSkippedCard, call_length, call_part, device_part, skipped_adds, skipped_card}
use Rattle.spice_read.proofs.PassedNumbers.{numbers_count, numbers_named, numbers_there}
use Rattle.spice_read.proofs.Ports.{IsDistinct-with_all, differ_from_count}
use Rattle.spice_read.proofs.ReadState.{AreClosedFor, IsOpenFor, Stands, between, context_of, inside, named_is}
use Rattle.spice_read.proofs.Reading.{named_same}
use Rattle.spice_read.proofs.Standing.{StandsInside, between_skipped, closes, inside_more, opens}

-- one part more of the open subcircuit
inside_part : (before : List NumberedCard) (card : NumberedCard) (done : List Subckt) (u : Subckt) (q : SubcktPart) → has_first_word dot_subckt card ≡ false → has_first_word dot_ends card ≡ false
    → card_parts card ≡ q ∷ [] → StandsInside before done u → StandsInside (card ∷ before) done (with_part u q)
inside_part before card done u q no_sub no_ends adds si =
    subst (λ l. StandsInside (card ∷ before) done (record { name = u.name; ports = u.ports; parts = u.parts ++ l })) adds (inside_more before card done u no_sub no_ends si)

-- the forms of cards without control bytes
device_form_is : (card : NumberedCard) → HasNoControl card → IsOf card true false false false → IsDeviceCard card.words (device_of_card card) → card_form card ≡ Ok (Device (kind_of (word_at card 5)))
device_form_is card v o is =
    let more : 5 < length card.words = omega (arith, ap length is.words_are) in
    let long : nat_lt 5 (length card.words) ≡ true = grind (arith, nat_tests, more) in
    let known : is_model_word (slice_index_or card.words 5 []) ≡ true = ap (λ ws. is_model_word (slice_index_or ws 5 [])) is.words_are ∙ model_known (kind_of (word_at card 5)) in
    rw (v, o.device_is, long, known) refl

call_form_is : (card : NumberedCard) → HasNoControl card → IsOf card false true false false → IsCallCard card.words (call_of_card card) → card_form card ≡ Ok Calling
call_form_is card v o is =
    let count : length card.words ≡ length (call_of_card card).nets + 2 = ap length is.words_are ∙ call_length (call_of_card card) in
    let long : nat_lt 1 (length card.words) ≡ true = grind (arith, nat_tests, count) in
    let none = none_has_equals card.words is.no_equals in
    rw (v, o.device_is, o.call_is, long, none) refl

opening_form_is : (card : NumberedCard) → HasNoControl card → IsOf card false false true false → IsSubcktCard card → card_form card ≡ Ok Opening
opening_form_is card v o is =
    let count : length card.words ≡ length (port_names card) + 2 = ap length is.words_are ∙ omega arith in
    let long : nat_lt 1 (length card.words) ≡ true = grind (arith, nat_tests, count) in
    let none : list_any has_equals card.words ≡ false = ap (list_any has_equals) is.words_are ∙ none_has_equals (word_at card 1 ∷ port_names card) is.no_equals in
    rw (v, o.device_is, o.call_is, o.opening_is, long, none) refl

ends_form_is : (card : NumberedCard) (closing : List (List ℕ)) → HasNoControl card → IsOf card false false false true → card.words ≡ dot_ends ∷ closing → length closing ≤ 1 → card_form card ≡ Ok Ends
ends_form_is card closing v o words few =
    let count : length card.words ≡ 1 + length closing = ap length words ∙ omega arith in
    let short : nat_lt (length card.words) 3 ≡ true = grind (arith, nat_tests, count, few) in
    rw (v, o.device_is, o.call_is, o.opening_is, o.ending_is, short) refl

skipped_form_is : (card : NumberedCard) → HasNoControl card → IsSkippedCard card → card_form card ≡ Ok Skipped
skipped_form_is card v k = let o = k.of in rw (v, o.device_is, o.call_is, o.opening_is, o.ending_is, k.known) refl

-- a card that adds nothing
after_skipped : (before : List NumberedCard) (s : SubcktsData) (card : NumberedCard) → IsSkippedCard card → Stands before s → Stands (card ∷ before) s
after_skipped before s card k (between done none sb named are) = between done none (between_skipped before card done k.of sb) (named_same before card done (k.of).opening_is named) are
after_skipped before s card k (inside done u d some si named are fits) =
    let same : u.parts ++ card_parts card ≡ u.parts = ap (λ l. u.parts ++ l) (skipped_adds card k.of) ∙ append-nil u.parts in
    inside done u d some
    (subst (λ l. StandsInside (card ∷ before) done (record { name = u.name; ports = u.ports; parts = l })) same (inside_more before card done u (k.of).opening_is (k.of).ending_is si))
    (named_same before card (u ∷ done) (k.of).opening_is named) are fits

-- a device more
device_open : (closed : List DefinitionData) (done : List Subckt) (d : DefinitionData) (u : Subckt) (card : NumberedCard) → IsOpenFor closed done d u → d.devices + 1 ≤ most_devices
    → IsOpenFor closed done (with_device_of d (kind_of (word_at card 5)) card) (with_part u (Single (device_of_card card)))
device_open closed done d u card fits room = record {
  stands = stands-device closed done d u (kind_of (word_at card 5)) (word_at card 1) (word_at card 2) (word_at card 3) fits.is_open.whole fits.stands;
  is_open = open-device closed d (kind_of (word_at card 5)) (word_at card 1) (word_at card 2) (word_at card 3) fits.is_open room;
  apart = IsDistinct-with_net _ (word_at card 3) (IsDistinct-with_net _ (word_at card 2) (IsDistinct-with_net d.nets (word_at card 1) fits.apart));
  new = fits.new;
}

-- nets more
nets_stand : (closed : List DefinitionData) (done : List Subckt) (d : DefinitionData) (u : Subckt) (names : List (List ℕ)) → IsOpen closed d → StandsFor closed done d u
    → StandsFor closed done (record d { nets = with_all d.nets names }) u
nets_stand closed done d u [] is stands = stands
nets_stand closed done d u (n ∷ names) is stands =
    nets_stand closed done (record d { nets = with_net d.nets n }) u names (open-nets closed d (n ∷ []) is) (stands-net closed done d u n is.whole stands)

-- a call more, of this subcircuit
module _ (closed : List DefinitionData) (done : List Subckt) (d : DefinitionData) (u : Subckt) (card : NumberedCard) (are : AreClosedFor closed done) (fits : IsOpenFor closed done d u)
    (is : IsCallCard card.words (call_of_card card)) (e : DefinitionData) (found : called closed (unit_word card) ≡ Some e) (sized : size_named (unit_word card) (sizes done) ≡ Some (size_of e))
    (room : d.devices + e.devices ≤ most_devices) (count : e.ports ≡ length card.words - 2) where
  below : net_number (names_of closed) (unit_word card) < length closed
  below = slice_get_within closed (net_number (names_of closed) (unit_word card)) e found

  unit_is : definition_at closed (net_number (names_of closed) (unit_word card)) ≡ e
  unit_is = get_or_from_slice_get closed (net_number (names_of closed) (unit_word card)) e _ found

  -- the call by names is that of the card
  call_named : named_call (names_of closed) (with_all d.nets (passed_nets card)) (numbered_call d.nets (net_number (names_of closed) (unit_word card)) card) ≡ Called (call_of_card card)
  call_named =
      let name : word_at card 0 ≡ first_word card.words = ap (λ ws. slice_index_or ws 0 []) is.words_are ∙ sym (ap first_word is.words_are) in
      let nets = numbers_named d.nets (passed_nets card) in
      let there : net_number (names_of closed) (unit_word card) < length (names_of closed) = omega (arith, below, length-names closed) in
      let unit : net_name (names_of closed) (net_number (names_of closed) (unit_word card)) ≡ unit_word card =
      get_or_from_slice_get (names_of closed) (net_number (names_of closed) (unit_word card)) (unit_word card) [] (HasNumber-below (names_of closed) (unit_word card) there) in
      λ i. Called (record { name = name i; nets = nets i; unit = unit i })

  passed : length (numbered_call d.nets (net_number (names_of closed) (unit_word card)) card).nets ≡ (definition_at closed (net_number (names_of closed) (unit_word card))).ports
  passed =
      let words : length card.words ≡ length (passed_nets card) + 2 = ap length is.words_are ∙ call_length (call_of_card card) in
      let ports : (definition_at closed (net_number (names_of closed) (unit_word card))).ports ≡ e.ports = ap (λ (x : DefinitionData). x.ports) unit_is in
      omega (arith, numbers_count d.nets (passed_nets card), words, ports, count)

  pub call_open : IsOpenFor closed done (with_call_of d (net_number (names_of closed) (unit_word card)) e.devices e.depth card) (with_part u (Called (call_of_card card)))
  call_open =
      let more : DefinitionData = record d { nets = with_all d.nets (passed_nets card) } in
      let the_call = numbered_call d.nets (net_number (names_of closed) (unit_word card)) card in
      let there : net_number (names_of closed) (unit_word card) < length (names_of closed) = omega (arith, below, length-names closed) in
      let unit : net_name (names_of closed) (net_number (names_of closed) (unit_word card)) ≡ unit_word card =
      get_or_from_slice_get (names_of closed) (net_number (names_of closed) (unit_word card)) (unit_word card) [] (HasNumber-below (names_of closed) (unit_word card) there) in
      let is_open = open-nets closed d (passed_nets card) fits.is_open in
      let stands = stands-call closed done more u the_call (size_of e) is_open.whole (nets_stand closed done d u (passed_nets card) fits.is_open fits.stands) (ap (λ n. size_named n (sizes done)) unit ∙ sized) in
      let opened_more = open-call closed more the_call e.devices e.depth is_open (numbers_there d.nets (passed_nets card)) (record { below = below; passed = passed }) room in
      record {
        stands = subst (λ q. StandsFor closed done (with_call_of d (net_number (names_of closed) (unit_word card)) e.devices e.depth card) (with_part u q)) call_named stands;
        is_open = opened_more;
        apart = apart_more (e.devices == 0) refl (IsDistinct-with_all d.nets (passed_nets card) fits.apart);
        new = new_more (e.devices == 0) refl;
      }
    where
      apart_more : (t : Bool) → (e.devices == 0) ≡ t → IsDistinct (pointwise nat_eq) (with_all d.nets (passed_nets card)) → IsDistinct (pointwise nat_eq) (with_call_of d (net_number (names_of closed) (unit_word card)) e.devices e.depth card).nets
      apart_more true g h = rw g h
      apart_more false g h = rw g h

      new_more : (t : Bool) → (e.devices == 0) ≡ t → is_closed_name closed (with_call_of d (net_number (names_of closed) (unit_word card)) e.devices e.depth card).name ≡ false
      new_more true g = rw g fits.new
      new_more false g = rw g fits.new

-- a subcircuit without parts
opening_open : (closed : List DefinitionData) (done : List Subckt) (name : List ℕ) (ports : List (List ℕ)) → IsDistinct (pointwise nat_eq) ports → length ports ≤ most_ports → is_closed_name closed name ≡ false
    → IsOpenFor closed done (opened name ports) (record { name = name; ports = ports; parts = [] })
opening_open closed done name ports differ few new =
    let all : take (length ports) ports ≡ ports = take_all (length ports) ports (omega arith) in
    record {
      stands = record { live_is = (λ i. record { name = name; ports = all i; parts = [] }); size_is = refl };
      is_open = record { whole = record { few_ports = omega arith; parts_are = tt; calls_are = tt }; calls = tt; few_ports = few; few_devices = omega arith };
      apart = differ;
      new = new;
    }

-- what was read after a card without a fault stands for what the cards say
pub stands_after : (before : List NumberedCard) (s : SubcktsData) (card : NumberedCard) → Stands before s → IsClean before card → IsForm before card → Stands (card ∷ before) (subckts_after s card)
stands_after before s card st clean (skipped e) =
    let k = skipped_card card e in
    subst (Stands (card ∷ before)) (sym (ap (after_form s card) (skipped_form_is card (clean ControlByte) k))) (after_skipped before s card k st)
stands_after before s card (inside done u d some si named are fits) clean (opening e o words closed new once few) = absurd (true≢false (sym si.one_open ∙ closed))
stands_after before s card (between done none sb named are) clean (opening e o words closed new once few) =
    let fresh : is_closed_name s.closed (word_at card 1) ≡ false = sym (named_is before s.closed done sb named are.stand (word_at card 1)) ∙ new in
    subst (Stands (card ∷ before)) (sym (ap (after_form s card) (opening_form_is card (clean ControlByte) o words)))
    (inside done (record { name = word_at card 1; ports = port_names card; parts = [] }) (opened (word_at card 1) (port_names card)) refl (opens before card done o sb)
    (λ name h. let two = or_none (pointwise nat_eq (word_at card 1) name) _ (rw o.opening_is at h) in (two.0, named name two.1)) are
    (opening_open s.closed done (word_at card 1) (port_names card) (differ_from_count (port_names card) once) (grind (arith, nat_tests, few)) fresh))
stands_after before s card (between done none sb named are) clean (device e o is opened room) = absurd (true≢false (sym opened ∙ sb.none_open))
stands_after before s card (inside done u d some si named are fits) clean (device e o is opened room) =
    let context = context_of before s (inside done u d some si named are fits) in
    let count : open_count before ≡ d.devices = context.count_is (ap is_some some) ∙ ap count_in some in
    let after : subckts_after s card ≡ record { closed = s.closed; current = Some (with_device_of d (kind_of (word_at card 5)) card) } =
    ap (after_form s card) (device_form_is card (clean ControlByte) o is) ∙ ap (λ x. record { closed = s.closed; current = device_added x (kind_of (word_at card 5)) card }) some in
    subst (Stands (card ∷ before)) (sym after)
    (inside done (with_part u (Single (device_of_card card))) (with_device_of d (kind_of (word_at card 5)) card) refl
    (inside_part before card done u (Single (device_of_card card)) o.opening_is o.ending_is (device_part card (device_of_card card) is) si)
    (named_same before card (u ∷ done) o.opening_is named) are (device_open s.closed done d u card fits (grind (arith, nat_tests, count, room))))
stands_after before s card (between done none sb named are) clean (call e o is opened found found_is room deep count) = absurd (true≢false (sym opened ∙ sb.none_open))
stands_after before s card (inside done u d some si named are fits) clean (call e o is opened found found_is room deep count) =
    let context = context_of before s (inside done u d some si named are fits) in
    let devices : open_count before ≡ d.devices = context.count_is (ap is_some some) ∙ ap count_in some in
    let form = call_form_is card (clean ControlByte) o is in
    by (called s.closed (unit_word card)) refl (sym (context.called_is card) ∙ found_is) devices form
  where
    by : (x : Option DefinitionData) → called s.closed (unit_word card) ≡ x → option_map size_of (called s.closed (unit_word card)) ≡ Some found → open_count before ≡ d.devices → card_form card ≡ Ok Calling
        → Stands (card ∷ before) (subckts_after s card)
    by None at is_found devices form = absurd (let never : None ≡ Some found = sym (ap (option_map size_of) at) ∙ is_found in cc)
    by (Some x) at is_found devices form =
        let same : Some (size_of x) ≡ Some found = sym (ap (option_map size_of) at) ∙ is_found in
        let size_same : size_of x ≡ found = cc in
        let x_devices : x.devices ≡ found.devices = ap (λ (z : Size). z.devices) size_same in
        let x_ports : x.ports ≡ found.ports = ap (λ (z : Size). z.ports) size_same in
        let sized : size_named (unit_word card) (sizes done) ≡ Some (size_of x) = ap (λ l. size_named (unit_word card) (sizes l)) (sym si.closed_are) ∙ found_is ∙ sym same in
        let after : subckts_after s card ≡ record { closed = s.closed; current = Some (with_call_of d (net_number (names_of s.closed) (unit_word card)) x.devices x.depth card) } =
        ap (after_form s card) form ∙ ap (λ (y : Option DefinitionData). record { closed = s.closed; current = call_added s.closed y card }) some
        ∙ ap (λ (y : Option DefinitionData). record { closed = s.closed; current = Some (called_added d (net_number (names_of s.closed) (unit_word card)) y card) }) at in
        subst (Stands (card ∷ before)) (sym after)
        (inside done (with_part u (Called (call_of_card card))) (with_call_of d (net_number (names_of s.closed) (unit_word card)) x.devices x.depth card) refl
        (inside_part before card done u (Called (call_of_card card)) o.opening_is o.ending_is (call_part card (call_of_card card) is) si)
        (named_same before card (u ∷ done) o.opening_is named) are
        (call_open s.closed done d u card are fits is x at sized (grind (arith, nat_tests, devices, x_devices, room)) (omega (arith, x_ports, count))))
stands_after before s card (between done none sb named are) clean (ending e o closing words few opened) = absurd (true≢false (sym opened ∙ sb.none_open))
stands_after before s card (inside done u d some si named are fits) clean (ending e o closing words few opened) =
    let after : subckts_after s card ≡ record { closed = s.closed ++ d ∷ []; current = None } =
    ap (after_form s card) (ends_form_is card closing (clean ControlByte) o words few) ∙ ap (ends_added s.closed) some in
    let whole = closed-closed s.closed done d u are.are are.stand fits.stands fits.is_open fits.apart in
    subst (Stands (card ∷ before)) (sym after)
    (between (u ∷ done) refl (closes before card done u o si) (named_same before card (u ∷ done) o.opening_is named)
    (record { are = are_closed-push s.closed are.are d whole fits.new; stand = stand-closed s.closed done d u are.are are.stand fits.stands fits.is_open }))
