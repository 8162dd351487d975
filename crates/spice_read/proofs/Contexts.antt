-- The fault of a card, by what was read before it.
use Rattle.std.proofs.Common.{◌≡◌, ℕ, ◌+◌, ◌-◌, ◌≤◌, Bool, true, false, cond, ◌==◌, ◌||◌, ◌&&◌, not, List, length, nat_eq, nat_lt, slice_index, refl, sym, ap, ◌∙◌, arith, is_none, is_some, Option, Some, None, option_map}
use Rattle.std.specs.List.{list_any}
use Rattle.std.specs.Cmp.Lexicographic.{pointwise, bytes_decides}
use Rattle.std.proofs.lemmas.Bool.{true≢false}
use Rattle.std.proofs.lemmas.Bool.Decides.{nat_tests}
use Rattle.dom_base.specs.Lines.{is_control, first_word}
use Rattle.deck.specs.declared.fault.DeckKind.TheVariants.{ControlByte, UnknownCard, BadCard, UnknownDevice, NoSubckt, SecondSubckt, NotClosed, DuplicatePort, TooMany, UnknownSubckt, WrongCount}
use Rattle.deck.specs.DeckCards.{NumberedCard, has_first_word, dot_subckt, dot_ends, dot_end, dot_model, is_call, is_device, is_model_word, names_twice, port_names, is_open, unit_word, word_at}
use Rattle.deck.specs.DeckFaults.{called_size, has_wrong_count, open_count}
use Rattle.deck.specs.Limits.{most_depth, most_devices, most_ports}
use Rattle.deck.specs.SubcktCards.{is_named_before}
use Rattle.deck.specs.Subckts.{Size, depth_over, devices_in}
use Rattle.subckt_expand.specs.Definitions.{DefinitionData}
use Rattle.subckt_expand.specs.Live.{size_of}
use Rattle.spice_read.specs.Forms.{is_named_card}
use Rattle.spice_read.specs.ReadSubckts.{SubcktsData, call_fault, called, calling_by, calling_fault, fault_in, is_closed_name, room_by, room_fault}
use Rattle.spice_read.proofs.CardForms.{fault_in-tests}
use Rattle.spice_read.proofs.KindNumbers.{smallest_fault}

-- how many devices the open subcircuit stands for, and none where none is open
abbrev pub count_in : Option DefinitionData → ℕ
count_in None = 0
count_in (Some d) = d.devices

-- what was read says what the cards before say
pub record IsContext (before : List NumberedCard) (s : SubcktsData) : Type 0 where
  pub open_is : is_open before ≡ is_some s.current
  pub count_is : is_some s.current ≡ true → open_count before ≡ count_in s.current
  pub few : count_in s.current ≤ most_devices
  pub named_is : is_some s.current ≡ false → (name : List ℕ) → is_named_before name before ≡ is_closed_name s.closed name
  pub called_is : (card : NumberedCard) → called_size before card ≡ option_map size_of (called s.closed (unit_word card))

-- a word that begins with a letter is no other card
pub letter_apart : (card : NumberedCard) (letter : ℕ) (word : List ℕ) → (slice_index (first_word card.words) 0 == letter) ≡ true → (slice_index word 0 == letter) ≡ false → has_first_word word card ≡ false
letter_apart card letter word is other = by (has_first_word word card) refl
  where
    by : (t : Bool) → has_first_word word card ≡ t → has_first_word word card ≡ false
    by true e = absurd (true≢false (sym is ∙ ap (λ (w : List ℕ). slice_index w 0 == letter) ((bytes_decides (first_word card.words) word).0 e) ∙ other))
    by false e = e

-- a card begins with one word
begins_one : (card : NumberedCard) (word other : List ℕ) → has_first_word word card ≡ true → pointwise nat_eq word other ≡ false → has_first_word other card ≡ false
begins_one card word other is apart = ap (λ (w : List ℕ). pointwise nat_eq w other) ((bytes_decides (first_word card.words) word).0 is) ∙ apart

-- and with one letter
device_no_call : (card : NumberedCard) → is_device card ≡ true → is_call card ≡ false
device_no_call card is = by (slice_index (first_word card.words) 0) is
  where
    by : (b : ℕ) → (b == 109) ≡ true → (b == 120) ≡ false
    by b e = grind (arith, nat_tests)

-- the order of the tests doesn't matter
decide : (control dev call sub ends end model long known form short opened named twice many full over none wrong : Bool)
    → (dev ≡ true → call ≡ false) → (dev ≡ true → sub ≡ false) → (call ≡ true → sub ≡ false) → (sub ≡ true → ends ≡ false)
    → cond control (Some ControlByte)
    (cond dev (cond long (cond known (cond opened (cond full (Some TooMany) None) (Some NoSubckt)) (Some UnknownDevice)) (Some BadCard))
    (cond call (cond form (cond opened (cond over (Some TooMany) (cond none (Some UnknownSubckt) (cond wrong (Some WrongCount) None))) (Some NoSubckt)) (Some BadCard))
    (cond sub (cond form (cond (opened || named) (Some SecondSubckt) (cond twice (Some DuplicatePort) (cond many (Some TooMany) None))) (Some BadCard))
    (cond ends (cond short (cond opened None (Some NoSubckt)) (Some BadCard))
    (cond (end || model) None (Some UnknownCard))))))
    ≡ cond control (Some ControlByte)
    (cond (not (call || (dev || sub || ends || end || model))) (Some UnknownCard)
    (cond ((call || (dev || sub || ends || end || model)) && not (cond call form (cond dev long (cond sub form (cond ends short true))))) (Some BadCard)
    (cond (dev && long && not known) (Some UnknownDevice)
    (cond ((dev || call || ends) && not opened) (Some NoSubckt)
    (cond (sub && (opened || named)) (Some SecondSubckt)
    (cond false (Some NotClosed)
    (cond (sub && twice) (Some DuplicatePort)
    (cond ((dev && full) || (call && over) || (sub && many)) (Some TooMany)
    (cond (call && none) (Some UnknownSubckt)
    (cond (call && wrong) (Some WrongCount) None))))))))))
decide true dev call sub ends end model long known form short opened named twice many full over none wrong h k l m = refl
decide false true true sub ends end model long known form short opened named twice many full over none wrong h k l m = absurd (true≢false (h refl))
decide false true false true ends end model long known form short opened named twice many full over none wrong h k l m = absurd (true≢false (k refl))
decide false true false false ends end model false known form short opened named twice many full over none wrong h k l m = refl
decide false true false false ends end model true false form short opened named twice many full over none wrong h k l m = refl
decide false true false false ends end model true true form short false named twice many full over none wrong h k l m = refl
decide false true false false ends end model true true form short true named twice many true over none wrong h k l m = refl
decide false true false false ends end model true true form short true named twice many false over none wrong h k l m = refl
decide false false true true ends end model long known form short opened named twice many full over none wrong h k l m = absurd (true≢false (l refl))
decide false false true false ends end model long known false short opened named twice many full over none wrong h k l m = refl
decide false false true false ends end model long known true short false named twice many full over none wrong h k l m = refl
decide false false true false ends end model long known true short true named twice many full true none wrong h k l m = refl
decide false false true false ends end model long known true short true named twice many full false true wrong h k l m = refl
decide false false true false ends end model long known true short true named twice many full false false true h k l m = refl
decide false false true false ends end model long known true short true named twice many full false false false h k l m = refl
decide false false false true true end model long known form short opened named twice many full over none wrong h k l m = absurd (true≢false (m refl))
decide false false false true false end model long known false short opened named twice many full over none wrong h k l m = refl
decide false false false true false end model long known true short true named twice many full over none wrong h k l m = refl
decide false false false true false end model long known true short false true twice many full over none wrong h k l m = refl
decide false false false true false end model long known true short false false true many full over none wrong h k l m = refl
decide false false false true false end model long known true short false false false true full over none wrong h k l m = refl
decide false false false true false end model long known true short false false false false full over none wrong h k l m = refl
decide false false false false true end model long known form false opened named twice many full over none wrong h k l m = refl
decide false false false false true end model long known form true false named twice many full over none wrong h k l m = refl
decide false false false false true end model long known form true true named twice many full over none wrong h k l m = refl
decide false false false false false true model long known form short opened named twice many full over none wrong h k l m = refl
decide false false false false false false true long known form short opened named twice many full over none wrong h k l m = refl
decide false false false false false false false long known form short opened named twice many full over none wrong h k l m = refl

module _ (before : List NumberedCard) (s : SubcktsData) (card : NumberedCard) (is : IsContext before s) where
  -- a call that passes the devices or the depth
  abbrev over : Bool
  over = nat_lt most_devices (open_count before + devices_in (called_size before card)) || nat_lt most_depth (depth_over (called_size before card))

  -- why no device can be added
  room_is : room_fault s ≡ cond (is_open before) (cond (nat_lt most_devices (open_count before + 1)) (Some TooMany) None) (Some NoSubckt)
  room_is = by s.current is.open_is is.count_is
    where
      by : (o : Option DefinitionData) → is_open before ≡ is_some o → (is_some o ≡ true → open_count before ≡ count_in o)
          → room_by o ≡ cond (is_open before) (cond (nat_lt most_devices (open_count before + 1)) (Some TooMany) None) (Some NoSubckt)
      by None e n = rw e refl
      by (Some d) e n = rw (e, n refl) refl

  -- why a subcircuit can't be called
  call_is : (d : DefinitionData) (o : Option DefinitionData) (z : Option Size) → open_count before ≡ d.devices → d.devices ≤ most_devices → z ≡ option_map size_of o
      → call_fault d.devices o card ≡ cond (nat_lt most_devices (open_count before + devices_in z) || nat_lt most_depth (depth_over z)) (Some TooMany) (cond (is_none z) (Some UnknownSubckt) (cond (has_wrong_count z card) (Some WrongCount) None))
  call_is d None z n few e =
      let room : nat_lt most_devices (d.devices + 0) ≡ false = grind (arith, nat_tests, few) in
      rw (e, n, room) refl
  call_is d (Some u) z n few e = rw (e, n) (by (nat_lt most_devices (d.devices + u.devices) || nat_lt most_depth (1 + u.depth)) (u.ports == length card.words - 2))
    where
      by : (t w : Bool) → cond (not t) (cond w None (Some WrongCount)) (Some TooMany) ≡ cond t (Some TooMany) (cond (not w) (Some WrongCount) None)
      by true w = refl
      by false true = refl
      by false false = refl

  -- why no call can be added
  calling_is : calling_fault s card ≡ cond (is_open before) (cond over (Some TooMany) (cond (is_none (called_size before card)) (Some UnknownSubckt) (cond (has_wrong_count (called_size before card) card) (Some WrongCount) None))) (Some NoSubckt)
  calling_is = by s.current is.open_is is.count_is is.few
    where
      by : (o : Option DefinitionData) → is_open before ≡ is_some o → (is_some o ≡ true → open_count before ≡ count_in o) → count_in o ≤ most_devices
          → calling_by s.closed o card ≡ cond (is_open before) (cond over (Some TooMany) (cond (is_none (called_size before card)) (Some UnknownSubckt) (cond (has_wrong_count (called_size before card) card) (Some WrongCount) None))) (Some NoSubckt)
      by None e n few = rw e refl
      by (Some d) e n few = rw e (call_is d (called s.closed (unit_word card)) (called_size before card) (n refl) few (is.called_is card))

  -- whether a `.subckt` is a second one
  second_is : (is_some s.current || is_closed_name s.closed (word_at card 1)) ≡ (is_open before || is_named_before (word_at card 1) before)
  second_is = by (is_some s.current) refl
    where
      by : (t : Bool) → is_some s.current ≡ t → (is_some s.current || is_closed_name s.closed (word_at card 1)) ≡ (is_open before || is_named_before (word_at card 1) before)
      by true e = rw (is.open_is, e) refl
      by false e = let named = is.named_is e (word_at card 1) in rw (is.open_is, e) (sym named)

  -- the fault by what was read is the smallest
  pub fault_in-smallest : fault_in s card ≡ smallest_fault before card
  fault_in-smallest =
      fault_in-tests s card
      ∙ (λ i. cond (list_any (list_any is_control) card.words) (Some ControlByte)
      (cond (is_device card) (cond (nat_lt 5 (length card.words)) (cond (is_model_word (word_at card 5)) (room_is i) (Some UnknownDevice)) (Some BadCard))
      (cond (is_call card) (cond (is_named_card card) (calling_is i) (Some BadCard))
      (cond (has_first_word dot_subckt card) (cond (is_named_card card) (cond (second_is i) (Some SecondSubckt) (cond (names_twice card) (Some DuplicatePort) (cond (nat_lt most_ports (length (port_names card))) (Some TooMany) None))) (Some BadCard))
      (cond (has_first_word dot_ends card) (cond (nat_lt (length card.words) 3) (cond (sym is.open_is i) None (Some NoSubckt)) (Some BadCard))
      (cond (has_first_word dot_end card || has_first_word dot_model card) None (Some UnknownCard)))))))
      ∙ decide (list_any (list_any is_control) card.words) (is_device card) (is_call card) (has_first_word dot_subckt card) (has_first_word dot_ends card) (has_first_word dot_end card) (has_first_word dot_model card)
      (nat_lt 5 (length card.words)) (is_model_word (word_at card 5)) (is_named_card card) (nat_lt (length card.words) 3) (is_open before) (is_named_before (word_at card 1) before)
      (names_twice card) (nat_lt most_ports (length (port_names card))) (nat_lt most_devices (open_count before + 1)) over (is_none (called_size before card)) (has_wrong_count (called_size before card) card)
      (λ d. device_no_call card d) (λ d. letter_apart card 109 dot_subckt d refl) (λ x. letter_apart card 120 dot_subckt x refl) (λ s. begins_one card dot_subckt dot_ends s refl)
