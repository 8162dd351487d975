-- The names of a deck's circuit are names of nets.
use Rattle.std.proofs.Common.{◌≡◌, ℕ, Bool, true, false, not, ◌&&◌, if◌then◌else◌, nat_eq, List, [], ◌∷◌, ◌++◌, map, find, reverse, drop, codes, refl, sym, subst, Option, Some, None, All, cond}
use Rattle.std.specs.Cmp.Lexicographic.{pointwise}
use Rattle.std.specs.List.{AllByRecursion, AllZip, filter_map, flat_map, cons_option, list_any}
use Rattle.std.specs.Option.{IfSome}
use Rattle.std.proofs.lemmas.List.{reverse-reverse}
use Rattle.std.proofs.lemmas.List.Elements.{All-from_recursion, recursion_from_All}
use Rattle.dom_base.specs.Lines.{is_control, lines, words, unindented, IsLower, IsLowerWord}
use Rattle.dom_base.specs.Names.{IsNetName}
use Rattle.dom_base.proofs.Lists.{AllByRecursion-append, AllByRecursion-left, AllByRecursion-kept, AllByRecursion-groups, AllByRecursion-reverse}
use Rattle.dom_base.proofs.WordBytes.{lower_bytes, lower_words, lower-drop}
use Rattle.dom_base.proofs.Names.{IsNetName-word, plain_words, visible_word}
use Rattle.deck.specs.declared.phase.Phase.{Phase}
use Rattle.deck.specs.CircuitData.{CircuitData}
use Rattle.deck.specs.DeckText.{read_line, is_end, through_end, deck_lines, is_of_card, continues, deck_card_lines, added_words, cards_of, deck_cards, is_skipped, signed_phase, phase_of, IsDeviceCard, IsPartCard, AreSubcktCards, IsDeckOf, HasNetNames}
use Rattle.deck.specs.NamedDevices.{NamedDevice, map_device, with_devices}
use Rattle.deck.specs.Nets.{with_net}
use Rattle.deck.specs.Pushes.{pushed}
use Rattle.deck.specs.Subckts.{Call, SubcktPart, Single, Called, Subckt, Expansion, passed_net, call_devices, part_devices, expansions}
use Rattle.deck.proofs.CircuitGrowth.{with_devices-grew}
use Rattle.deck.proofs.DeckCircuits.{bare_deck, deck_devices}
use Rattle.deck.proofs.InnerNames.{inner_name-good}

all_through_end : (P : List ℕ → Type 0) (all : List (List ℕ)) → AllByRecursion P all → AllByRecursion P (through_end all)
all_through_end P [] h = tt
all_through_end P (line ∷ all) h = (h.0, by (is_end line) (all_through_end P all h.1))
  where
    by : (t : Bool) → AllByRecursion P (through_end all) → AllByRecursion P (if t then [] else through_end all)
    by true rest = tt
    by false rest = rest

lower_lines : (all : List (List ℕ)) → AllByRecursion (AllByRecursion IsLower) (map read_line all)
lower_lines [] = tt
lower_lines (line ∷ all) = (lower_bytes (unindented line), lower_lines all)

-- the lines of a deck have no upper-case letters
pub deck_lines-lower : (text : List ℕ) → AllByRecursion (AllByRecursion IsLower) (deck_lines text)
deck_lines-lower text = all_through_end (AllByRecursion IsLower) (map read_line (lines text)) (lower_lines (lines text))

added-lower : (all : List (List ℕ)) → AllByRecursion (AllByRecursion IsLower) all → AllByRecursion IsLowerWord (added_words all)
added-lower [] h = tt
added-lower (line ∷ all) h = by (continues line) (added-lower all h.1)
  where
    by : (t : Bool) → AllByRecursion IsLowerWord (added_words all) → AllByRecursion IsLowerWord (if t then words (drop 1 line) ++ added_words all else [])
    by true rest = AllByRecursion-append IsLowerWord (words (drop 1 line)) (added_words all) (lower_words (drop 1 line) (lower-drop line h.0)) rest
    by false rest = tt

cards-lower : (all : List (List ℕ)) → AllByRecursion (AllByRecursion IsLower) all → AllByRecursion (AllByRecursion IsLowerWord) (cards_of all)
cards-lower [] h = tt
cards-lower (line ∷ all) h = by (continues line) (cards-lower all h.1)
  where
    by : (t : Bool) → AllByRecursion (AllByRecursion IsLowerWord) (cards_of all)
        → AllByRecursion (AllByRecursion IsLowerWord) (if t then cards_of all else (words line ++ added_words all) ∷ cards_of all)
    by true rest = rest
    by false rest = (AllByRecursion-append IsLowerWord (words line) (added_words all) (lower_words line h.0) (added-lower all h.1), rest)

cards-plain : (cards : List (List (List ℕ))) → AllByRecursion (AllByRecursion IsLowerWord) cards → AllByRecursion (All (All (λ b. is_control b ≡ false))) cards
    → AllByRecursion (AllByRecursion IsNetName) cards
cards-plain [] h k = tt
cards-plain (card ∷ cards) h k = (plain_words card h.0 (recursion_from_All (All (λ b. is_control b ≡ false)) card k.0), cards-plain cards h.1 k.1)

-- the words of cards without control bytes are names of nets
pub deck_cards-plain : (text : List ℕ) → All (All (All (λ b. is_control b ≡ false))) (deck_cards text) → AllByRecursion (AllByRecursion IsNetName) (deck_cards text)
deck_cards-plain text visible =
    cards-plain (deck_cards text) (cards-lower (deck_card_lines text) (AllByRecursion-kept (AllByRecursion IsLower) is_of_card (deck_lines text) (deck_lines-lower text)))
    (recursion_from_All (All (All (λ b. is_control b ≡ false))) (deck_cards text) visible)

-- the name of a phase
abbrev pub IsPlainPhase : Phase → Type 0
IsPlainPhase phase = IsNetName phase.net

signed-plain : (name sign : List ℕ) → IsNetName name → IfSome (signed_phase name sign) IsPlainPhase
signed-plain name sign h = by (pointwise nat_eq sign (codes "+")) (pointwise nat_eq sign (codes "-"))
  where
    by : (t u : Bool) → IfSome (if t then Some (record { net = name; plus = true }) else (if u then Some (record { net = name; plus = false }) else None)) IsPlainPhase
    by true u = h
    by false true = h
    by false false = tt

phase-plain : (row : List (List ℕ)) → AllByRecursion IsLowerWord row → IfSome (phase_of row) IsPlainPhase
phase-plain [] h = tt
phase-plain (a ∷ []) h = tt
phase-plain (a ∷ b ∷ []) h = tt
phase-plain (a ∷ b ∷ c ∷ []) h = tt
phase-plain (a ∷ b ∷ c ∷ d ∷ e ∷ more) h = tt
phase-plain (star ∷ word ∷ name ∷ sign ∷ []) h = by (pointwise nat_eq star (codes "*")) (pointwise nat_eq word (codes "phase")) (list_any is_control name) refl
  where
    by : (s t u : Bool) → list_any is_control name ≡ u → IfSome (if (s && t && not u) then signed_phase name sign else None) IsPlainPhase
    by true true false e = signed-plain name sign (IsNetName-word name h.1.1.0 (All-from_recursion (λ b. is_control b ≡ false) name (visible_word name e)))
    by true true true e = tt
    by true false u e = tt
    by false t u e = tt

pub phases-plain : (all : List (List ℕ)) → AllByRecursion (AllByRecursion IsLower) all → AllByRecursion IsPlainPhase (filter_map phase_of (map words all))
phases-plain [] h = tt
phases-plain (line ∷ all) h = by (phase_of (words line)) (phase-plain (words line) (lower_words line h.0)) (phases-plain all h.1)
  where
    by : (found : Option Phase) → IfSome found IsPlainPhase → AllByRecursion IsPlainPhase (filter_map phase_of (map words all))
        → AllByRecursion IsPlainPhase (cons_option found (filter_map phase_of (map words all)))
    by None p rest = rest
    by (Some phase) p rest = (p, rest)

-- the nets of a device
abbrev pub HasPlainNets : NamedDevice (List ℕ) → Type 0
HasPlainNets d = IsNetName d.drain × IsNetName d.gate × IsNetName d.source

pub device-plain : (card : List (List ℕ)) (d : NamedDevice (List ℕ)) → IsDeviceCard card d → AllByRecursion IsNetName card → HasPlainNets d
device-plain card d is h = let all = subst (AllByRecursion IsNetName) is.words_are h in (all.1.0, all.1.1.0, all.1.1.1.0)

with_net-plain : (nets : List (List ℕ)) (name : List ℕ) → AllByRecursion IsNetName nets → IsNetName name → AllByRecursion IsNetName (with_net nets name)
with_net-plain nets name h n = by (list_any (pointwise nat_eq name) nets)
  where
    by : (t : Bool) → AllByRecursion IsNetName (if t then nets else nets ++ name ∷ [])
    by true = h
    by false = AllByRecursion-append IsNetName nets (name ∷ []) h (n, tt)

pub with_devices-plain : (c : CircuitData) (ds : List (NamedDevice (List ℕ))) → AllByRecursion IsNetName c.nets → AllByRecursion HasPlainNets ds → AllByRecursion IsNetName (with_devices c ds).nets
with_devices-plain c [] h p = h
with_devices-plain c (d ∷ ds) h p =
    with_devices-plain (pushed c d.kind d.drain d.gate d.source) ds
    (with_net-plain (with_net (with_net c.nets d.drain) d.gate) d.source
    (with_net-plain (with_net c.nets d.drain) d.gate (with_net-plain c.nets d.drain h p.0.0) p.0.1) p.0.2) p.1

-- a part whose nets, and whose name if it is a call, are names of nets
IsPlainPart : SubcktPart → Type 0
IsPlainPart (Single d) = HasPlainNets d
IsPlainPart (Called call) = IsNetName call.name × AllByRecursion IsNetName call.nets

record IsPlainSubckt (s : Subckt) : Type 0 where
  name : IsNetName s.name
  ports : AllByRecursion IsNetName s.ports
  parts : AllByRecursion IsPlainPart s.parts

plain_part : (card : List (List ℕ)) (p : SubcktPart) → IsPartCard card p → AllByRecursion IsNetName card → IsPlainPart p
unfolding IsPlainPart
plain_part card (Single d) is h = device-plain card d is h
plain_part card (Called call) is h =
    let all = subst (AllByRecursion IsNetName) is.words_are h in
    (all.0, AllByRecursion-left IsNetName call.nets (call.unit ∷ []) all.1)

plain_parts : (cards : List (List (List ℕ))) (ps : List SubcktPart) → AllZip IsPartCard cards ps → AllByRecursion (AllByRecursion IsNetName) cards → AllByRecursion IsPlainPart ps
plain_parts [] [] z h = tt
plain_parts [] (p ∷ ps) z h = absurd z
plain_parts (card ∷ cards) [] z h = absurd z
plain_parts (card ∷ cards) (p ∷ ps) z h = (plain_part card p z.0 h.0, plain_parts cards ps z.1 h.1)

plain_subckt : (group : List (List (List ℕ))) (s : Subckt) → AreSubcktCards group s → AllByRecursion (AllByRecursion IsNetName) group → IsPlainSubckt s
plain_subckt group s are h =
    let all = subst (AllByRecursion (AllByRecursion IsNetName)) are.cards_are h in
    record {
      name = all.0.1.0;
      ports = all.0.1.1;
      parts = plain_parts are.part_cards s.parts are.parts_are (AllByRecursion-left (AllByRecursion IsNetName) are.part_cards ((codes ".ends" ∷ are.closing) ∷ []) all.1);
    }

plain_subckts : (groups : List (List (List (List ℕ)))) (ss : List Subckt) → AllZip AreSubcktCards groups ss → AllByRecursion (AllByRecursion (AllByRecursion IsNetName)) groups → AllByRecursion IsPlainSubckt ss
plain_subckts [] [] z h = tt
plain_subckts [] (s ∷ ss) z h = absurd z
plain_subckts (group ∷ groups) [] z h = absurd z
plain_subckts (group ∷ groups) (s ∷ ss) z h = (plain_subckt group s z.0 h.0, plain_subckts groups ss z.1 h.1)

-- the names of the nets that are passed
passed_plain : (call : List ℕ) (ports nets : List (List ℕ)) (own : List ℕ) → IsNetName call → AllByRecursion IsNetName nets → IsNetName own → IsNetName (passed_net call ports nets own)
passed_plain call [] nets own c n o = inner_name-good call own c o
passed_plain call (p ∷ ports) [] own c n o = inner_name-good call own c o
passed_plain call (p ∷ ports) (net ∷ nets) own c n o = by (pointwise nat_eq p own) (passed_plain call ports nets own c n.1 o)
  where
    by : (b : Bool) → IsNetName (passed_net call ports nets own) → IsNetName (if b then net else passed_net call ports nets own)
    by true rest = n.0
    by false rest = rest

passed_all : (call : Call) (ports : List (List ℕ)) (ds : List (NamedDevice (List ℕ))) → IsNetName call.name → AllByRecursion IsNetName call.nets → AllByRecursion HasPlainNets ds
    → AllByRecursion HasPlainNets (map (map_device (passed_net call.name ports call.nets)) ds)
passed_all call ports [] c n h = tt
passed_all call ports (d ∷ ds) c n h =
    ((passed_plain call.name ports call.nets d.drain c n h.0.0, passed_plain call.name ports call.nets d.gate c n h.0.1, passed_plain call.name ports call.nets d.source c n h.0.2), passed_all call ports ds c n h.1)

HasPlainDevices : Expansion → Type 0
HasPlainDevices e = AllByRecursion HasPlainNets e.devices

call_plain : (call : Call) (es : List Expansion) → IsNetName call.name → AllByRecursion IsNetName call.nets → AllByRecursion HasPlainDevices es
    → AllByRecursion HasPlainNets (call_devices call (find (λ e. pointwise nat_eq call.unit e.name) es))
unfolding HasPlainDevices
call_plain call [] c n h = tt
call_plain call (e ∷ es) c n h = by (pointwise nat_eq call.unit e.name) (call_plain call es c n h.1)
  where
    by : (b : Bool) → AllByRecursion HasPlainNets (call_devices call (find (λ e. pointwise nat_eq call.unit e.name) es))
        → AllByRecursion HasPlainNets (call_devices call (cond b (Some e) (find (λ e. pointwise nat_eq call.unit e.name) es)))
    by true rest = passed_all call e.ports e.devices c n h.0
    by false rest = rest

parts_plain : (es : List Expansion) (ps : List SubcktPart) → AllByRecursion HasPlainDevices es → AllByRecursion IsPlainPart ps → AllByRecursion HasPlainNets (flat_map (part_devices es) ps)
unfolding IsPlainPart
parts_plain es [] h g = tt
parts_plain es (Single d ∷ ps) h g = (g.0, parts_plain es ps h g.1)
parts_plain es (Called call ∷ ps) h g =
    AllByRecursion-append HasPlainNets (part_devices es (Called call)) (flat_map (part_devices es) ps) (call_plain call es g.0.0 g.0.1 h) (parts_plain es ps h g.1)

expansions_plain : (ss : List Subckt) → AllByRecursion IsPlainSubckt ss → AllByRecursion HasPlainDevices (expansions ss)
unfolding HasPlainDevices
expansions_plain [] h = tt
expansions_plain (s ∷ ss) h = let rest = expansions_plain ss h.1 in (parts_plain (expansions ss) s.parts rest (h.0).parts, rest)

module _ (text : List ℕ) (c : CircuitData) (h : IsDeckOf text c) where
  -- the names of a deck's circuit are names of nets
  pub IsDeckOf-names : HasNetNames c
  unfolding HasPlainDevices
  IsDeckOf-names =
      let few = AllByRecursion-kept (AllByRecursion IsNetName) (λ card. not (is_skipped card)) (deck_cards text) (deck_cards-plain text h.visible) in
      let cards = subst (AllByRecursion (AllByRecursion IsNetName)) h.order few in
      let groups = AllByRecursion-groups (AllByRecursion IsNetName) h.groups cards in
      let back = plain_subckts h.groups (reverse (h.last ∷ h.above)) h.groups_are groups in
      let all : AllByRecursion IsPlainSubckt (h.last ∷ h.above) = subst (AllByRecursion IsPlainSubckt) (reverse-reverse (h.last ∷ h.above)) (AllByRecursion-reverse IsPlainSubckt (reverse (h.last ∷ h.above)) back) in
      let plain : AllByRecursion HasPlainNets (deck_devices text c h) = (expansions_plain (h.last ∷ h.above) all).0 in
      let grew = with_devices-grew (bare_deck text c h) (deck_devices text c h) in
      subst HasNetNames (sym h.circuit_is) (record {
        name_is = subst IsNetName (sym grew.name) (all.0).name;
        nets_are = All-from_recursion IsNetName (with_devices (bare_deck text c h) (deck_devices text c h)).nets (with_devices-plain (bare_deck text c h) (deck_devices text c h) (all.0).ports plain);
        phases_are = All-from_recursion IsPlainPhase (with_devices (bare_deck text c h) (deck_devices text c h)).phases (subst (AllByRecursion IsPlainPhase) (sym grew.phases) (phases-plain (deck_lines text) (deck_lines-lower text)));
      })
