-- A text is the deck of at most one circuit.
use Rattle.std.proofs.Common.{◌≡◌, ℕ, Bool, true, false, List, [], ◌∷◌, ◌++◌, nat_eq, codes, reverse, refl, ap, sym, ◌∙◌, subst, append_assoc}
use Rattle.std.specs.List.{AllZip, flat_map}
use Rattle.std.specs.Cmp.Lexicographic.{pointwise}
use Rattle.std.proofs.lemmas.List.{same_from_push, reverse-reverse}
use Rattle.dom_base.specs.declared.kind.Kind.{Kind}
use Rattle.dom_base.specs.declared.kind.Kind.TheVariants.{N as nch, P as pch, Keep}
use Rattle.dom_base.proofs.Lists.{head_same, tail_same}
use Rattle.deck.specs.CircuitData.{CircuitData}
use Rattle.deck.specs.DeckText.{deck_phases, model_word, IsDeviceCard, bare_circuit, IsCallCard, IsPartCard, AreSubcktCards, IsDeckOf}
use Rattle.deck.specs.NamedDevices.{NamedDevice, with_devices}
use Rattle.deck.specs.Subckts.{Call, SubcktPart, Single, Called, Subckt, expansion, expansions}

-- of two equal things both pass a test or none
pub tell_apart : {X : Type 0} (test : X → Bool) (a b : X) → test a ≡ true → test b ≡ false → a ≡ b → ⊥
tell_apart test a b passes fails e = let never : true ≡ false = sym passes ∙ ap test e ∙ fails in cc

is_nch : List ℕ → Bool
is_nch word = pointwise nat_eq word (codes "nch")

is_pch : List ℕ → Bool
is_pch word = pointwise nat_eq word (codes "pch")

-- different kinds have different words
pub model_word-injective : (a b : Kind) → model_word a ≡ model_word b → a ≡ b
unfolding is_nch is_pch
model_word-injective nch nch e = refl
model_word-injective nch pch e = absurd (tell_apart is_nch (codes "nch") (codes "pch") refl refl e)
model_word-injective nch Keep e = absurd (tell_apart is_nch (codes "nch") (codes "pkeep") refl refl e)
model_word-injective pch nch e = absurd (tell_apart is_pch (codes "pch") (codes "nch") refl refl e)
model_word-injective pch pch e = refl
model_word-injective pch Keep e = absurd (tell_apart is_pch (codes "pch") (codes "pkeep") refl refl e)
model_word-injective Keep nch e = absurd (tell_apart is_nch (codes "nch") (codes "pkeep") refl refl (sym e))
model_word-injective Keep pch e = absurd (tell_apart is_pch (codes "pch") (codes "pkeep") refl refl (sym e))
model_word-injective Keep Keep e = refl

-- a card is that of one device
pub IsDeviceCard-unique : (card : List (List ℕ)) (a b : NamedDevice (List ℕ)) → IsDeviceCard card a → IsDeviceCard card b → a ≡ b
IsDeviceCard-unique card a b x y =
    let same : (109 ∷ x.name) ∷ a.drain ∷ a.gate ∷ a.source ∷ x.bulk ∷ model_word a.kind ∷ x.more ≡ (109 ∷ y.name) ∷ b.drain ∷ b.gate ∷ b.source ∷ y.bulk ∷ model_word b.kind ∷ y.more = sym x.words_are ∙ y.words_are in
    let drain : a.drain ≡ b.drain = cc in
    let gate : a.gate ≡ b.gate = cc in
    let source : a.source ≡ b.source = cc in
    let word : model_word a.kind ≡ model_word b.kind = cc in
    let kind = model_word-injective a.kind b.kind word in
    λ i. record { kind = kind i; drain = drain i; gate = gate i; source = source i }

-- the first letter of the first word of a card passes this test
letter_passes : (ℕ → Bool) → List (List ℕ) → Bool
letter_passes test ((b ∷ more) ∷ words) = test b
letter_passes test _ = false

-- the card of a device is no card of a call
device_no_call : (card : List (List ℕ)) (d : NamedDevice (List ℕ)) (c : Call) → IsDeviceCard card d → IsCallCard card c → ⊥
unfolding letter_passes
device_no_call card d c h k =
    tell_apart (letter_passes (nat_eq 109)) ((109 ∷ h.name) ∷ d.drain ∷ d.gate ∷ d.source ∷ h.bulk ∷ model_word d.kind ∷ h.more)
    ((120 ∷ k.name) ∷ c.nets ++ c.unit ∷ []) refl refl
    (sym h.words_are ∙ k.words_are ∙ ap (λ name. name ∷ c.nets ++ c.unit ∷ []) k.name_is)

-- a card is that of one call
call_unique : (card : List (List ℕ)) (a b : Call) → IsCallCard card a → IsCallCard card b → a ≡ b
call_unique card a b x y =
    let same : a.name ∷ a.nets ++ a.unit ∷ [] ≡ b.name ∷ b.nets ++ b.unit ∷ [] = sym x.words_are ∙ y.words_are in
    let name : a.name ≡ b.name = head_same same in
    let rest = same_from_push a.nets b.nets a.unit b.unit (tail_same same) in
    λ i. record { name = name i; nets = rest.0 i; unit = rest.1 i }

-- a card is that of one part
part_unique : (card : List (List ℕ)) (a b : SubcktPart) → IsPartCard card a → IsPartCard card b → a ≡ b
part_unique card (Single a) (Single b) x y = ap Single (IsDeviceCard-unique card a b x y)
part_unique card (Single a) (Called b) x y = absurd (device_no_call card a b x y)
part_unique card (Called a) (Single b) x y = absurd (device_no_call card b a y x)
part_unique card (Called a) (Called b) x y = ap Called (call_unique card a b x y)

parts_unique : (cards : List (List (List ℕ))) (ps qs : List SubcktPart) → AllZip IsPartCard cards ps → AllZip IsPartCard cards qs → ps ≡ qs
parts_unique [] [] [] x y = refl
parts_unique [] [] (b ∷ qs) x y = absurd y
parts_unique [] (a ∷ ps) qs x y = absurd x
parts_unique (card ∷ cards) [] qs x y = absurd x
parts_unique (card ∷ cards) (a ∷ ps) [] x y = absurd y
parts_unique (card ∷ cards) (a ∷ ps) (b ∷ qs) x y =
    let first = part_unique card a b x.0 y.0 in
    let rest = parts_unique cards ps qs x.1 y.1 in
    cc

-- the card of a part doesn't begin with `.ends`
part_no_end : (card : List (List ℕ)) (p : SubcktPart) (closing : List (List ℕ)) → IsPartCard card p → card ≡ codes ".ends" ∷ closing → ⊥
unfolding letter_passes
part_no_end card (Single d) closing h e =
    tell_apart (letter_passes (nat_eq 109)) ((109 ∷ h.name) ∷ d.drain ∷ d.gate ∷ d.source ∷ h.bulk ∷ model_word d.kind ∷ h.more) (codes ".ends" ∷ closing) refl refl (sym h.words_are ∙ e)
part_no_end card (Called c) closing h e =
    tell_apart (letter_passes (nat_eq 120)) ((120 ∷ h.name) ∷ c.nets ++ c.unit ∷ []) (codes ".ends" ∷ closing) refl refl
    (sym (h.words_are ∙ ap (λ name. name ∷ c.nets ++ c.unit ∷ []) h.name_is) ∙ e)

-- two lists of cards of parts, each with `.ends` and more behind it
record SameEnds (xs ys : List (List (List ℕ))) (more others : List (List (List ℕ))) : Type 0 where
  cards : xs ≡ ys
  behind : more ≡ others

ends_same : (xs ys : List (List (List ℕ))) (ps qs : List SubcktPart) (c d : List (List ℕ)) (more others : List (List (List ℕ)))
    → AllZip IsPartCard xs ps → AllZip IsPartCard ys qs
    → xs ++ (codes ".ends" ∷ c) ∷ more ≡ ys ++ (codes ".ends" ∷ d) ∷ others → SameEnds xs ys more others
ends_same [] [] ps qs c d more others x y e = record { cards = refl; behind = tail_same e }
ends_same [] (card ∷ ys) ps [] c d more others x y e = absurd y
ends_same [] (card ∷ ys) ps (b ∷ qs) c d more others x y e = absurd (part_no_end card b c y.0 (sym (head_same e)))
ends_same (card ∷ xs) ys [] qs c d more others x y e = absurd x
ends_same (card ∷ xs) [] (a ∷ ps) qs c d more others x y e = absurd (part_no_end card a d x.0 (head_same e))
ends_same (card ∷ xs) (other ∷ ys) (a ∷ ps) [] c d more others x y e = absurd y
ends_same (card ∷ xs) (other ∷ ys) (a ∷ ps) (b ∷ qs) c d more others x y e =
    let rest = ends_same xs ys ps qs c d more others x.1 y.1 (tail_same e) in
    let first : card ≡ other = head_same e in
    record { cards = (let cards = rest.cards in cc); behind = rest.behind }

-- the cards of subcircuits, one behind the other, are those of one list of subcircuits
groups_unique : (gs hs : List (List (List (List ℕ)))) (ps qs : List Subckt) → AllZip AreSubcktCards gs ps → AllZip AreSubcktCards hs qs
    → flat_map (λ group. group) gs ≡ flat_map (λ group. group) hs → ps ≡ qs
groups_unique [] [] [] [] x y e = refl
groups_unique [] gs (a ∷ ps) qs x y e = absurd x
groups_unique (g ∷ gs) hs [] qs x y e = absurd x
groups_unique gs [] ps (b ∷ qs) x y e = absurd y
groups_unique gs (h ∷ hs) ps [] x y e = absurd y
groups_unique [] (h ∷ hs) [] (b ∷ qs) x y e = absurd (let none : [] ≡ h ++ flat_map (λ group. group) hs = e in let never = none ∙ ap (λ l. l ++ flat_map (λ group. group) hs) y.0.cards_are in cc)
groups_unique (g ∷ gs) [] (a ∷ ps) [] x y e = absurd (let none : g ++ flat_map (λ group. group) gs ≡ [] = e in let never = sym (ap (λ l. l ++ flat_map (λ group. group) gs) x.0.cards_are) ∙ none in cc)
groups_unique (g ∷ gs) (h ∷ hs) (a ∷ ps) (b ∷ qs) x y e =
    let g_is = x.0.cards_are in
    let h_is = y.0.cards_are in
    let left : g ++ flat_map (λ group. group) gs ≡ (codes ".subckt" ∷ a.name ∷ a.ports) ∷ x.0.part_cards ++ (codes ".ends" ∷ x.0.closing) ∷ flat_map (λ group. group) gs
    = ap (λ l. l ++ flat_map (λ group. group) gs) g_is ∙ ap (λ l. (codes ".subckt" ∷ a.name ∷ a.ports) ∷ l) (append_assoc x.0.part_cards ((codes ".ends" ∷ x.0.closing) ∷ []) (flat_map (λ group. group) gs)) in
    let right : h ++ flat_map (λ group. group) hs ≡ (codes ".subckt" ∷ b.name ∷ b.ports) ∷ y.0.part_cards ++ (codes ".ends" ∷ y.0.closing) ∷ flat_map (λ group. group) hs
    = ap (λ l. l ++ flat_map (λ group. group) hs) h_is ∙ ap (λ l. (codes ".subckt" ∷ b.name ∷ b.ports) ∷ l) (append_assoc y.0.part_cards ((codes ".ends" ∷ y.0.closing) ∷ []) (flat_map (λ group. group) hs)) in
    let all = sym left ∙ e ∙ right in
    let opening : a.name ∷ a.ports ≡ b.name ∷ b.ports = tail_same (head_same all) in
    let name : a.name ≡ b.name = head_same opening in
    let ports : a.ports ≡ b.ports = tail_same opening in
    let ends = ends_same x.0.part_cards y.0.part_cards a.parts b.parts x.0.closing y.0.closing _ _ x.0.parts_are y.0.parts_are (tail_same all) in
    let parts : a.parts ≡ b.parts = parts_unique y.0.part_cards a.parts b.parts (subst (λ cards. AllZip IsPartCard cards a.parts) ends.cards x.0.parts_are) y.0.parts_are in
    let first : a ≡ b = λ i. record { name = name i; ports = ports i; parts = parts i } in
    let rest : ps ≡ qs = groups_unique gs hs ps qs x.1 y.1 ends.behind in
    cc

reverse_same : {X : Type 0} (xs ys : List X) → reverse xs ≡ reverse ys → xs ≡ ys
reverse_same xs ys e = sym (reverse-reverse xs) ∙ ap reverse e ∙ reverse-reverse ys

-- a text is the deck of at most one circuit
pub IsDeckOf-unique : (text : List ℕ) (c d : CircuitData) → IsDeckOf text c → IsDeckOf text d → c ≡ d
IsDeckOf-unique text c d x y =
    let back : reverse (x.last ∷ x.above) ≡ reverse (y.last ∷ y.above) = groups_unique x.groups y.groups _ _ x.groups_are y.groups_are (sym x.order ∙ y.order) in
    let all : x.last ∷ x.above ≡ y.last ∷ y.above = reverse_same _ _ back in
    let last : x.last ≡ y.last = head_same all in
    let above : x.above ≡ y.above = tail_same all in
    let circuit_of : Subckt → List Subckt → CircuitData = λ s above. with_devices (bare_circuit s.name (deck_phases text) s.ports) (expansion (expansions above) s).devices in
    x.circuit_is ∙ ap (λ s. circuit_of s x.above) last ∙ ap (circuit_of y.last) above ∙ sym y.circuit_is
