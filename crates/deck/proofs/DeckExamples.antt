-- Texts of decks, and what they are read as.
use Rattle.std.proofs.Common.{◌≡◌, ◌≢◌, ℕ, Bool, true, false, not, ◌==◌, List, [], ◌∷◌, ◌++◌, filter, codes, refl, ap, sym, ◌∙◌, All, lit≤}
use Rattle.std.specs.List.{flat_map, list_all}
use Rattle.std.proofs.lemmas.Map.Made.{IsDistinct-from_count}
use Rattle.dom_base.specs.Lines.{is_control}
use Rattle.dom_base.specs.declared.kind.Kind.TheVariants.{N as nch, P as pch, Keep}
use Rattle.deck.specs.CircuitData.{CircuitData}
use Rattle.deck.specs.DeckText.{is_skipped, deck_cards, deck_phases, deck_card_lines, BeginsACard, bare_circuit, HasNoEquals, IsDeckOf}
use Rattle.deck.specs.NamedDevices.{NamedDevice, with_devices}
use Rattle.deck.specs.Worked.{and_devices}
use Rattle.deck.proofs.FlatDecks.{flat_is_deck}
use Rattle.dom_base.proofs.Names.{names_equal}
use Rattle.dom_base.proofs.Lists.{All-from_test}

-- lines that each end in LF
abbrev text_of : List (List ℕ) → List ℕ
text_of all = flat_map (λ line. line ++ 10 ∷ []) all

-- an And of two inputs: a cell and an inverter
abbrev and_text : List ℕ
and_text = text_of (
    codes "* domsyn deck 1"
    ∷ codes "* phase o_f +"
    ∷ codes ".subckt and2 vdd vss ck1 lm lmb ls lsb rs rsb"
    ∷ codes "+ i_a i_b"
    ∷ codes "+ o_f"
    ∷ codes "m0 d0 ck1 vdd vdd pch"
    ∷ codes "m1 d0 z0 vdd vdd pkeep"
    ∷ codes "m2 d0 i_a t0_0 vss nch"
    ∷ codes "m3 t0_0 i_b f0 vss nch"
    ∷ codes "m4 f0 ck1 vss vss nch"
    ∷ codes "m5 z0 d0 vdd vdd pch"
    ∷ codes "m6 z0 d0 vss vss nch"
    ∷ codes "m7 o_f d0 vdd vdd pch"
    ∷ codes "m8 o_f d0 vss vss nch"
    ∷ codes ".ends and2"
    ∷ []
    )

and_ports : List (List ℕ)
and_ports = codes "vdd" ∷ codes "vss" ∷ codes "ck1" ∷ codes "lm" ∷ codes "lmb" ∷ codes "ls" ∷ codes "lsb" ∷ codes "rs" ∷ codes "rsb" ∷ codes "i_a" ∷ codes "i_b" ∷ codes "o_f" ∷ []

and_named_devices : List (NamedDevice (List ℕ))
and_named_devices =
    record { kind = pch; drain = codes "d0"; gate = codes "ck1"; source = codes "vdd" }
    ∷ record { kind = Keep; drain = codes "d0"; gate = codes "z0"; source = codes "vdd" }
    ∷ record { kind = nch; drain = codes "d0"; gate = codes "i_a"; source = codes "t0_0" }
    ∷ record { kind = nch; drain = codes "t0_0"; gate = codes "i_b"; source = codes "f0" }
    ∷ record { kind = nch; drain = codes "f0"; gate = codes "ck1"; source = codes "vss" }
    ∷ record { kind = pch; drain = codes "z0"; gate = codes "d0"; source = codes "vdd" }
    ∷ record { kind = nch; drain = codes "z0"; gate = codes "d0"; source = codes "vss" }
    ∷ record { kind = pch; drain = codes "o_f"; gate = codes "d0"; source = codes "vdd" }
    ∷ record { kind = nch; drain = codes "o_f"; gate = codes "d0"; source = codes "vss" }
    ∷ []

and_device_cards : List (List (List ℕ))
and_device_cards =
    (codes "m0" ∷ codes "d0" ∷ codes "ck1" ∷ codes "vdd" ∷ codes "vdd" ∷ codes "pch" ∷ [])
    ∷ (codes "m1" ∷ codes "d0" ∷ codes "z0" ∷ codes "vdd" ∷ codes "vdd" ∷ codes "pkeep" ∷ [])
    ∷ (codes "m2" ∷ codes "d0" ∷ codes "i_a" ∷ codes "t0_0" ∷ codes "vss" ∷ codes "nch" ∷ [])
    ∷ (codes "m3" ∷ codes "t0_0" ∷ codes "i_b" ∷ codes "f0" ∷ codes "vss" ∷ codes "nch" ∷ [])
    ∷ (codes "m4" ∷ codes "f0" ∷ codes "ck1" ∷ codes "vss" ∷ codes "vss" ∷ codes "nch" ∷ [])
    ∷ (codes "m5" ∷ codes "z0" ∷ codes "d0" ∷ codes "vdd" ∷ codes "vdd" ∷ codes "pch" ∷ [])
    ∷ (codes "m6" ∷ codes "z0" ∷ codes "d0" ∷ codes "vss" ∷ codes "vss" ∷ codes "nch" ∷ [])
    ∷ (codes "m7" ∷ codes "o_f" ∷ codes "d0" ∷ codes "vdd" ∷ codes "vdd" ∷ codes "pch" ∷ [])
    ∷ (codes "m8" ∷ codes "o_f" ∷ codes "d0" ∷ codes "vss" ∷ codes "vss" ∷ codes "nch" ∷ [])
    ∷ []

-- its circuit: nets 0 to 11 are the ports, then d0, z0, t0_0 and f0
and_circuit : CircuitData
and_circuit = record {
  name = codes "and2";
  phases = record { net = codes "o_f"; plus = true } ∷ [];
  ports = 12;
  nets = and_ports ++ codes "d0" ∷ codes "z0" ∷ codes "t0_0" ∷ codes "f0" ∷ [];
  devices = and_devices;
}

no_control_byte : (b : ℕ) → not (is_control b) ≡ true → is_control b ≡ false
no_control_byte b h = by (is_control b) h
  where
    by : (t : Bool) → not t ≡ true → t ≡ false
    by true e = cc
    by false e = refl

no_equals_byte : (b : ℕ) → not (b == 61) ≡ true → b ≢ 61
no_equals_byte b h e = let same : (b == 61) ≡ true = ap (λ (n : ℕ). n == 61) e in let never : false ≡ true = ap not (sym same) ∙ h in cc

-- cards without control bytes
visible_from_test : (cards : List (List (List ℕ))) → list_all (λ card. list_all (λ word. list_all (λ b. not (is_control b)) word) card) cards ≡ true
    → All (All (All (λ b. is_control b ≡ false))) cards
visible_from_test cards h =
    All-from_test (All (All (λ b. is_control b ≡ false))) (λ card. list_all (λ word. list_all (λ b. not (is_control b)) word) card)
    (λ card. All-from_test (All (λ b. is_control b ≡ false)) (λ word. list_all (λ b. not (is_control b)) word)
    (λ word. All-from_test (λ b. is_control b ≡ false) (λ b. not (is_control b)) no_control_byte word) card) cards h

-- words without `=`
no_equals_from_test : (all : List (List ℕ)) → list_all (λ word. list_all (λ b. not (b == 61)) word) all ≡ true → All HasNoEquals all
no_equals_from_test all h =
    All-from_test HasNoEquals (λ word. list_all (λ b. not (b == 61)) word)
    (λ word. All-from_test (λ b. b ≢ 61) (λ b. not (b == 61)) no_equals_byte word) all h

and_cards : deck_cards and_text ≡ (codes ".subckt" ∷ codes "and2" ∷ and_ports) ∷ and_device_cards ++ (codes ".ends" ∷ codes "and2" ∷ []) ∷ []
unfolding and_ports and_device_cards
and_cards = refl

and_phases : deck_phases and_text ≡ record { net = codes "o_f"; plus = true } ∷ []
and_phases = refl

and_pushed : with_devices (bare_circuit (codes "and2") (record { net = codes "o_f"; plus = true } ∷ []) and_ports) and_named_devices ≡ and_circuit
unfolding and_ports and_named_devices and_circuit
and_pushed = refl

-- the text of an And is a deck, and its circuit is the one above
and_is_deck : IsDeckOf and_text and_circuit
unfolding and_ports and_named_devices and_device_cards
and_is_deck = flat_is_deck and_text and_circuit (record {
  name = codes "and2";
  ports = and_ports;
  device_cards = and_device_cards;
  devices = and_named_devices;
  closing = codes "and2" ∷ [];
  begins = refl;
  visible = visible_from_test (deck_cards and_text) refl;
  order = refl;
  few_closing = lit≤ tt;
  no_equals = no_equals_from_test (codes "and2" ∷ and_ports) refl;
  ports_differ = IsDistinct-from_count names_equal and_ports refl;
  few_ports = lit≤ tt;
  few_devices = lit≤ tt;
  cards_are = (
    record { name = codes "0"; bulk = codes "vdd"; more = []; words_are = refl },
    (
      record { name = codes "1"; bulk = codes "vdd"; more = []; words_are = refl },
      (
        record { name = codes "2"; bulk = codes "vss"; more = []; words_are = refl },
        (
          record { name = codes "3"; bulk = codes "vss"; more = []; words_are = refl },
          (
            record { name = codes "4"; bulk = codes "vss"; more = []; words_are = refl },
            (
              record { name = codes "5"; bulk = codes "vdd"; more = []; words_are = refl },
              (
                record { name = codes "6"; bulk = codes "vss"; more = []; words_are = refl },
                (
                  record { name = codes "7"; bulk = codes "vdd"; more = []; words_are = refl },
                  (
                    record { name = codes "8"; bulk = codes "vss"; more = []; words_are = refl },
                    tt,
                  ),
                ),
              ),
            ),
          ),
        ),
      ),
    ),
  );
  circuit_is = sym and_pushed ∙ ap (λ phases. with_devices (bare_circuit (codes "and2") phases and_ports) and_named_devices) (sym and_phases);
})

-- CR at the ends of lines, indents and tabs, upper-case letters, an empty line and comments before lines with `+`,
-- cards `.model`, words behind the model of a device, and lines behind `.end`; `*phase x -` has three words and gives no phase
abbrev mixed_text : List ℕ
mixed_text =
    codes ".MODEL nch nmos" ++ 13 ∷ 10 ∷ []
    ++ codes "  .Subckt A" ++ 13 ∷ 10 ∷ []
    ++ codes "* a comment" ++ 13 ∷ 10 ∷ []
    ++ codes " *phase x -" ++ 13 ∷ 10 ∷ []
    ++ 13 ∷ 10 ∷ []
    ++ 9 ∷ codes "* PHASE  Y -" ++ 32 ∷ 13 ∷ 10 ∷ []
    ++ codes " +B vdd" ++ 9 ∷ 10 ∷ []
    ++ codes "M$ x y" ++ 10 ∷ []
    ++ codes "+z vss" ++ 10 ∷ []
    ++ codes "* phase z + +" ++ 10 ∷ []
    ++ codes "+ nch W=1u L=2u" ++ 10 ∷ []
    ++ codes "+" ++ 10 ∷ []
    ++ codes ".ENDS" ++ 10 ∷ []
    ++ codes "* phase a +" ++ 10 ∷ []
    ++ codes ".END" ++ 9 ∷ codes "now" ++ 10 ∷ []
    ++ codes "+ more" ++ 10 ∷ []
    ++ codes "* phase b +" ++ 10 ∷ []
    ++ codes "junk"

mixed_cards : deck_cards mixed_text ≡
    (codes ".model" ∷ codes "nch" ∷ codes "nmos" ∷ [])
    ∷ (codes ".subckt" ∷ codes "a" ∷ codes "b" ∷ codes "vdd" ∷ [])
    ∷ (codes "m$" ∷ codes "x" ∷ codes "y" ∷ codes "z" ∷ codes "vss" ∷ codes "nch" ∷ codes "w=1u" ∷ codes "l=2u" ∷ [])
    ∷ (codes ".ends" ∷ [])
    ∷ (codes ".end" ∷ codes "now" ∷ [])
    ∷ []
mixed_cards = refl

mixed_kept : filter (λ card. not (is_skipped card)) (deck_cards mixed_text) ≡
    (codes ".subckt" ∷ codes "a" ∷ codes "b" ∷ codes "vdd" ∷ [])
    ∷ (codes "m$" ∷ codes "x" ∷ codes "y" ∷ codes "z" ∷ codes "vss" ∷ codes "nch" ∷ codes "w=1u" ∷ codes "l=2u" ∷ [])
    ∷ (codes ".ends" ∷ [])
    ∷ []
mixed_kept = refl

mixed_phases : deck_phases mixed_text ≡ record { net = codes "y"; plus = false } ∷ record { net = codes "a"; plus = true } ∷ []
mixed_phases = refl

mixed_begins : BeginsACard (deck_card_lines mixed_text)
mixed_begins = refl

-- a line with `+` before the first card
stray : BeginsACard (deck_card_lines (codes "* phase x +" ++ 10 ∷ codes " + a")) → ⊥
stray e = cc
