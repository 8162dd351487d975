-- The text of a circuit: SPICE subcircuit and M cards, ports by their roles, and the signs of sinks as comments.
use Rattle.std.specs.Prelude.{ℕ, ◌≡◌, Bool, true, false, List, [], ◌∷◌, ◌++◌, codes, take}
use Rattle.std.specs.List.{flat_map, enumerate_from}
use Rattle.std.specs.Fmt.{decimal}
use Rattle.dom_base.specs.declared.kind.Kind.{Kind}
use Rattle.dom_base.specs.declared.kind.Kind.TheVariants.{N as nch, P as pch, Keep}
use Rattle.deck.specs.declared.device.Device.{Device}
use Rattle.deck.specs.declared.phase.Phase.{Phase}
use Rattle.deck.specs.CircuitData.{CircuitData}
use Rattle.deck.specs.DeckText.{model_word}
use Rattle.deck.specs.Nets.{net_name}
use Rattle.deck.specs.Ports.{leading_ports, HasRoles}

-- a line: its first word, one blank and a word for each of the others, and LF
abbrev pub deck_line : List ℕ → List (List ℕ) → List ℕ
deck_line first others = first ++ flat_map (λ word. 32 ∷ word) others ++ 10 ∷ []

abbrev pub sign_of : Bool → List ℕ
sign_of true = codes "+"
sign_of false = codes "-"

abbrev pub phase_line : Phase → List ℕ
phase_line p = deck_line (codes "*") (codes "phase" ∷ p.net ∷ sign_of p.plus ∷ [])

-- eight at a time, the last group may be short
abbrev pub eights : {X : Type 0} → List X → List (List X)
eights [] = []
eights (a ∷ b ∷ c ∷ d ∷ e ∷ f ∷ g ∷ h ∷ more) = (a ∷ b ∷ c ∷ d ∷ e ∷ f ∷ g ∷ h ∷ []) ∷ eights more
eights few = few ∷ []

-- names on lines that begin with `+`, at most eight on a line
abbrev pub plus_lines : List (List ℕ) → List ℕ
plus_lines names = flat_map (deck_line (codes "+")) (eights names)

-- the bulk of a kind of device
abbrev pub bulk_of : Kind → List ℕ
bulk_of nch = codes "vss"
bulk_of pch = codes "vdd"
bulk_of Keep = codes "vdd"

-- the card of a device, with its number
abbrev pub device_card : List (List ℕ) → ℕ × Device → List ℕ
device_card nets p =
    deck_line (codes "m" ++ decimal p.0)
    (net_name nets p.1.drain ∷ net_name nets p.1.gate ∷ net_name nets p.1.source ∷ bulk_of p.1.kind ∷ model_word p.1.kind ∷ [])

abbrev pub device_cards : List (List ℕ) → List Device → List ℕ
device_cards nets devices = flat_map (device_card nets) (enumerate_from 0 devices)

-- the whole text, with these ports on the line of `.subckt` and these groups of ports on lines with `+`
abbrev pub text_with : CircuitData → List (List ℕ) → List (List (List ℕ)) → List ℕ
text_with c leading groups =
    codes "* domsyn deck 1" ++ 10 ∷ []
    ++ flat_map phase_line c.phases
    ++ deck_line (codes ".subckt") (c.name ∷ leading)
    ++ flat_map plus_lines groups
    ++ device_cards c.nets c.devices
    ++ deck_line (codes ".ends") (c.name ∷ [])

-- the text of a circuit: where its ports stand in the order of roles, those before the first pin
-- stand on the line of `.subckt`, and pins and outputs each on lines of their own; else all stand
-- on lines of their own
pub record IsWritten (c : CircuitData) (text : List ℕ) : Type 0 where
  pub with_roles : (clocks : ℕ) (pins outs : List (List ℕ)) → HasRoles (take c.ports c.nets) clocks pins outs
      → text ≡ text_with c (leading_ports clocks) (pins ∷ outs ∷ [])
  pub without_roles : ((clocks : ℕ) (pins outs : List (List ℕ)) → HasRoles (take c.ports c.nets) clocks pins outs → ⊥)
      → text ≡ text_with c [] (take c.ports c.nets ∷ [])
