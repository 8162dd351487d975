-- Escapes of names as parts of the names of nets.
use Rattle.std.proofs.Common.{◌≡◌, ◌≢◌, ℕ, ◌<◌, ◌/◌, ◌%◌, ◌⊎◌, Bool, true, false, List, [], ◌∷◌, ◌++◌, inl, inr, refl, arith}
use Rattle.std.specs.Prelude.{All, codes, if◌then◌else◌, map}
use Rattle.std.proofs.lemmas.Bool.Decides.{nat_tests}
use Rattle.std.proofs.lemmas.List.Elements.{All-nil, All-cons, All-append, All-head, All-map, All-tail, All-weaker}
use Rattle.dom_base.specs.Names.{IsNetByte, IsNetName}
use Rattle.deck.specs.DeckText.{HasNoEquals}
use Rattle.deck.specs.Escapes.{escaped, escaped_byte, hexadecimal_digit, is_plain}
use Rattle.deck.specs.PortNames.{IsByteName, output_name, pin_name}

-- a lower-case letter, a digit or `_`
abbrev pub IsEscapeByte : ℕ → Type 0
IsEscapeByte b = ((47 < b) × (b < 58)) ⊎ (((96 < b) × (b < 123)) ⊎ (b ≡ 95))

plain_is_escape_byte : (b : ℕ) → is_plain b ≡ true → IsEscapeByte b
plain_is_escape_byte b plain = grind (arith, nat_tests)

digit_is_escape_byte : (n : ℕ) → n < 16 → IsEscapeByte (hexadecimal_digit n)
digit_is_escape_byte n low = grind (arith, nat_tests)

escaped_byte-bytes : (b : ℕ) → b < 256 → All IsEscapeByte (escaped_byte b)
escaped_byte-bytes b low = by (is_plain b) refl
  where
    by : (w : Bool) → is_plain b ≡ w → All IsEscapeByte (if w then b ∷ [] else 95 ∷ hexadecimal_digit (b / 16) ∷ hexadecimal_digit (b % 16) ∷ [])
    by true plain = All-cons IsEscapeByte b [] (plain_is_escape_byte b plain) (All-nil IsEscapeByte)
    by false other =
        All-cons IsEscapeByte 95 (hexadecimal_digit (b / 16) ∷ hexadecimal_digit (b % 16) ∷ []) (inr (inr refl))
        (All-cons IsEscapeByte (hexadecimal_digit (b / 16)) (hexadecimal_digit (b % 16) ∷ []) (digit_is_escape_byte (b / 16) (omega arith))
        (All-cons IsEscapeByte (hexadecimal_digit (b % 16)) [] (digit_is_escape_byte (b % 16) (omega arith)) (All-nil IsEscapeByte)))

IsByte : ℕ → Type 0
IsByte b = b < 256

escaped-bytes-of : (name : List ℕ) → All IsByte name → All IsEscapeByte (escaped name)
unfolding IsByte
escaped-bytes-of [] all = All-nil IsEscapeByte
escaped-bytes-of (b ∷ name) all =
    All-append IsEscapeByte (escaped_byte b) (escaped name) (escaped_byte-bytes b (All-head IsByte b name all)) (escaped-bytes-of name (All-tail IsByte b name all))

-- an escape has lower-case letters, digits and `_` alone
pub escaped-bytes : (name : List ℕ) → All (λ b. b < 256) name → All IsEscapeByte (escaped name)
unfolding IsByte
escaped-bytes name all = escaped-bytes-of name all

escaped_byte-some : (b : ℕ) (more : List ℕ) → escaped_byte b ++ more ≢ []
escaped_byte-some b more = by (is_plain b)
  where
    by : (w : Bool) → (if w then b ∷ [] else 95 ∷ hexadecimal_digit (b / 16) ∷ hexadecimal_digit (b % 16) ∷ []) ++ more ≢ []
    by true = λ e. cc
    by false = λ e. cc

pub escaped-some : (name : List ℕ) → name ≢ [] → escaped name ≢ []
escaped-some [] some = absurd (some refl)
escaped-some (b ∷ name) some = escaped_byte-some b (escaped name)

escape_byte_is_net : (b : ℕ) → IsEscapeByte b → IsNetByte b
escape_byte_is_net b (inl digit) = (omega arith, λ e. omega arith, inl (omega arith))
escape_byte_is_net b (inr (inl letter)) = (omega arith, λ e. omega arith, inr (omega arith))
escape_byte_is_net b (inr (inr mark)) = (omega arith, λ e. omega arith, inr (omega arith))

pub escape_is_net_bytes : (name : List ℕ) → IsByteName name → All IsNetByte (escaped name)
escape_is_net_bytes name is = All-weaker IsEscapeByte IsNetByte escape_byte_is_net (escaped name) (escaped-bytes name is.bytes)

append_some : (front rest : List ℕ) → rest ≢ [] → front ++ rest ≢ []
append_some [] rest some = some
append_some (b ∷ front) rest some = λ e. cc

-- a front and an escape are the name of a net
pub fronted_is_net : (front name : List ℕ) → All IsNetByte front → IsByteName name → IsNetName (front ++ escaped name)
fronted_is_net front name first is = record {
  some = append_some front (escaped name) (escaped-some name is.some);
  good = All-append IsNetByte front (escaped name) first (escape_is_net_bytes name is);
}

pub escape_is_net : (name : List ℕ) → IsByteName name → IsNetName (escaped name)
escape_is_net name is = record { some = escaped-some name is.some; good = escape_is_net_bytes name is }

escape_byte_no_equals : (b : ℕ) → IsEscapeByte b → b ≢ 61
escape_byte_no_equals b (inl digit) = λ e. omega arith
escape_byte_no_equals b (inr (inl letter)) = λ e. omega arith
escape_byte_no_equals b (inr (inr mark)) = λ e. omega arith

-- an escape has no `=`
pub escape_no_equals : (name : List ℕ) → IsByteName name → HasNoEquals (escaped name)
escape_no_equals name is = All-weaker IsEscapeByte (λ b. b ≢ 61) escape_byte_no_equals (escaped name) (escaped-bytes name is.bytes)

-- pins and outputs are names of nets
front_bytes : (a : ℕ) → IsNetByte a → All IsNetByte (a ∷ 95 ∷ [])
front_bytes a first = All-cons IsNetByte a (95 ∷ []) first (All-cons IsNetByte 95 [] (omega arith, λ e. omega arith, inr (omega arith)) (All-nil IsNetByte))

pub pin_is_net : (input : List ℕ) → IsByteName input → IsNetName (pin_name input)
pin_is_net input is = fronted_is_net (codes "i_") input (front_bytes 105 (omega arith, λ e. omega arith, inr (omega arith))) is

pub output_is_net : (output : List ℕ) → IsByteName output → IsNetName (output_name output)
output_is_net output is = fronted_is_net (codes "o_") output (front_bytes 111 (omega arith, λ e. omega arith, inr (omega arith))) is

pub pins_are_nets : (inputs : List (List ℕ)) → All IsByteName inputs → All IsNetName (map pin_name inputs)
pins_are_nets inputs good = All-map IsNetName pin_name inputs (All-weaker IsByteName (λ input. IsNetName (pin_name input)) pin_is_net inputs good)

fronted_no_equals : (a : ℕ) (name : List ℕ) → a ≢ 61 → IsByteName name → HasNoEquals (a ∷ 95 ∷ escaped name)
fronted_no_equals a name first is =
    All-cons (λ x. x ≢ 61) a (95 ∷ escaped name) first (All-cons (λ x. x ≢ 61) 95 (escaped name) (λ e. omega arith) (escape_no_equals name is))

pub pin_no_equals : (input : List ℕ) → IsByteName input → HasNoEquals (pin_name input)
pin_no_equals input is = fronted_no_equals 105 input (λ e. omega arith) is

pub output_no_equals : (output : List ℕ) → IsByteName output → HasNoEquals (output_name output)
output_no_equals output is = fronted_no_equals 111 output (λ e. omega arith) is

pub ruleset escaped_names = (fronted_is_net)
