-- Pins and outputs among the ports of a deck.
use Rattle.std.proofs.Common.{◌≡◌, ℕ, List, [], ◌∷◌, ◌++◌, refl, Bool, map, get_or, true, false, nat_eq}
use Rattle.std.specs.Prelude.{All}
use Rattle.std.proofs.lemmas.List.Elements.{All-nil, All-cons, All-map, recursion_from_All}
use Rattle.std.specs.List.{IsDistinct, AllByRecursion}
use Rattle.std.specs.Cmp.Lexicographic.{pointwise, bytes_decides}
use Rattle.deck.specs.Escapes.{escaped}
use Rattle.deck.specs.Ports.{IsOutput, IsPin}
use Rattle.deck.proofs.Escaping.{escapes_differ}
use Rattle.deck.specs.PortNames.{IsByteName, output_name, pin_name}

pub pins_are_pins : (inputs : List (List ℕ)) → All IsPin (map pin_name inputs)
pins_are_pins inputs = All-map IsPin pin_name inputs (λ k d lt. begins (get_or inputs k d))
  where
    begins : (input : List ℕ) → IsPin (pin_name input)
    begins [] = refl
    begins (b ∷ input) = refl

output_is_output : (output : List ℕ) → IsOutput (output_name output)
output_is_output [] = refl
output_is_output (b ∷ output) = refl

pub outputs_are_outputs : (output : List ℕ) → All IsOutput (output_name output ∷ [])
outputs_are_outputs output = All-cons IsOutput (output_name output) [] (output_is_output output) (All-nil IsOutput)

-- names that differ have escapes that differ
escapes_apart : (x y : List ℕ) → IsByteName x → IsByteName y → pointwise nat_eq x y ≡ false → pointwise nat_eq (escaped x) (escaped y) ≡ false
escapes_apart x y is_x is_y apart = by (pointwise nat_eq (escaped x) (escaped y)) refl
  where
    by : (b : Bool) → pointwise nat_eq (escaped x) (escaped y) ≡ b → pointwise nat_eq (escaped x) (escaped y) ≡ false
    by true e =
        let same : x ≡ y = escapes_differ x y is_x.bytes is_y.bytes ((bytes_decides (escaped x) (escaped y)).0 e) in
        let equal : pointwise nat_eq x y ≡ true = (bytes_decides x y).1 same in
        absurd (cc)
    by false e = e

pins_differ : (x : List ℕ) (xs : List (List ℕ)) (o : List ℕ) → IsByteName x → AllByRecursion IsByteName xs → AllByRecursion (λ y. pointwise nat_eq x y ≡ false) (xs ++ o ∷ [])
    → AllByRecursion (λ y. pointwise nat_eq (pin_name x) y ≡ false) (map pin_name xs ++ output_name o ∷ [])
pins_differ x [] o is good apart = (refl, tt)
pins_differ x (y ∷ ys) o is good apart = (escapes_apart x y is good.0 apart.0, pins_differ x ys o is good.1 apart.1)

pins_apart_each : (inputs : List (List ℕ)) (output : List ℕ) → AllByRecursion IsByteName inputs → IsDistinct (pointwise nat_eq) (inputs ++ output ∷ [])
    → IsDistinct (pointwise nat_eq) (map pin_name inputs ++ output_name output ∷ [])
unfolding IsDistinct
pins_apart_each [] output good apart = (tt, tt)
pins_apart_each (x ∷ xs) output good apart = (pins_differ x xs output good.0 good.1 apart.0, pins_apart_each xs output good.1 apart.1)

-- names that differ give pins and an output that differ
pub pins_apart : (inputs : List (List ℕ)) (output : List ℕ) → All IsByteName inputs → IsDistinct (pointwise nat_eq) (inputs ++ output ∷ [])
    → IsDistinct (pointwise nat_eq) (map pin_name inputs ++ output_name output ∷ [])
pins_apart inputs output good apart = pins_apart_each inputs output (recursion_from_All IsByteName inputs good) apart
