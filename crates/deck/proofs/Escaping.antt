-- Different names have different escapes.
use Rattle.std.proofs.Common.{◌≡◌, ◌<◌, ℕ, ◌+◌, ◌*◌, ◌/◌, ◌%◌, Bool, true, false, List, [], ◌∷◌, ◌++◌, refl, sym, ap, ◌∙◌, arith}
use Rattle.std.proofs.lemmas.List.Elements.{All-head, All-tail}
use Rattle.std.proofs.Math.Nat.{div-add-mod}
use Rattle.deck.specs.Escapes.{EscapesDiffer, escaped, escaped_byte, hexadecimal_digit, is_plain}

pub hexadecimal_digit-injective : (m n : ℕ) → m < 16 → n < 16 → hexadecimal_digit m ≡ hexadecimal_digit n → m ≡ n
hexadecimal_digit-injective m n p q e = grind (arith)

-- a byte below 256 is known by its two digits
pub bytes_alike : (a b : ℕ) → a < 256 → b < 256 → hexadecimal_digit (a / 16) ≡ hexadecimal_digit (b / 16) → hexadecimal_digit (a % 16) ≡ hexadecimal_digit (b % 16) → a ≡ b
bytes_alike a b p q h l =
    let high : a / 16 ≡ b / 16 = hexadecimal_digit-injective (a / 16) (b / 16) (omega arith) (omega arith) h in
    let low : a % 16 ≡ b % 16 = hexadecimal_digit-injective (a % 16) (b % 16) (omega arith) (omega arith) l in
    sym (div-add-mod a 16) ∙ (ap (λ x. 16 * x + a % 16) high ∙ (ap (λ x. 16 * (b / 16) + x) low ∙ div-add-mod b 16))

plain_stays : (b : ℕ) → is_plain b ≡ true → escaped_byte b ≡ b ∷ []
plain_stays b e = rw e refl

other_is_coded : (b : ℕ) → is_plain b ≡ false → escaped_byte b ≡ 95 ∷ hexadecimal_digit (b / 16) ∷ hexadecimal_digit (b % 16) ∷ []
other_is_coded b e = rw e refl

-- escapes that are alike begin with the same byte's, and go on alike
first_alike : (a b : ℕ) (xs ys : List ℕ) → a < 256 → b < 256 → escaped_byte a ++ xs ≡ escaped_byte b ++ ys → (a ≡ b) × (xs ≡ ys)
first_alike a b xs ys p q e = by (is_plain a) (is_plain b) refl refl
  where
    joined : (s t : List ℕ) → escaped_byte a ≡ s → escaped_byte b ≡ t → s ++ xs ≡ t ++ ys
    joined s t f g = sym (ap (λ z. z ++ xs) f) ∙ (e ∙ ap (λ z. z ++ ys) g)

    no_mark : (c : ℕ) → is_plain c ≡ true → c ≡ 95 → ⊥
    no_mark c x z = let w : is_plain 95 ≡ true = ap is_plain (sym z) ∙ x in cc

    by : (v w : Bool) → is_plain a ≡ v → is_plain b ≡ w → (a ≡ b) × (xs ≡ ys)
    by true true x y = let f : a ∷ xs ≡ b ∷ ys = joined _ _ (plain_stays a x) (plain_stays b y) in (cc, cc)
    by true false x y =
        let f : a ∷ xs ≡ 95 ∷ hexadecimal_digit (b / 16) ∷ hexadecimal_digit (b % 16) ∷ ys = joined _ _ (plain_stays a x) (other_is_coded b y) in
        absurd (no_mark a x (cc))
    by false true x y =
        let f : 95 ∷ hexadecimal_digit (a / 16) ∷ hexadecimal_digit (a % 16) ∷ xs ≡ b ∷ ys = joined _ _ (other_is_coded a x) (plain_stays b y) in
        absurd (no_mark b y (cc))
    by false false x y =
        let f : 95 ∷ hexadecimal_digit (a / 16) ∷ hexadecimal_digit (a % 16) ∷ xs ≡ 95 ∷ hexadecimal_digit (b / 16) ∷ hexadecimal_digit (b % 16) ∷ ys =
        joined _ _ (other_is_coded a x) (other_is_coded b y) in
        (bytes_alike a b p q (cc) (cc), cc)

some_begins : (b : ℕ) (ys : List ℕ) → [] ≡ escaped_byte b ++ ys → ⊥
some_begins b ys e = by (is_plain b) refl
  where
    by : (w : Bool) → is_plain b ≡ w → ⊥
    by true y = let f : [] ≡ b ∷ ys = e ∙ ap (λ z. z ++ ys) (plain_stays b y) in cc
    by false y = let f : [] ≡ 95 ∷ hexadecimal_digit (b / 16) ∷ hexadecimal_digit (b % 16) ∷ ys = e ∙ ap (λ z. z ++ ys) (other_is_coded b y) in cc

IsByte : ℕ → Type 0
IsByte x = x < 256

pub escapes_differ : EscapesDiffer
unfolding IsByte
escapes_differ [] [] h k e = refl
escapes_differ [] (b ∷ ys) h k e = absurd (some_begins b (escaped ys) e)
escapes_differ (a ∷ xs) [] h k e = absurd (some_begins a (escaped xs) (sym e))
escapes_differ (a ∷ xs) (b ∷ ys) h k e =
    let f = first_alike a b (escaped xs) (escaped ys) (All-head IsByte a xs h) (All-head IsByte b ys k) e in
    let g = escapes_differ xs ys (All-tail IsByte a xs h) (All-tail IsByte b ys k) f.1 in
    rw (f.0, g) refl
