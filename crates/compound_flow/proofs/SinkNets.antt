-- The nets of the static gates of sinks: those of one sink are apart from those of another. An escape has no `_n` and no `_p`.
use Rattle.std.specs.Prelude.{◌==◌, codes}
use Rattle.std.specs.Fmt.{decimal}
use Rattle.std.proofs.Common.{◌≡◌, ◌⊎◌, ℕ, ◌/◌, ◌%◌, ◌<◌, ◌^◌, Bool, true, false, List, [], ◌∷◌, ◌++◌, ◌∙◌, All, ap, append-nil, append_assoc, arith, drop, inl, inr, refl, subst, sym, take}
use Rattle.std.proofs.lemmas.Bool.{ne_eqb}
use Rattle.std.proofs.lemmas.Bool.Decides.{nat_tests}
use Rattle.std.proofs.lemmas.List.Elements.{All-head, All-tail}
use Rattle.deck_law.proofs.NamesApart.{hexadecimal_unmarked}
use Rattle.deck.specs.Escapes.{escaped, escaped_byte, hexadecimal_digit, is_plain}
use Rattle.deck_form.specs.DeckNets.{data_net}
use Rattle.deck_form.specs.NameParts.{leading_letter, number_of}
use Rattle.deck_form.proofs.NameParts.{bare_number_is}
use Rattle.deck_law.proofs.Names.{before_mark, is_mark}
use Rattle.compound_flow.specs.MadeSinks.{IsGateNet, IsSinkName}
use Rattle.compound_flow.proofs.NextCells.{marked_number}

-- a hexadecimal digit is a digit, or a letter from `a` to `f`
digit_range : (n : ℕ) → n < 16 → (hexadecimal_digit n < 58) ⊎ ((96 < hexadecimal_digit n) × (hexadecimal_digit n < 103))
digit_range n low = grind (arith, nat_tests)

digit_apart : (n other : ℕ) → n < 16 → (other < 58 → ⊥) → ((96 < other) × (other < 103) → ⊥) → (hexadecimal_digit n == other) ≡ false
digit_apart n other low a b =
    ne_eqb (hexadecimal_digit n) other
    (λ e. elim (digit_range n low) [
      | inl digit ↦ a (subst (λ m. m < 58) e digit)
      | inr letter ↦ b (subst (λ m. (96 < m) × (m < 103)) e letter)
    ])

-- what stands before the first mark
before_other : (c : ℕ) (xs : List ℕ) → (c == 95) ≡ false → before_mark (c ∷ xs) ≡ c ∷ before_mark xs
before_other c xs e = rw e refl

before_code : (c : ℕ) (xs : List ℕ) → is_mark c ≡ false → before_mark (95 ∷ c ∷ xs) ≡ 95 ∷ before_mark (c ∷ xs)
before_code c xs e = rw e refl

before_byte : (b : ℕ) (xs : List ℕ) → b < 256 → before_mark (escaped_byte b ++ xs) ≡ escaped_byte b ++ before_mark xs
before_byte b xs low = by (is_plain b) refl
  where
    plain_other : is_plain b ≡ true → (b == 95) ≡ false
    plain_other p = ne_eqb b 95 (λ z. absurd (let w : is_plain 95 ≡ true = ap is_plain (sym z) ∙ p in cc))

    by : (v : Bool) → is_plain b ≡ v → before_mark (escaped_byte b ++ xs) ≡ escaped_byte b ++ before_mark xs
    by true e = rw e (before_other b xs (plain_other e))
    by false e =
        let u = hexadecimal_digit (b / 16) in
        let d = hexadecimal_digit (b % 16) in
        let high = digit_apart (b / 16) 95 (omega arith) (λ z. omega (arith, z)) (λ z. omega (arith, z.0)) in
        let deep = digit_apart (b % 16) 95 (omega arith) (λ z. omega (arith, z)) (λ z. omega (arith, z.0)) in
        rw e (before_code u (d ∷ xs) (hexadecimal_unmarked (b / 16) (omega arith))
        ∙ ap (λ l. 95 ∷ l) (before_other u (d ∷ xs) high ∙ ap (λ l. u ∷ l) (before_other d xs deep)))

before_escape : (name after : List ℕ) → All (λ b. b < 256) name → before_mark (escaped name ++ after) ≡ escaped name ++ before_mark after
before_escape [] after bytes = refl
before_escape (b ∷ name) after bytes =
    ap before_mark (append_assoc (escaped_byte b) (escaped name) after)
    ∙ before_byte b (escaped name ++ after) (All-head (λ x. x < 256) b name bytes)
    ∙ ap (λ l. escaped_byte b ++ l) (before_escape name after (All-tail (λ x. x < 256) b name bytes))
    ∙ sym (append_assoc (escaped_byte b) (escaped name) (before_mark after))

-- the output of whose static gate a net is
stem : List ℕ → List ℕ
stem name = take 2 name ++ before_mark (drop 2 name)

marked_stem : (name mark : List ℕ) (j : ℕ) → All (λ b. b < 256) name → before_mark (mark ++ decimal j) ≡ [] → before_mark ((escaped name ++ mark) ++ decimal j) ≡ escaped name
marked_stem name mark j bytes e =
    ap before_mark (append_assoc (escaped name) mark (decimal j)) ∙ before_escape name (mark ++ decimal j) bytes
    ∙ ap (λ l. escaped name ++ l) e ∙ append-nil (escaped name)

out_stem : (name x : List ℕ) → All (λ b. b < 256) name → IsGateNet (codes "o_" ++ escaped name) x → stem x ≡ codes "o_" ++ escaped name
unfolding stem
out_stem name x bytes (inl e) =
    ap stem e ∙ ap (λ l. codes "o_" ++ l) (ap before_mark (sym (append-nil (escaped name))) ∙ before_escape name [] bytes ∙ append-nil (escaped name))
out_stem name x bytes (inr (inl (j, e))) = ap stem e ∙ ap (λ l. codes "o_" ++ l) (marked_stem name (codes "_p") j bytes refl)
out_stem name x bytes (inr (inr (j, e))) = ap stem e ∙ ap (λ l. codes "o_" ++ l) (marked_stem name (codes "_n") j bytes refl)

pub out_letter : (name x : List ℕ) → IsGateNet (codes "o_" ++ escaped name) x → leading_letter x ≡ 111
out_letter name x (inl e) = ap leading_letter e
out_letter name x (inr (inl (j, e))) = ap leading_letter e
out_letter name x (inr (inr (j, e))) = ap leading_letter e

pub data_letter : (j : ℕ) (x : List ℕ) → IsGateNet (data_net j) x → leading_letter x ≡ 120
data_letter j x (inl e) = ap leading_letter e
data_letter j x (inr (inl (i, e))) = ap leading_letter e
data_letter j x (inr (inr (i, e))) = ap leading_letter e

data_number : (j : ℕ) (x : List ℕ) → j < 2 ^ 64 → IsGateNet (data_net j) x → number_of x ≡ j
data_number j x small (inl e) = ap number_of e ∙ bare_number_is 120 j small
data_number j x small (inr (inl (i, e))) = ap number_of e ∙ marked_number 120 j (codes "_p") (decimal i) small refl
data_number j x small (inr (inr (i, e))) = ap number_of e ∙ marked_number 120 j (codes "_n") (decimal i) small refl

pub of_net : (a b x : List ℕ) → a ≡ b → IsGateNet a x → IsGateNet b x
of_net a b x e = subst (λ z. IsGateNet z x) e

-- two sinks that share a net are one
pub same_net : (a b x y : List ℕ) → IsSinkName a → IsSinkName b → IsGateNet a x → IsGateNet b y → x ≡ y → a ≡ b
same_net a b x y (inl (m, low, is)) (inl (n, few, at)) g h e =
    is ∙ sym (out_stem m x low (of_net a (codes "o_" ++ escaped m) x is g)) ∙ ap stem e ∙ out_stem n y few (of_net b (codes "o_" ++ escaped n) y at h) ∙ sym at
same_net a b x y (inl (m, low, is)) (inr (j, few, at)) g h e =
    absurd (omega (arith, out_letter m x (of_net a (codes "o_" ++ escaped m) x is g), data_letter j y (of_net b (data_net j) y at h), ap leading_letter e))
same_net a b x y (inr (i, low, is)) (inl (n, few, at)) g h e =
    absurd (omega (arith, data_letter i x (of_net a (data_net i) x is g), out_letter n y (of_net b (codes "o_" ++ escaped n) y at h), ap leading_letter e))
same_net a b x y (inr (i, low, is)) (inr (j, few, at)) g h e =
    is ∙ ap data_net (sym (data_number i x low (of_net a (data_net i) x is g)) ∙ ap number_of e ∙ data_number j y few (of_net b (data_net j) y at h)) ∙ sym at
