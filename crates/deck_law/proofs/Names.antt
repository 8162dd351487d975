-- The name of a net is read back to the net.
use Rattle.std.specs.Prelude.{◌==◌, codes}
use Rattle.std.specs.Fmt.{decimal}
use Rattle.std.specs.Char.{digit_value}
use Rattle.std.specs.Str.Parse.{AllDigits, digits_value}
use Rattle.std.proofs.Common.{◌≡◌, ℕ, suc, ◌+◌, ◌-◌, ◌<◌, ◌^◌, Bool, true, false, cond, List, [], ◌∷◌, ◌++◌, length, drop, take, refl, sym, ap, ◌∙◌, subst, arith, nat_lt, append_assoc, append-nil}
use Rattle.std.proofs.lemmas.Bool.{eqb-true, le-ltb, lt-ltb, ltb-true}
use Rattle.std.proofs.lemmas.Fmt.{decimal_is_IsNumeral}
use Rattle.deck.specs.Nets.{net_number}
use Rattle.deck_form.specs.NameParts.{NoDigit, behind, front, leading_letter}
use Rattle.deck_form.proofs.NameParts.{behind-digits, front-digits}
use Rattle.domino_cell.specs.Stage.{Inside, Top}
use Rattle.domino_law.specs.Nets.{At, Clock, Complement, Dynamic, FromLatch, FromPin, Lm, Lmb, Ls, Lsb, Master, Net, Next, Output, Part, Pin, Rs, Rsb, DeckSignal, Sink, Slave, Vdd, Vss, leaf_of, left_side, right_side}
use Rattle.deck_law.specs.NetNames.{deck_name, leaf_signal}

-- a byte that no escape has behind `_`
abbrev pub is_mark : ℕ → Bool
is_mark c = cond (c == 110) true (c == 112)

-- what stands before the first `_n` or `_p` of some bytes, and what from it on
abbrev pub before_mark : List ℕ → List ℕ
before_mark [] = []
before_mark (c ∷ cs) = cond (cond (c == 95) (is_mark (leading_letter cs)) false) [] (c ∷ before_mark cs)

abbrev pub behind_mark : List ℕ → List ℕ
behind_mark [] = []
behind_mark (c ∷ cs) = cond (cond (c == 95) (is_mark (leading_letter cs)) false) (c ∷ cs) (behind_mark cs)

abbrev pub is_none : List ℕ → Bool
is_none [] = true
is_none (c ∷ cs) = false

-- the net of a name, by its first byte and what is behind it
module _ (pins outs : List (List ℕ)) where
  abbrev pub spot_of : List ℕ → Part → Net
  spot_of [] part = At part Top
  spot_of (c ∷ cs) part = cond (c == 112) (At part (Inside 0 0)) (At part (Inside 1 0))

  abbrev pub static_spot : List ℕ → Part → Net
  static_spot [] part = At part Top
  static_spot (c ∷ cs) part =
      cond (leading_letter cs == 112) (At part (Inside 0 (digits_value 10 (drop 1 cs)))) (At part (Inside 1 (digits_value 10 (drop 1 cs))))

  -- the name of an output, or of an inner net of its static gate
  abbrev pub read_o : List ℕ → Net
  read_o name =
      cond (nat_lt (net_number outs name) (length outs)) (At (Sink (net_number outs name)) Top)
      (static_spot (behind_mark (drop 2 name)) (Sink (net_number outs (take 2 name ++ before_mark (drop 2 name)))))

  abbrev pub read_c : List ℕ → Net
  read_c xs = cond (leading_letter xs == 107) (Clock (digits_value 10 (drop 1 xs) - 1)) (At (Complement (leaf_signal (length pins) (digits_value 10 xs))) Top)

  abbrev pub read_l : List ℕ → Net
  read_l xs = cond (leading_letter xs == 109) (cond (is_none (drop 1 xs)) Lm Lmb) (cond (is_none (drop 1 xs)) Ls Lsb)

  abbrev pub read_from : ℕ → List ℕ → Net
  read_from b xs =
      cond (b == 100) (At (Dynamic (left_side (digits_value 10 xs))) Top)
      (cond (b == 102) (At (Dynamic (left_side (digits_value 10 xs))) (Inside 0 0))
      (cond (b == 116) (At (Dynamic (left_side (digits_value 10 (front xs)))) (Inside 0 (suc (digits_value 10 (drop 1 (behind xs))))))
      (cond (b == 101) (At (Dynamic (right_side (digits_value 10 xs))) Top)
      (cond (b == 103) (At (Dynamic (right_side (digits_value 10 xs))) (Inside 0 0))
      (cond (b == 117) (At (Dynamic (right_side (digits_value 10 (front xs)))) (Inside 0 (suc (digits_value 10 (drop 1 (behind xs))))))
      (cond (b == 122) (static_spot (behind xs) (Output (digits_value 10 (front xs))))
      (cond (b == 109) (spot_of (behind xs) (Master (digits_value 10 (front xs))))
      (cond (b == 113) (spot_of (behind xs) (Slave (digits_value 10 (front xs))))
      (cond (b == 120) (static_spot (behind xs) (Next (digits_value 10 (front xs))))
      (cond (b == 105) (Pin (net_number pins (b ∷ xs)))
      (cond (b == 111) (read_o (b ∷ xs))
      (cond (b == 99) (read_c xs)
      (cond (b == 108) (read_l xs)
      (cond (b == 118) (cond (leading_letter xs == 100) Vdd Vss)
      (cond (is_none (drop 1 xs)) Rs Rsb)))))))))))))))

  abbrev pub read : List ℕ → Net
  read [] = Vdd
  read (b ∷ xs) = read_from b xs

  -- a number that a name has
  abbrev pub IsSmall : ℕ → Type 0
  IsSmall n = n < 2 ^ 64

  pub value-is : (n : ℕ) → IsSmall n → digits_value 10 (decimal n) ≡ n
  value-is n small = (decimal_is_IsNumeral n small).1

  pub front-is : (n : ℕ) (cs : List ℕ) → IsSmall n → NoDigit cs → digits_value 10 (front (decimal n ++ cs)) ≡ n
  front-is n cs small e = ap (digits_value 10) (front-digits (decimal n) cs (decimal_is_IsNumeral n small).0.1 e) ∙ value-is n small

  pub behind-is : (n : ℕ) (cs : List ℕ) → IsSmall n → NoDigit cs → behind (decimal n ++ cs) ≡ cs
  behind-is n cs small e = behind-digits (decimal n) cs (decimal_is_IsNumeral n small).0.1 e

  pub read-fixed : (read (deck_name pins outs Vdd) ≡ Vdd) × (read (deck_name pins outs Vss) ≡ Vss) × (read (deck_name pins outs Lm) ≡ Lm) × (read (deck_name pins outs Lmb) ≡ Lmb)
      × (read (deck_name pins outs Ls) ≡ Ls) × (read (deck_name pins outs Lsb) ≡ Lsb) × (read (deck_name pins outs Rs) ≡ Rs) × (read (deck_name pins outs Rsb) ≡ Rsb)
  read-fixed = (refl, refl, refl, refl, refl, refl, refl, refl)

  pub read-dynamic : (k : ℕ) → IsSmall k → read (deck_name pins outs (At (Dynamic (left_side k)) Top)) ≡ At (Dynamic (left_side k)) Top
  read-dynamic k small = ap (λ n. At (Dynamic (left_side n)) Top) (value-is k small)

  pub read-foot : (k : ℕ) → IsSmall k → read (deck_name pins outs (At (Dynamic (left_side k)) (Inside 0 0))) ≡ At (Dynamic (left_side k)) (Inside 0 0)
  read-foot k small = ap (λ n. At (Dynamic (left_side n)) (Inside 0 0)) (value-is k small)

  pub read-inner : (k j : ℕ) → IsSmall k → IsSmall j → read (deck_name pins outs (At (Dynamic (left_side k)) (Inside 0 (suc j)))) ≡ At (Dynamic (left_side k)) (Inside 0 (suc j))
  read-inner k j small low =
      ap (λ l. read (116 ∷ l)) (append_assoc (decimal k) (codes "_") (decimal j))
      ∙ ap (λ n. At (Dynamic (left_side n)) (Inside 0 (suc (digits_value 10 (drop 1 (behind (decimal k ++ (codes "_" ++ decimal j)))))))) (front-is k (codes "_" ++ decimal j) small refl)
      ∙ ap (λ l. At (Dynamic (left_side k)) (Inside 0 (suc (digits_value 10 (drop 1 l))))) (behind-is k (codes "_" ++ decimal j) small refl)
      ∙ ap (λ n. At (Dynamic (left_side k)) (Inside 0 (suc n))) (value-is j low)

  pub read-output : (k : ℕ) → IsSmall k → read (deck_name pins outs (At (Output k) Top)) ≡ At (Output k) Top
  read-output k small =
      ap (λ l. read (122 ∷ l)) (sym (append-nil (decimal k)))
      ∙ ap (λ l. static_spot l (Output (digits_value 10 (front (decimal k ++ []))))) (behind-is k [] small tt)
      ∙ ap (λ n. At (Output n) Top) (front-is k [] small tt)

  pub read-next : (k : ℕ) → IsSmall k → read (deck_name pins outs (At (Next k) Top)) ≡ At (Next k) Top
  read-next k small =
      ap (λ l. read (120 ∷ l)) (sym (append-nil (decimal k)))
      ∙ ap (λ l. static_spot l (Next (digits_value 10 (front (decimal k ++ []))))) (behind-is k [] small tt)
      ∙ ap (λ n. At (Next n) Top) (front-is k [] small tt)

  pub read-clock : (i : ℕ) → IsSmall (1 + i) → read (deck_name pins outs (Clock i)) ≡ Clock i
  read-clock i small = ap (λ n. Clock (n - 1)) (value-is (1 + i) small) ∙ ap Clock (less i)
    where
      less : (n : ℕ) → 1 + n - 1 ≡ n
      less n = omega arith

  -- a number begins with no `k`
  no_k : (n : ℕ) → IsSmall n → (leading_letter (decimal n) == 107) ≡ false
  no_k n small = by (decimal n) (decimal_is_IsNumeral n small).0
    where
      by : (ds : List ℕ) → (0 < length ds) × AllDigits 10 ds → (leading_letter ds == 107) ≡ false
      by [] h = absurd (omega (arith, h.0))
      by (c ∷ ds) h = other (c == 107) refl
        where
          other : (b : Bool) → (c == 107) ≡ b → b ≡ false
          other false e = refl
          other true e = let z : c ≡ 107 = eqb-true c 107 e in absurd (let low : digit_value 107 < 10 = subst (λ x. digit_value x < 10) z (h.1).0 in omega (arith, low))

  abbrev pub SignalFits : DeckSignal → Type 0
  SignalFits (FromPin p) = p < length pins
  SignalFits (FromLatch j) = Unit {0}

  leaf_signal-leaf : (l : DeckSignal) → SignalFits l → leaf_signal (length pins) (leaf_of (length pins) l) ≡ l
  leaf_signal-leaf (FromPin p) fits = rw (lt-ltb p (length pins) fits) refl
  leaf_signal-leaf (FromLatch j) fits = rw (le-ltb (length pins + j) (length pins) (omega arith)) (ap FromLatch (less (length pins) j))
    where
      less : (m n : ℕ) → m + n - m ≡ n
      less m n = omega arith

  pub read-complement : (l : DeckSignal) → SignalFits l → IsSmall (leaf_of (length pins) l) → read (deck_name pins outs (At (Complement l) Top)) ≡ At (Complement l) Top
  read-complement l fits small =
      rw (no_k (leaf_of (length pins) l) small) (ap (λ n. At (Complement (leaf_signal (length pins) n)) Top) (value-is (leaf_of (length pins) l) small) ∙ ap (λ x. At (Complement x) Top) (leaf_signal-leaf l fits))

  pub read-master : (j : ℕ) → IsSmall j → (read (deck_name pins outs (At (Master j) Top)) ≡ At (Master j) Top)
      × (read (deck_name pins outs (At (Master j) (Inside 0 0))) ≡ At (Master j) (Inside 0 0)) × (read (deck_name pins outs (At (Master j) (Inside 1 0))) ≡ At (Master j) (Inside 1 0))
  read-master j small = (
    ap (λ l. read (109 ∷ l)) (sym (append-nil (decimal j))) ∙ by [] tt,
    by (codes "p") refl,
    by (codes "n") refl,
  )
    where
      by : (cs : List ℕ) → NoDigit cs → read (109 ∷ decimal j ++ cs) ≡ spot_of cs (Master j)
      by cs e = ap (λ l. spot_of l (Master (digits_value 10 (front (decimal j ++ cs))))) (behind-is j cs small e) ∙ ap (λ n. spot_of cs (Master n)) (front-is j cs small e)

  pub read-slave : (j : ℕ) → IsSmall j → (read (deck_name pins outs (At (Slave j) Top)) ≡ At (Slave j) Top)
      × (read (deck_name pins outs (At (Slave j) (Inside 0 0))) ≡ At (Slave j) (Inside 0 0)) × (read (deck_name pins outs (At (Slave j) (Inside 1 0))) ≡ At (Slave j) (Inside 1 0))
  read-slave j small = (
    ap (λ l. read (113 ∷ l)) (sym (append-nil (decimal j))) ∙ by [] tt,
    by (codes "p") refl,
    by (codes "n") refl,
  )
    where
      by : (cs : List ℕ) → NoDigit cs → read (113 ∷ decimal j ++ cs) ≡ spot_of cs (Slave j)
      by cs e = ap (λ l. spot_of l (Slave (digits_value 10 (front (decimal j ++ cs))))) (behind-is j cs small e) ∙ ap (λ n. spot_of cs (Slave n)) (front-is j cs small e)

pub signal_fits : (pins : List (List ℕ)) (leaf : ℕ) → SignalFits pins [] (leaf_signal (length pins) leaf)
signal_fits pins leaf = by (nat_lt leaf (length pins)) refl
  where
    by : (b : Bool) → nat_lt leaf (length pins) ≡ b → SignalFits pins [] (leaf_signal (length pins) leaf)
    by true e = rw e (ltb-true leaf (length pins) e)
    by false e = rw e tt
