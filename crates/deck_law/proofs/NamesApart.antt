-- Each name of a net, of compound cells and static gates too, is read back to the net. An escape has no `_n` and no `_p`, so the name of
-- an inner net is no port's.
use Rattle.std.specs.Prelude.{codes, nat_eq, slice_index_or, ◌==◌}
use Rattle.std.specs.Fmt.{decimal}
use Rattle.std.specs.List.{AllByRecursion, IsDistinct, list_any}
use Rattle.std.specs.Cmp.Lexicographic.{pointwise}
use Rattle.std.specs.Str.Parse.{digits_value}
use Rattle.std.proofs.Common.{◌≡◌, ℕ, zero, suc, ◌/◌, ◌%◌, ◌<◌, ◌≤◌, Bool, true, false, List, [], ◌∷◌, ◌++◌, length, drop, refl, sym, ap, ◌∙◌, subst, arith, nat_lt, append_assoc, append-nil, length-append, All, Some, slice_get}
use Rattle.std.proofs.lemmas.Bool.{eqb-true, le-ltb, lt-ltb}
use Rattle.std.proofs.lemmas.Option.{slice_get-get_or}
use Rattle.std.proofs.lemmas.List.Elements.{All-head, All-tail}
use Rattle.dom_base.proofs.Lists.{AllByRecursion-map, All-at}
use Rattle.deck.specs.Escapes.{escaped, escaped_byte, hexadecimal_digit, is_plain}
use Rattle.deck.specs.Nets.{net_number}
use Rattle.deck.specs.Ports.{IsPin}
use Rattle.deck.proofs.NetNumbers.{net_number-behind}
use Rattle.deck_form.specs.NameParts.{NoDigit, behind, front}
use Rattle.network.proofs.Lists.{get_of_map}
use Rattle.deck_form.proofs.NameParts.{none_named}
use Rattle.domino_cell.specs.Stage.{Inside, Spot, Top}
use Rattle.domino_law.specs.Nets.{At, CellSide, Clock, Complement, Dynamic, FromLatch, FromPin, Left, Lm, Lmb, Ls, Lsb, Master, Net, Next, Output, Part, Pin, Right, Rs, Rsb, Side, Sink, Slave, Vdd, Vss, right_side}
use Rattle.deck_law.specs.NetNames.{deck_name}
use Rattle.deck_law.specs.NamesApart.{HasName, IsGateSpot, IsSideSpot, IsSmall, NamesAreApart, escaped_outs}
use Rattle.deck_law.proofs.Names.{before_mark, behind-is, behind_mark, front-is, is_mark, read, read-clock, read-complement, read-dynamic, read-fixed, read-foot, read-inner, read-master, read-next, read-output, read-slave, read_o, static_spot, value-is}
use Rattle.deck_law.proofs.PortNumbers.{number_is}
use Rattle.deck_form.proofs.ClockPorts.{begins}

-- a hexadecimal digit is no `_`, no `n` and no `p`
hexadecimal_plain : (n : ℕ) → n < 16 → (hexadecimal_digit n == 95) ≡ false
hexadecimal_plain n low = by (hexadecimal_digit n == 95) refl
  where
    by : (b : Bool) → (hexadecimal_digit n == 95) ≡ b → b ≡ false
    by false e = refl
    by true e = let z : hexadecimal_digit n ≡ 95 = eqb-true (hexadecimal_digit n) 95 e in absurd (grind (arith, z, low))

pub hexadecimal_unmarked : (n : ℕ) → n < 16 → is_mark (hexadecimal_digit n) ≡ false
hexadecimal_unmarked n low = by (hexadecimal_digit n == 110) (hexadecimal_digit n == 112) refl refl
  where
    by : (a b : Bool) → (hexadecimal_digit n == 110) ≡ a → (hexadecimal_digit n == 112) ≡ b → is_mark (hexadecimal_digit n) ≡ false
    by false false e f = rw e f
    by true b e f = let z : hexadecimal_digit n ≡ 110 = eqb-true (hexadecimal_digit n) 110 e in absurd (grind (arith, z, low))
    by false true e f = let z : hexadecimal_digit n ≡ 112 = eqb-true (hexadecimal_digit n) 112 f in absurd (grind (arith, z, low))

plain_other : (b : ℕ) → is_plain b ≡ true → (b == 95) ≡ false
plain_other b p = by (b == 95) refl
  where
    by : (v : Bool) → (b == 95) ≡ v → v ≡ false
    by false e = refl
    by true e = let z : b ≡ 95 = eqb-true b 95 e in let w : is_plain 95 ≡ true = ap is_plain (sym z) ∙ p in cc

-- some bytes are split before the first mark
IsSplit : List ℕ → List ℕ → List ℕ → Type 0
IsSplit whole before after = (before_mark whole ≡ before) × (behind_mark whole ≡ after)

other_step : (c : ℕ) (xs before after : List ℕ) → (c == 95) ≡ false → IsSplit xs before after → IsSplit (c ∷ xs) (c ∷ before) after
unfolding IsSplit
other_step c xs before after e h = (rw e (ap (λ l. c ∷ l) h.0), rw e h.1)

code_step : (c : ℕ) (xs before after : List ℕ) → is_mark c ≡ false → IsSplit (c ∷ xs) before after → IsSplit (95 ∷ c ∷ xs) (95 ∷ before) after
unfolding IsSplit
code_step c xs before after e h = (rw e (ap (λ l. 95 ∷ l) h.0), rw e h.1)

byte_step : (b : ℕ) (xs before after : List ℕ) → b < 256 → IsSplit xs before after → IsSplit (escaped_byte b ++ xs) (escaped_byte b ++ before) after
byte_step b xs before after low h = by (is_plain b) refl
  where
    by : (v : Bool) → is_plain b ≡ v → IsSplit (escaped_byte b ++ xs) (escaped_byte b ++ before) after
    by true e = rw e (other_step b xs before after (plain_other b e) h)
    by false e =
        let up : b / 16 < 16 = omega arith in
        let down : b % 16 < 16 = omega arith in
        let u = hexadecimal_digit (b / 16) in
        let d = hexadecimal_digit (b % 16) in
        rw e (code_step u (d ∷ xs) (u ∷ d ∷ before) after (hexadecimal_unmarked (b / 16) up)
        (other_step u (d ∷ xs) (d ∷ before) after (hexadecimal_plain (b / 16) up) (other_step d xs before after (hexadecimal_plain (b % 16) down) h)))

-- an escape has no mark
escape_splits : (name after : List ℕ) → All (λ b. b < 256) name → IsSplit after [] after → IsSplit (escaped name ++ after) (escaped name) after
escape_splits [] after bytes stops = stops
escape_splits (b ∷ name) after bytes stops =
    subst (λ l. IsSplit l (escaped (b ∷ name)) after) (sym (append_assoc (escaped_byte b) (escaped name) after))
    (byte_step b (escaped name ++ after) (escaped name) after (All-head (λ x. x < 256) b name bytes) (escape_splits name after (All-tail (λ x. x < 256) b name bytes) stops))

-- an out's bytes from the third on have no mark
HasNoMark : List ℕ → Type 0
HasNoMark name = before_mark (drop 2 name) ≡ drop 2 name

module _ (pins names : List (List ℕ)) (pins_are : All IsPin pins) (pins_apart : IsDistinct (pointwise nat_eq) pins)
    (bytes : All (λ name. All (λ b. b < 256) name) names) (outs_apart : IsDistinct (pointwise nat_eq) (escaped_outs names)) where
  abbrev outs : List (List ℕ)
  outs = escaped_outs names

  abbrev out_name : ℕ → List ℕ
  out_name i = slice_index_or outs i []

  read-side : (k : CellSide) (spot : Spot) → IsSmall k.cell → IsSideSpot spot → read pins outs (deck_name pins outs (At (Dynamic k) spot)) ≡ At (Dynamic k) spot
  read-side k spot small is = by k.side k.cell spot small is
    where
      by : (side : Side) (n : ℕ) (spot : Spot) → IsSmall n → IsSideSpot spot
          → read pins outs (deck_name pins outs (At (Dynamic (record { cell = n; side = side })) spot)) ≡ At (Dynamic (record { cell = n; side = side })) spot
      by Left n Top low h = read-dynamic pins outs n low
      by Left n (Inside zero zero) low h = read-foot pins outs n low
      by Left n (Inside zero (suc j)) low h = read-inner pins outs n j low (omega (arith, h))
      by Left n (Inside (suc i) j) low h = absurd h
      by Right n Top low h = ap (λ m. At (Dynamic (right_side m)) Top) (value-is pins outs n low)
      by Right n (Inside zero zero) low h = ap (λ m. At (Dynamic (right_side m)) (Inside 0 0)) (value-is pins outs n low)
      by Right n (Inside zero (suc j)) low h =
          let small : IsSmall j = omega (arith, h) in
          ap (λ l. read pins outs (117 ∷ l)) (append_assoc (decimal n) (codes "_") (decimal j))
          ∙ ap (λ m. At (Dynamic (right_side m)) (Inside 0 (suc (digits_value 10 (drop 1 (behind (decimal n ++ (codes "_" ++ decimal j)))))))) (front-is pins outs n (codes "_" ++ decimal j) low refl)
          ∙ ap (λ l. At (Dynamic (right_side n)) (Inside 0 (suc (digits_value 10 (drop 1 l))))) (behind-is pins outs n (codes "_" ++ decimal j) low refl)
          ∙ ap (λ m. At (Dynamic (right_side n)) (Inside 0 (suc m))) (value-is pins outs j small)
      by Right n (Inside (suc i) j) low h = absurd h

  -- what stands behind an output's name is read as the spot
  upper-spot : (part : Part) (j : ℕ) → IsSmall j → static_spot pins outs (codes "_p" ++ decimal j) part ≡ At part (Inside 0 j)
  upper-spot part j low = ap (λ n. At part (Inside 0 n)) (value-is pins outs j low)

  lower-spot : (part : Part) (j : ℕ) → IsSmall j → static_spot pins outs (codes "_n" ++ decimal j) part ≡ At part (Inside 1 j)
  lower-spot part j low = ap (λ n. At part (Inside 1 n)) (value-is pins outs j low)

  numbered-spot : (part : ℕ → Part) (k : ℕ) (cs : List ℕ) → IsSmall k → NoDigit cs
      → static_spot pins outs (behind (decimal k ++ cs)) (part (digits_value 10 (front (decimal k ++ cs)))) ≡ static_spot pins outs cs (part k)
  numbered-spot part k cs low e =
      ap (λ l. static_spot pins outs l (part (digits_value 10 (front (decimal k ++ cs))))) (behind-is pins outs k cs low e)
      ∙ ap (λ n. static_spot pins outs cs (part n)) (front-is pins outs k cs low e)

  read-static : (k : ℕ) (spot : Spot) → IsSmall k → IsGateSpot spot
      → (read pins outs (deck_name pins outs (At (Output k) spot)) ≡ At (Output k) spot) × (read pins outs (deck_name pins outs (At (Next k) spot)) ≡ At (Next k) spot)
  read-static k Top low h = (read-output pins outs k low, read-next pins outs k low)
  read-static k (Inside zero j) low h = (
    numbered-spot Output k (codes "_p" ++ decimal j) low refl ∙ upper-spot (Output k) j h,
    numbered-spot Next k (codes "_p" ++ decimal j) low refl ∙ upper-spot (Next k) j h,
  )
  read-static k (Inside (suc zero) j) low h = (
    numbered-spot Output k (codes "_n" ++ decimal j) low refl ∙ lower-spot (Output k) j h,
    numbered-spot Next k (codes "_n" ++ decimal j) low refl ∙ lower-spot (Next k) j h,
  )
  read-static k (Inside (suc (suc i)) j) low h = absurd h

  out_unmarked : (name : List ℕ) → All (λ b. b < 256) name → HasNoMark (codes "o_" ++ escaped name)
  unfolding HasNoMark IsSplit
  out_unmarked name low = ap before_mark (sym (append-nil (escaped name))) ∙ (escape_splits name [] low (refl, refl)).0

  outs_unmarked : AllByRecursion HasNoMark outs
  outs_unmarked = AllByRecursion-map HasNoMark (λ name. codes "o_" ++ escaped name) names (each names bytes)
    where
      each : (xs : List (List ℕ)) → All (λ name. All (λ b. b < 256) name) xs → AllByRecursion (λ name. HasNoMark (codes "o_" ++ escaped name)) xs
      each [] low = tt
      each (x ∷ xs) low = (out_unmarked x (All-head (λ name. All (λ b. b < 256) name) x xs low), each xs (All-tail (λ name. All (λ b. b < 256) name) x xs low))

  inner-out : (name : List ℕ) (i : ℕ) (cs : List ℕ) → All (λ b. b < 256) name → 0 < length cs → IsSplit cs [] cs
      → slice_get outs i ≡ Some (codes "o_" ++ escaped name) → read_o pins outs ((codes "o_" ++ escaped name) ++ cs) ≡ static_spot pins outs cs (Sink i)
  unfolding HasNoMark IsSplit
  inner-out name i cs low some stops at =
      let whole : List ℕ = (codes "o_" ++ escaped name) ++ cs in
      let split : IsSplit (escaped name ++ cs) (escaped name) cs = escape_splits name cs low stops in
      let none : list_any (pointwise nat_eq whole) outs ≡ false = none_named HasNoMark whole (λ h. longer (sym split.0 ∙ h)) outs outs_unmarked in
      let far : length outs ≤ net_number outs whole = subst (λ l. length outs ≤ net_number l whole) (append-nil outs) (net_number-behind outs [] whole none) in
      let late : nat_lt (net_number outs whole) (length outs) ≡ false = le-ltb (net_number outs whole) (length outs) far in
      rw late refl
      ∙ ap (λ l. static_spot pins outs l (Sink (net_number outs (codes "o_" ++ before_mark (escaped name ++ cs))))) split.1
      ∙ ap (λ l. static_spot pins outs cs (Sink (net_number outs (codes "o_" ++ l)))) split.0
      ∙ ap (λ n. static_spot pins outs cs (Sink n)) (number_is outs i (codes "o_" ++ escaped name) outs_apart at)
    where
      longer : escaped name ≡ escaped name ++ cs → ⊥
      longer e = let a = ap length e in let b = length-append (escaped name) cs in absurd (omega (arith, a, b, some))

  abbrev IsReadSink : ℕ → Spot → Type 0
  IsReadSink i spot = read pins outs (deck_name pins outs (At (Sink i) spot)) ≡ At (Sink i) spot

  read-sink : (i : ℕ) (spot : Spot) → i < length outs → IsGateSpot spot → IsReadSink i spot
  unfolding IsSplit
  read-sink i spot lt is =
      let get = slice_get-get_or outs i [] lt in
      let m = get_of_map (λ name. codes "o_" ++ escaped name) names i (out_name i) get in
      by m.0 (All-at (λ name. All (λ b. b < 256) name) names i m.0 bytes m.1) m.2 (subst (λ x. slice_get outs i ≡ Some x) (sym m.2) get) spot is
    where
      by : (name : List ℕ) → All (λ b. b < 256) name → codes "o_" ++ escaped name ≡ out_name i → slice_get outs i ≡ Some (codes "o_" ++ escaped name)
          → (spot : Spot) → IsGateSpot spot → IsReadSink i spot
      by name low same at Top h =
          let n : net_number outs (codes "o_" ++ escaped name) ≡ i = number_is outs i (codes "o_" ++ escaped name) outs_apart at in
          ap (read pins outs) (sym same) ∙ rw n (rw (lt-ltb i (length outs) lt) refl)
      by name low same at (Inside zero j) h =
          ap (λ l. read pins outs (l ++ (codes "_p" ++ decimal j))) (sym same)
          ∙ inner-out name i (codes "_p" ++ decimal j) low (omega arith) (refl, refl) at
          ∙ upper-spot (Sink i) j h
      by name low same at (Inside (suc zero) j) h =
          ap (λ l. read pins outs (l ++ (codes "_n" ++ decimal j))) (sym same)
          ∙ inner-out name i (codes "_n" ++ decimal j) low (omega arith) (refl, refl) at
          ∙ lower-spot (Sink i) j h
      by name low same at (Inside (suc (suc k)) j) h = absurd h

  pin_get : (p : ℕ) → p < length pins → slice_get pins p ≡ Some (slice_index_or pins p [])
  pin_get p lt = slice_get-get_or pins p [] lt

  read-back : (a : Net) → HasName (length pins) (length outs) a → read pins outs (deck_name pins outs a) ≡ a
  read-back Vdd h = (read-fixed pins outs).0
  read-back Vss h = (read-fixed pins outs).1
  read-back (Clock i) h = read-clock pins outs i h
  read-back Lm h = (read-fixed pins outs).2
  read-back Lmb h = (read-fixed pins outs).3
  read-back Ls h = (read-fixed pins outs).4
  read-back Lsb h = (read-fixed pins outs).5
  read-back Rs h = (read-fixed pins outs).6
  read-back Rsb h = (read-fixed pins outs).7
  read-back (Pin p) lt =
      let b = begins 105 95 (slice_index_or pins p []) (All-at IsPin pins p (slice_index_or pins p []) pins_are (pin_get p lt)) in
      ap (read pins outs) b.1 ∙ ap (λ l. Pin (net_number pins l)) (sym b.1) ∙ ap Pin (number_is pins p (slice_index_or pins p []) pins_apart (pin_get p lt))
  read-back (At (Dynamic k) spot) h = read-side k spot h.0 h.1
  read-back (At (Output k) spot) h = (read-static k spot h.0 h.1).0
  read-back (At (Complement (FromPin p)) Top) h = read-complement pins outs (FromPin p) h.0 h.1
  read-back (At (Complement (FromLatch j)) Top) h = read-complement pins outs (FromLatch j) tt h.1
  read-back (At (Complement (FromPin p)) (Inside i j)) h = absurd h
  read-back (At (Complement (FromLatch p)) (Inside i j)) h = absurd h
  read-back (At (Master j) Top) h = (read-master pins outs j h.0).0
  read-back (At (Master j) (Inside zero zero)) h = (read-master pins outs j h.0).1
  read-back (At (Master j) (Inside (suc zero) zero)) h = (read-master pins outs j h.0).2
  read-back (At (Master j) (Inside zero (suc i))) h = absurd h.1
  read-back (At (Master j) (Inside (suc zero) (suc i))) h = absurd h.1
  read-back (At (Master j) (Inside (suc (suc k)) i)) h = absurd h.1
  read-back (At (Slave j) Top) h = (read-slave pins outs j h.0).0
  read-back (At (Slave j) (Inside zero zero)) h = (read-slave pins outs j h.0).1
  read-back (At (Slave j) (Inside (suc zero) zero)) h = (read-slave pins outs j h.0).2
  read-back (At (Slave j) (Inside zero (suc i))) h = absurd h.1
  read-back (At (Slave j) (Inside (suc zero) (suc i))) h = absurd h.1
  read-back (At (Slave j) (Inside (suc (suc k)) i)) h = absurd h.1
  read-back (At (Next j) spot) h = (read-static j spot h.0 h.1).1
  read-back (At (Sink i) spot) h = read-sink i spot h.0 h.1

pub names_are_apart : NamesAreApart
names_are_apart = λ pins names pins_are pins_apart bytes outs_apart a b x y e.
    sym (read-back pins names pins_are pins_apart bytes outs_apart a x)
    ∙ ap (read pins (escaped_outs names)) e
    ∙ read-back pins names pins_are pins_apart bytes outs_apart b y
