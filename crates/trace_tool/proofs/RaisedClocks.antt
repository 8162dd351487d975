-- Clocks that rise one after the other, and where they overlap fall once the next has risen.
use Rattle.std.proofs.Common.{◌≡◌, ℕ, zero, suc, ◌+◌, ◌-◌, ◌*◌, ◌<◌, ◌≤◌, List, [], ◌∷◌, ◌++◌, add-one, append-nil, append_assoc, length, length-append, map, replicate, refl, sym, ap, ◌∙◌, arith, true, false, zero-add}
use Rattle.dom_base.specs.declared.tri.Tri.TheVariants.{One, Zero}
use Rattle.deck.specs.PortLayout.{first_clock}
use Rattle.port_runs.specs.Moves.{PortValue, set_from}
use Rattle.trace_tool.specs.Moves.{rises_and_falls, set_bits}
use Rattle.trace_tool.specs.RunData.{clock_moves, raised}
use Rattle.port_runs.specs.declared.clocking.Clocking.{Clocking}
use Rattle.port_runs.specs.declared.clocking.Clocking.TheVariants.{Overlapping, Together}

-- a clock rises and the one before it falls
pub clock-and-before : (c : Clocking) (clock port before : ℕ) → c ≡ Overlapping → 0 < clock → port ≡ first_clock + clock
    → before ≡ port - 1
    → (set_bits port (true ∷ []) ∷ []) ++ (set_bits before (false ∷ []) ∷ []) ≡ clock_moves c clock
clock-and-before c zero port before is some at below = absurd (omega (arith, some))
clock-and-before c (suc k) port before is some at below =
    let lower : before ≡ first_clock + k = omega (arith, at, below) in
    (λ i. set_from (at i) (One ∷ []) ∷ set_from (lower i) (Zero ∷ []) ∷ []) ∙ ap (λ d. clock_moves d (suc k)) (sym is)

-- the first of the clocks rise, and then the others
raised-split : (c : Clocking) (k m n : ℕ) → raised c k (m + n) ≡ raised c k m ++ raised c (k + m) n
raised-split c k zero n = ap (raised c k) (zero-add n) ∙ ap (λ j. raised c j n) (from k)
  where
    from : (k : ℕ) → k ≡ k + 0
    from k = omega arith
raised-split c k (suc m) n =
    ap (raised c k) (sum m n)
    ∙ ap (λ l. clock_moves c k ++ l) (raised-split c (k + 1) m n ∙ ap (λ j. raised c (k + 1) m ++ raised c j n) (shift k m))
    ∙ sym (append_assoc (clock_moves c k) (raised c (k + 1) m) (raised c (k + suc m) n))
  where
    sum : (m n : ℕ) → suc m + n ≡ suc (m + n)
    sum m n = omega arith

    shift : (k m : ℕ) → k + 1 + m ≡ k + suc m
    shift k m = omega arith

-- one more clock
pub raised-one : (c : Clocking) (k : ℕ) → raised c 0 (k + 1) ≡ raised c 0 k ++ clock_moves c k
raised-one c k = raised-split c 0 k 1 ∙ ap (λ j. raised c 0 k ++ raised c j 1) (zero-add k)
    ∙ ap (λ l. raised c 0 k ++ l) (append-nil (clock_moves c k))

-- some clocks have risen, then the next, and then the others
pub raised-through : (c : Clocking) (k n : ℕ) → k < n → (raised c 0 k ++ clock_moves c k) ++ raised c (k + 1) (n - (k + 1)) ≡ raised c 0 n
raised-through c k n lt =
    ap (λ l. l ++ raised c (k + 1) (n - (k + 1))) (sym (raised-one c k))
    ∙ ap (λ j. raised c 0 (k + 1) ++ raised c j (n - (k + 1))) (sym (zero-add (k + 1))) ∙ sym (raised-split c 0 (k + 1) (n - (k + 1)))
    ∙ ap (raised c 0) (whole k n lt)
  where
    whole : (k n : ℕ) → k < n → k + 1 + (n - (k + 1)) ≡ n
    whole k n lt = omega (arith, lt)

-- these are the moves of clocks that fall together
pub raised-together : (k n : ℕ) → raised Together k n ≡ map (λ (s : PortValue). s ∷ []) (set_from (first_clock + k) (replicate n One))
raised-together k zero = refl
raised-together k (suc n) =
    ap (λ l. set_from (first_clock + k) (One ∷ []) ∷ l)
    (raised-together (k + 1) n ∙ ap (λ p. map (λ (s : PortValue). s ∷ []) (set_from p (replicate n One))) (shift k))
  where
    shift : (k : ℕ) → 2 + (k + 1) ≡ 2 + k + 1
    shift k = omega arith

-- and of clocks that overlap
rises_falls : (k n : ℕ) → raised Overlapping (suc k) n ≡ rises_and_falls k n
rises_falls k zero = refl
rises_falls k (suc n) =
    let next : suc k + 1 ≡ suc (k + 1) = omega arith in
    (λ i. set_from (first_clock + sym (add-one k) i) (One ∷ []) ∷ set_from (first_clock + k) (Zero ∷ []) ∷ raised Overlapping (next i) n)
    ∙ ap (λ l. set_from (first_clock + (k + 1)) (One ∷ []) ∷ set_from (first_clock + k) (Zero ∷ []) ∷ l) (rises_falls (k + 1) n)

pub raised-overlapping : (n : ℕ) → 1 ≤ n → raised Overlapping 0 n ≡ set_from first_clock (One ∷ []) ∷ rises_and_falls 0 (n - 1)
raised-overlapping zero some = absurd (omega (arith, some))
raised-overlapping (suc n) some =
    let less : n ≡ suc n - 1 = omega arith in
    ap (λ l. set_from first_clock (One ∷ []) ∷ l) (rises_falls 0 n ∙ ap (rises_and_falls 0) less)

-- there are fewer moves than twice as many clocks
pub few_moves : (c : Clocking) (k : ℕ) → length (clock_moves c k) ≤ 2
few_moves Together k = omega arith
few_moves Overlapping zero = omega arith
few_moves Overlapping (suc k) = omega arith

pub few_raised : (c : Clocking) (k n : ℕ) → length (raised c k n) ≤ 2 * n
few_raised c k zero = omega arith
few_raised c k (suc n) =
    omega (arith, length-append (clock_moves c k) (raised c (k + 1) n), few_moves c k, few_raised c (k + 1) n)

pub fewer_raised : (c : Clocking) (n : ℕ) → 1 ≤ n → length (raised c 0 n) + 1 ≤ 2 * n
fewer_raised c zero some = absurd (omega (arith, some))
fewer_raised Together (suc n) some = omega (arith, few_raised Together 1 n)
fewer_raised Overlapping (suc n) some = omega (arith, few_raised Overlapping 1 n)
