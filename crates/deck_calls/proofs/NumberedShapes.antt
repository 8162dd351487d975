-- Shapes with their numbers, from the last to the first, and the subcircuits that they are.
use Rattle.std.proofs.Common.{◌≡◌, ℕ, ◌<◌, ◌≤◌, ◌≢◌, ◌+◌, ◌-◌, ◌^◌, zero, suc, Bool, true, false, ◌||◌, nat_eq, List, [], ◌∷◌, ◌++◌, map, length, reverse, Some, slice_get, codes, refl, ap, sym, ◌∙◌, subst, arith}
use Rattle.std.specs.List.{AllByRecursion, enumerate_from, list_any}
use Rattle.std.specs.Fmt.{decimal}
use Rattle.std.proofs.lemmas.Bool.Decides.{Decides-eqb}
use Rattle.std.proofs.lemmas.Fmt.{decimal_injective}
use Rattle.std.proofs.lemmas.List.{append_cancel_left}
use Rattle.std.proofs.lemmas.List.Elements.{All-from_recursion}
use Rattle.std.proofs.lemmas.List.Folds.{list_any-append}
use Rattle.std.proofs.lemmas.List.FromFn.{length-map-range_with_len}
use Rattle.dom_base.proofs.Bools.{or_true}
use Rattle.dom_base.proofs.Lists.{AllByRecursion-append, AllByRecursion-map, AllByRecursion-every, AllByRecursion-weaker, AllByRecursion-reverse, reverse-cons}
use Rattle.deck.specs.declared.device.Device.{Device}
use Rattle.deck.specs.DeckText.{HasNoEquals, IsCallOver, IsSubcktOver, AreSubckts}
use Rattle.deck.specs.Limits.{most_devices, most_ports}
use Rattle.deck.specs.Nets.{ends, numbers_used}
use Rattle.deck.proofs.DeviceNumbers.{numbers_used-ge}
use Rattle.deck.specs.Subckts.{Single, Subckt, sizes}
use Rattle.spice_text.specs.Cells.{cell_name, cell_port, cell_ports}
use Rattle.deck.proofs.WordTests.{no_equals_by_test}
use Rattle.deck_calls.proofs.CellNames.{ports_apart, ports_no_equals, no_equals-numbered}
use Rattle.deck_calls.proofs.CellSubckts.{cell_devices, cell_subckt, cell_is_sized}

-- shapes with their numbers, from the last to the first
abbrev pub numbered_back : List (List Device) → List (ℕ × List Device)
numbered_back shapes = reverse (enumerate_from 0 shapes)

list_any-reverse : {X : Type 0} (test : X → Bool) (xs : List X) → list_any test (reverse xs) ≡ list_any test xs
list_any-reverse test [] = refl
list_any-reverse test (x ∷ xs) =
    ap (list_any test) (reverse-cons x xs) ∙ list_any-append test (reverse xs) (x ∷ []) ∙ ap (λ b. b || (test x || false)) (list_any-reverse test xs)
    ∙ swap (list_any test xs) (test x)
  where
    swap : (a b : Bool) → (a || (b || false)) ≡ (b || a)
    swap true true = refl
    swap true false = refl
    swap false true = refl
    swap false false = refl

numbers_low : {X : Type 0} (k : ℕ) (xs : List X) → AllByRecursion (λ (p : ℕ × X). p.0 < k + length xs) (enumerate_from k xs)
numbers_low k [] = tt
numbers_low {X} k (x ∷ xs) = (omega arith, AllByRecursion-weaker (λ (p : ℕ × X). p.0 < (k + 1) + length xs) (λ (p : ℕ × X). p.0 < k + length (x ∷ xs)) (λ p lt. omega arith) (enumerate_from (k + 1) xs) (numbers_low (k + 1) xs))

numbers_high : {X : Type 0} (k : ℕ) (xs : List X) → AllByRecursion (λ (p : ℕ × X). k ≤ p.0) (enumerate_from k xs)
numbers_high k [] = tt
numbers_high {X} k (x ∷ xs) = (omega arith, AllByRecursion-weaker (λ (p : ℕ × X). k + 1 ≤ p.0) (λ (p : ℕ × X). k ≤ p.0) (λ p le. omega arith) (enumerate_from (k + 1) xs) (numbers_high (k + 1) xs))

-- what has a number stands at that place
stands_there : {X : Type 0} (k : ℕ) (xs : List X) → AllByRecursion (λ (p : ℕ × X). (k ≤ p.0) × (slice_get xs (p.0 - k) ≡ Some p.1)) (enumerate_from k xs)
stands_there k [] = tt
stands_there {X} k (x ∷ xs) = (
  (omega arith, ap (slice_get (x ∷ xs)) (first k)),
  AllByRecursion-weaker (λ (p : ℕ × X). (k + 1 ≤ p.0) × (slice_get xs (p.0 - (k + 1)) ≡ Some p.1)) (λ (p : ℕ × X). (k ≤ p.0) × (slice_get (x ∷ xs) (p.0 - k) ≡ Some p.1))
      (λ p h. (omega (arith, h.0), ap (slice_get (x ∷ xs)) (next p.0 k h.0) ∙ h.1)) (enumerate_from (k + 1) xs) (stands_there (k + 1) xs),
)
  where
    first : (k : ℕ) → k - k ≡ 0
    first k = omega arith

    next : (n k : ℕ) → k + 1 ≤ n → n - k ≡ suc (n - (k + 1))
    next n k le = omega arith

-- each place has a number
has_number : {X : Type 0} (k : ℕ) (xs : List X) (i : ℕ) (x : X) → slice_get xs i ≡ Some x → list_any (λ (p : ℕ × X). nat_eq p.0 (k + i)) (enumerate_from k xs) ≡ true
has_number k [] i x e = absurd (cc)
has_number k (y ∷ xs) zero x e = let yes : nat_eq k (k + 0) ≡ true = (Decides-eqb k (k + 0)).1 (omega arith) in rw yes refl
has_number {X} k (y ∷ xs) (suc i) x e =
    let rest = has_number (k + 1) xs i x e in
    let same : k + 1 + i ≡ k + suc i = omega arith in
    ap (λ b. nat_eq k (k + suc i) || b) (ap (λ n. list_any (λ (p : ℕ × X). nat_eq p.0 n) (enumerate_from (k + 1) xs)) (sym same) ∙ rest) ∙ or_true (nat_eq k (k + suc i))

-- a shape that stands among the shapes, by its number
pub record IsFoundBy (n : ℕ) (shape : List Device) (ps : List (ℕ × List Device)) : Type 0 where
  pub one : AllByRecursion (λ (p : ℕ × List Device). p.0 ≡ n → p.1 ≡ shape) ps
  pub some : list_any (λ (p : ℕ × List Device). nat_eq p.0 n) ps ≡ true

pub is_found_by : (shapes : List (List Device)) (n : ℕ) (shape : List Device) → slice_get shapes n ≡ Some shape → IsFoundBy n shape (numbered_back shapes)
is_found_by shapes n shape at = record {
  one = AllByRecursion-reverse (λ (p : ℕ × List Device). p.0 ≡ n → p.1 ≡ shape) (enumerate_from 0 shapes)
      (AllByRecursion-weaker (λ (p : ℕ × List Device). (0 ≤ p.0) × (slice_get shapes (p.0 - 0) ≡ Some p.1)) (λ (p : ℕ × List Device). p.0 ≡ n → p.1 ≡ shape)
      (λ p h e. (let same : Some p.1 ≡ Some shape = sym h.1 ∙ ap (slice_get shapes) (less p.0 ∙ e) ∙ at in cc)) (enumerate_from 0 shapes) (stands_there 0 shapes));
  some = list_any-reverse (λ (p : ℕ × List Device). nat_eq p.0 n) (enumerate_from 0 shapes) ∙ ap (λ m. list_any (λ (p : ℕ × List Device). nat_eq p.0 m) (enumerate_from 0 shapes)) (plus n) ∙ has_number 0 shapes n shape at;
}
  where
    less : (m : ℕ) → m - 0 ≡ m
    less m = omega arith

    plus : (m : ℕ) → m ≡ 0 + m
    plus m = omega arith

-- the numbers fall
pub Falls : List (ℕ × List Device) → Type 0
Falls [] = Unit {0}
Falls (p ∷ ps) = AllByRecursion (λ (q : ℕ × List Device). q.0 < p.0) ps × Falls ps

falls_push : (ps : List (ℕ × List Device)) (last : ℕ × List Device) → Falls ps → AllByRecursion (λ (q : ℕ × List Device). last.0 < q.0) ps → Falls (ps ++ last ∷ [])
unfolding Falls
falls_push [] last h g = (tt, tt)
falls_push (p ∷ ps) last h g = (AllByRecursion-append (λ (q : ℕ × List Device). q.0 < p.0) ps (last ∷ []) h.0 (g.0, tt), falls_push ps last h.1 g.1)

pub numbers_fall : (k : ℕ) (shapes : List (List Device)) → Falls (reverse (enumerate_from k shapes))
unfolding Falls
numbers_fall k [] = tt
numbers_fall k (s ∷ shapes) =
    subst Falls (sym (reverse-cons (k, s) (enumerate_from (k + 1) shapes)))
    (falls_push (reverse (enumerate_from (k + 1) shapes)) (k, s) (numbers_fall (k + 1) shapes)
    (AllByRecursion-reverse (λ (q : ℕ × List Device). k < q.0) (enumerate_from (k + 1) shapes)
    (AllByRecursion-weaker (λ (q : ℕ × List Device). k + 1 ≤ q.0) (λ (q : ℕ × List Device). k < q.0) (λ q le. omega arith) (enumerate_from (k + 1) shapes) (numbers_high (k + 1) shapes))))

pub numbers_few : (shapes : List (List Device)) → length shapes < 2 ^ 64 → AllByRecursion (λ (p : ℕ × List Device). p.0 < 2 ^ 64) (numbered_back shapes)
numbers_few shapes few = AllByRecursion-reverse (λ (p : ℕ × List Device). p.0 < 2 ^ 64) (enumerate_from 0 shapes)
    (AllByRecursion-weaker (λ (p : ℕ × List Device). p.0 < 0 + length shapes) (λ (p : ℕ × List Device). p.0 < 2 ^ 64) (λ p lt. omega arith) (enumerate_from 0 shapes) (numbers_low 0 shapes))

-- a shape that has few devices and nets
pub record IsCellShape (shape : List Device) : Type 0 where
  pub few_devices : length shape ≤ most_devices
  pub few_nets : numbers_used 2 (ends shape) ≤ most_ports

-- the ports of a cell are as many as its nets
pub port_count : (shape : List Device) → length (cell_ports shape) ≡ numbers_used 2 (ends shape)
port_count shape = omega (arith, length-map-range_with_len cell_port 0 (numbers_used 2 (ends shape) - 2), numbers_used-ge 2 (ends shape))

names_other : (n : ℕ) (ps : List (ℕ × List Device)) → n < 2 ^ 64 → AllByRecursion (λ (q : ℕ × List Device). q.0 < n) ps → AllByRecursion (λ (t : Subckt). t.name ≢ cell_name n) (map cell_subckt ps)
names_other n [] few h = tt
names_other n (p ∷ ps) few h =
    ((λ e. omega (arith, h.0, decimal_injective p.0 n (omega (arith, h.0)) few (append_cancel_left (codes "cell-") (decimal p.0) (decimal n) e))), names_other n ps few h.1)

pub vdd_no_equals : HasNoEquals (codes "vdd")
vdd_no_equals = no_equals_by_test (codes "vdd") refl

pub vss_no_equals : HasNoEquals (codes "vss")
vss_no_equals = no_equals_by_test (codes "vss") refl

pub name_no_equals : (n : ℕ) → n < 2 ^ 64 → HasNoEquals (cell_name n)
name_no_equals n few = no_equals-numbered (codes "cell-") n (no_equals_by_test (codes "cell-") refl) few

-- each cell is a subcircuit over those before it
cell_over : (p : ℕ × List Device) (ps : List (ℕ × List Device)) → p.0 < 2 ^ 64 → IsCellShape p.1 → AllByRecursion (λ (q : ℕ × List Device). q.0 < p.0) ps
    → IsSubcktOver (map cell_subckt ps) (cell_subckt p)
cell_over p ps few is falls =
    let sized = cell_is_sized (sizes (map cell_subckt ps)) p in
    let nets = is.few_nets in
    record {
      new_name = All-from_recursion (λ (t : Subckt). t.name ≢ cell_name p.0) (map cell_subckt ps) (names_other p.0 ps few falls);
      no_equals = All-from_recursion HasNoEquals (cell_name p.0 ∷ cell_ports p.1)
          (name_no_equals p.0 few, (vdd_no_equals, (vss_no_equals, ports_no_equals 0 (numbers_used 2 (ends p.1) - 2) (omega (arith, nets)))));
      ports_differ = ports_apart (numbers_used 2 (ends p.1) - 2) (omega (arith, nets));
      few_ports = omega (arith, nets, port_count p.1);
      calls = All-from_recursion (IsCallOver (sizes (map cell_subckt ps))) (map Single (cell_devices p.1))
          (AllByRecursion-map (IsCallOver (sizes (map cell_subckt ps))) Single (cell_devices p.1) (AllByRecursion-every (λ d. IsCallOver (sizes (map cell_subckt ps)) (Single d)) (λ d. tt) (cell_devices p.1)));
      few_devices = subst (λ s. s.devices ≤ most_devices) (sym sized) is.few_devices;
      shallow = subst (λ s. s.depth ≤ 64) (sym sized) (omega arith);
    }

pub cells_over : (ps : List (ℕ × List Device)) → AllByRecursion (λ (p : ℕ × List Device). p.0 < 2 ^ 64) ps → AllByRecursion (λ (p : ℕ × List Device). IsCellShape p.1) ps → Falls ps → AreSubckts (map cell_subckt ps)
unfolding Falls
cells_over [] few is falls = tt
cells_over (p ∷ ps) few is falls = (cell_over p ps few.0 is.0 falls.0, cells_over ps few.1 is.1 falls.1)
