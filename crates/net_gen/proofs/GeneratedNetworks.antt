-- The network that is generated keeps what a network keeps.
use Rattle.std.proofs.Common.{◌≡◌, ℕ, zero, suc, ◌<◌, ◌≤◌, ◌+◌, ◌-◌, ◌*◌, ◌/◌, ◌%◌, ◌^◌, min, false, List, [], ◌∷◌, ◌++◌, map, length, Some, slice_get, get_or, refl, ap, sym, ◌∙◌, subst, arith, ne_eqb, length-append}
use Rattle.std.specs.Prelude.{◌≢◌, All, nat_eq, codes}
use Rattle.std.specs.Fmt.{decimal}
use Rattle.std.specs.List.{AllByRecursion, IsDistinct, range_with_len, sum_by}
use Rattle.std.proofs.lemmas.Fmt.{decimal_by_steps, decimal_injective}
use Rattle.std.proofs.lemmas.List.Elements.{All-append, All-cons, All-from_recursion, All-nil, All-push}
use Rattle.std.proofs.lemmas.List.FromFn.{get_or-map-range_with_len, length-map-range_with_len, length-range_with_len}
use Rattle.std.proofs.lemmas.List.Sums.{sum_by-cons}
use Rattle.std.proofs.lemmas.Option.{get_or_from_slice_get, slice_get_within}
use Rattle.dom_base.proofs.Lists.{AllByRecursion-append, AllByRecursion-both, AllByRecursion-every, AllByRecursion-map, head_same, tail_same}
use Rattle.blif_ast.specs.Cards.{same}
use Rattle.blif_ast.specs.Good.{IsGoodName, IsNameByte}
use Rattle.network.specs.declared.network.NetLatch.{NetLatch}
use Rattle.network.specs.Limits.{letters}
use Rattle.network.specs.NetworkData.{NetTableData, NetworkData}
use Rattle.network.specs.Networks.{IsNetTable, IsNetwork, first_table}
use Rattle.model_calls.proofs.Apart.{Across, Apart, Apart-append}
use Rattle.net_flatten.proofs.NamesKept.{apart_same}
use Rattle.net_gen.specs.Draws.{drawn}
use Rattle.net_gen.specs.Generated.{generated_latch, generated_network, generated_table, input_of, latch_count, numbered_names, reach, draw_state_before, table_signal}

-- names of a letter and a number are good

digit_is_name_byte : (d : ℕ) → d < 10 → IsNameByte (48 + d)
digit_is_name_byte d low = (omega arith, (λ e. omega (arith, e, low)), λ e. omega (arith, e))

decimal_is_name : (n : ℕ) → n < 2 ^ 64 → All IsNameByte (decimal n)
decimal_is_name n low =
    decimal_by_steps (λ n ds. All IsNameByte ds)
    (λ n few. All-cons IsNameByte (48 + n) [] (digit_is_name_byte n few) (All-nil IsNameByte))
    (λ n ds many front. All-push IsNameByte ds (48 + n % 10) front (digit_is_name_byte (n % 10) (omega arith)))
    n low

names_are_good : (letter : ℕ) → IsNameByte letter → (a n : ℕ) → a + n ≤ 2 ^ 64 → AllByRecursion IsGoodName (map (λ number. letter ∷ decimal number) (range_with_len a n))
names_are_good letter is a zero few = tt
names_are_good letter is a (suc n) few = (
  record { some = λ e. absurd cc; bytes = All-cons IsNameByte letter (decimal a) is (decimal_is_name a (omega (arith, few))) },
  names_are_good letter is (a + 1) n (omega (arith, few)),
)

-- and differ

later_differ : (letter j a n : ℕ) → j < a → a + n ≤ 2 ^ 64 → AllByRecursion (λ y. letter ∷ decimal j ≢ y) (map (λ number. letter ∷ decimal number) (range_with_len a n))
later_differ letter j a zero l few = tt
later_differ letter j a (suc n) l few = (
  (λ e. omega (arith, l, decimal_injective j a (omega (arith, l, few)) (omega (arith, few)) (tail_same e))),
  later_differ letter j (a + 1) n (omega (arith, l)) (omega (arith, few)),
)

names_apart : (letter a n : ℕ) → a + n ≤ 2 ^ 64 → Apart (map (λ number. letter ∷ decimal number) (range_with_len a n))
names_apart letter a zero few = tt
names_apart letter a (suc n) few = (later_differ letter a (a + 1) n (omega arith) (omega (arith, few)), names_apart letter (a + 1) n (omega (arith, few)))

across_letters : (x y : ℕ) → x ≢ y → (ns ms : List ℕ) → Across (map (λ number. x ∷ decimal number) ns) (map (λ number. y ∷ decimal number) ms)
across_letters x y other ns ms =
    AllByRecursion-map (λ w. AllByRecursion (λ v. w ≢ v) (map (λ number. y ∷ decimal number) ms)) (λ number. x ∷ decimal number) ns
    (AllByRecursion-every (λ n. AllByRecursion (λ v. x ∷ decimal n ≢ v) (map (λ number. y ∷ decimal number) ms))
    (λ n. AllByRecursion-map (λ v. x ∷ decimal n ≢ v) (λ number. y ∷ decimal number) ms
    (AllByRecursion-every (λ m. x ∷ decimal n ≢ y ∷ decimal m) (λ m e. other (head_same e)) ms)) ns)

across_both : {X : Type 0} (xs ys zs : List X) → Across xs ys → Across xs zs → Across xs (ys ++ zs)
across_both [] ys zs a b = tt
across_both (x ∷ xs) ys zs a b = (AllByRecursion-append (λ y. x ≢ y) ys zs a.0 b.0, across_both xs ys zs a.1 b.1)

-- rows of signals

later_signals : (tables j a n : ℕ) → j < a → AllByRecursion (λ y. nat_eq (table_signal tables j) y ≡ false) (map (table_signal tables) (range_with_len a n))
later_signals tables j a zero l = tt
later_signals tables j a (suc n) l = (ne_eqb (table_signal tables j) (table_signal tables a) (λ e. omega (arith, e, l)), later_signals tables j (a + 1) n (omega (arith, l)))

signals_apart : (tables a n : ℕ) → IsDistinct nat_eq (map (table_signal tables) (range_with_len a n))
unfolding IsDistinct
signals_apart tables a zero = tt
signals_apart tables a (suc n) = (later_signals tables a (a + 1) n (omega arith), signals_apart tables (a + 1) n)

signals_below : (tables below a n : ℕ) → table_signal tables (a + n) ≤ below → AllByRecursion (λ s. s < below) (map (table_signal tables) (range_with_len a n))
signals_below tables below a zero l = tt
signals_below tables below a (suc n) l = (omega (arith, l), signals_below tables below (a + 1) n (omega (arith, l)))

latches_below : (tables below a n : ℕ) → table_signal tables (16 * (a + n)) ≤ below → AllByRecursion (λ (l : NetLatch). l.input < below) (map (generated_latch tables) (range_with_len a n))
latches_below tables below a zero l = tt
latches_below tables below a (suc n) l = (omega (arith, l), latches_below tables below (a + 1) n (omega (arith, l)))

-- tables

input_is_low : (signals draw k below : ℕ) → 1 ≤ signals → signals ≡ below → input_of signals draw k < below
input_is_low signals draw k below some same = omega (arith, some, same)

table_fits : (seed tables k below : ℕ) → table_signal tables k ≡ below → IsNetTable below (generated_table seed tables k)
table_fits seed tables k below same = record {
  inputs = All-from_recursion (λ s. s < below) (generated_table seed tables k).inputs (input 0, (input 1, (input 2, tt)));
  few_inputs = let three : length (generated_table seed tables k).inputs ≡ 3 = refl in omega (arith, three);
  rows = All-from_recursion (λ row. length row ≡ 3) (generated_table seed tables k).rows (refl, (refl, tt));
  on = λ e. absurd cc;
}
  where
    input : (j : ℕ) → input_of (table_signal tables k) (drawn (draw_state_before seed k) j (reach (table_signal tables k))) j < below
    input j = input_is_low (table_signal tables k) (drawn (draw_state_before seed k) j (reach (table_signal tables k))) j below (omega arith) same

-- an element of a row of numbers
row_at : {X : Type 0} (f : ℕ → X) (n k : ℕ) (x : X) → slice_get (map f (range_with_len 0 n)) k ≡ Some x → f k ≡ x
row_at f n k x at =
    let lt = slice_get_within (map f (range_with_len 0 n)) k x at in
    sym (get_or-map-range_with_len f 0 n k k x (omega (arith, lt, length-map-range_with_len f 0 n)) (omega arith)) ∙ get_or_from_slice_get (map f (range_with_len 0 n)) k x x at

letters_of_tables : (seed tables : ℕ) (ks : List ℕ) → sum_by (λ (t : NetTableData). letters (length t.inputs) t.rows) (map (generated_table seed tables) ks) ≡ 12 * length ks
letters_of_tables seed tables [] = refl
letters_of_tables seed tables (k ∷ ks) =
    let one : letters (length (generated_table seed tables k).inputs) (generated_table seed tables k).rows ≡ 12 = refl in
    omega (arith, sum_by-cons (λ (t : NetTableData). letters (length t.inputs) t.rows) (generated_table seed tables k) (map (generated_table seed tables) ks), one, letters_of_tables seed tables ks)

module _ (seed tables : ℕ) (some : 1 ≤ tables) (few : tables ≤ 30000) where
  abbrev n : NetworkData
  n = generated_network seed tables

  abbrev a_names : List (List ℕ)
  a_names = numbered_names (codes "a") 16

  abbrev q_names : List (List ℕ)
  q_names = numbered_names (codes "q") (latch_count tables)

  abbrev t_names : List (List ℕ)
  t_names = numbered_names (codes "t") tables

  good_names : AllByRecursion IsGoodName (a_names ++ q_names ++ t_names)
  good_names = AllByRecursion-append IsGoodName (a_names ++ q_names) t_names
      (AllByRecursion-append IsGoodName a_names q_names
      (names_are_good 97 (omega arith, (λ e. omega (arith, e)), λ e. omega (arith, e)) 0 16 (omega arith))
      (names_are_good 113 (omega arith, (λ e. omega (arith, e)), λ e. omega (arith, e)) 0 (latch_count tables) (omega (arith, few))))
      (names_are_good 116 (omega arith, (λ e. omega (arith, e)), λ e. omega (arith, e)) 0 tables (omega (arith, few)))

  apart_names : Apart (a_names ++ q_names ++ t_names)
  apart_names =
      Apart-append (a_names ++ q_names) t_names
      (Apart-append a_names q_names (names_apart 97 0 16 (omega arith)) (names_apart 113 0 (latch_count tables) (omega (arith, few)))
      (across_letters 97 113 (λ e. omega (arith, e)) (range_with_len 0 16) (range_with_len 0 (latch_count tables))))
      (names_apart 116 0 tables (omega (arith, few)))
      (AllByRecursion-append (λ x. AllByRecursion (λ y. x ≢ y) t_names) a_names q_names
      (across_letters 97 116 (λ e. omega (arith, e)) (range_with_len 0 16) (range_with_len 0 tables))
      (across_letters 113 116 (λ e. omega (arith, e)) (range_with_len 0 (latch_count tables)) (range_with_len 0 tables)))

  names_count : length (a_names ++ q_names ++ t_names) ≡ 16 + latch_count tables + tables
  names_count = omega (
    arith,
    length-append (a_names ++ q_names) t_names,
    length-append a_names q_names,
    length-map-range_with_len (λ number. codes "a" ++ decimal number) 0 16,
    length-map-range_with_len (λ number. codes "q" ++ decimal number) 0 (latch_count tables),
    length-map-range_with_len (λ number. codes "t" ++ decimal number) 0 tables,
  )

  latches_count : length n.latches ≡ latch_count tables
  latches_count = length-map-range_with_len (generated_latch tables) 0 (latch_count tables)

  tables_count : length n.tables ≡ tables
  tables_count = length-map-range_with_len (generated_table seed tables) 0 tables

  outputs_count : length n.outputs ≡ min tables 16
  outputs_count = length-map-range_with_len (table_signal tables) (tables - 16) (min tables 16)

  pub generated_is : IsNetwork n
  generated_is = record {
    name = record {
      some = λ e. absurd cc;
      bytes = All-from_recursion IsNameByte n.name (
        (omega arith, (λ e. omega (arith, e)), λ e. omega (arith, e)),
        (
          (omega arith, (λ e. omega (arith, e)), λ e. omega (arith, e)),
          ((omega arith, (λ e. omega (arith, e)), λ e. omega (arith, e)), tt),
        ),
      );
    };
    names = All-from_recursion IsGoodName n.names good_names;
    apart = apart_same n.names apart_names;
    count = omega (arith, names_count, latches_count, tables_count);
    tables = λ k t at. subst (IsNetTable (first_table n + k)) (row_at (generated_table seed tables) tables k t at)
        (table_fits seed tables k (first_table n + k) (omega (arith, latches_count)));
    latches = All-from_recursion (λ (l : NetLatch). l.input < length n.names) n.latches
        (latches_below tables (length n.names) 0 (latch_count tables) (omega (arith, names_count)));
    outputs = All-from_recursion (λ s. s < length n.names) n.outputs
        (signals_below tables (length n.names) (tables - 16) (min tables 16) (omega (arith, names_count)));
    outputs_apart = signals_apart tables (tables - 16) (min tables 16);
    few_signals = omega (arith, names_count, few);
    few_letters = omega (arith, letters_of_tables seed tables (range_with_len 0 tables), length-range_with_len 0 tables, few);
    few_sinks = omega (arith, outputs_count, latches_count, few);
  }
