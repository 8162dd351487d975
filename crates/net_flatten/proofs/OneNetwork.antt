-- A file has at most one network.
use Rattle.std.proofs.Common.{◌≡◌, ℕ, List, [], ◌∷◌, map, Some, refl, ap, sym, ◌∙◌, subst, arith}
use Rattle.std.specs.Prelude.{slice_get}
use Rattle.blif_ast.specs.BlifFileData.{BlifFileData}
use Rattle.network.specs.declared.network.NetLatch.{NetLatch}
use Rattle.model_calls.specs.Ends.{inputs_of, next_of, output_of}
use Rattle.model_calls.specs.Expanded.{PlacedLatch, PlacedTable, latches}
use Rattle.net_flatten.specs.Flattening.{IsNetworkBy, IsNetworkOf, LatchBySignals, TableBySignals, numbered_latch, numbered_table, placed_latch, placed_table}
use Rattle.network.specs.NetworkData.{NetTableData, NetworkData}
use Rattle.model_calls.specs.Numbering.{by_level, letters_w, names_by_number, signals_by_number}
use Rattle.model_calls.specs.Occurrences.{main_model}
use Rattle.model_calls.specs.Signals.{Signal, signal_of}
use Rattle.model_calls.proofs.Apart.{Apart, place_once}
use Rattle.model_calls.proofs.Drivers.{numbered_apart}
use Rattle.net_flatten.proofs.Levels.{same_order}

module _ (all : List Signal) (apart : Apart all) where
  -- numbers that stand for the same signals
  numbers_once : {X : Type 0} (g : X → Signal) (xs ys : List ℕ) (ts : List X)
      → map (slice_get all) xs ≡ map (λ t. Some (g t)) ts → map (slice_get all) ys ≡ map (λ t. Some (g t)) ts → xs ≡ ys
  numbers_once g [] [] ts e d = refl
  numbers_once g [] (y ∷ ys) [] e d = absurd cc
  numbers_once g [] (y ∷ ys) (t ∷ ts) e d = absurd cc
  numbers_once g (x ∷ xs) [] [] e d = absurd cc
  numbers_once g (x ∷ xs) [] (t ∷ ts) e d = absurd cc
  numbers_once g (x ∷ xs) (y ∷ ys) [] e d = absurd cc
  numbers_once g (x ∷ xs) (y ∷ ys) (t ∷ ts) e d =
      let a : slice_get all x ≡ Some (g t) = cc in
      let b : slice_get all y ≡ Some (g t) = cc in
      let more : map (slice_get all) xs ≡ map (λ u. Some (g u)) ts = cc in
      let rest : map (slice_get all) ys ≡ map (λ u. Some (g u)) ts = cc in
      let first = place_once all x y (g t) apart a b in
      let others = numbers_once g xs ys ts more rest in
      cc

  latch_once : (l m : NetLatch) (p : PlacedLatch) → numbered_latch all l ≡ placed_latch p → numbered_latch all m ≡ placed_latch p → l ≡ m
  latch_once l m p e d =
      let number = place_once all l.input m.input (next_of p) apart (ap (λ (b : LatchBySignals). b.input) e) (ap (λ (b : LatchBySignals). b.input) d) in
      let start = ap (λ (b : LatchBySignals). b.init) e ∙ sym (ap (λ (b : LatchBySignals). b.init) d) in
      λ i. record { input = number i; init = start i }

  table_once : (t u : NetTableData) (p : PlacedTable) → numbered_table all t ≡ placed_table p → numbered_table all u ≡ placed_table p → t ≡ u
  table_once t u p e d =
      let numbers = numbers_once (λ s. s) t.inputs u.inputs (inputs_of p) (ap (λ (b : TableBySignals). b.inputs) e) (ap (λ (b : TableBySignals). b.inputs) d) in
      let on = ap (λ (b : TableBySignals). b.on) e ∙ sym (ap (λ (b : TableBySignals). b.on) d) in
      let rows = ap (λ (b : TableBySignals). b.rows) e ∙ sym (ap (λ (b : TableBySignals). b.rows) d) in
      λ i. record { inputs = numbers i; on = on i; rows = rows i }

-- lists that are taken to one list, where each element is decided by what it is taken to
lists_once : {X Y Z : Type 0} (g : X → Z) (h : Y → Z) → ((x y : X) (t : Y) → g x ≡ h t → g y ≡ h t → x ≡ y)
    → (xs ys : List X) (ts : List Y) → map g xs ≡ map h ts → map g ys ≡ map h ts → xs ≡ ys
lists_once g h once [] [] ts e d = refl
lists_once g h once [] (y ∷ ys) [] e d = absurd cc
lists_once g h once [] (y ∷ ys) (t ∷ ts) e d = absurd cc
lists_once g h once (x ∷ xs) [] [] e d = absurd cc
lists_once g h once (x ∷ xs) [] (t ∷ ts) e d = absurd cc
lists_once g h once (x ∷ xs) (y ∷ ys) [] e d = absurd cc
lists_once g h once (x ∷ xs) (y ∷ ys) (t ∷ ts) e d =
    let a : g x ≡ h t = cc in
    let b : g y ≡ h t = cc in
    let more : map g xs ≡ map h ts = cc in
    let rest : map g ys ≡ map h ts = cc in
    let first = once x y t a b in
    let others = lists_once g h once xs ys ts more rest in
    cc

-- networks by the same signals
by_once : (f : BlifFileData) (level : Signal → ℕ) (width : ℕ) → Apart (signals_by_number f (by_level level f)) → (n m : NetworkData)
    → IsNetworkBy f level width n → IsNetworkBy f level width m → n ≡ m
by_once f level width apart n m x y =
    let name = x.name_is ∙ sym y.name_is in
    let names = x.names_are ∙ sym y.names_are in
    let inputs = x.inputs_are ∙ sym y.inputs_are in
    let outputs = numbers_once (signals_by_number f (by_level level f)) apart (signal_of []) n.outputs m.outputs (main_model f).outputs x.outputs_are y.outputs_are in
    let latches = lists_once (numbered_latch (signals_by_number f (by_level level f))) placed_latch (latch_once (signals_by_number f (by_level level f)) apart)
    n.latches m.latches (latches f) x.latches_are y.latches_are in
    let tables = lists_once (numbered_table (signals_by_number f (by_level level f))) placed_table (table_once (signals_by_number f (by_level level f)) apart)
    n.tables m.tables (by_level level f) x.tables_are y.tables_are in
    λ i. record { name = name i; names = names i; inputs = inputs i; outputs = outputs i; latches = latches i; tables = tables i }

-- a network by other levels that put the tables in the same order
by_order : (f : BlifFileData) (level other : Signal → ℕ) (width : ℕ) (n : NetworkData) → by_level level f ≡ by_level other f → IsNetworkBy f level width n → IsNetworkBy f other width n
by_order f level other width n same x = record {
  name_is = x.name_is;
  names_are = subst (λ o. n.names ≡ names_by_number (letters_w width) (signals_by_number f o)) same x.names_are;
  inputs_are = x.inputs_are;
  outputs_are = subst (λ o. map (slice_get (signals_by_number f o)) n.outputs ≡ map (λ name. Some (signal_of [] name)) (main_model f).outputs) same x.outputs_are;
  latches_are = subst (λ o. map (numbered_latch (signals_by_number f o)) n.latches ≡ map placed_latch (latches f)) same x.latches_are;
  tables_are = subst (λ o. map (numbered_table (signals_by_number f o)) n.tables ≡ map placed_table o) same x.tables_are;
}

pub network_once : (f : BlifFileData) (n other : NetworkData) → IsNetworkOf f n → IsNetworkOf f other → n ≡ other
network_once f n other x y =
    let order = same_order f x.accepted x.level y.level x.levels y.levels in
    let width : x.width ≡ y.width = omega (arith, x.prefix.least y.width y.prefix.is_free, y.prefix.least x.width x.prefix.is_free) in
    by_once f y.level y.width (numbered_apart f y.accepted (λ t. y.level (output_of t))) n other
    (by_order f x.level y.level y.width n order (subst (λ w. IsNetworkBy f x.level w n) width x.network)) y.network
