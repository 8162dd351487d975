-- The file of one model of a network: it is good.
use Rattle.std.proofs.Common.{◌≡◌, ℕ, ◌<◌, ◌≤◌, ◌+◌, Bool, true, false, List, [], ◌∷◌, ◌++◌, map, length, take, Some, ap, sym, ◌∙◌, subst, arith, ne_eqb}
use Rattle.std.specs.Prelude.{◌≢◌, All, nat_eq, slice_get, if◌then◌else◌}
use Rattle.std.specs.List.{AllByRecursion, IsDistinct, enumerate_from}
use Rattle.std.proofs.lemmas.Cmp.{nat_list_eq_equiv}
use Rattle.std.proofs.lemmas.List.{length-map}
use Rattle.std.proofs.lemmas.List.Elements.{All-from_recursion, recursion_from_All}
use Rattle.std.proofs.lemmas.Option.{slice_get-get_or, slice_get_within}
use Rattle.dom_base.proofs.Lists.{AllByRecursion-contains, AllByRecursion-every, AllByRecursion-map, AllByRecursion-take, AllByRecursion-weaker, Contains-slice_get}
use Rattle.blif_ast.specs.Cards.{same}
use Rattle.blif_ast.specs.Good.{IsGoodFile, IsGoodInstance, IsGoodLatch, IsGoodModel, IsGoodName, IsGoodTable, part_lines}
use Rattle.blif_ast.specs.declared.latch.Latch.{Latch}
use Rattle.blif_ast.specs.TableData.{TableData}
use Rattle.network.specs.declared.network.NetLatch.{NetLatch}
use Rattle.network.specs.NetworkData.{NetTableData, NetworkData}
use Rattle.network.specs.Networks.{IsNetwork, first_table}
use Rattle.net_flatten.specs.OneModel.{file_of, latch_at, name_at, table_at}
use Rattle.model_calls.specs.Occurrences.{main_model}
use Rattle.model_calls.proofs.Apart.{Apart, Apart-append, place_once}
use Rattle.net_flatten.specs.OneModelParts.{latches_here, tables_here}
use Rattle.part_numbers.proofs.Ranges.{each_enumerated, enumerated_row, map_map, row_apart, row_bounds}
use Rattle.part_numbers.specs.Ranges.{row}

distinct_apart : (names : List (List ℕ)) → IsDistinct same names → Apart names
unfolding IsDistinct
distinct_apart [] d = tt
distinct_apart (x ∷ xs) d = (AllByRecursion-weaker (λ y. same x y ≡ false) (λ y. x ≢ y) (λ y f e. by y f e) xs d.0, distinct_apart xs d.1)
  where
    by : (y : List ℕ) → same x y ≡ false → x ≢ y
    by y f e = let z : true ≡ false = sym (nat_list_eq_equiv.refl x) ∙ ap (same x) e ∙ f in absurd cc

pub apart_numbers : (xs : List ℕ) → Apart xs → IsDistinct nat_eq xs
unfolding IsDistinct
apart_numbers [] a = tt
apart_numbers (x ∷ xs) a = (AllByRecursion-weaker (λ y. x ≢ y) (λ y. nat_eq x y ≡ false) (λ y h. ne_eqb x y h) xs a.0, apart_numbers xs a.1)

module _ (n : NetworkData) (is : IsNetwork n) where
  pub good_at : (k : ℕ) → k < length n.names → IsGoodName (name_at n k)
  good_at k l = is.names k [] l

  pub names_apart : Apart n.names
  names_apart = distinct_apart n.names is.apart

  pub name_once : (j k : ℕ) → j < length n.names → k < length n.names → name_at n j ≡ name_at n k → j ≡ k
  name_once j k a b e = place_once n.names j k (name_at n j) names_apart (slice_get-get_or n.names j [] a) (slice_get-get_or n.names k [] b ∙ ap Some (sym e))

  pub table_number : (k : ℕ) (t : NetTableData) → slice_get n.tables k ≡ Some t → first_table n + k < length n.names
  table_number k t e = omega (arith, slice_get_within n.tables k t e, is.count)

  pub latch_number : (k : ℕ) (l : NetLatch) → slice_get n.latches k ≡ Some l → n.inputs + k < first_table n
  latch_number k l e = omega (arith, slice_get_within n.latches k l e)

  good_table : (k : ℕ) (t : NetTableData) → slice_get n.tables k ≡ Some t → IsGoodTable (table_at n k t)
  good_table k t e = let g = is.tables k t e in let w = length-map t.inputs (name_at n) in record {
    inputs = All-from_recursion IsGoodName (map (name_at n) t.inputs)
        (AllByRecursion-map IsGoodName (name_at n) t.inputs
        (AllByRecursion-weaker (λ s. s < first_table n + k) (λ s. IsGoodName (name_at n s)) (λ s l. good_at s (omega (arith, l, table_number k t e))) t.inputs (recursion_from_All (λ s. s < first_table n + k) t.inputs g.inputs)));
    output = good_at (first_table n + k) (table_number k t e);
    few_inputs = omega (arith, g.few_inputs, w);
    rows = subst (λ m. All (λ row. length row ≡ m) t.rows) (sym w) g.rows;
    on = g.on;
  }

  good_latch : (k : ℕ) (l : NetLatch) → slice_get n.latches k ≡ Some l → IsGoodLatch (latch_at n k l)
  good_latch k l e = record {
    input = good_at l.input (AllByRecursion-contains (λ (m : NetLatch). m.input < length n.names) n.latches l (recursion_from_All (λ (m : NetLatch). m.input < length n.names) n.latches is.latches) (Contains-slice_get n.latches k l e));
    output = good_at (n.inputs + k) (omega (arith, latch_number k l e, is.count));
    control = tt;
    init = small l.init;
  }
    where
      small : (b : Bool) → (if b then 1 else 0) ≤ 3
      small true = omega arith
      small false = omega arith

  abbrev lines_here : List ℕ
  lines_here = row 2 (length n.tables) ++ row (2 + length n.tables) (length n.latches) ++ []

  lines_apart : Apart lines_here
  lines_apart = Apart-append (row 2 (length n.tables) ++ row (2 + length n.tables) (length n.latches)) []
      (Apart-append (row 2 (length n.tables)) (row (2 + length n.tables) (length n.latches)) (row_apart 2 (length n.tables)) (row_apart (2 + length n.tables) (length n.latches))
      (AllByRecursion-weaker (λ k. (2 ≤ k) × (k < 2 + length n.tables)) (λ k. AllByRecursion (λ j. k ≢ j) (row (2 + length n.tables) (length n.latches)))
      (λ k h. AllByRecursion-weaker (λ j. (2 + length n.tables ≤ j) × (j < 2 + length n.tables + length n.latches)) (λ j. k ≢ j) (λ j g e. omega (arith, h.1, g.0, e))
      (row (2 + length n.tables) (length n.latches)) (row_bounds (2 + length n.tables) (length n.latches))) (row 2 (length n.tables)) (row_bounds 2 (length n.tables))))
      tt (AllByRecursion-every (λ k. Unit {0}) (λ k. tt) (row 2 (length n.tables) ++ row (2 + length n.tables) (length n.latches)))

  pub table_lines : map (λ (t : TableData). t.line) (tables_here n) ≡ row 2 (length n.tables)
  table_lines = map_map (λ (t : TableData). t.line) (λ (p : ℕ × NetTableData). table_at n p.0 p.1) (enumerate_from 0 n.tables) ∙ enumerated_row 2 0 n.tables

  pub latch_lines : map (λ (l : Latch). l.line) (latches_here n) ≡ row (2 + length n.tables) (length n.latches)
  latch_lines = map_map (λ (l : Latch). l.line) (λ (p : ℕ × NetLatch). latch_at n p.0 p.1) (enumerate_from 0 n.latches) ∙ enumerated_row (2 + length n.tables) 0 n.latches
      ∙ ap (λ k. row k (length n.latches)) (let z : 2 + length n.tables + 0 ≡ 2 + length n.tables = omega arith in z)

  lines_are : part_lines (main_model (file_of n)) ≡ lines_here
  lines_are = ap (λ l. l ++ map (λ (k : Latch). k.line) (latches_here n) ++ []) table_lines ∙ ap (λ l. row 2 (length n.tables) ++ l ++ []) latch_lines

  pub one_good : IsGoodModel (main_model (file_of n))
  one_good = record {
    name = is.name;
    inputs = All-from_recursion IsGoodName (take n.inputs n.names) (AllByRecursion-take IsGoodName n.inputs n.names (recursion_from_All IsGoodName n.names is.names));
    outputs = All-from_recursion IsGoodName (map (name_at n) n.outputs) (AllByRecursion-map IsGoodName (name_at n) n.outputs
        (AllByRecursion-weaker (λ s. s < length n.names) (λ s. IsGoodName (name_at n s)) (λ s l. good_at s l) n.outputs (recursion_from_All (λ s. s < length n.names) n.outputs is.outputs)));
    tables = All-from_recursion IsGoodTable (tables_here n) (AllByRecursion-map IsGoodTable (λ (p : ℕ × NetTableData). table_at n p.0 p.1) (enumerate_from 0 n.tables)
        (each_enumerated (λ (p : ℕ × NetTableData). IsGoodTable (table_at n p.0 p.1)) 0 n.tables (λ k t e. subst (λ m. IsGoodTable (table_at n m t)) (let z : k ≡ 0 + k = omega arith in z) (good_table k t e))));
    latches = All-from_recursion IsGoodLatch (latches_here n) (AllByRecursion-map IsGoodLatch (λ (p : ℕ × NetLatch). latch_at n p.0 p.1) (enumerate_from 0 n.latches)
        (each_enumerated (λ (p : ℕ × NetLatch). IsGoodLatch (latch_at n p.0 p.1)) 0 n.latches (λ k l e. subst (λ m. IsGoodLatch (latch_at n m l)) (let z : k ≡ 0 + k = omega arith in z) (good_latch k l e))));
    instances = All-from_recursion IsGoodInstance [] tt;
    apart = subst (IsDistinct nat_eq) (sym lines_are) (apart_numbers lines_here lines_apart);
  }

pub good_one_model : (n : NetworkData) → IsNetwork n → IsGoodFile (file_of n)
good_one_model n is = record { some = λ e. absurd cc; models = All-from_recursion IsGoodModel (main_model (file_of n) ∷ []) (one_good n is, tt) }
