-- Values that are put in place table by table.
use Rattle.std.proofs.Common.{◌≡◌, ℕ, ◌<◌, ◌≤◌, ◌+◌, inl, inr, Bool, true, List, ◌++◌, map, length, take, get_or, set, Some, ap, sym, ◌∙◌, subst, arith}
use Rattle.std.specs.Prelude.{◌↔◌, slice_get}
use Rattle.std.proofs.Math.Seq.{take-append_seam}
use Rattle.std.proofs.lemmas.Bool.{cases_eq}
use Rattle.std.proofs.lemmas.List.{get_or-set_other, get_or-set_same, length-set, take-set-le}
use Rattle.std.proofs.lemmas.List.Elements.{recursion_from_All}
use Rattle.std.proofs.lemmas.Option.{get_or_from_slice_get, slice_get_within}
use Rattle.dom_base.proofs.Lists.{AllByRecursion-weaker}
use Rattle.network.proofs.Lists.{map_same}
use Rattle.blif_ast.specs.TableValue.{IsOneAt}
use Rattle.network.specs.NetworkData.{NetTableData}
use Rattle.net_run.specs.RunnerData.{AreTablesFrom, AreValuesOf}
use Rattle.net_run.specs.Runs.{value_at}

-- a table holds at these values, where the first table's signal has this number
abbrev pub HoldsAt : ℕ → List Bool → ℕ → NetTableData → Type 0
HoldsAt first values k t = (value_at values (first + k) ≡ true) ↔ IsOneAt t.on t.rows (map (value_at values) t.inputs)

-- the first tables hold
pub record AreValuesUpTo (start : List Bool) (tables : List NetTableData) (values : List Bool) (k : ℕ) : Type 0 where
  pub count : length values ≡ length start + length tables
  pub begin : take (length start) values ≡ start
  pub hold : (j : ℕ) (t : NetTableData) → j < k → slice_get tables j ≡ Some t → HoldsAt (length start) values j t

pub none_yet : (start : List Bool) (tables : List NetTableData) (rest : List Bool) → length (start ++ rest) ≡ length start + length tables
    → AreValuesUpTo start tables (start ++ rest) 0
none_yet start tables rest count = record { count = count; begin = take-append_seam start rest; hold = λ j t l. absurd (omega (arith, l)) }

pub all_tables : (start : List Bool) (tables : List NetTableData) (values : List Bool) (k : ℕ) → length tables ≤ k → AreValuesUpTo start tables values k
    → AreValuesOf start tables values
all_tables start tables values k l are = record {
  count = are.count;
  begin = are.begin;
  hold = λ j t e. are.hold j t (omega (arith, l, slice_get_within tables j t e)) e;
}

module _ (start : List Bool) (tables : List NetTableData) (reads : AreTablesFrom (length start) tables) (values : List Bool) (k : ℕ) (b : Bool) where
  same_below : (s : ℕ) → s < length start + k → value_at (set values (length start + k) b) s ≡ value_at values s
  same_below s l = get_or-set_other values (length start + k) s b _ (λ e. omega (arith, l, e))

  same_inputs : (j : ℕ) (t : NetTableData) → j ≤ k → slice_get tables j ≡ Some t → map (value_at (set values (length start + k) b)) t.inputs ≡ map (value_at values) t.inputs
  same_inputs j t l e = map_same (value_at (set values (length start + k) b)) (value_at values) t.inputs
      (AllByRecursion-weaker (λ s. s < length start + j) (λ s. value_at (set values (length start + k) b) s ≡ value_at values s) (λ s lt. same_below s (omega (arith, lt, l))) t.inputs
      (recursion_from_All (λ s. s < length start + j) t.inputs (reads j t e).inputs))

  pub one_table_more : (d : NetTableData) → k < length tables → AreValuesUpTo start tables values k
      → (b ≡ true) ↔ IsOneAt (get_or tables k d).on (get_or tables k d).rows (map (value_at values) (get_or tables k d).inputs)
      → AreValuesUpTo start tables (set values (length start + k) b) (k + 1)
  one_table_more d l are is = record {
    count = length-set values (length start + k) b ∙ are.count;
    begin = take-set-le (length start) values (length start + k) b (omega arith) ∙ are.begin;
    hold = λ j t lt e. elim (cases_eq j k) [
      | inl same ↦ here j t same e
      | inr apart ↦ there j t (omega (arith, lt, apart)) e
    ];
  }
    where
      Holds : Bool → NetTableData → List Bool → Type 0
      Holds value t inputs = (value ≡ true) ↔ IsOneAt t.on t.rows inputs

      here : (j : ℕ) (t : NetTableData) → j ≡ k → slice_get tables j ≡ Some t → HoldsAt (length start) (set values (length start + k) b) j t
      here j t same e =
          let table : get_or tables k d ≡ t = ap (λ m. get_or tables m d) (sym same) ∙ get_or_from_slice_get tables j t d e in
          let value : b ≡ value_at (set values (length start + k) b) (length start + j) =
          sym (ap (λ m. value_at (set values (length start + k) b) (length start + m)) same ∙ get_or-set_same values (length start + k) b _ (omega (arith, l, are.count))) in
          subst (λ v. Holds v t (map (value_at (set values (length start + k) b)) t.inputs)) value
          (subst (Holds b t) (sym (same_inputs j t (omega (arith, same)) e))
          (subst (λ (u : NetTableData). Holds b u (map (value_at values) u.inputs)) table is))

      there : (j : ℕ) (t : NetTableData) → j < k → slice_get tables j ≡ Some t → HoldsAt (length start) (set values (length start + k) b) j t
      there j t lt e =
          subst (λ v. Holds v t (map (value_at (set values (length start + k) b)) t.inputs)) (sym (same_below (length start + j) (omega (arith, lt))))
          (subst (Holds (value_at values (length start + j)) t) (sym (same_inputs j t (omega (arith, lt)) e)) (are.hold j t lt e))
