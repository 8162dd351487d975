-- Exactly one valuation of a network for the values at its inputs and latches.
use Rattle.std.proofs.Common.{◌≡◌, ℕ, zero, suc, ◌<◌, ◌+◌, inl, inr, Bool, true, false, List, [], ◌∷◌, ◌++◌, map, length, take, drop, Some, refl, ap, sym, ◌∙◌, subst, arith, append_assoc, append-nil}
use Rattle.std.proofs.lemmas.List.Elements.{recursion_from_All}
use Rattle.std.specs.Prelude.{◌↔◌, slice_get}
use Rattle.std.specs.List.{AllByRecursion}
use Rattle.std.proofs.Math.ListN.{get_or-append}
use Rattle.std.proofs.Math.Seq.{drop-append_seam, get_or-append_seam, take-append_seam}
use Rattle.std.proofs.lemmas.List.{ext_get_or, take-append-drop, length-append}
use Rattle.std.proofs.lemmas.Bool.{cases_eq}
use Rattle.blif_ast.specs.TableValue.{IsOneAt}
use Rattle.network.specs.NetworkData.{NetTableData, NetworkData}
use Rattle.network.specs.Networks.{IsNetTable, IsNetwork, first_table}
use Rattle.network.proofs.Lists.{map_same}
use Rattle.dom_base.proofs.Lists.{AllByRecursion-weaker}
use Rattle.dom_base.proofs.Bools.{same_truth}
use Rattle.net_run.specs.Laws.{IsOneValuation}
use Rattle.net_run.specs.Runs.{IsValuation, value_at}
use Rattle.net_run.proofs.TableValues.{table_value, table_value-one}

-- the value of a table at values of the signals before it
abbrev pub value_of_table : NetTableData → List Bool → Bool
value_of_table t values = table_value t.on t.rows (map (value_at values) t.inputs)

-- the values of all signals, table by table
abbrev pub extended : List NetTableData → List Bool → List Bool
extended [] values = values
extended (t ∷ ts) values = extended ts (values ++ value_of_table t values ∷ [])

-- each table reads only signals before its own
abbrev pub ReadsBefore : ℕ → List NetTableData → Type 0
ReadsBefore n [] = Unit {0}
ReadsBefore n (t ∷ ts) = AllByRecursion (λ s. s < n) t.inputs × ReadsBefore (n + 1) ts

-- the tables have their values
abbrev pub Hold : List Bool → ℕ → List NetTableData → Type 0
Hold values n [] = Unit {0}
Hold values n (t ∷ ts) = ((value_at values n ≡ true) ↔ IsOneAt t.on t.rows (map (value_at values) t.inputs)) × Hold values (n + 1) ts

length-extended : (ts : List NetTableData) (v : List Bool) → length (extended ts v) ≡ length v + length ts
length-extended [] v = omega arith
length-extended (t ∷ ts) v = omega (arith, length-extended ts (v ++ value_of_table t v ∷ []), length-append v (value_of_table t v ∷ []))

-- what was there stays
begins : (ts : List NetTableData) (v : List Bool) → (rest : List Bool) × (extended ts v ≡ v ++ rest)
begins [] v = ([], sym (append-nil v))
begins (t ∷ ts) v = let h = begins ts (v ++ value_of_table t v ∷ []) in (value_of_table t v ∷ h.0, h.1 ∙ append_assoc v (value_of_table t v ∷ []) h.0)

keeps : (ts : List NetTableData) (v : List Bool) (s : ℕ) → s < length v → value_at (extended ts v) s ≡ value_at v s
keeps ts v s l = let h = begins ts v in ap (λ w. value_at w s) h.1 ∙ get_or-append v h.0 false s l

-- values that agree below a number give the inputs of a table the same values
inputs_same : (v w : List Bool) (n : ℕ) (t : NetTableData) → AllByRecursion (λ s. s < n) t.inputs → ((s : ℕ) → s < n → value_at v s ≡ value_at w s)
    → map (value_at v) t.inputs ≡ map (value_at w) t.inputs
inputs_same v w n t reads same = map_same (value_at v) (value_at w) t.inputs (AllByRecursion-weaker (λ s. s < n) (λ s. value_at v s ≡ value_at w s) (λ s l. same s l) t.inputs reads)

extended_hold : (ts : List NetTableData) (v : List Bool) → ReadsBefore (length v) ts → Hold (extended ts v) (length v) ts
extended_hold [] v reads = tt
extended_hold (t ∷ ts) v reads =
    let b = value_of_table t v in
    let more = v ++ b ∷ [] in
    let count : length more ≡ length v + 1 = length-append v (b ∷ []) in
    let here : value_at (extended ts more) (length v) ≡ b = keeps ts more (length v) (omega (arith, count)) ∙ get_or-append_seam v b [] false in
    let ins : map (value_at (extended ts more)) t.inputs ≡ map (value_at v) t.inputs =
    inputs_same (extended ts more) v (length v) t reads.0 (λ s l. keeps ts more s (omega (arith, l, count)) ∙ get_or-append v (b ∷ []) false s l) in
    let one = table_value-one t.on t.rows (map (value_at v) t.inputs) in (
      (
        λ e. subst (IsOneAt t.on t.rows) (sym ins) (one.0 (sym here ∙ e)),
        λ is. here ∙ one.1 (subst (IsOneAt t.on t.rows) ins is),
      ),
      subst (λ n. Hold (extended ts more) n ts) count (extended_hold ts more (subst (λ n. ReadsBefore n ts) (sym count) reads.1)),
    )

-- other values that hold agree
agree : (ts : List NetTableData) (v w : List Bool) → ReadsBefore (length v) ts → ((s : ℕ) → s < length v → value_at w s ≡ value_at v s) → Hold w (length v) ts
    → (s : ℕ) → s < length v + length ts → value_at w s ≡ value_at (extended ts v) s
agree [] v w reads same hold = λ s l. same s (omega (arith, l))
agree (t ∷ ts) v w reads same hold =
    let b = value_of_table t v in
    let more = v ++ b ∷ [] in
    let count : length more ≡ length v + 1 = length-append v (b ∷ []) in
    let ins : map (value_at w) t.inputs ≡ map (value_at v) t.inputs = inputs_same w v (length v) t reads.0 same in
    let one = table_value-one t.on t.rows (map (value_at v) t.inputs) in
    let here : value_at w (length v) ≡ b = same_truth (value_at w (length v)) b
    (λ e. one.1 (subst (IsOneAt t.on t.rows) ins (hold.0.0 e))) (λ e. hold.0.1 (subst (IsOneAt t.on t.rows) (sym ins) (one.0 e))) in
    λ s l. agree ts more w (subst (λ n. ReadsBefore n ts) (sym count) reads.1)
    (λ k lt. elim (cases_eq k (length v)) [
      | inl is ↦ ap (value_at w) is ∙ here ∙ sym (ap (value_at more) is ∙ get_or-append_seam v b [] false)
      | inr apart ↦ same k (omega (arith, lt, count, apart)) ∙ sym (get_or-append v (b ∷ []) false k (omega (arith, lt, count, apart)))
    ])
    (subst (λ n. Hold w n ts) (sym count) hold.1) s (omega (arith, l, count))

-- between the two forms

reads_before : (n : ℕ) (ts : List NetTableData) → ((k : ℕ) (t : NetTableData) → slice_get ts k ≡ Some t → IsNetTable (n + k) t) → ReadsBefore n ts
reads_before n [] h = tt
reads_before n (t ∷ ts) h = (
  AllByRecursion-weaker (λ s. s < n + 0) (λ s. s < n) (λ s l. omega (arith, l)) t.inputs (recursion_from_All (λ s. s < n + 0) t.inputs (h 0 t refl).inputs),
  reads_before (n + 1) ts (λ k u e. subst (λ m. IsNetTable m u) (let z : n + suc k ≡ n + 1 + k = omega arith in z) (h (suc k) u e)),
)

module _ (values : List Bool) where
  abbrev HoldAt : ℕ → List NetTableData → Type 0
  HoldAt n ts = (k : ℕ) (t : NetTableData) → slice_get ts k ≡ Some t → (value_at values (n + k) ≡ true) ↔ IsOneAt t.on t.rows (map (value_at values) t.inputs)

  hold_from : (n : ℕ) (ts : List NetTableData) → HoldAt n ts → Hold values n ts
  hold_from n [] h = tt
  hold_from n (t ∷ ts) h = (
    subst (λ m. (value_at values m ≡ true) ↔ IsOneAt t.on t.rows (map (value_at values) t.inputs)) (let z : n + 0 ≡ n = omega arith in z) (h 0 t refl),
    hold_from (n + 1) ts (λ k u e. subst (λ m. (value_at values m ≡ true) ↔ IsOneAt u.on u.rows (map (value_at values) u.inputs)) (let z : n + suc k ≡ n + 1 + k = omega arith in z) (h (suc k) u e)),
  )

  hold_at : (n : ℕ) (ts : List NetTableData) → Hold values n ts → HoldAt n ts
  hold_at n [] h k u e = absurd cc
  hold_at n (t ∷ ts) h zero u e = let i : t ≡ u = cc in
      subst (λ (w : NetTableData). (value_at values (n + 0) ≡ true) ↔ IsOneAt w.on w.rows (map (value_at values) w.inputs)) i
      (subst (λ m. (value_at values m ≡ true) ↔ IsOneAt t.on t.rows (map (value_at values) t.inputs)) (let z : n ≡ n + 0 = omega arith in z) h.0)
  hold_at n (t ∷ ts) h (suc k) u e =
      subst (λ m. (value_at values m ≡ true) ↔ IsOneAt u.on u.rows (map (value_at values) u.inputs)) (let z : n + 1 + k ≡ n + suc k = omega arith in z) (hold_at (n + 1) ts h.1 k u e)

-- values that begin with those of the inputs and latches
starts : (n : NetworkData) (pins state w : List Bool) → take n.inputs w ≡ pins → take (length n.latches) (drop n.inputs w) ≡ state
    → (rest : List Bool) × (w ≡ pins ++ state ++ rest)
starts n pins state w p q = (
  drop (length n.latches) (drop n.inputs w),
  sym (take-append-drop n.inputs w) ∙ ap (λ l. l ++ drop n.inputs w) p
      ∙ ap (λ l. pins ++ l) (sym (take-append-drop (length n.latches) (drop n.inputs w)) ∙ ap (λ l. l ++ drop (length n.latches) (drop n.inputs w)) q)
      ∙ sym (append_assoc pins state (drop (length n.latches) (drop n.inputs w))),
)

pub one_valuation : (n : NetworkData) (pins state : List Bool) → IsNetwork n → length pins ≡ n.inputs → length state ≡ length n.latches
    → (values : List Bool) × IsOneValuation n pins state values
one_valuation n pins state is p q = (extended n.tables (pins ++ state), record { is_valuation = valuation; only = only })
  where
    count : length (pins ++ state) ≡ first_table n
    count = omega (arith, length-append pins state, p, q)

    reads : ReadsBefore (length (pins ++ state)) n.tables
    reads = reads_before (length (pins ++ state)) n.tables (λ k t e. subst (λ m. IsNetTable (m + k) t) (sym count) (is.tables k t e))

    begun : (rest : List Bool) × (extended n.tables (pins ++ state) ≡ pins ++ (state ++ rest))
    begun = let h = begins n.tables (pins ++ state) in (h.0, h.1 ∙ append_assoc pins state h.0)

    valuation : IsValuation n pins state (extended n.tables (pins ++ state))
    valuation = record {
      count = omega (arith, length-extended n.tables (pins ++ state), count, is.count);
      inputs = ap (take n.inputs) begun.1 ∙ ap (λ m. take m (pins ++ (state ++ begun.0))) (sym p) ∙ take-append_seam pins (state ++ begun.0);
      latches =
          ap (λ w. take (length n.latches) (drop n.inputs w)) begun.1
          ∙ ap (λ m. take (length n.latches) (drop m (pins ++ (state ++ begun.0)))) (sym p)
          ∙ ap (take (length n.latches)) (drop-append_seam pins (state ++ begun.0))
          ∙ ap (λ m. take m (state ++ begun.0)) (sym q) ∙ take-append_seam state begun.0;
      tables = subst (λ m. HoldAt (extended n.tables (pins ++ state)) m n.tables) count
          (hold_at (extended n.tables (pins ++ state)) (length (pins ++ state)) n.tables (extended_hold n.tables (pins ++ state) reads));
    }

    only : (other : List Bool) → IsValuation n pins state other → other ≡ extended n.tables (pins ++ state)
    only other v =
        let begin = starts n pins state other v.inputs v.latches in
        let hold : Hold other (length (pins ++ state)) n.tables =
        hold_from other (length (pins ++ state)) n.tables (subst (λ m. HoldAt other m n.tables) (sym count) v.tables) in
        ext_get_or false other (extended n.tables (pins ++ state)) (omega (arith, v.count, is.count, length-extended n.tables (pins ++ state), count))
        (λ i l. agree n.tables (pins ++ state) other reads
        (λ s lt. ap (λ w. value_at w s) begin.1 ∙ get_or-append (pins ++ state) begin.0 false s lt)
        hold i (omega (arith, l, v.count, is.count, count)))
