-- Where a file has nothing to be refused for, its signals have levels.
use Rattle.std.proofs.Common.{◌≡◌, ℕ, ◌⊎◌, ◌+◌, inl, inr, List, [], ◌∷◌, map, max, All, Some, refl, ap, sym, ◌∙◌, subst, arith}
use Rattle.std.specs.Prelude.{Contains}
use Rattle.std.specs.List.{AllByRecursion, fold}
use Rattle.std.proofs.lemmas.List.Elements.{All-from_recursion}
use Rattle.dom_base.proofs.Lists.{AllByRecursion-contains, AllByRecursion-weaker, Contains-slice_get, slice_get-contained}
use Rattle.blif_ast.specs.BlifFileData.{BlifFileData}
use Rattle.model_calls.specs.declared.fault.FlatKind.TheVariants.{Cycle}
use Rattle.model_calls.specs.Ends.{End, end_at, inputs_of, main_inputs, output_of, state_of}
use Rattle.model_calls.specs.Expanded.{LatchPart, PlacedLatch, PlacedPart, PlacedTable, TablePart, expanded, latches, part_latch, part_table, tables}
use Rattle.model_calls.specs.Numbering.{IsLevelling}
use Rattle.model_calls.specs.Occurrences.{main_model}
use Rattle.model_calls.specs.Reaches.{Reaches, more, step}
use Rattle.model_calls.specs.Refusal.{At, Refusal}
use Rattle.model_calls.specs.Refusals.{HasRefusal}
use Rattle.model_calls.specs.SignalFaults.{IsFedBy, IsOnCycle}
use Rattle.model_calls.specs.Signals.{Signal, signal_of}
use Rattle.model_calls.proofs.Apart.{ApartBy}
use Rattle.model_calls.proofs.Drivers.{driven, mains_apart, parts_apart}
use Rattle.model_calls.proofs.EachPart.{each_itself}
use Rattle.model_calls.proofs.Firsts.{none_holds}
use Rattle.model_calls.proofs.Fitting.{contains_cons}
use Rattle.network.proofs.Lists.{contains_map}
use Rattle.net_flatten.proofs.Splits.{kept_from}
use Rattle.net_flatten.proofs.TablesAlike.{part_of_table}
use Rattle.network_law.proofs.Heights.{HasEdge, height, height_elsewhere, height_of_edge}
use Rattle.network_law.proofs.Reaching.{IsFalling, ranks}
use Rattle.network_law.proofs.SameSignals.{dec_signal}

-- elements that differ by a value are one where it is the same
one_of_apart : {X Y : Type 0} (g : X → Y) (xs : List X) → ApartBy g xs
    → (x y : X) → Contains xs x → Contains xs y → g x ≡ g y → x ≡ y
one_of_apart g [] a x y (k, l, e) d same = absurd (omega (arith, l))
one_of_apart g (z ∷ zs) a x y c d same = by (one_of_apart g zs a.1 x y) (contains_cons z zs x c) (contains_cons z zs y d)
  where
    by : (Contains zs x → Contains zs y → g x ≡ g y → x ≡ y) → (z ≡ x) ⊎ Contains zs x → (z ≡ y) ⊎ Contains zs y → x ≡ y
    by rest (inl first) (inl other) = sym first ∙ other
    by rest (inl first) (inr later) = absurd (AllByRecursion-contains (λ w. g z ≡ g w → ⊥) zs y a.0 later (ap g first ∙ same))
    by rest (inr later) (inl first) = absurd (AllByRecursion-contains (λ w. g z ≡ g w → ⊥) zs x a.0 later (ap g first ∙ sym same))
    by rest (inr c) (inr d) = rest c d same

-- the part that a table or a latch of the expanded list is

pub table_placed : (f : BlifFileData) (t : PlacedTable) → Contains (tables f) t → Contains (expanded f) (TablePart t)
table_placed f t c =
    let at = slice_get-contained (tables f) t c in
    let found = kept_from part_table (expanded f) t at.0 at.1 in
    subst (Contains (expanded f)) (part_of_table found.1 t found.3) (Contains-slice_get (expanded f) found.0 found.1 found.2)

pub latch_placed : (f : BlifFileData) (l : PlacedLatch) → Contains (latches f) l → Contains (expanded f) (LatchPart l)
latch_placed f l c =
    let at = slice_get-contained (latches f) l c in
    let found = kept_from part_latch (expanded f) l at.0 at.1 in
    subst (Contains (expanded f)) (is found.1 found.3) (Contains-slice_get (expanded f) found.0 found.1 found.2)
  where
    is : (part : PlacedPart) → part_latch part ≡ Some l → part ≡ LatchPart l
    is (TablePart t) e = absurd cc
    is (LatchPart k) e = let same : k ≡ l = cc in ap LatchPart same

module _ (f : BlifFileData) (accepted : (r : Refusal) → HasRefusal f r → ⊥) where
  one_part : (p q : PlacedPart) → Contains (expanded f) p → Contains (expanded f) q → driven p ≡ driven q → p ≡ q
  one_part p q c d same = one_of_apart driven (expanded f) (parts_apart f accepted) p q c d same

  one_table : (t u : PlacedTable) → Contains (tables f) t → Contains (tables f) u → output_of t ≡ output_of u → t ≡ u
  one_table t u c d same = let one = one_part (TablePart t) (TablePart u) (table_placed f t c) (table_placed f u d) same in cc

  no_cycle : (s : Signal) → Reaches (IsFedBy f) s s → ⊥
  no_cycle s back = by back
    where
      at_table : (t : PlacedTable) → Contains (tables f) t → output_of t ≡ s → ⊥
      at_table t c is =
          let at = slice_get-contained (tables f) t c in
          none_holds (IsOnCycle f) (tables f)
          (λ u first. accepted (At Cycle u.table.line u.table.output)
          (record { element = u; first = first; line_is = refl; name_is = refl }))
          at.0 t at.1
          (subst (λ x. Reaches (IsFedBy f) x x) (sym is) back)

      by : {u : Signal} → Reaches (IsFedBy f) s u → ⊥
      by (step fed) = at_table fed.0 fed.1 fed.2
      by (more fed rest) = at_table fed.0 fed.1 fed.2

  ranked : (rank : Signal → ℕ) × IsFalling output_of inputs_of (tables f) rank
  ranked = ranks output_of inputs_of dec_signal (tables f) no_cycle

  abbrev IsOutput : Signal → Type 0
  IsOutput = HasEdge output_of inputs_of dec_signal (tables f)

  pub level : Signal → ℕ
  level = height output_of inputs_of dec_signal (tables f) ranked.0 ranked.1

  no_input : (name : List ℕ) → Contains (main_model f).inputs name → IsOutput (signal_of [] name) → ⊥
  no_input name c (t, inside, is) =
      let apart = AllByRecursion-contains (λ p. AllByRecursion (λ n. driven p ≡ signal_of [] n → ⊥) (main_model f).inputs) (expanded f)
      (TablePart t) (mains_apart f accepted) (table_placed f t inside) in
      AllByRecursion-contains (λ n. driven (TablePart t) ≡ signal_of [] n → ⊥) (main_model f).inputs name apart c is

  no_state : (l : PlacedLatch) → Contains (latches f) l → IsOutput (state_of l) → ⊥
  no_state l c (t, inside, is) = let one = one_part (TablePart t) (LatchPart l) (table_placed f t inside) (latch_placed f l c) is in cc

  zero_elsewhere : (s : Signal) → (IsOutput s → ⊥) → level s ≡ 0
  unfolding level
  zero_elsewhere s none = height_elsewhere output_of inputs_of dec_signal (tables f) ranked.0 ranked.1 s none

  above_inputs : (t : PlacedTable) → Contains (tables f) t → level (output_of t) ≡ 1 + fold max 0 (map level (inputs_of t))
  unfolding level
  above_inputs t c = height_of_edge output_of inputs_of dec_signal (tables f) ranked.0 ranked.1 one_table t c

  each : {X : Type 0} (P : X → Type 0) (xs : List X) → ((x : X) → Contains xs x → P x) → All P xs
  each P xs h = All-from_recursion P xs (AllByRecursion-weaker (Contains xs) P h xs (each_itself xs))

  zero_at_input : (e : End) → Contains (main_inputs f) e → level e.signal ≡ 0
  zero_at_input e c =
      let named = contains_map (end_at [] (main_model f).line) (main_model f).inputs e c in
      ap (λ (x : End). level x.signal) named.2 ∙ zero_elsewhere (signal_of [] named.0) (no_input named.0 named.1)

  pub levels : IsLevelling f level
  levels = record {
    inputs = each (λ (e : End). level e.signal ≡ 0) (main_inputs f) zero_at_input;
    latches_are = each (λ l. level (state_of l) ≡ 0) (latches f) (λ l c. zero_elsewhere (state_of l) (no_state l c));
    tables_are = each (λ t. level (output_of t) ≡ 1 + fold max 0 (map level (inputs_of t))) (tables f) above_inputs;
  }
