-- Two levellings of a file that has nothing to be refused for agree on all that is driven.
use Rattle.std.proofs.Common.{◌≡◌, ℕ, zero, suc, ◌<◌, ◌≤◌, ◌+◌, inl, inr, max, List, [], ◌∷◌, map, ap, sym, ◌∙◌, subst, arith}
use Rattle.std.proofs.lemmas.List.Elements.{recursion_from_All}
use Rattle.std.specs.Prelude.{Contains}
use Rattle.std.specs.List.{AllByRecursion, filter_map, flat_map, fold}
use Rattle.std.proofs.lemmas.Bool.{cases_eq}
use Rattle.dom_base.proofs.Lists.{AllByRecursion-both, AllByRecursion-contains, AllByRecursion-from_places, AllByRecursion-left, AllByRecursion-map, AllByRecursion-unmap, AllByRecursion-weaker}
use Rattle.blif_ast.specs.BlifFileData.{BlifFileData}
use Rattle.model_calls.specs.Ends.{End, drivers, end_at, inputs_of, main_inputs, main_outputs, output_of, read_ends, state_of}
use Rattle.model_calls.specs.Expanded.{PlacedPart, LatchPart, PlacedTable, TablePart, expanded, part_latch, latches, part_table, tables}
use Rattle.model_calls.specs.Numbering.{IsLevelling, by_level}
use Rattle.model_calls.specs.Occurrences.{main_model}
use Rattle.model_calls.specs.Refusal.{Refusal}
use Rattle.model_calls.specs.Refusals.{HasRefusal}
use Rattle.model_calls.specs.SignalFaults.{signals}
use Rattle.model_calls.specs.Signals.{Signal, signal_of}
use Rattle.model_calls.proofs.Apart.{in_order_same}
use Rattle.model_calls.proofs.Drivers.{driven, driver_cases, each_table, part_is_driven, readers_driven}
use Rattle.network.proofs.Lists.{each_le_greatest, each_of_flat, map_same}

-- the level of what a part drives
abbrev LevelOf : (Signal → ℕ) → PlacedPart → Type 0
LevelOf level (TablePart t) = level (output_of t) ≡ 1 + fold max 0 (map level (inputs_of t))
LevelOf level (LatchPart l) = level (state_of l) ≡ 0

levels_of_parts : (level : Signal → ℕ) (xs : List PlacedPart) → AllByRecursion (λ l. level (state_of l) ≡ 0) (filter_map part_latch xs)
    → AllByRecursion (λ t. level (output_of t) ≡ 1 + fold max 0 (map level (inputs_of t))) (filter_map part_table xs) → AllByRecursion (LevelOf level) xs
levels_of_parts level [] ls ts = tt
levels_of_parts level (TablePart t ∷ xs) ls ts = (ts.0, levels_of_parts level xs ls ts.1)
levels_of_parts level (LatchPart l ∷ xs) ls ts = (ls.0, levels_of_parts level xs ls.1 ts)

module _ (f : BlifFileData) (accepted : (r : Refusal) → HasRefusal f r → ⊥) where
  abbrev Driven : Signal → Type 0
  Driven s = Contains (signals (drivers f)) s

  level_of_part : (level : Signal → ℕ) → IsLevelling f level → (part : PlacedPart) → Contains (expanded f) part → LevelOf level part
  level_of_part level is part c = AllByRecursion-contains (LevelOf level) (expanded f) part
      (levels_of_parts level (expanded f)
      (recursion_from_All (λ l. level (state_of l) ≡ 0) (latches f) is.latches_are)
      (recursion_from_All (λ t. level (output_of t) ≡ 1 + fold max 0 (map level (inputs_of t))) (tables f) is.tables_are)) c

  level_of_main : (level : Signal → ℕ) → IsLevelling f level → (name : List ℕ) → Contains (main_model f).inputs name → level (signal_of [] name) ≡ 0
  level_of_main level is name c = AllByRecursion-contains (λ n. level (signal_of [] n) ≡ 0) (main_model f).inputs name
      (AllByRecursion-unmap (λ (e : End). level e.signal ≡ 0) (end_at [] (main_model f).line) (main_model f).inputs (recursion_from_All (λ (e : End). level e.signal ≡ 0) (main_inputs f) is.inputs)) c

  inputs_driven : (t : PlacedTable) → Contains (expanded f) (TablePart t) → AllByRecursion (λ s. (Driven s → ⊥) → ⊥) (inputs_of t)
  inputs_driven t c =
      AllByRecursion-map (λ s. (Driven s → ⊥) → ⊥) (signal_of t.path) t.table.inputs
      (AllByRecursion-unmap (λ (e : End). (Driven e.signal → ⊥) → ⊥) (end_at t.path t.table.line) t.table.inputs
      (AllByRecursion-contains (λ p. AllByRecursion (λ (e : End). (Driven e.signal → ⊥) → ⊥) (read_ends p)) (expanded f) (TablePart t)
      (each_of_flat (λ (e : End). (Driven e.signal → ⊥) → ⊥) read_ends (expanded f)
      (AllByRecursion-left (λ (e : End). (Driven e.signal → ⊥) → ⊥) (flat_map read_ends (expanded f)) (main_outputs f) (readers_driven f accepted))) c))

  module _ (l m : Signal → ℕ) (x : IsLevelling f l) (y : IsLevelling f m) where
    abbrev AgreeBelow : ℕ → Type 0
    AgreeBelow n = (s : Signal) → l s < n → Driven s → l s ≡ m s

    stable : (a b : ℕ) → ((a ≡ b → ⊥) → ⊥) → a ≡ b
    stable a b h = elim (cases_eq a b) [ inl e ↦ e | inr apart ↦ absurd (h apart) ]

    agree_table : (n : ℕ) → AgreeBelow n → (t : PlacedTable) → Contains (expanded f) (TablePart t) → l (output_of t) ≤ n → l (output_of t) ≡ m (output_of t)
    agree_table n below t c le =
        let a = level_of_part l x (TablePart t) c in
        let b = level_of_part m y (TablePart t) c in
        let small = AllByRecursion-map (λ k. k ≤ fold max 0 (map l (inputs_of t))) (λ k. k) (map l (inputs_of t)) (each_same (map l (inputs_of t)) (each_le_greatest 0 (map l (inputs_of t)))) in
        let each = AllByRecursion-both (λ s. l s ≤ fold max 0 (map l (inputs_of t))) (λ s. (Driven s → ⊥) → ⊥) (inputs_of t)
        (AllByRecursion-unmap (λ k. k ≤ fold max 0 (map l (inputs_of t))) l (inputs_of t) (each_le_greatest 0 (map l (inputs_of t)))) (inputs_driven t c) in
        let same = map_same l m (inputs_of t)
        (AllByRecursion-weaker (λ s. (l s ≤ fold max 0 (map l (inputs_of t))) × ((Driven s → ⊥) → ⊥)) (λ s. l s ≡ m s)
        (λ s h. stable (l s) (m s) (λ differ. h.1 (λ d. differ (below s (omega (arith, h.0, a, le)) d)))) (inputs_of t) each) in
        a ∙ ap (λ ks. 1 + fold max 0 ks) same ∙ sym b
      where
        each_same : (ks : List ℕ) → AllByRecursion (λ k. k ≤ fold max 0 (map l (inputs_of t))) ks → AllByRecursion (λ k. k ≤ fold max 0 (map l (inputs_of t))) ks
        each_same ks h = h

    agree_part : (n : ℕ) → AgreeBelow n → (part : PlacedPart) → Contains (expanded f) part → l (driven part) ≤ n → l (driven part) ≡ m (driven part)
    agree_part n below (TablePart t) c le = agree_table n below t c le
    agree_part n below (LatchPart k) c le = level_of_part l x (LatchPart k) c ∙ sym (level_of_part m y (LatchPart k) c)

    agree_next : (n : ℕ) → AgreeBelow n → AgreeBelow (suc n)
    agree_next n below s lt d = elim (driver_cases f accepted s d) [
      | inl main ↦ subst (λ z. l z ≡ m z) (sym main.2) (level_of_main l x main.0 main.1 ∙ sym (level_of_main m y main.0 main.1))
      | inr part ↦ subst (λ z. l z ≡ m z) (sym part.2) (agree_part n below part.0 part.1 (omega (arith, lt, ap l part.2)))
    ]

    agree : (n : ℕ) → AgreeBelow n
    agree zero = λ s lt d. absurd (omega (arith, lt))
    agree (suc n) = agree_next n (agree n)

    pub same_order : by_level l f ≡ by_level m f
    same_order = in_order_same (λ t. l (output_of t)) (λ t. m (output_of t)) (tables f)
        (each_table (λ s. l s ≡ m s) (expanded f)
        (AllByRecursion-from_places (λ p. l (driven p) ≡ m (driven p)) (expanded f) (λ k p e. agree (l (driven p) + 1) (driven p) (omega arith) (part_is_driven f accepted k p e))))
