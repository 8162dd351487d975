-- Each signal that is driven is a pair of a path and a name of its model.
use Rattle.std.proofs.Common.{sym, ◌≡◌, ℕ, zero, suc, ◌⊎◌, inl, inr, List, [], ◌∷◌, ◌++◌, map, length, Option, Some, None, refl, ◌∙◌, subst, arith}
use Rattle.std.specs.Prelude.{Contains}
use Rattle.std.specs.List.{AllByRecursion, flat_map}
use Rattle.std.specs.Option.{option_map_or}
use Rattle.std.specs.Set.{distinct_count, unique_keys}
use Rattle.std.proofs.lemmas.List.{length-map}
use Rattle.std.proofs.lemmas.List.Concat.{length-flat_map}
use Rattle.std.proofs.lemmas.List.Elements.{Contains-append_cases, Contains-append_left, Contains-append_right}
use Rattle.dom_base.proofs.Lists.{AllByRecursion-contains, AllByRecursion-weaker, Contains-first, Contains-later}
use Rattle.blif_ast.specs.BlifFileData.{BlifFileData}
use Rattle.blif_ast.specs.BlifModelData.{BlifModelData}
use Rattle.blif_ast.specs.Cards.{same}
use Rattle.blif_ast.specs.Good.{IsGoodFile}
use Rattle.blif_ast.specs.declared.latch.Latch.{Latch}
use Rattle.blif_ast.specs.InstanceData.{InstanceData}
use Rattle.blif_ast.specs.TableData.{TableData}
use Rattle.model_calls.specs.Counts.{signal_count}
use Rattle.model_calls.specs.Ends.{End, drivers, driven_end, end_at, main_inputs}
use Rattle.model_calls.specs.Expanded.{BodyCard, InstanceCard, LatchCard, PlacedPart, TableCard, ordered_cards, expanded, expanded_from, parts_of_card}
use Rattle.model_calls.specs.Occurrences.{Occurrence, actuals_of, first_model, main_model, models_called, names_of, names_of_latch, names_of_table, occurrences_from, occurrences, signal_of_control}
use Rattle.model_calls.specs.Pairs.{pairs, pairs_of}
use Rattle.model_calls.specs.Signals.{bound_actual, signal_of}
use Rattle.model_calls.proofs.Drivers.{driven}
use Rattle.model_calls.proofs.EachPart.{IsCardOf, each_flat, each_itself, own_cards}
use Rattle.model_calls.proofs.Fitting.{contains_cons, contains_unique}
use Rattle.network.proofs.Lists.{contains_map}
use Rattle.model_calls.proofs.MainNames.{contains_flat, main_actual}
use Rattle.model_calls.proofs.Sums.{sum_same}

pub contains_to : {X Y : Type 0} (g : X → Y) (xs : List X) (x : X) → Contains xs x → Contains (map g xs) (g x)
contains_to g [] x (k, l, e) = absurd (omega (arith, l))
contains_to g (z ∷ zs) x c = by (contains_to g zs x) (contains_cons z zs x c)
  where
    by : (Contains zs x → Contains (map g zs) (g x)) → (z ≡ x) ⊎ Contains zs x → Contains (g z ∷ map g zs) (g x)
    by deeper (inl is) = subst (λ w. Contains (g z ∷ map g zs) (g w)) is (Contains-first (g z) (map g zs))
    by deeper (inr later) = Contains-later (g z) (map g zs) (g x) (deeper later)

module _ (f : BlifFileData) where
  pub count_pairs : length (pairs f) ≡ signal_count f
  count_pairs = length-flat_map pairs_of (occurrences f)
      ∙ sum_same (λ p. length (pairs_of p)) (λ (p : Occurrence). distinct_count same (names_of p.model)) (λ p. length-map (unique_keys same (names_of p.model)) (λ name. record { path = p.path; name = name })) (occurrences f)

  has_pair : (path : List InstanceData) (m : BlifModelData) (name : List ℕ) → Contains (occurrences f) (record { path = path; model = m }) → Contains (names_of m) name
      → Contains (pairs f) (record { path = path; name = name })
  has_pair path m name c d = contains_flat pairs_of (occurrences f) (record { path = path; model = m }) (record { path = path; name = name }) c
      (contains_to (λ n. record { path = path; name = n }) (unique_keys same (names_of m)) name (contains_unique (names_of m) name d))

  -- each front of a path is a place, and its next instance stands in the model there
  abbrev IsChain : List InstanceData → BlifModelData → Type 0
  IsChain [] m = Contains (occurrences f) (record { path = []; model = m })
  IsChain (i ∷ up) m = Contains (occurrences f) (record { path = i ∷ up; model = m }) × ((k : BlifModelData) × Contains k.instances i × IsChain up k)

  climb_pair : (path : List InstanceData) (m : BlifModelData) (name : List ℕ) → IsChain path m → Contains (names_of m) name → Contains (pairs f) (signal_of path name)
  climb_pair [] m name chain c = has_pair [] m name chain c
  climb_pair (i ∷ up) m name chain c = by (λ actual. climb_pair up chain.1.0 actual chain.1.2) (bound_actual i name) refl
    where
      by : ((actual : List ℕ) → Contains (names_of chain.1.0) actual → Contains (pairs f) (signal_of up actual)) → (found : Option (List ℕ)) → bound_actual i name ≡ found
          → Contains (pairs f) (option_map_or (signal_of up) found (record { path = i ∷ up; name = name }))
      by above None e = has_pair (i ∷ up) m name chain.0 c
      by above (Some actual) e = above actual (main_actual chain.1.0 i name actual chain.1.1 e)

  -- what stands above a place
  abbrev Above : List InstanceData → Type 0
  Above [] = Unit {0}
  Above (i ∷ up) = (k : BlifModelData) × Contains k.instances i × IsChain up k

  chain_of : (path : List InstanceData) (m : BlifModelData) → Contains (occurrences f) (record { path = path; model = m }) → Above path → IsChain path m
  chain_of [] m c above = c
  chain_of (i ∷ up) m c above = (c, above)

  table_name : (m : BlifModelData) (t : TableData) → Contains m.tables t → Contains (names_of m) t.output
  table_name m t c =
      Contains-append_left (m.inputs ++ m.outputs ++ flat_map names_of_table m.tables ++ flat_map names_of_latch m.latches) (flat_map actuals_of m.instances) t.output
      (Contains-append_left (m.inputs ++ m.outputs ++ flat_map names_of_table m.tables) (flat_map names_of_latch m.latches) t.output
      (Contains-append_right (m.inputs ++ m.outputs) (flat_map names_of_table m.tables) t.output
      (contains_flat names_of_table m.tables t t.output c (Contains-append_right t.inputs (t.output ∷ []) t.output (Contains-first t.output [])))))

  latch_name : (m : BlifModelData) (l : Latch) → Contains m.latches l → Contains (names_of m) l.output
  latch_name m l c =
      Contains-append_left (m.inputs ++ m.outputs ++ flat_map names_of_table m.tables ++ flat_map names_of_latch m.latches) (flat_map actuals_of m.instances) l.output
      (Contains-append_right (m.inputs ++ m.outputs ++ flat_map names_of_table m.tables) (flat_map names_of_latch m.latches) l.output
      (contains_flat names_of_latch m.latches l l.output c
      (Contains-later l.input (l.output ∷ signal_of_control l.control) l.output (Contains-first l.output (signal_of_control l.control)))))

  pairs_from : (depth : ℕ) (path : List InstanceData) (m : BlifModelData) → ((p : Occurrence) → Contains (occurrences_from f.models depth path m) p → Contains (occurrences f) p) → Above path
      → AllByRecursion (λ part. Contains (pairs f) (driven part)) (expanded_from f.models depth path m)
  pairs_from zero path m inside above = tt
  pairs_from (suc depth) path m inside above =
      each_flat (λ part. Contains (pairs f) (driven part)) (parts_of_card below path) (ordered_cards m)
      (AllByRecursion-weaker (IsCardOf m) (λ c. AllByRecursion (λ part. Contains (pairs f) (driven part)) (parts_of_card below path c)) (by (pairs_from depth)) (ordered_cards m) (own_cards m))
    where
      below : List InstanceData → List ℕ → List PlacedPart
      below p unit = flat_map (expanded_from f.models depth p) (models_called f.models unit)

      under : InstanceData → List Occurrence
      under i = flat_map (occurrences_from f.models depth (i ∷ path)) (models_called f.models i.unit)

      here : IsChain path m
      here = chain_of path m (inside (record { path = path; model = m }) (Contains-first (record { path = path; model = m }) (flat_map under m.instances))) above

      deeper_inside : (i : InstanceData) → Contains m.instances i → (n : BlifModelData) → Contains (models_called f.models i.unit) n
          → (p : Occurrence) → Contains (occurrences_from f.models depth (i ∷ path) n) p → Contains (occurrences f) p
      deeper_inside i c n d p e = inside p (Contains-later (record { path = path; model = m }) (flat_map under m.instances) p
          (contains_flat under m.instances i p c (contains_flat (occurrences_from f.models depth (i ∷ path)) (models_called f.models i.unit) n p d e)))

      by : ((p : List InstanceData) (n : BlifModelData) → ((q : Occurrence) → Contains (occurrences_from f.models depth p n) q → Contains (occurrences f) q) → Above p
          → AllByRecursion (λ part. Contains (pairs f) (driven part)) (expanded_from f.models depth p n))
          → (c : BodyCard) → IsCardOf m c → AllByRecursion (λ part. Contains (pairs f) (driven part)) (parts_of_card below path c)
      by deeper (TableCard t) h = (climb_pair path m t.output here (table_name m t h), tt)
      by deeper (LatchCard l) h = (climb_pair path m l.output here (latch_name m l h), tt)
      by deeper (InstanceCard i) h = each_flat (λ part. Contains (pairs f) (driven part)) (expanded_from f.models depth (i ∷ path)) (models_called f.models i.unit)
          (AllByRecursion-weaker (Contains (models_called f.models i.unit)) (λ n. AllByRecursion (λ part. Contains (pairs f) (driven part)) (expanded_from f.models depth (i ∷ path) n))
          (λ n d. deeper (i ∷ path) n (deeper_inside i h n d) (m, h, here)) (models_called f.models i.unit) (each_itself (models_called f.models i.unit)))

  pub parts_in_pairs : AllByRecursion (λ part. Contains (pairs f) (driven part)) (expanded f)
  parts_in_pairs = pairs_from (length f.models) [] (main_model f) (λ p c. c) tt

  pub input_in_pairs : IsGoodFile f → (name : List ℕ) → Contains (main_model f).inputs name → Contains (pairs f) (signal_of [] name)
  input_in_pairs good name c = has_pair [] (main_model f) name place
      (Contains-append_left ((main_model f).inputs ++ (main_model f).outputs ++ flat_map names_of_table (main_model f).tables ++ flat_map names_of_latch (main_model f).latches) (flat_map actuals_of (main_model f).instances) name
      (Contains-append_left ((main_model f).inputs ++ (main_model f).outputs ++ flat_map names_of_table (main_model f).tables) (flat_map names_of_latch (main_model f).latches) name
      (Contains-append_left ((main_model f).inputs ++ (main_model f).outputs) (flat_map names_of_table (main_model f).tables) name
      (Contains-append_left (main_model f).inputs (main_model f).outputs name c))))
    where
      by : (models all : List BlifModelData) → (models ≡ [] → ⊥) → Contains (occurrences_from all (length models) [] (first_model models)) (record { path = []; model = first_model models })
      by [] all some = absurd (some refl)
      by (m ∷ more) all some = Contains-first (record { path = []; model = m }) _

      place : Contains (occurrences f) (record { path = []; model = main_model f })
      place = by f.models f.models good.some

  pub driver_in_pairs : IsGoodFile f → (e : End) → Contains (drivers f) e → Contains (pairs f) e.signal
  driver_in_pairs good e inside = elim (Contains-append_cases (main_inputs f) (map driven_end (expanded f)) e inside) [
    | inl a ↦ let x = contains_map (end_at [] (main_model f).line) (main_model f).inputs e a in subst (λ (g : End). Contains (pairs f) g.signal) (sym x.2) (input_in_pairs good x.0 x.1)
    | inr b ↦ let x = contains_map driven_end (expanded f) e b in
        subst (λ (g : End). Contains (pairs f) g.signal) (sym x.2) (AllByRecursion-contains (λ part. Contains (pairs f) (driven part)) (expanded f) x.0 parts_in_pairs x.1)
  ]
