-- How deep the paths of a file go, and what its models weigh with all below them.
use Rattle.std.proofs.Common.{◌≡◌, ℕ, zero, suc, ◌<◌, ◌+◌, List, [], ◌∷◌, ◌++◌, refl, ap, sym, ◌∙◌, arith}
use Rattle.std.specs.Prelude.{Contains}
use Rattle.std.specs.List.{AllByRecursion, flat_map, sum_by}
use Rattle.std.proofs.lemmas.List.Sums.{sum_by-cons}
use Rattle.dom_base.proofs.Lists.{AllByRecursion-weaker}
use Rattle.blif_ast.specs.BlifModelData.{BlifModelData}
use Rattle.blif_ast.specs.InstanceData.{InstanceData}
use Rattle.model_calls.specs.Expanded.{BodyCard, InstanceCard, LatchCard, PlacedPart, TableCard, ordered_cards, expanded_from, parts_of_card}
use Rattle.model_calls.specs.Occurrences.{Occurrence, models_called, occurrences_from}
use Rattle.model_calls.proofs.EachPart.{IsCardOf, each_itself, own_cards}
use Rattle.model_calls.proofs.Sums.{sum_flat}

pub flat_same : {X Y : Type 0} (g h : X → List Y) (xs : List X) → AllByRecursion (λ x. g x ≡ h x) xs → flat_map g xs ≡ flat_map h xs
flat_same g h [] e = refl
flat_same g h (x ∷ xs) e = ap (λ l. l ++ flat_map g xs) e.0 ∙ ap (λ l. h x ++ l) (flat_same g h xs e.1)

sum_each : {X : Type 0} (g h : X → ℕ) (xs : List X) → AllByRecursion (λ x. g x ≡ h x) xs → sum_by g xs ≡ sum_by h xs
sum_each g h [] e = refl
sum_each g h (x ∷ xs) e = rw (sum_by-cons g x xs) (rw (sum_by-cons h x xs) (ap (λ k. k + sum_by g xs) e.0 ∙ ap (λ k. h x + k) (sum_each g h xs e.1)))

module _ (models : List BlifModelData) (rank : BlifModelData → ℕ)
    (falls : (m : BlifModelData) (i : InstanceData) (n : BlifModelData) → Contains m.instances i → Contains (models_called models i.unit) n → rank n < rank m) where
  -- a depth above the rank of a model is as good as any other
  pub places_deep : (d e : ℕ) (path : List InstanceData) (m : BlifModelData) → rank m < d → rank m < e → occurrences_from models d path m ≡ occurrences_from models e path m
  places_deep zero e path m a b = absurd (omega (arith, a))
  places_deep (suc d) zero path m a b = absurd (omega (arith, b))
  places_deep (suc d) (suc e) path m a b = ap (λ l. record { path = path; model = m } ∷ l)
      (flat_same (λ (i : InstanceData). flat_map (occurrences_from models d (i ∷ path)) (models_called models i.unit)) (λ (i : InstanceData). flat_map (occurrences_from models e (i ∷ path)) (models_called models i.unit)) m.instances
      (AllByRecursion-weaker (Contains m.instances) (λ (i : InstanceData). flat_map (occurrences_from models d (i ∷ path)) (models_called models i.unit) ≡ flat_map (occurrences_from models e (i ∷ path)) (models_called models i.unit))
      (λ i c. flat_same (occurrences_from models d (i ∷ path)) (occurrences_from models e (i ∷ path)) (models_called models i.unit)
      (AllByRecursion-weaker (Contains (models_called models i.unit)) (λ n. occurrences_from models d (i ∷ path) n ≡ occurrences_from models e (i ∷ path) n)
      (λ n k. places_deep d e (i ∷ path) n (omega (arith, falls m i n c k, a)) (omega (arith, falls m i n c k, b))) (models_called models i.unit) (each_itself (models_called models i.unit))))
      m.instances (each_itself m.instances)))

  pub expanded_deep : (d e : ℕ) (path : List InstanceData) (m : BlifModelData) → rank m < d → rank m < e → expanded_from models d path m ≡ expanded_from models e path m
  expanded_deep zero e path m a b = absurd (omega (arith, a))
  expanded_deep (suc d) zero path m a b = absurd (omega (arith, b))
  expanded_deep (suc d) (suc e) path m a b = flat_same (parts_of_card (below d) path) (parts_of_card (below e) path) (ordered_cards m)
      (AllByRecursion-weaker (IsCardOf m) (λ c. parts_of_card (below d) path c ≡ parts_of_card (below e) path c) (by (expanded_deep d e)) (ordered_cards m) (own_cards m))
    where
      below : ℕ → List InstanceData → List ℕ → List PlacedPart
      below k p unit = flat_map (expanded_from models k p) (models_called models unit)

      by : ((p : List InstanceData) (n : BlifModelData) → rank n < d → rank n < e → expanded_from models d p n ≡ expanded_from models e p n)
          → (c : BodyCard) → IsCardOf m c → parts_of_card (below d) path c ≡ parts_of_card (below e) path c
      by deeper (TableCard t) h = refl
      by deeper (LatchCard l) h = refl
      by deeper (InstanceCard i) h = flat_same (expanded_from models d (i ∷ path)) (expanded_from models e (i ∷ path)) (models_called models i.unit)
          (AllByRecursion-weaker (Contains (models_called models i.unit)) (λ n. expanded_from models d (i ∷ path) n ≡ expanded_from models e (i ∷ path) n)
          (λ n k. deeper (i ∷ path) n (omega (arith, falls m i n h k, a)) (omega (arith, falls m i n h k, b))) (models_called models i.unit) (each_itself (models_called models i.unit)))

  -- what a model weighs with all below it, on every path to it: its own weight, and what the models of its instances weigh so
  pub weighs : (weight total : BlifModelData → ℕ)
      → ((m : BlifModelData) → total m ≡ weight m + sum_by (λ (i : InstanceData). sum_by total (models_called models i.unit)) m.instances)
      → (d : ℕ) (path : List InstanceData) (m : BlifModelData) → rank m < d → sum_by (λ (p : Occurrence). weight p.model) (occurrences_from models d path m) ≡ total m
  weighs weight total adds zero path m a = absurd (omega (arith, a))
  weighs weight total adds (suc d) path m a =
      sum_by-cons (λ (p : Occurrence). weight p.model) (record { path = path; model = m }) (flat_map under m.instances)
      ∙ ap (λ k. weight m + k) (sum_flat (λ (p : Occurrence). weight p.model) under m.instances ∙ sum_each (λ i. sum_by (λ (p : Occurrence). weight p.model) (under i)) (λ (i : InstanceData). sum_by total (models_called models i.unit)) m.instances
      (AllByRecursion-weaker (Contains m.instances) (λ i. sum_by (λ (p : Occurrence). weight p.model) (under i) ≡ sum_by total (models_called models i.unit)) (by (weighs weight total adds d)) m.instances (each_itself m.instances)))
      ∙ sym (adds m)
    where
      under : InstanceData → List Occurrence
      under i = flat_map (occurrences_from models d (i ∷ path)) (models_called models i.unit)

      by : ((p : List InstanceData) (n : BlifModelData) → rank n < d → sum_by (λ (q : Occurrence). weight q.model) (occurrences_from models d p n) ≡ total n)
          → (i : InstanceData) → Contains m.instances i → sum_by (λ (p : Occurrence). weight p.model) (under i) ≡ sum_by total (models_called models i.unit)
      by deeper i c = sum_flat (λ (p : Occurrence). weight p.model) (occurrences_from models d (i ∷ path)) (models_called models i.unit)
          ∙ sum_each (λ n. sum_by (λ (q : Occurrence). weight q.model) (occurrences_from models d (i ∷ path) n)) total (models_called models i.unit)
          (AllByRecursion-weaker (Contains (models_called models i.unit)) (λ n. sum_by (λ (q : Occurrence). weight q.model) (occurrences_from models d (i ∷ path) n) ≡ total n)
          (λ n k. deeper (i ∷ path) n (omega (arith, falls m i n c k, a))) (models_called models i.unit) (each_itself (models_called models i.unit)))
