-- Sums over all paths of a file by the numbers of its models: they are the sums over all walks in the graph of its calls.
use Rattle.std.proofs.Common.{◌≡◌, ℕ, zero, suc, ◌<◌, ◌+◌, min, List, [], ◌∷◌, length, map, Some, refl, ap, sym, ◌∙◌, subst, arith, append-nil}
use Rattle.std.specs.Prelude.{slice_get}
use Rattle.std.specs.List.{flat_map, sum_by}
use Rattle.std.proofs.lemmas.List.{length-map}
use Rattle.std.proofs.lemmas.List.Sums.{sum_by-cons}
use Rattle.std.proofs.lemmas.Option.{slice_get-get_or, slice_get_within}
use Rattle.blif_ast.specs.BlifFileData.{BlifFileData}
use Rattle.blif_ast.specs.BlifModelData.{BlifModelData}
use Rattle.blif_ast.specs.Good.{IsGoodFile}
use Rattle.blif_ast.specs.InstanceData.{InstanceData}
use Rattle.dom_base.proofs.Lists.{length-some}
use Rattle.graph_order.specs.Orders.{IsGraph, successors}
use Rattle.graph_order.specs.WalkSums.{AreWalkSums, AreWeights, largest_u64, walk_sum}
use Rattle.part_numbers.proofs.DeepEnough.{deep_enough}
use Rattle.model_calls.proofs.Firsts.{none_holds}
use Rattle.model_calls.proofs.FormalFaults.{called_at, calls_count}
use Rattle.network.proofs.Lists.{get_of_map}
use Rattle.model_calls.proofs.OrderedPlans.{is_graph}
use Rattle.model_calls.proofs.Recursions.{callees_of}
use Rattle.model_calls.proofs.Sums.{sum_flat}
use Rattle.model_calls.specs.declared.fault.FlatKind.TheVariants.{DuplicateModel, Recursion}
use Rattle.model_calls.specs.declared.fault.Limit.{Limit}
use Rattle.model_calls.specs.CallNumbers.{AreCallees, AreCalls, names_of_models}
use Rattle.model_calls.specs.ModelFaults.{IsDuplicateModel}
use Rattle.model_calls.specs.ModelCalls.{AreModelCalls}
use Rattle.model_calls.specs.ModelCallsData.{ModelCallsData}
use Rattle.part_numbers.specs.NetworkSizes.{model_weight, model_weights, path_weights}
use Rattle.part_numbers.specs.NumberedFiles.{model_at}
use Rattle.model_calls.specs.Occurrences.{Occurrence, first_model, main_model, models_called, occurrences_from}
use Rattle.model_calls.specs.FirstFaults.{NoneHolds}

-- a sum over instances and one over the numbers of the models that they name
by_callees : (names : List (List ℕ)) (g : InstanceData → ℕ) (h : ℕ → ℕ) → ((i : InstanceData) (u : ℕ) → slice_get names u ≡ Some i.unit → g i ≡ h u)
    → (instances : List InstanceData) (callees : List ℕ) → AreCallees names instances callees → sum_by g instances ≡ sum_by h callees
by_callees names g h each [] [] e = refl
by_callees names g h each [] (u ∷ us) e = absurd cc
by_callees names g h each (i ∷ is) [] e = absurd cc
by_callees names g h each (i ∷ is) (u ∷ us) e =
    let whole : slice_get names u ∷ map (slice_get names) us ≡ Some i.unit ∷ map (λ (j : InstanceData). Some j.unit) is = e in
    let first : slice_get names u ≡ Some i.unit = cc in
    let later : AreCallees names is us = cc in
    omega (arith, sum_by-cons g i is, sum_by-cons h u us, each i u first, by_callees names g h each is us later)

module _ (f : BlifFileData) (nodes : List (List ℕ)) (apart : NoneHolds IsDuplicateModel f.models)
    (calls : AreCalls (names_of_models f.models) f.models nodes) (weight : BlifModelData → ℕ) where
  abbrev at_path : Occurrence → ℕ
  at_path p = weight p.model

  abbrev at_number : ℕ → ℕ
  at_number k = weight (model_at f k)

  model_is : (k : ℕ) (m : BlifModelData) → slice_get f.models k ≡ Some m → m ≡ model_at f k
  model_is k m there =
      let e : Some m ≡ Some (model_at f k) = sym there ∙ slice_get-get_or f.models k (first_model []) (slice_get_within f.models k m there) in
      cc

  -- the paths below an instance, to a depth
  abbrev under : ℕ → List InstanceData → InstanceData → List Occurrence
  under depth path i = flat_map (occurrences_from f.models depth (i ∷ path)) (models_called f.models i.unit)

  -- the sum over the paths from a path on is the sum over the walks from its model's number
  path_sum : (depth : ℕ) (path : List InstanceData) (k : ℕ) (m : BlifModelData) → slice_get f.models k ≡ Some m
      → sum_by at_path (occurrences_from f.models depth path m) ≡ walk_sum nodes at_number depth k
  path_sum zero path k m there = refl
  path_sum (suc depth) path k m there =
      let own : weight m ≡ at_number k = ap weight (model_is k m there) in
      let below = by_callees (names_of_models f.models) (λ i. sum_by at_path (under depth path i)) (walk_sum nodes at_number depth)
      (λ i u known. one i u known (λ n at. path_sum depth (i ∷ path) u n at)) m.instances (successors nodes k)
      (callees_of f.models nodes apart calls k m there) in
      omega (
        arith,
        sum_by-cons at_path (record { path = path; model = m }) (flat_map (under depth path) m.instances),
        sum_flat at_path (under depth path) m.instances,
        own,
        below,
      )
    where
      one : (i : InstanceData) (u : ℕ) → slice_get (names_of_models f.models) u ≡ Some i.unit
          → ((n : BlifModelData) → slice_get f.models u ≡ Some n
          → sum_by at_path (occurrences_from f.models depth (i ∷ path) n) ≡ walk_sum nodes at_number depth u)
          → sum_by at_path (under depth path i) ≡ walk_sum nodes at_number depth u
      one i u known deeper =
          let n = get_of_map (λ (b : BlifModelData). b.name) f.models u i.unit known in
          let called = called_at f.models apart u n.0 i.unit n.1 n.2 in
          ap (λ l. sum_by at_path (flat_map (occurrences_from f.models depth (i ∷ path)) l)) called
          ∙ ap (sum_by at_path) (append-nil (occurrences_from f.models depth (i ∷ path) n.0))
          ∙ deeper n.0 n.1

-- the counts of a file by its calls
module _ {f : BlifFileData} {p : ModelCallsData} (good : IsGoodFile f) (planned : AreModelCalls f p) where
  pub apart : NoneHolds IsDuplicateModel f.models
  apart = none_holds IsDuplicateModel f.models
      (λ m first. planned.accepted DuplicateModel m.line m.name (omega arith) (record { element = m; first = first; line_is = refl; name_is = refl }))

  pub graph : IsGraph p.nodes
  graph = is_graph f.models p.nodes planned.calls

  each_is_weighed : (limit : Limit) {weights : List ℕ} → weights ≡ model_weights limit f.models → length weights ≡ length p.nodes
  each_is_weighed limit are =
      ap length are ∙ length-map f.models (λ m. min (model_weight limit m) largest_u64) ∙ sym (calls_count (names_of_models f.models) f.models p.nodes planned.calls)

  are_weights : (limit : Limit) {weights : List ℕ} → weights ≡ model_weights limit f.models → AreWeights p.nodes (λ k. model_weight limit (model_at f k)) weights
  are_weights limit {weights} are = record { count = each_is_weighed limit are; weigh = weigh }
    where
      weigh : (k w : ℕ) → slice_get weights k ≡ Some w → w ≡ min (model_weight limit (model_at f k)) largest_u64
      weigh k w there =
          let m = get_of_map (λ m. min (model_weight limit m) largest_u64) f.models k w (sym (ap (λ l. slice_get l k) are) ∙ there) in
          sym m.2 ∙ ap (λ m. min (model_weight limit m) largest_u64) (model_is f p.nodes apart planned.calls (model_weight limit) k m.0 m.1)

  -- the sums over the walks of the file's own graph
  pub sums_are : (limit : Limit) {models : List BlifModelData} {nodes : List (List ℕ)} {order weights sums : List ℕ}
      → models ≡ f.models → nodes ≡ p.nodes → order ≡ p.order
      → weights ≡ model_weights limit models → ((weight : ℕ → ℕ) → AreWeights nodes weight weights → AreWalkSums nodes weight (length order) sums)
      → AreWalkSums p.nodes (λ k. model_weight limit (model_at f k)) (length p.order) sums
  sums_are limit {models} {nodes} {order} {weights} {sums} models_are nodes_are order_is weights_are are =
      subst (λ n. AreWalkSums n (λ k. model_weight limit (model_at f k)) (length p.order) sums) nodes_are
      (subst (λ o. AreWalkSums nodes (λ k. model_weight limit (model_at f k)) (length o) sums) order_is
      (are (λ k. model_weight limit (model_at f k)) (subst (λ n. AreWeights n (λ k. model_weight limit (model_at f k)) weights) (sym nodes_are)
      (are_weights limit (weights_are ∙ ap (model_weights limit) models_are)))))

  pub some_node : 0 < length p.nodes
  some_node = omega (arith, length-some f.models good.some, calls_count (names_of_models f.models) f.models p.nodes planned.calls)

  -- the first of the sums is the sum over all paths of the file: a greater depth than the number of models adds no paths
  pub path_weights_are : (limit : Limit) {sums : List ℕ} (s : ℕ) → AreWalkSums p.nodes (λ k. model_weight limit (model_at f k)) (length p.order) sums
      → slice_get sums 0 ≡ Some s → s ≡ min (path_weights limit f) largest_u64
  path_weights_are limit s are there =
      are.sum 0 s (length f.models + length p.order) there (omega arith)
      ∙ ap (λ n. min n largest_u64) (
      sym (path_sum f p.nodes apart planned.calls (model_weight limit) (length f.models + length p.order) [] 0 (main_model f) planned.main)
      ∙ ap (sum_by (λ (p : Occurrence). model_weight limit p.model))
      (deep_enough f (λ line name. planned.accepted Recursion line name (omega arith)) good.some (length p.order)).1
      )
