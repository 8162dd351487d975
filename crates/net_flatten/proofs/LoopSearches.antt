-- Loops among the numbers of a file, where its nodes have an order and where they have none.
use Rattle.std.proofs.Common.{ℕ, ◌<◌, List, [], length, sym, subst, arith}
use Rattle.std.specs.Prelude.{All, Contains}
use Rattle.std.proofs.lemmas.List.Elements.{All-from_recursion}
use Rattle.std.proofs.lemmas.Option.{get_or_from_slice_get}
use Rattle.dom_base.proofs.Lists.{All-at, AllByRecursion-from_places, Contains-slice_get}
use Rattle.graph_order.specs.Orders.{IsGraph, IsOrder, IsSuccessor, LeadsOn, more, step}
use Rattle.graph_order.proofs.Circles.{no_circle}
use Rattle.net_flatten.specs.Dependences.{AreDependences}
use Rattle.model_calls.specs.FirstFaults.{NoneHolds}
use Rattle.net_flatten.specs.Loops.{IsOnLoop}
use Rattle.part_numbers.specs.NumberedFaults.{IsPartWithin}
use Rattle.part_numbers.specs.NumberedFiles.{NumberedPartData}
use Rattle.network.proofs.IndexedLists.{index_of}

module _ (signals : ℕ) (parts : List NumberedPartData) (within : All (IsPartWithin signals) parts) (nodes : List (List ℕ)) (d : AreDependences signals parts nodes) where
  -- an order of all nodes leaves none on a loop
  pub ordered_on_no_loop : (order : List ℕ) → IsOrder nodes order → NoneHolds (IsOnLoop nodes) parts
  ordered_on_no_loop order ordered k p there loop =
      let low = (All-at (IsPartWithin signals) parts k p within there).drives in
      no_circle nodes order ordered p.drives (omega (arith, low, d.count)) loop.1

  -- a node that leads back to itself is that of a table on a loop
  pub circle_on_loop : (node : ℕ) → LeadsOn nodes node node → NoneHolds (IsOnLoop nodes) parts → ⊥
  circle_on_loop node leads none =
      let next = first_step leads in
      let w = d.only node next.0 next.1 in
      let i = index_of parts w.0 w.1.there in
      none i.0 w.0 i.1 (w.1.table, subst (λ m. LeadsOn nodes m m) (sym w.1.drives_is) leads)
    where
      first_step : {a b : ℕ} → LeadsOn nodes a b → (c : ℕ) × IsSuccessor nodes a c
      first_step (step {a} {b} next) = (b, next)
      first_step (more {a} {b} {c} next rest) = (b, next)

  -- all nodes that some node leads to are there
  pub graph_of_dependences : IsGraph nodes
  graph_of_dependences = All-from_recursion (λ next. All (λ node. node < length nodes) next) nodes (AllByRecursion-from_places (λ next. All (λ node. node < length nodes) next) nodes (λ a next at.
      All-from_recursion (λ node. node < length nodes) next (AllByRecursion-from_places (λ node. node < length nodes) next (λ j b there.
      let w = d.only a b (subst (λ l. Contains l b) (sym (get_or_from_slice_get nodes a next [] at)) (Contains-slice_get next j b there)) in
      let i = index_of parts w.0 w.1.there in
      let r = index_of w.0.reads b w.2 in
      let low = All-at (λ x. x < signals) w.0.reads r.0 b (All-at (IsPartWithin signals) parts i.0 w.0 within i.1).reads r.1 in
      omega (arith, low, d.count)))))
