-- Where all nodes are in order, none leads back to itself.
use Rattle.std.proofs.Common.{◌≡◌, ℕ, zero, suc, ◌<◌, ◌+◌, List, length, take, Some, ap, ◌∙◌, arith}
use Rattle.std.specs.Prelude.{Contains, slice_get}
use Rattle.dom_base.proofs.Lists.{AllByRecursion-contains}
use Rattle.std.proofs.lemmas.Option.{slice_get-get_or}
use Rattle.graph_order.proofs.Lists.{take_get}
use Rattle.graph_order.specs.Orders.{IsSuccessor, IsOrder, LeadsOn, more, successors, step}

module _ (nodes : List (List ℕ)) (order : List ℕ) (is : IsOrder nodes order) where
  -- a node stands before a place
  abbrev Before : ℕ → ℕ → Type 0
  Before k node = (j : ℕ) × (j < k) × (slice_get order j ≡ Some node)

  before_take : (k node : ℕ) → Contains (take k order) node → Before k node
  before_take k node c = let h = take_get order k c.0 node (slice_get-get_or (take k order) c.0 node c.1 ∙ ap Some c.2) in (c.0, h.0, h.1)

  next_before : (k a b : ℕ) → slice_get order k ≡ Some a → IsSuccessor nodes a b → Before k b
  next_before k a b e n = before_take k b (AllByRecursion-contains (Contains (take k order)) (successors nodes a) b (is.earlier k a e) n)

  leads_before : {a b : ℕ} → LeadsOn nodes a b → (k : ℕ) → slice_get order k ≡ Some a → Before k b
  leads_before (step {a} {b} n) = λ k e. next_before k a b e n
  leads_before (more {a} {b} {c} n rest) = λ k e. let j = next_before k a b e n in let i = leads_before rest j.0 j.2 in (i.0, omega (arith, i.1, j.1), i.2)

  never : (n k node : ℕ) → k < n → slice_get order k ≡ Some node → LeadsOn nodes node node → ⊥
  never zero k node l e h = omega (arith, l)
  never (suc n) k node l e h = let j = leads_before h k e in never n j.0 node (omega (arith, l, j.1)) j.2 h

  pub no_circle : (node : ℕ) → node < length nodes → LeadsOn nodes node node → ⊥
  no_circle node l h = let c = is.all node l in never (c.0 + 1) c.0 node (omega arith) (slice_get-get_or order c.0 node c.1 ∙ ap Some c.2) h
