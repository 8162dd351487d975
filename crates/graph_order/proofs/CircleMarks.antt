-- Nodes that lead back to themselves, by the numbers of their components.
use Rattle.std.proofs.Common.{◌≡◌, ℕ, ◌<◌, ◌+◌, inl, inr, Bool, List, [], ◌∷◌, ◌++◌, length, Some, refl, ap, sym, ◌∙◌, subst, arith}
use Rattle.std.specs.Prelude.{◌↔◌, Contains, IsTrue, slice_get, slice_index_or}
use Rattle.std.proofs.lemmas.List.{length-append}
use Rattle.std.proofs.lemmas.List.Elements.{All-contains}
use Rattle.std.proofs.lemmas.Option.{slice_get-get_or, slice_get_within}
use Rattle.dom_base.proofs.Lists.{slice_get-push_cases}
use Rattle.graph_order.proofs.Joined.{joined_back, leads_or}
use Rattle.graph_order.specs.Components.{AreComponents, HasOneOf}
use Rattle.graph_order.specs.Orders.{IsGraph, LeadsOn, more, step, successors}

-- none of the first so many nodes has this number
abbrev pub NoneHasBefore : List ℕ → ℕ → List ℕ → ℕ → Type 0
NoneHasBefore numbers number nodes n = (k node : ℕ) → k < n → slice_get nodes k ≡ Some node → slice_get numbers node ≡ Some number → ⊥

-- the marks of the first so many nodes
abbrev pub AreMarksBelow : List (List ℕ) → ℕ → List Bool → Type 0
AreMarksBelow nodes n marks = (length marks ≡ n) ×
    ((node : ℕ) (mark : Bool) → slice_get marks node ≡ Some mark → IsTrue mark ↔ LeadsOn nodes node node)

module _ (nodes : List (List ℕ)) where
  pub no_marks : AreMarksBelow nodes 0 []
  no_marks = (refl, λ node mark e. absurd cc)

  pub next_mark : (k : ℕ) (marks : List Bool) (mark : Bool) → AreMarksBelow nodes k marks → IsTrue mark ↔ LeadsOn nodes k k
      → AreMarksBelow nodes (k + 1) (marks ++ mark ∷ [])
  next_mark k marks mark (count, each) is = (omega (arith, length-append marks (mark ∷ []), count), next)
    where
      next : (node : ℕ) (m : Bool) → slice_get (marks ++ mark ∷ []) node ≡ Some m → IsTrue m ↔ LeadsOn nodes node node
      next node m e = elim (slice_get-push_cases marks mark node m e) [
        | inl h ↦ each node m h
        | inr h ↦ subst (λ n. IsTrue m ↔ LeadsOn nodes n n) (sym (h.0 ∙ count)) (subst (λ b. IsTrue b ↔ LeadsOn nodes k k) h.1 is)
      ]

  -- a node leads back to itself where one that it leads to is in its component
  pub on_circle : (numbers : List ℕ) (number a : ℕ) → IsGraph nodes → AreComponents nodes numbers → slice_get numbers a ≡ Some number
      → HasOneOf numbers number (successors nodes a) ↔ LeadsOn nodes a a
  on_circle numbers number a graph are at = (
    λ h. leads_or (step h.1) (joined_back (are.joined a h.0 number at h.2)),
    λ lead. from lead refl,
  )
    where
      same_number : (b : ℕ) → Contains (successors nodes a) b → LeadsOn nodes b a → slice_get numbers b ≡ Some number
      same_number b n rest =
          let inside = All-contains (λ node. node < length nodes) (successors nodes a) b
          (graph a [] (omega (arith, slice_get_within numbers a number at, are.count))) n in
          let there = slice_get-get_or numbers b 0 (omega (arith, inside, are.count)) in
          there ∙ ap Some (sym (are.same a b number (slice_index_or numbers b 0) at there (inr (step n, rest))))

      from : {b : ℕ} → LeadsOn nodes a b → b ≡ a → HasOneOf numbers number (successors nodes a)
      from (step {b = b} n) is = (b, n, ap (slice_get numbers) is ∙ at)
      from (more {b = b} n rest) is = (b, n, same_number b n (subst (LeadsOn nodes b) is rest))
