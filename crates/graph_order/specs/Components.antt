-- The strongly connected components of a directed graph (Cormen et al., Introduction to Algorithms: strongly connected components).
use Rattle.std.specs.Prelude.{ℕ, ◌≡◌, ◌⊎◌, ◌↔◌, Bool, IsTrue, List, Contains, length, Some, slice_get}
use Rattle.graph_order.specs.Orders.{LeadsOn}

-- two nodes are one, or each leads to the other
abbrev pub IsJoined : List (List ℕ) → ℕ → ℕ → Type 0
IsJoined nodes a b = (a ≡ b) ⊎ (LeadsOn nodes a b × LeadsOn nodes b a)

-- a number for each node: two have the same where they are joined, and nowhere else
pub record AreComponents (nodes : List (List ℕ)) (numbers : List ℕ) : Type 0 where
  pub count : length numbers ≡ length nodes
  pub joined : (a b x : ℕ) → slice_get numbers a ≡ Some x → slice_get numbers b ≡ Some x → IsJoined nodes a b
  pub same : (a b x y : ℕ) → slice_get numbers a ≡ Some x → slice_get numbers b ≡ Some y → IsJoined nodes a b → x ≡ y

-- a mark for each node: whether it leads back to itself
pub record AreCircleMarks (nodes : List (List ℕ)) (marks : List Bool) : Type 0 where
  pub count : length marks ≡ length nodes
  pub marked : (node : ℕ) (mark : Bool) → slice_get marks node ≡ Some mark → IsTrue mark ↔ LeadsOn nodes node node

-- one of some nodes has this number
abbrev pub HasOneOf : List ℕ → ℕ → List ℕ → Type 0
HasOneOf numbers number nodes = (node : ℕ) × Contains nodes node × (slice_get numbers node ≡ Some number)
