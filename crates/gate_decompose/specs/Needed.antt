-- Needed pairs: a pair is an And or Or node with a sign, true for plus. The needed pairs are the least set that holds
-- the pair that each sink asks for and, with each pair, the pairs that its children ask for.
use Rattle.std.specs.Prelude.{ℕ, ◌<◌, ◌≡◌, ◌↔◌, ◌⊎◌, Bool, true, false, not, List, length, Some, slice_get, Contains, AllPairs}
use Rattle.gate_decompose.specs.declared.gates.Node.{Node}
use Rattle.gate_decompose.specs.declared.gates.Node.TheVariants.{And, Or, Not}
use Rattle.gate_decompose.specs.declared.gates.Ref.{Ref}
use Rattle.gate_decompose.specs.declared.gates.Ref.TheVariants.{Const, Leaf, Node as node_ref}
use Rattle.gate_decompose.specs.GatesData.{GatesData}

-- a constant, a leaf with a sign, or a pair
pub data Asked : Type 0 where
  Value : Bool → Asked
  Literal : ℕ → Bool → Asked
  Pair : ℕ → Bool → Asked

-- the bit, or its opposite for the sign minus
abbrev pub signed : Bool → Bool → Bool
signed true b = b
signed false b = not b

-- the node is an And or an Or of these parts
abbrev pub IsGateNode : List Node → ℕ → Ref → Ref → Type 0
IsGateNode nodes n a b = (slice_get nodes n ≡ Some (And a b)) ⊎ (slice_get nodes n ≡ Some (Or a b))

-- what is asked for where a reference is asked for with a sign: each Not on the way changes the sign
pub data AsksFor (nodes : List Node) : Ref → Bool → Asked → Type 0 where
  constant : {b sign : Bool} → AsksFor nodes (Const b) sign (Value (signed sign b))
  leaf : {k : ℕ} {sign : Bool} → AsksFor nodes (Leaf k) sign (Literal k sign)
  gate : {n : ℕ} {sign : Bool} {a b : Ref} → IsGateNode nodes n a b → AsksFor nodes (node_ref n) sign (Pair n sign)
  under : {n : ℕ} {sign : Bool} {a : Ref} {x : Asked} → slice_get nodes n ≡ Some (Not a) → AsksFor nodes a (not sign) x
      → AsksFor nodes (node_ref n) sign x

-- a set that holds the pair of each sink and is closed under the children of its pairs
pub record IsClosed (gates : GatesData) (signs : List Bool) (Holds : ℕ → Bool → Type 0) : Type 0 where
  pub sinks : (k : ℕ) (r : Ref) (sign : Bool) (n : ℕ) (s : Bool)
      → slice_get gates.sinks k ≡ Some r → slice_get signs k ≡ Some sign → AsksFor gates.nodes r sign (Pair n s) → Holds n s
  pub left : (n : ℕ) (s : Bool) (a b : Ref) (m : ℕ) (t : Bool)
      → Holds n s → IsGateNode gates.nodes n a b → AsksFor gates.nodes a s (Pair m t) → Holds m t
  pub right : (n : ℕ) (s : Bool) (a b : Ref) (m : ℕ) (t : Bool)
      → Holds n s → IsGateNode gates.nodes n a b → AsksFor gates.nodes b s (Pair m t) → Holds m t

-- the pair is needed: it is in every set that is so closed
abbrev pub IsNeeded : GatesData → List Bool → ℕ → Bool → Type 0
IsNeeded gates signs n s = (holds : ℕ → Bool → Bool) → IsClosed gates signs (λ m t. holds m t ≡ true) → holds n s ≡ true

-- pairs in order: by the number of the node, plus before minus
abbrev pub Precedes : ℕ × Bool → ℕ × Bool → Type 0
Precedes p q = (p.0 < q.0) ⊎ ((p.0 ≡ q.0) × (p.1 ≡ true) × (q.1 ≡ false))

-- all needed pairs, in order
pub record AreNeeded (gates : GatesData) (signs : List Bool) (pairs : List (ℕ × Bool)) : Type 0 where
  pub in_order : AllPairs Precedes pairs
  pub needed : (n : ℕ) (s : Bool) → Contains pairs (n, s) ↔ IsNeeded gates signs n s

-- the number of needed pairs
abbrev pub HasSize : GatesData → List Bool → ℕ → Type 0
HasSize gates signs size = (pairs : List (ℕ × Bool)) × AreNeeded gates signs pairs × (length pairs ≡ size)
