-- The gate nodes of a network. A node is an operator of a table's term that folding by constants leaves to stand; it
-- is named by its table and its place in the term. An input that is a table's output stands for that table's term.
use Rattle.std.specs.Prelude.{ℕ, ◌+◌, ◌<◌, ◌≡◌, Bool, true, false, not, ◌&&◌, ◌||◌, ◌==◌, cond, List, [], ◌∷◌, ◌++◌, Some, slice_get, map, flat_map}
use Rattle.std.specs.List.{enumerate_from, position_or_len}
use Rattle.std.specs.Cmp.Lexicographic.{pointwise}
use Rattle.gate_decompose.specs.declared.gates.Node.{Node}
use Rattle.gate_decompose.specs.declared.gates.Node.TheVariants.{And as and_node, Or as or_node, Not as not_node}
use Rattle.gate_decompose.specs.declared.gates.Ref.{Ref}
use Rattle.gate_decompose.specs.declared.gates.Ref.TheVariants.{Const as constant_ref, Leaf as leaf_ref, Node as node_ref}
use Rattle.gate_decompose.specs.GatesData.{GatesData}
use Rattle.network.specs.NetworkData.{NetworkData, NetTableData}
use Rattle.gate_decompose.specs.Sinks.{leaf_count, sink_signals}
use Rattle.gate_decompose.specs.Terms.{Term, Constant, Signal, Not, And, Or, rows_term, table_term}

-- a turn on the way from the top of a term down to a part of it; Not has a left part alone
pub data Turn : Type 0 where
  Left : Turn
  Right : Turn

-- the name of an operator: the place of its table, and the way down to it, the last turn first
pub record NodeName : Type 0 where
  pub table : ℕ
  pub way : List Turn

abbrev pub same_turn : Turn → Turn → Bool
same_turn Left Left = true
same_turn Right Right = true
same_turn Left Right = false
same_turn Right Left = false

abbrev pub same_name : NodeName → NodeName → Bool
same_name a b = (a.table == b.table) && pointwise same_turn a.way b.way

-- what a part of a term comes to by folding: a constant, a leaf, or the node of this name
pub data Operand : Type 0 where
  Fixed : Bool → Operand
  Input : ℕ → Operand
  Made : NodeName → Operand

-- the operator of this name over parts that come to these operands: Not of a constant is a constant, an And with a
-- constant 0 is 0, an Or with a constant 1 is 1, the other constant is dropped, and else the operator stands
abbrev pub folded_not : NodeName → Operand → Operand
folded_not name (Fixed b) = Fixed (not b)
folded_not name a = Made name

abbrev pub folded_and : NodeName → Operand → Operand → Operand
folded_and name (Fixed false) b = Fixed false
folded_and name a (Fixed false) = Fixed false
folded_and name (Fixed true) b = b
folded_and name a (Fixed true) = a
folded_and name a b = Made name

abbrev pub folded_or : NodeName → Operand → Operand → Operand
folded_or name (Fixed true) b = Fixed true
folded_or name a (Fixed true) = Fixed true
folded_or name (Fixed false) b = b
folded_or name a (Fixed false) = a
folded_or name a b = Made name

-- the same for a part of a table's term that stands at the end of this way, where each signal comes to an operand
abbrev pub folded : (ℕ → Operand) → ℕ → List Turn → Term → Operand
folded of table way (Constant b) = Fixed b
folded of table way (Signal signal) = of signal
folded of table way (Not t) = folded_not (record { table = table; way = way }) (folded of table (Left ∷ way) t)
folded of table way (And l r) =
    folded_and (record { table = table; way = way }) (folded of table (Left ∷ way) l) (folded of table (Right ∷ way) r)
folded of table way (Or l r) =
    folded_or (record { table = table; way = way }) (folded of table (Left ∷ way) l) (folded of table (Right ∷ way) r)

-- what each signal comes to: an input or a latch output is a leaf, a table's output what the table's term comes to
pub record AreOperands (network : NetworkData) (of : ℕ → Operand) : Type 0 where
  pub leaves : (leaf : ℕ) → leaf < leaf_count network → of leaf ≡ Input leaf
  pub tables : (k : ℕ) (t : NetTableData) → slice_get network.tables k ≡ Some t
      → of (leaf_count network + k) ≡ folded of k [] (table_term t)

-- an operator over operands
pub data Joint : Type 0 where
  NotOf : Operand → Joint
  AndOf : Operand → Operand → Joint
  OrOf : Operand → Operand → Joint

-- a node with its name
pub record NamedNode : Type 0 where
  pub name : NodeName
  pub joint : Joint

abbrev pub is_fixed : Operand → Bool
is_fixed (Fixed b) = true
is_fixed _ = false

-- the node of an operator, which stands where no part of it comes to a constant
abbrev pub standing : Bool → NodeName → Joint → List NamedNode
standing true name joint = []
standing false name joint = record { name = name; joint = joint } ∷ []

module _ (of : ℕ → Operand) (table : ℕ) where
  -- the node of an Or over these parts, and its alike
  abbrev pub or_nodes : List Turn → Term → Term → List NamedNode
  or_nodes way l r =
      standing (is_fixed (folded of table (Left ∷ way) l) || is_fixed (folded of table (Right ∷ way) r))
      (record { table = table; way = way })
      (OrOf (folded of table (Left ∷ way) l) (folded of table (Right ∷ way) r))

  abbrev pub and_nodes : List Turn → Term → Term → List NamedNode
  and_nodes way l r =
      standing (is_fixed (folded of table (Left ∷ way) l) || is_fixed (folded of table (Right ∷ way) r))
      (record { table = table; way = way })
      (AndOf (folded of table (Left ∷ way) l) (folded of table (Right ∷ way) r))

  abbrev pub not_nodes : List Turn → Term → List NamedNode
  not_nodes way t =
      standing (is_fixed (folded of table (Left ∷ way) t)) (record { table = table; way = way }) (NotOf (folded of table (Left ∷ way) t))

  -- the nodes of a row, in order: those of the left part, those of the right part, the operator's own
  abbrev pub row_nodes : List Turn → Term → List NamedNode
  row_nodes way (Not t) = row_nodes (Left ∷ way) t ++ not_nodes way t
  row_nodes way (And l r) = row_nodes (Left ∷ way) l ++ row_nodes (Right ∷ way) r ++ and_nodes way l r
  row_nodes way _ = []

  -- the nodes of the rows that an Or joins, in order
  abbrev pub inside_nodes : List Turn → Term → List NamedNode
  inside_nodes way (Or l r) = inside_nodes (Left ∷ way) l ++ inside_nodes (Right ∷ way) r
  inside_nodes way row = row_nodes way row

  -- and the nodes of the Or that joins them, the left part before the right part and both before their operator
  abbrev pub above_nodes : List Turn → Term → List NamedNode
  above_nodes way (Or l r) = above_nodes (Left ∷ way) l ++ above_nodes (Right ∷ way) r ++ or_nodes way l r
  above_nodes way row = []

  -- the rows' nodes first, whose term stands at the end of this way
  abbrev pub rows_nodes : List Turn → Term → List NamedNode
  rows_nodes way t = inside_nodes way t ++ above_nodes way t

  -- the nodes of a table, in order; its Not comes last
  abbrev pub table_nodes : NetTableData → List NamedNode
  table_nodes t = cond t.on (rows_nodes [] (rows_term t)) (rows_nodes (Left ∷ []) (rows_term t) ++ not_nodes [] (rows_term t))

-- the nodes of a network: those of its tables, in order
abbrev pub network_nodes : (ℕ → Operand) → NetworkData → List NamedNode
network_nodes of network = flat_map (λ p. table_nodes of p.0 p.1) (enumerate_from 0 network.tables)

-- what an operand is called, where a node is called by its number among these names
abbrev pub ref_of : List NodeName → Operand → Ref
ref_of names (Fixed b) = constant_ref b
ref_of names (Input leaf) = leaf_ref leaf
ref_of names (Made name) = node_ref (position_or_len (same_name name) names)

abbrev pub node_of : List NodeName → Joint → Node
node_of names (NotOf a) = not_node (ref_of names a)
node_of names (AndOf a b) = and_node (ref_of names a) (ref_of names b)
node_of names (OrOf a b) = or_node (ref_of names a) (ref_of names b)

-- the names of the nodes of a network, in order
abbrev pub node_names : (ℕ → Operand) → NetworkData → List NodeName
node_names of network = map (λ n. n.name) (network_nodes of network)

-- the gates of a network: its nodes in order, each called by its number, and what its sinks come to
pub record AreGatesOf (network : NetworkData) (gates : GatesData) : Type 0 where
  pub of : ℕ → Operand
  pub are_operands : AreOperands network of
  pub leaves_are : gates.leaves ≡ leaf_count network
  pub nodes_are : gates.nodes ≡ map (λ n. node_of (node_names of network) n.joint) (network_nodes of network)
  pub sinks_are : gates.sinks ≡ map (λ signal. ref_of (node_names of network) (of signal)) (sink_signals network)
