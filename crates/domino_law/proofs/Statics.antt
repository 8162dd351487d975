-- The values of static gates, and the nets that gates consist of.
use Rattle.std.specs.Prelude.{None, Option, Some, slice_get, ◌⊎◌}
use Rattle.std.proofs.Common.{List, ap, inl, inr, refl, sym, ℕ, ◌∙◌, ◌≡◌}
use Rattle.std.proofs.lemmas.Option.{same_Some}
use Rattle.dom_base.specs.Tri.{opposite}
use Rattle.dom_base.specs.declared.kind.Kind.TheVariants.{N as nch, P as pch}
use Rattle.dom_base.specs.declared.tri.Tri.{Tri}
use Rattle.dom_base.specs.declared.tri.Tri.TheVariants.{One, Unknown, Zero}
use Rattle.deck.specs.Switches.{value_of}
use Rattle.sp_network.specs.Known.{IsKnown}
use Rattle.sp_network.specs.Tree.{EachLeaf, Leaf, Parallel, Series, Tree, both, dual, either, inner_count, map_tree, tree_conduction}
use Rattle.sp_network.proofs.Known as known
use Rattle.sp_network.proofs.Duals.{tree_conduction-dual}
use Rattle.sp_network.proofs.TreeImages.{tree_conduction-map_tree}
use Rattle.domino_cell.specs.Stage.{Top}
use Rattle.domino_law.specs.Honest.{static_value}
use Rattle.domino_law.specs.Nets.{At, CellSide, Complement, DeckSignal, Dynamic, FromDynamic, FromOutput, Gate, High, Left, Low, Minus, Net, Output, Plus, Right, Side, Vdd, Vss, gate_net, left_side, own, right_side}
use Rattle.domino_law.specs.Shape.{DominoCell, DynamicStage, HasComplement, IsCellAt, IsGate, IsLeafOf, IsSideAt, IsSignal, Shape, cell_nets, dynamic_nets, gate_tree, left_stage, right_stage, side_of}

pub both-right_zero : (a : Tri) → both a Zero ≡ Zero
both-right_zero Zero = refl
both-right_zero One = refl
both-right_zero Unknown = refl

either-right_one : (a : Tri) → either a One ≡ One
either-right_one Zero = refl
either-right_one One = refl
either-right_one Unknown = refl

pub both_zero : (a b : Tri) → both a b ≡ Zero → (a ≡ Zero) ⊎ (b ≡ Zero)
both_zero Zero b h = inl refl
both_zero One b h = inr h
both_zero Unknown Zero h = inr refl
both_zero Unknown One h = absurd (cc)
both_zero Unknown Unknown h = absurd (cc)

either_zero : (a b : Tri) → either a b ≡ Zero → (a ≡ Zero) × (b ≡ Zero)
either_zero Zero b h = (refl, h)
either_zero One b h = absurd (cc)
either_zero Unknown Zero h = absurd (cc)
either_zero Unknown One h = absurd (cc)
either_zero Unknown Unknown h = absurd (cc)

-- a tree that doesn't conduct does not where leaves only fall
pub tree_falls : {X : Type 0} (before after : X → Tri) (t : Tree X) → EachLeaf (λ x. before x ≡ Zero → after x ≡ Zero) t
    → tree_conduction nch before t ≡ Zero → tree_conduction nch after t ≡ Zero
tree_falls before after (Leaf gate) h e = h e
tree_falls before after (Series l r) h e =
    elim (both_zero _ _ e) [
      | inl x ↦ rw (tree_falls before after l h.0 x) refl
      | inr y ↦ rw (tree_falls before after r h.1 y) (both-right_zero (tree_conduction nch after l))
    ]
tree_falls before after (Parallel l r) h e = let t = either_zero _ _ e in rw (tree_falls before after l h.0 t.0, tree_falls before after r h.1 t.1) refl

both_moves : (a b a' b' goal : Tri) → IsKnown a → IsKnown b → IsKnown goal → (a' ≡ goal) ⊎ (a' ≡ a) → (b' ≡ goal) ⊎ (b' ≡ b)
    → (both a' b' ≡ goal) ⊎ (both a' b' ≡ both a b)
both_moves a b a' b' g ka kb kg (inr x) (inr y) = inr (rw (x, y) refl)
both_moves a b a' b' g ka kb (inl z) (inl x) y = inl (rw (x, z) refl)
both_moves a b a' b' g ka kb (inl z) (inr x) (inl y) = inl (rw (y, z) (both-right_zero a'))
both_moves a b a' b' g ka kb (inr z) (inl x) (inl y) = inl (rw (x, y, z) refl)
both_moves a b a' b' g ka (inl q) (inr z) (inl x) (inr y) = inr (rw (x, y, z, q) (sym (both-right_zero a)))
both_moves a b a' b' g ka (inr q) (inr z) (inl x) (inr y) = inl (rw (x, y, z, q) refl)
both_moves a b a' b' g (inl q) kb (inr z) (inr x) (inl y) = inr (rw (x, y, z, q) refl)
both_moves a b a' b' g (inr q) kb (inr z) (inr x) (inl y) = inl (rw (x, y, z, q) refl)

either_moves : (a b a' b' goal : Tri) → IsKnown a → IsKnown b → IsKnown goal → (a' ≡ goal) ⊎ (a' ≡ a) → (b' ≡ goal) ⊎ (b' ≡ b)
    → (either a' b' ≡ goal) ⊎ (either a' b' ≡ either a b)
either_moves a b a' b' g ka kb kg (inr x) (inr y) = inr (rw (x, y) refl)
either_moves a b a' b' g ka kb (inr z) (inl x) y = inl (rw (x, z) refl)
either_moves a b a' b' g ka kb (inr z) (inr x) (inl y) = inl (rw (y, z) (either-right_one a'))
either_moves a b a' b' g ka kb (inl z) (inl x) (inl y) = inl (rw (x, y, z) refl)
either_moves a b a' b' g ka (inr q) (inl z) (inl x) (inr y) = inr (rw (x, y, z, q) (sym (either-right_one a)))
either_moves a b a' b' g ka (inl q) (inl z) (inl x) (inr y) = inl (rw (x, y, z, q) refl)
either_moves a b a' b' g (inr q) kb (inl z) (inr x) (inl y) = inr (rw (x, y, z, q) refl)
either_moves a b a' b' g (inl q) kb (inl z) (inr x) (inl y) = inl (rw (x, y, z, q) refl)

pub known_conduction : {X : Type 0} (value : X → Tri) (t : Tree X) → EachLeaf (λ x. IsKnown (value x)) t → IsKnown (tree_conduction nch value t)
known_conduction value t h = known.IsKnown-tree_conduction nch value t h

-- a tree whose known leaves move to one value or stay does so too
pub tree_moves : {X : Type 0} (before after : X → Tri) (goal : Tri) → IsKnown goal → (t : Tree X) → EachLeaf (λ x. IsKnown (before x)) t
    → EachLeaf (λ x. (after x ≡ goal) ⊎ (after x ≡ before x)) t
    → (tree_conduction nch after t ≡ goal) ⊎ (tree_conduction nch after t ≡ tree_conduction nch before t)
tree_moves before after goal kg (Leaf gate) k h = h
tree_moves before after goal kg (Series l r) k h =
    both_moves _ _ _ _ goal (known_conduction before l k.0) (known_conduction before r k.1) kg (tree_moves before after goal kg l k.0 h.0) (tree_moves before after goal kg r k.1 h.1)
tree_moves before after goal kg (Parallel l r) k h =
    either_moves _ _ _ _ goal (known_conduction before l k.0) (known_conduction before r k.1) kg (tree_moves before after goal kg l k.0 h.0) (tree_moves before after goal kg r k.1 h.1)

-- a tree all whose leaves have one value has it
pub tree_all : {X : Type 0} (value : X → Tri) (w : Tri) (t : Tree X) → EachLeaf (λ x. value x ≡ w) t → tree_conduction nch value t ≡ w
tree_all value w (Leaf gate) h = h
tree_all value w (Series l r) h = rw (tree_all value w l h.0, tree_all value w r h.1) (both_same w)
  where
    both_same : (w : Tri) → both w w ≡ w
    both_same Zero = refl
    both_same One = refl
    both_same Unknown = refl
tree_all value w (Parallel l r) h = rw (tree_all value w l h.0, tree_all value w r h.1) (either_same w)
  where
    either_same : (w : Tri) → either w w ≡ w
    either_same Zero = refl
    either_same One = refl
    either_same Unknown = refl

pub EachLeaf-with : {X : Type 0} (F G H : X → Type 0) → ((x : X) → F x → G x → H x) → (t : Tree X) → EachLeaf F t → EachLeaf G t → EachLeaf H t
EachLeaf-with F G H f (Leaf gate) a b = f gate a b
EachLeaf-with F G H f (Series l r) a b = (EachLeaf-with F G H f l a.0 b.0, EachLeaf-with F G H f r a.1 b.1)
EachLeaf-with F G H f (Parallel l r) a b = (EachLeaf-with F G H f l a.0 b.0, EachLeaf-with F G H f r a.1 b.1)

-- a tree all whose leaves are One conducts
pub tree_one : {X : Type 0} (value : X → Tri) (t : Tree X) → EachLeaf (λ x. value x ≡ One) t → tree_conduction nch value t ≡ One
tree_one value (Leaf gate) h = h
tree_one value (Series l r) h = rw (tree_one value l h.0, tree_one value r h.1) refl
tree_one value (Parallel l r) h = rw (tree_one value l h.0) refl

module _ (net : Net → ℕ) (values : List Tri) (t : Tree Net) where
  -- the two halves of a static gate
  pub pull_down : tree_conduction nch (value_of values) (map_tree net t) ≡ static_value net values t
  pull_down = tree_conduction-map_tree nch (value_of values) net t

  pub pull_up : tree_conduction pch (value_of values) (map_tree net (dual t)) ≡ opposite (static_value net values t)
  pull_up = tree_conduction-map_tree pch (value_of values) net (dual t) ∙ tree_conduction-dual nch pch (λ v. refl) t (λ a. value_of values (net a))

-- a cell has its left side, and its right one where it is compound
pub left_is : (s : Shape) (k : ℕ) (c : DominoCell) → IsCellAt s k c → IsSideAt s (left_side k) (left_stage c)
left_is s k c e = (c, e, refl)

pub right_is : (s : Shape) (k : ℕ) (c : DominoCell) (t : Tree Gate) → IsCellAt s k c → c.right ≡ Some t → IsSideAt s (right_side k) (record { clock = c.clock; tree = t })
right_is s k c t e r = (c, e, rw r refl)

-- a side has one clock and one tree
pub side_unique : (s : Shape) (k : CellSide) (c d : DynamicStage) → IsSideAt s k c → IsSideAt s k d → c ≡ d
side_unique s k c d e f =
    let cells : e.0 ≡ f.0 = same_Some _ _ (sym e.1 ∙ f.1) in
    same_Some _ _ (sym e.2 ∙ (ap (λ x. side_of x k.side) cells ∙ f.2))

-- the clock of a side is its cell's
pub side_clock : (cell : DominoCell) (side : Side) (c : DynamicStage) → side_of cell side ≡ Some c → c.clock ≡ cell.clock
side_clock cell Left c e = cc
side_clock cell Right c e = by cell.right e
  where
    by : (r : Option (Tree Gate)) → right_stage cell.clock r ≡ Some c → c.clock ≡ cell.clock
    by None f = absurd (cc)
    by (Some t) f = cc

-- what holds of the dynamic nets of a cell's sides holds of all its dynamic nets
pub each_dynamic : (s : Shape) (F : Net → Type 0) (k : ℕ) (c : DominoCell) → IsCellAt s k c
    → ((d : DynamicStage) → d.clock ≡ c.clock → (side : Side) → IsSideAt s (record { cell = k; side = side }) d → F (At (Dynamic (record { cell = k; side = side })) Top))
    → EachLeaf F (dynamic_nets k c.right)
each_dynamic s F k c e f = by c.right refl
  where
    by : (r : Option (Tree Gate)) → c.right ≡ r → EachLeaf F (dynamic_nets k r)
    by None z = f _ refl Left (left_is s k c e)
    by (Some t) z = (f _ refl Left (left_is s k c e), f _ refl Right (right_is s k c t e z))

-- where a side's dynamic net is Zero, so are all of its cell in series
pub side_zero : (value : Net → Tri) (k : ℕ) (cell : DominoCell) (side : Side) (c : DynamicStage) → side_of cell side ≡ Some c
    → value (At (Dynamic (record { cell = k; side = side })) Top) ≡ Zero → tree_conduction nch value (dynamic_nets k cell.right) ≡ Zero
side_zero value k cell side c i = by side cell.right i
  where
    left : (r : Option (Tree Gate)) → value (At (Dynamic (left_side k)) Top) ≡ Zero → tree_conduction nch value (dynamic_nets k r) ≡ Zero
    left None h = h
    left (Some t) h = rw h refl

    right : (r : Option (Tree Gate)) → right_stage cell.clock r ≡ Some c → value (At (Dynamic (right_side k)) Top) ≡ Zero → tree_conduction nch value (dynamic_nets k r) ≡ Zero
    right None z h = absurd (cc)
    right (Some t) z h = rw h (both-right_zero _)

    by : (side : Side) (r : Option (Tree Gate)) → side_of cell side ≡ Some c → value (At (Dynamic (record { cell = k; side = side })) Top) ≡ Zero → tree_conduction nch value (dynamic_nets k cell.right) ≡ Zero
    by Left r z h = left cell.right h
    by Right r z h = right cell.right z h

-- a gate's nets stand in series
abbrev pub IsSeries : {X : Type 0} → Tree X → Type 0
IsSeries (Leaf gate) = Unit {0}
IsSeries (Series l r) = IsSeries l × IsSeries r
IsSeries (Parallel l r) = ⊥

-- the pull-up tree of a gate in series takes no inner net
pub dual_inner : {X Y : Type 0} (f : X → Y) (t : Tree X) → IsSeries t → inner_count (map_tree f (dual t)) ≡ 0
dual_inner f (Leaf gate) i = refl
dual_inner f (Series l r) i = rw (dual_inner f l i.0, dual_inner f r i.1) refl
dual_inner f (Parallel l r) i = absurd i

pub dynamic_series : (k : ℕ) (r : Option (Tree Gate)) → IsSeries (dynamic_nets k r)
dynamic_series k None = tt
dynamic_series k (Some t) = (tt, tt)

pub gate_series : (s : Shape) (g : Gate) → IsSeries (gate_tree s g)
gate_series s (FromDynamic k) = by (slice_get s.cells k)
  where
    by : (o : Option DominoCell) → IsSeries (cell_nets k o)
    by None = tt
    by (Some c) = dynamic_series k c.right
gate_series s (Plus l) = tt
gate_series s (Minus l) = tt
gate_series s (FromOutput k) = tt
gate_series s High = tt
gate_series s Low = tt

-- what holds of all nets that may gate a sink holds of those of a gate
pub gate_nets : (s : Shape) (F : Net → Type 0) → ((l : DeckSignal) → IsSignal s l → F (own l)) → ((l : DeckSignal) → HasComplement s l → F (At (Complement l) Top))
    → ((k : ℕ) (c : DominoCell) → IsCellAt s k c → F (At (Output k) Top)) → ((k : CellSide) (c : DynamicStage) → IsSideAt s k c → F (At (Dynamic k) Top))
    → F Vdd → F Vss → (g : Gate) → IsGate s g → EachLeaf F (gate_tree s g)
gate_nets s F signals complements outputs dynamics high low (Plus l) a = signals l a
gate_nets s F signals complements outputs dynamics high low (Minus l) a = complements l a
gate_nets s F signals complements outputs dynamics high low (FromOutput k) a = outputs k a.0 a.1
gate_nets s F signals complements outputs dynamics high low (FromDynamic k) a = rw (a.1) (each_dynamic s F k a.0 a.1 (λ d z side i. dynamics _ d i))
gate_nets s F signals complements outputs dynamics high low High a = high
gate_nets s F signals complements outputs dynamics high low Low a = low

-- the gate of a cell's dynamic nets
pub cell_gate : (s : Shape) (k : ℕ) (c : DominoCell) → IsCellAt s k c → gate_tree s (FromDynamic k) ≡ dynamic_nets k c.right
cell_gate s k c e = rw e refl

-- a leaf of a tree is one net
pub leaf_net : (s : Shape) (F : Net → Type 0) (k : ℕ) (g : Gate) → IsLeafOf s k g → EachLeaf F (gate_tree s g) → F (gate_net g)
leaf_net s F k (Plus l) a h = h
leaf_net s F k (Minus l) a h = h
leaf_net s F k (FromOutput j) a h = h
leaf_net s F k (FromDynamic j) a h = absurd a
leaf_net s F k High a h = absurd a
leaf_net s F k Low a h = absurd a
