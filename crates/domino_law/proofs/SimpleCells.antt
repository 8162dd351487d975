-- Decks all whose cells are simple.
use Rattle.std.specs.Prelude.{None, Option, Some, slice_get}
use Rattle.std.proofs.Common.{Bool, arith, refl, subst, ℕ, ◌<◌, ◌≡◌}
use Rattle.sp_network.specs.Tree.{Leaf, inner_count, joins}
use Rattle.domino_law.specs.Nets.{CellSide, FromDynamic, FromOutput, Gate, High, Left, Low, Minus, Plus, Right, Side, gate_net, left_side}
use Rattle.domino_law.specs.OwnRun.{cell_bit}
use Rattle.domino_law.specs.Shape.{DominoCell, DynamicStage, IsCellAt, IsSideAt, Shape, cell_nets, dynamic_nets, gate_tree, left_stage, right_stage, side_of}

abbrev pub AreSimple : Shape → Type 0
AreSimple s = (k : ℕ) (c : DominoCell) → IsCellAt s k c → c.right ≡ None

-- each gate is one net
pub simple_gate : (s : Shape) → AreSimple s → (g : Gate) → gate_tree s g ≡ Leaf (gate_net g)
simple_gate s simple (FromDynamic k) = by (slice_get s.cells k) refl
  where
    by : (o : Option DominoCell) → slice_get s.cells k ≡ o → cell_nets k o ≡ Leaf (gate_net (FromDynamic k))
    by None e = refl
    by (Some c) e = rw (simple k c e) refl
simple_gate s simple (Plus l) = refl
simple_gate s simple (Minus l) = refl
simple_gate s simple (FromOutput k) = refl
simple_gate s simple High = refl
simple_gate s simple Low = refl

-- so static gates take no inner net
pub simple_inner : (s : Shape) → AreSimple s → (g : Gate) (j : ℕ) → j < inner_count (gate_tree s g) → ⊥
simple_inner s simple g j l = none j (rw (simple_gate s simple g) at l)
  where
    none : (j : ℕ) → j < 0 → ⊥
    none j l = omega arith

pub simple_output_inner : (k : ℕ) (c : DominoCell) (j : ℕ) → c.right ≡ None → j < inner_count (dynamic_nets k c.right) → ⊥
simple_output_inner k c j z l = none j (rw z at l)
  where
    none : (j : ℕ) → j < 0 → ⊥
    none j l = omega arith

-- a side is a cell's left one
pub simple_side : (s : Shape) → AreSimple s → (k : CellSide) (d : DynamicStage) → IsSideAt s k d → (c : DominoCell) × IsCellAt s k.cell c × (k ≡ left_side k.cell) × (left_stage c ≡ d)
simple_side s simple k d e = by k.cell e.0 e.1 k.side e.2
  where
    by : (n : ℕ) (c : DominoCell) → IsCellAt s n c → (side : Side) → side_of c side ≡ Some d
        → (c : DominoCell) × IsCellAt s n c × (record { cell = n; side = side } ≡ left_side n) × (left_stage c ≡ d)
    by n c e Left z = (c, e, refl, cc)
    by n c e Right z = absurd (no (subst (λ r. right_stage c.clock r ≡ Some d) (simple n c e) z))
      where
        no : right_stage c.clock None ≡ Some d → ⊥
        no x = cc

-- a simple cell has the bit of its tree
pub simple_bit : (test : Gate → Bool) (c : DominoCell) → c.right ≡ None → cell_bit test c.tree c.right ≡ joins test c.tree
simple_bit test c z = rw z refl
