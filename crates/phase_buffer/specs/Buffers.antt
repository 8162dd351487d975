-- Shapes with chains of buffers, whose clocks are numbered from 0 (Harris and Horowitz, Skew-tolerant domino circuits).
use Rattle.std.specs.Prelude.{Bool, List, None, [], false, map, nat_eq, ℕ, ◌++◌, ◌-◌, ◌∷◌, ◌||◌}
use Rattle.sp_network.specs.Tree.{Leaf, Parallel, Series, Tree, map_tree}
use Rattle.port_runs.specs.declared.clocking.Clocking.TheVariants.{Overlapping}
use Rattle.domino_law.specs.Nets.{FromDynamic, FromOutput, Gate}
use Rattle.domino_law.specs.Shape.{DominoCell, Latch, Shape}
use Rattle.phase_buffer.specs.Chains.{Cells, end_at, with_chains}

-- the gate is taken from cell k
abbrev pub is_of : ℕ → Gate → Bool
is_of k (FromOutput j) = nat_eq j k
is_of k (FromDynamic j) = nat_eq j k
is_of k _ = false

-- a tree reads cell k; one of these gates is taken from it
abbrev pub reads : ℕ → Tree Gate → Bool
reads k (Leaf g) = is_of k g
reads k (Series l r) = reads k l || reads k r
reads k (Parallel l r) = reads k l || reads k r

abbrev pub takes : ℕ → List Gate → Bool
takes k [] = false
takes k (g ∷ gates) = is_of k g || takes k gates

-- the gates of the sinks: of the outputs and of the latch inputs
abbrev pub sinks : Shape → List Gate
sinks s = s.outputs ++ map (λ (b : Latch). b.next) s.latches

-- the gate of the output of a cell, where cells have these new numbers
abbrev pub taken : (ℕ → ℕ) → Gate → Gate
taken number (FromOutput j) = FromOutput (number j)
taken number g = g

-- the cells of a shape
abbrev pub shape_cells : Shape → Cells DominoCell
shape_cells s = record {
  first = 0;
  last = s.clocks - 1;
  cells = s.cells;
  clock = λ (c : DominoCell). c.clock;
  reads = λ k (c : DominoCell). reads k c.tree;
  is_taken = λ k. takes k (sinks s);
  buffer = λ at clock. record { clock = clock; tree = Leaf (FromOutput at); right = None };
  reading = λ number (c : DominoCell). record { clock = c.clock; tree = map_tree (taken number) c.tree; right = None };
}

-- a sink takes from the last of the chain
abbrev pub ended : Shape → Gate → Gate
ended s (FromOutput k) = FromOutput (end_at (shape_cells s) k)
ended s (FromDynamic k) = FromDynamic (end_at (shape_cells s) k)
ended s g = g

abbrev pub ended_latch : Shape → Latch → Latch
ended_latch s b = record { init = b.init; next = ended s b.next }

-- the shape with these cells and sinks, whose clocks overlap
abbrev pub buffered : Shape → Shape
buffered s = record {
  style = s.style;
  clocking = Overlapping;
  pins = s.pins;
  clocks = s.clocks;
  complements = s.complements;
  cells = with_chains (shape_cells s) 0 s.cells;
  latches = map (ended_latch s) s.latches;
  outputs = map (ended s) s.outputs;
}
