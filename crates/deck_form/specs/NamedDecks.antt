-- Loose domino decks: decks of domino cells over any ports in order, as the laws of domino circuits speak of them.
use Rattle.domino_cell.specs.declared.style.Style.{Style}
use Rattle.std.specs.Prelude.{ℕ, ◌+◌, ◌*◌, ◌≤◌, ◌<◌, ◌≡◌, ◌==◌, Bool, true, false, ◌||◌, ◌&&◌, List, ◌++◌, length, Some, slice_get, AllPairs, Contains, All}
use Rattle.std.specs.List.{list_any}
use Rattle.deck.specs.CircuitData.{CircuitData}
use Rattle.deck.specs.Ports.{HasRoles, leading_ports}
use Rattle.deck.specs.Pushes.{new_circuit}
use Rattle.deck.specs.NamedDevices.{with_devices}
use Rattle.sp_network.specs.Tree.{Tree, EachLeaf, Leaf, Series, Parallel}
use Rattle.deck_form.specs.DeckNets.{CellPlan, SinkEnd, Fixed, OfLeaf, OfDynamic, OfOutput, named_devices}

-- the gate is one of the tree's
abbrev pub reads : ℕ → Tree ℕ → Bool
reads gate (Leaf other) = other == gate
reads gate (Series l r) = reads gate l || reads gate r
reads gate (Parallel l r) = reads gate l || reads gate r

-- the sink is the plus literal of this leaf, whose inverter is gated by the complement
abbrev pub is_plus_literal : ℕ → SinkEnd → Bool
is_plus_literal leaf (OfLeaf other plus) = plus && (other == leaf)
is_plus_literal leaf _ = false

-- a tree reads the minus rail of the leaf, or a sink is its plus literal
abbrev pub names_complement : List CellPlan → List SinkEnd → ℕ → Bool
names_complement cells ends leaf = list_any (λ c. reads (2 * leaf + 1) c.tree) cells || list_any (is_plus_literal leaf) ends

-- the end of a sink: a constant, a literal of one of so many leaves, or one of so many cells
abbrev pub IsEndIn : ℕ → ℕ → SinkEnd → Type 0
IsEndIn leaf_count cells (Fixed b) = Unit {0}
IsEndIn leaf_count cells (OfLeaf leaf plus) = leaf < leaf_count
IsEndIn leaf_count cells (OfDynamic k) = k < cells
IsEndIn leaf_count cells (OfOutput k) = k < cells

-- the leaves of each tree are rails and outputs of cells below its own
abbrev pub ReadsBelow : ℕ → List CellPlan → Type 0
ReadsBelow leaf_count cells =
    (k : ℕ) (c : CellPlan) → slice_get cells k ≡ Some c → EachLeaf (λ gate. gate < 2 * leaf_count + k) c.tree

pub record IsNamedDeck (style : Style) (circuit : CircuitData) : Type 0 where
  pub clocks : ℕ
  pub pins : List (List ℕ)
  pub outs : List (List ℕ)
  -- the start value of each latch
  pub starts : List Bool
  pub cells : List CellPlan
  pub complements : List ℕ
  pub ends : List SinkEnd
  -- the ports stand in the order of roles
  pub roles : HasRoles (leading_ports clocks ++ pins ++ outs) clocks pins outs
  pub reads_below : ReadsBelow (length pins + length starts) cells
  -- each clock is one of the ports
  pub clocks_are : All (λ c. (1 ≤ c.clock) × (c.clock ≤ clocks)) cells
  -- complements stand at most once, in order of their leaves, and each that is named is there
  pub in_order : AllPairs (λ a b. a < b) complements
  pub of_leaves : All (λ leaf. leaf < length pins + length starts) complements
  pub named : (leaf : ℕ) → leaf < length pins + length starts → names_complement cells ends leaf ≡ true → Contains complements leaf
  -- one sink for each output and each latch
  pub one_end : length ends ≡ length outs + length starts
  pub ends_are : All (IsEndIn (length pins + length starts) (length cells)) ends
  pub circuit_is : circuit ≡ with_devices (new_circuit circuit.name circuit.phases clocks pins outs)
      (named_devices style pins outs starts cells complements ends)
