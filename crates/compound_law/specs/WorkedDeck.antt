-- A worked network, an Or of two inputs, and its deck of one compound cell: what the laws of planned decks ask for can be met.
use Rattle.std.specs.Prelude.{[], codes, true, List, ◌∷◌}
use Rattle.blif_ast.specs.declared.letter.Letter.TheVariants.{Any, One}
use Rattle.deck.specs.CircuitData.{CircuitData}
use Rattle.sp_network.specs.Tree.{Leaf}
use Rattle.network.specs.NetworkData.{NetworkData}
use Rattle.network.specs.Networks.{IsNetwork}
use Rattle.compound_plan.specs.Plans.{CellTrees, Compound}
use Rattle.deck_form.specs.DeckNets.{OfDynamic}
use Rattle.compound_law.specs.CompoundDecks.{IsPlannedDeck, deck_circuit}
use Rattle.compound_law.specs.Laws.{AreByteNames}

-- `f` is `a` or `b`
abbrev pub or_network : NetworkData
or_network = record {
  name = codes "or2";
  names = codes "a" ∷ codes "b" ∷ codes "f" ∷ [];
  inputs = 2;
  outputs = 2 ∷ [];
  latches = [];
  tables = record { inputs = 0 ∷ 1 ∷ []; on = true; rows = (One ∷ Any ∷ []) ∷ (Any ∷ One ∷ []) ∷ [] } ∷ [];
}

-- one compound cell, of a tree for each input, and an output from its two dynamic nets
abbrev pub or_cells : List CellTrees
or_cells = Compound (Leaf 0) (Leaf 2) ∷ []

abbrev pub or_circuit : CircuitData
or_circuit = deck_circuit or_network 1 or_cells (1 ∷ []) (true ∷ []) (OfDynamic 0 ∷ [])

-- it is a network, and the circuit is a planned deck of it, with trees of width 1 and height 1
abbrev pub OrDeckIsPlanned : Type 0
OrDeckIsPlanned = IsNetwork or_network × AreByteNames or_network.names × IsPlannedDeck or_network 1 1 1 or_circuit
