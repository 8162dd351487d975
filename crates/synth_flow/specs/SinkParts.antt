-- The sinks of a deck, as the code holds them.
use Rattle.std.specs.Prelude.{ℕ, Bool, List, slice_index_or}
use Rattle.deck.specs.declared.phase.Phase.{Phase}
use Rattle.dual_rail.specs.declared.forest.End.{End}
use Rattle.dual_rail.specs.declared.forest.End.TheVariants.{Const, Literal, FromDynamic, FromOutput}
use Rattle.deck_form.specs.DeckNets.{SinkEnd, Fixed, OfLeaf, OfDynamic, OfOutput}

-- the phase of a sink, by its net and its sign
abbrev pub phase_of_sink : List ℕ × Bool → Phase
phase_of_sink p = record { net = p.0; plus = p.1 }

-- what a sink is taken from, where pair by pair the number of its cell is given
abbrev pub end_in : List ℕ → End → SinkEnd
end_in cells (Const b) = Fixed b
end_in cells (Literal rail) = OfLeaf rail.leaf rail.plus
end_in cells (FromDynamic place) = OfDynamic (slice_index_or cells place 0)
end_in cells (FromOutput place) = OfOutput (slice_index_or cells place 0)
