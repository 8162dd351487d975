-- Which nets of a circuit are sources: inputs, in the switch-level model of Bryant.
use Rattle.std.specs.Prelude.{ℕ, Bool, ◌&&◌, not, [], slice_index_or, nat_eq, nat_lt, codes}
use Rattle.std.specs.List.{starts_with}
use Rattle.deck.specs.CircuitData.{CircuitData}

-- whether a net is a source: a port whose name doesn't begin with `o_`
abbrev pub is_source : CircuitData → ℕ → Bool
is_source c net = nat_lt net c.ports && not (starts_with nat_eq (slice_index_or c.nets net []) (codes "o_"))
