-- Ports that take values together.
use Rattle.std.specs.List.{enumerate_from}
use Rattle.std.specs.Prelude.{List, [], map, slice_set, ℕ, ◌∷◌}
use Rattle.dom_base.specs.declared.tri.Tri.{Tri}

-- a port takes a value
pub record PortValue : Type 0 where
  pub port : ℕ
  pub value : Tri

-- the values of the nets after ports have taken theirs, with no event between them
abbrev pub set_all : List Tri → List PortValue → List Tri
set_all values [] = values
set_all values (s ∷ more) = set_all (slice_set values s.port s.value) more

-- the ports from one on take these values, one each
abbrev pub set_from : ℕ → List Tri → List PortValue
set_from port values = map (λ p. record { port = p.0; value = p.1 }) (enumerate_from port values)
