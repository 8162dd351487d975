-- Rest.
use Rattle.std.specs.Prelude.{List}
use Rattle.dom_base.specs.declared.tri.Tri.{Tri}
use Rattle.switch_model.specs.LinksData.{LinksData, is_first}
use Rattle.switch_model.specs.Targets.{IsAtRest}

-- no net is pending
abbrev pub IsResting : LinksData → List Tri → Type 0
IsResting links values = IsAtRest links.devices (is_first links.sources) values
