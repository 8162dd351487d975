use Rattle.std.proofs.Common.{◌≡◌, ℕ, ◌<◌}
use Rattle.dom_base.specs.declared.tri.Tri.{Tri}
use Rattle.switch_model.specs.LinksData.{is_first}
use Rattle.switch_model.specs.Targets.{IsPending}
use Rattle.switch_model.proofs.links.Links.at_rest.Given as goal

abbrev pub invariant-loop-net : goal.invariant-loop-net
invariant-loop-net l = record {
  same : l.self ≡ l.fn.self;
  rest : (n : ℕ) (v : Tri) → n < l.net → IsPending l.fn.self.devices (is_first l.fn.self.sources) l.values n v → ⊥;
}
