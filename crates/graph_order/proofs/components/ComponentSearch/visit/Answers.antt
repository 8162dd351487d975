use Rattle.std.proofs.Common.{◌+◌, Some, ap, sym, ◌∙◌, subst}
use Rattle.graph_order.specs.ComponentSearches.{AreMetBelow}
use Rattle.graph_order.proofs.ComponentEnds.{begins_met, begins_new}
use Rattle.graph_order.proofs.components.ComponentSearch.visit.Goals as goal
use Rattle.graph_order.proofs.components.ComponentSearch.visit.Goals.{in-New+in_ok-enter, in_default}

pub stops-init : goal.stops-init
stops-init c = elim c.match-place.branch [
  | in-New+in_ok-enter w ↦ subst (AreMetBelow c.args.nodes.now (c.args.node + 1)) (sym (w.self-is ∙ w.in_ok-enter.ensures))
      (begins_new c.args.nodes.now c.args.node c.args.self.now c.requires.met (c.place.ensures ∙ ap Some w.in-New.is))
  | in_default w ↦ subst (AreMetBelow c.args.nodes.now (c.args.node + 1)) (sym w.self-is)
      (begins_met c.args.nodes.now c.args.node c.args.self.now c.place.result c.requires.met c.place.ensures w.in_default.not-New)
]
