use Rattle.std.proofs.Common.{arith, ◌∙◌}
use Rattle.std.proofs.lemmas.Bool.{eq-eqb, eqb-true}
use Rattle.event_sim.proofs.StepFacts.{links_same, none_where_rests, pending_moved, rests_where_none, values_same}
use Rattle.event_sim.proofs.sim.Sim.at_rest.Goals as goal

pub returns-clause-rest : goal.returns-clause-rest
returns-clause-rest g c =
    let s = c.args.self.now in
    let nets = c.self.inside.pending.listed in
    let pending = pending_moved (links_same c.self.view_is) (values_same c.self.view_is) c.self.invariant.right in (
      λ yes. rests_where_none s.links s.values nets pending (omega (arith, c.count.ensures, eqb-true c.count.result 0 yes)),
      λ rest. eq-eqb c.count.result 0 (c.count.ensures ∙ none_where_rests s.links s.values nets pending rest),
    )
