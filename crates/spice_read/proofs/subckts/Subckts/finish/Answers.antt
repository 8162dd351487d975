use Rattle.std.proofs.Common.{◌∙◌, ◌++◌, ◌∷◌, [], None, ap, subst, sym}
use Rattle.deck.specs.CircuitData.{CircuitData}
use Rattle.spice_read.specs.FlatSubckts.{closed_with, flat_definition, open_in}
use Rattle.spice_read.specs.Readers.{Reader}
use Rattle.spice_read.specs.ReadSubckts.{IsFinished, SubcktsData}
use Rattle.spice_read.specs.declared.subckts.Last.{Last}
use Rattle.spice_read.proofs.FlatSubckts.{flat_finished}
use Rattle.spice_read.proofs.subckts.Subckts.finish.Goals as goal

pub returns-in-Closed-clause-circuit : goal.returns-in-Closed-clause-circuit
returns-in-Closed-clause-circuit c =
    let units = c.self.inside.units in
    let phases = ap (λ (r : Reader). r.phases) c.cards.view_is in
    let flat = flat_finished units c.in-Closed.circuit c.args.cards.phases c.with_phases.ensures.whole in
    let there : SubcktsData = record { closed = units ++ flat_definition c.in-Closed.circuit ∷ []; current = None } in
    let self = ap (λ (l : Last). record { closed = closed_with units l; current = open_in l }) (sym c.in-Closed.is) ∙ c.self.view_is in
    let circuit = c.with_phases.ensures.phases ∙ ap (λ l. record c.in-Closed.circuit { phases = l }) phases in
    subst (λ (s : SubcktsData). IsFinished s c.args.cards.phases c.with_phases.result) self (subst (λ (e : CircuitData). IsFinished there c.args.cards.phases e) (sym circuit) flat)
