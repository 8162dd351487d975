use Rattle.std.proofs.Common.{ℕ, refl, arith}
use Rattle.event_sim.specs.declared.event.Settled.TheVariants.{Rest, Unsettled}
use Rattle.event_sim.proofs.EventChains.{has_run-more, ran_whole, settles-rest, settles-unrest}
use Rattle.dom_base.proofs.Bools.{never}
use Rattle.event_sim.proofs.sim.Sim.settle.Goals as goal

pub events-preserved : goal.events-preserved
events-preserved g c = record {
  run = has_run-more (λ pick step count place. g.F.Fn.post pick (step, (count, tt)) place) c.args.self.now c.events.count c.events.self c.step.new.self c.in-Some.field-0
      c.events.invariant.run c.in-Some.ensures.when c.in-Some.ensures.chosen c.in-Some.ensures.moved;
  within = omega arith;
}

pub returns-in_default-clause-run : goal.returns-in_default-clause-run
returns-in_default-clause-run g c =
    settles-rest (λ (step count place : ℕ). g.F.Fn.post c.args.self.now.pick (step, (count, tt)) place) c.args.self.now c.events.count c.events.self _ (Rest c.events.count) c.events.invariant.run
    (omega (arith, c.events.invariant.within, c.most_events-most.ensures.most)) (c.in_default.ensures.rest.0 refl) (c.in_default.ensures.stays refl) refl

pub returns-then-at_rest-clause-run : goal.returns-then-at_rest-clause-run
returns-then-at_rest-clause-run g c =
    settles-rest (λ (step count place : ℕ). g.F.Fn.post c.args.self.now.pick (step, (count, tt)) place) c.args.self.now c.events.count c.events.self _ (Rest c.events.count) c.events.invariant.run
    (omega (arith, c.events.invariant.within, c.most_events-most.ensures.most)) (c.at_rest.ensures.rest.0 c.if-at_rest.true) c.at_rest.ensures.same refl

pub returns-else-at_rest-clause-run : goal.returns-else-at_rest-clause-run
returns-else-at_rest-clause-run g c =
    settles-unrest (λ (step count place : ℕ). g.F.Fn.post c.args.self.now.pick (step, (count, tt)) place) c.args.self.now c.events.count c.events.self _ (Unsettled c.events.count) c.events.invariant.run
    (omega (arith, c.events.invariant.within, c.most_events-most.ensures.most, c.events-test.false))
    (λ rest. never (c.at_rest.ensures.rest.1 rest) c.if-at_rest.false) c.at_rest.ensures.same refl

pub returns-then-at_rest-clause-whole : goal.returns-then-at_rest-clause-whole
returns-then-at_rest-clause-whole g c = ran_whole c.args.self.now _ (returns-then-at_rest-clause-run g c).0 (returns-then-at_rest-clause-run g c).2

pub returns-else-at_rest-clause-whole : goal.returns-else-at_rest-clause-whole
returns-else-at_rest-clause-whole g c = ran_whole c.args.self.now _ (returns-else-at_rest-clause-run g c).0 (returns-else-at_rest-clause-run g c).2

pub returns-in_default-clause-whole : goal.returns-in_default-clause-whole
returns-in_default-clause-whole g c = ran_whole c.args.self.now _ (returns-in_default-clause-run g c).0 (returns-in_default-clause-run g c).2
