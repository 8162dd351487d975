-- A pass more, and the last one.
use Rattle.std.proofs.Common.{ap, ◌∙◌, replicate, true}
use Rattle.phase_assign.proofs.Searches.{search_size}
use Rattle.phase_assign.proofs.Turns.{falls, reached_end, reached_next, reached_start}
use Rattle.phase_assign.proofs.search.assign.Goals as goal

pub passes-init : goal.passes-init
passes-init c = record {
  search = c.in_ok-search.ensures.search;
  trials = c.in_ok-search.ensures.trials;
  reached = reached_start c.args.gates.now c.in_ok-search.search.signs.items (c.in_ok-search.ensures.plus ∙ ap (λ n. replicate n true) c.in_ok-wiring.ensures.wired.ends_count);
}

pub returns-then-search-before : goal.returns-then-search-before
returns-then-search-before c =
    reached_end c.args.gates.now c.passes.search.signs.items c.pass.new.self.signs.items c.passes.search.needed.size c.pass.new.self.needed.size c.passes.invariant.reached
    (c.in_ok-pass.ensures.pass c.args.gates.now c.in_ok-wiring.ensures.ordered c.in_ok-wiring.ensures.wired)
    (search_size c.args.gates.now c.in_ok-wiring.ensures.ordered c.in_ok-wiring.wiring.arms.items c.in_ok-wiring.wiring.ends.items c.in_ok-wiring.ensures.wiring c.in_ok-wiring.ensures.wired
    c.passes.search.signs.items c.passes.search.needed.uses.items c.passes.search.needed.size c.passes.invariant.search)
    (search_size c.args.gates.now c.in_ok-wiring.ensures.ordered c.in_ok-wiring.wiring.arms.items c.in_ok-wiring.wiring.ends.items c.in_ok-wiring.ensures.wiring c.in_ok-wiring.ensures.wired
    c.pass.new.self.signs.items c.pass.new.self.needed.uses.items c.pass.new.self.needed.size c.in_ok-pass.ensures.search)
    c.if-search-before.true

pub passes-smaller : goal.passes-smaller
passes-smaller c =
    falls c.args.gates.now c.passes.search.signs.items c.pass.new.self.signs.items c.passes.search.needed.size c.pass.new.self.needed.size
    (c.in_ok-pass.ensures.pass c.args.gates.now c.in_ok-wiring.ensures.ordered c.in_ok-wiring.ensures.wired)
    (search_size c.args.gates.now c.in_ok-wiring.ensures.ordered c.in_ok-wiring.wiring.arms.items c.in_ok-wiring.wiring.ends.items c.in_ok-wiring.ensures.wiring c.in_ok-wiring.ensures.wired
    c.passes.search.signs.items c.passes.search.needed.uses.items c.passes.search.needed.size c.passes.invariant.search)
    (search_size c.args.gates.now c.in_ok-wiring.ensures.ordered c.in_ok-wiring.wiring.arms.items c.in_ok-wiring.wiring.ends.items c.in_ok-wiring.ensures.wiring c.in_ok-wiring.ensures.wired
    c.pass.new.self.signs.items c.pass.new.self.needed.uses.items c.pass.new.self.needed.size c.in_ok-pass.ensures.search)
    c.if-search-before.false

pub passes-preserved : goal.passes-preserved
passes-preserved c = record {
  search = c.in_ok-pass.ensures.search;
  trials = c.in_ok-pass.ensures.trials;
  reached = reached_next c.args.gates.now c.passes.search.signs.items c.pass.new.self.signs.items c.passes.search.needed.size c.pass.new.self.needed.size c.passes.invariant.reached
      (c.in_ok-pass.ensures.pass c.args.gates.now c.in_ok-wiring.ensures.ordered c.in_ok-wiring.ensures.wired)
      (search_size c.args.gates.now c.in_ok-wiring.ensures.ordered c.in_ok-wiring.wiring.arms.items c.in_ok-wiring.wiring.ends.items c.in_ok-wiring.ensures.wiring c.in_ok-wiring.ensures.wired
      c.passes.search.signs.items c.passes.search.needed.uses.items c.passes.search.needed.size c.passes.invariant.search)
      (search_size c.args.gates.now c.in_ok-wiring.ensures.ordered c.in_ok-wiring.wiring.arms.items c.in_ok-wiring.wiring.ends.items c.in_ok-wiring.ensures.wiring c.in_ok-wiring.ensures.wired
      c.pass.new.self.signs.items c.pass.new.self.needed.uses.items c.pass.new.self.needed.size c.in_ok-pass.ensures.search)
      c.if-search-before.false;
}
