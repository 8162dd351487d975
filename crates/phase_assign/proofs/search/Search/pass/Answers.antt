-- A sink more.
use Rattle.std.proofs.Common.{◌≡◌, length, vec_len, arith, rules}
use Rattle.phase_assign.proofs.Turns.{pass_next, pass_start, pass_whole}
use Rattle.phase_assign.proofs.search.Search.pass.Goals as goal

pub loop-sink-init : goal.loop-sink-init
loop-sink-init c = record { search = c.requires.search; trials = c.requires.trials; pass = λ gates order wired. pass_start gates c.args.self.now.signs.items }

pub loop-sink-preserved : goal.loop-sink-preserved
loop-sink-preserved c = record {
  search = c.in_ok-turn.ensures.search;
  trials = c.in_ok-turn.ensures.trials;
  pass = λ gates order wired.
      pass_next gates c.loop-sink.sink c.args.self.now.signs.items c.loop-sink.self.signs.items c.turn.new.self.signs.items (c.loop-sink.invariant.pass gates order wired)
      (c.in_ok-turn.ensures.turn gates order wired);
}

pub returns-clause-pass : goal.returns-clause-pass
returns-clause-pass c = λ gates order wired.
    let counted : vec_len c.args.wiring.now.ends ≡ length c.args.wiring.now.ends.items = search rules in
    pass_whole gates c.loop-sink.sink c.args.self.now.signs.items c.loop-sink.self.signs.items (c.loop-sink.invariant.pass gates order wired) (omega (arith, wired.ends_count))
