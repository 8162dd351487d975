use Rattle.std.proofs.Common.{◌≡◌, ◌∙◌, Bool, List, length, sym, arith}
use Rattle.dom_base.proofs.Lists.{All-at}
use Rattle.command_answers.proofs.NetworkRuns.{all_run, cycle_run}
use Rattle.command_answers.proofs.run_command.run_text.Goals as goal

pub put_cycle-requires : goal.put_cycle-requires
put_cycle-requires c =
    All-at (λ (pins : List Bool). length pins ≡ c.args.network.now.inputs) c.args.cycles.now c.loop-k.k c.cycle.result.now c.requires c.cycle.ensures
    ∙ sym c.loop-k.invariant.runs.inputs_are

pub loop-k-preserved : goal.loop-k-preserved
loop-k-preserved c =
    cycle_run c.args.network.now c.args.cycles.now c.loop-k.k c.cycle.result.now c.loop-k.runner c.put_cycle.new.runner c.loop-k.text.items c.put_cycle.new.text.items
    c.cycle.ensures c.loop-k.invariant c.in_ok-put_cycle.ensures

pub returns : goal.returns
returns c = all_run c.args.network.now c.args.cycles.now c.loop-k.k c.loop-k.runner c.loop-k.text.items (omega (arith, c.loop-k-test.false, c.len-k-end.ensures)) c.loop-k.invariant
