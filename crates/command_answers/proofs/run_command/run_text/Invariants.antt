use Rattle.command_answers.proofs.NetworkRuns.{HasRunTo}
use Rattle.command_answers.proofs.run_command.run_text.Given as goal

abbrev pub invariant-loop-k : goal.invariant-loop-k
invariant-loop-k l = HasRunTo l.fn.network l.fn.cycles l.k l.runner l.text.items
