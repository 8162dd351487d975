use Rattle.std.proofs.Common.{◌≡◌, [], replicate}
use Rattle.link_reduce.proofs.stacks.Stacks.new.Given as goal

abbrev pub invariant-loop : goal.invariant-loop
invariant-loop l = l.lists.items ≡ replicate l.counter []
