use Rattle.std.proofs.Common.{◌≡◌}
use Rattle.compare_decks.proofs.runs.targets.by_links.Given as goal

abbrev pub invariant-loop-net : goal.invariant-loop-net
invariant-loop-net l = l.links ≡ l.initial.links
