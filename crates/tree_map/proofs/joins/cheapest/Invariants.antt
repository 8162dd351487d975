use Rattle.std.proofs.Common.{◌≡◌, map, take}
use Rattle.tree_map.specs.CoverRows.{entry_of}
use Rattle.cover_plan.specs.CoverTables.{lowest}
use Rattle.tree_map.proofs.joins.cheapest.Given as goal

abbrev pub invariant-loop-offer : goal.invariant-loop-offer
invariant-loop-offer l = l.least ≡ lowest (map entry_of (take l.offer-index l.offers))
