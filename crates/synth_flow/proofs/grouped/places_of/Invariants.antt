use Rattle.std.proofs.Common.{◌≡◌, ◌++◌, ◌<◌, ◌^◌, drop}
use Rattle.std.specs.List.{AllByRecursion}
use Rattle.synth_flow.specs.GroupEnds.{ends_of}
use Rattle.synth_flow.proofs.grouped.places_of.Given as goal

abbrev pub invariant-groups : goal.invariant-groups
invariant-groups l = record {
  places : l.places.items ++ ends_of l.end (drop l.k l.sizes) ≡ ends_of 0 l.sizes;
  low : AllByRecursion (λ place. place < 2 ^ 32) (ends_of l.end (drop l.k l.sizes));
}
