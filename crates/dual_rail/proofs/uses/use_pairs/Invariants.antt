use Rattle.std.proofs.Common.{◌≡◌, ◌+◌, ◌*◌, ◌≤◌, ◌<◌, ℕ, length, take, sum_by}
use Rattle.std.specs.Prelude.{slice_index_or}
use Rattle.dual_rail.specs.Uses.{named_by}
use Rattle.dual_rail.proofs.uses.use_pairs.Given as goal

abbrev pub invariant-loop-pair : goal.invariant-loop-pair
invariant-loop-pair l = record {
  uses : (p : ℕ) → p < length l.initial.uses → slice_index_or l.uses p 0 ≡ slice_index_or l.initial.uses p 0 + sum_by (named_by p) (take l.pair-index l.pairs);
  room : (p : ℕ) → slice_index_or l.uses p 0 ≤ slice_index_or l.initial.uses p 0 + 2 * l.pair-index;
}
