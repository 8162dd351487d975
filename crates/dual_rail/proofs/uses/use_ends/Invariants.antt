use Rattle.std.proofs.Common.{◌≡◌, ◌+◌, ◌≤◌, ◌<◌, ℕ, length, take, count_by}
use Rattle.std.specs.Prelude.{slice_index_or}
use Rattle.dual_rail.specs.Forests.{is_end_from}
use Rattle.dual_rail.proofs.uses.use_ends.Given as goal

abbrev pub invariant-loop-end : goal.invariant-loop-end
invariant-loop-end l = record {
  uses : (p : ℕ) → p < length l.initial.uses → slice_index_or l.uses p 0 ≡ slice_index_or l.initial.uses p 0 + count_by (is_end_from p) (take l.end-index l.ends);
  room : (p : ℕ) → slice_index_or l.uses p 0 ≤ slice_index_or l.initial.uses p 0 + l.end-index;
}
