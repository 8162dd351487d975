use Rattle.std.proofs.Common.{◌≡◌, ◌<◌, ◌&&◌, ◌==◌, ℕ, false, length, take, get_or, count_by}
use Rattle.dual_rail.specs.Forests.{is_end_from}
use Rattle.tree_map.proofs.free.leave_out_ends.Given as goal

abbrev pub invariant-loop-end : goal.invariant-loop-end
invariant-loop-end l = (p : ℕ) → p < length l.initial.free → get_or l.free p false ≡ (get_or l.initial.free p false && (count_by (is_end_from p) (take l.end-index l.ends) == 0))
