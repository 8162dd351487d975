use Rattle.std.proofs.Common.{◌≡◌, ◌≤◌, ◌+◌, ◌*◌, ◌-◌, ℕ, Bool, List, [], take, drop, length}
use Rattle.dual_rail.specs.declared.signed.SignedNode.{SignedNode}
use Rattle.phase_assign.specs.Uses.{AreBelow, AreUses, living, times, used}
use Rattle.phase_assign.proofs.needed.Needed.supply.Given as goal

abbrev pub invariant-uses : goal.invariant-uses
invariant-uses l = record {
  within : l.done ≤ length l.work.items;
  count : length l.self.uses.items ≡ length l.arms;
  size : l.self.size ≡ living (used l.self.uses.items) (length l.arms);
  below : AreBelow (length l.arms) l.work.items;
  uses : (roots : List SignedNode) → AreUses l.arms (used l.fn.self.uses.items) roots l.fn.work.items []
      → AreUses l.arms (used l.self.uses.items) roots (drop l.done l.work.items) [];
  come : (n : ℕ) (s : Bool) → used l.self.uses.items n s ≡ used l.fn.self.uses.items n s + times n s (take l.done l.work.items);
}

abbrev pub decreases-uses : goal.decreases-uses
decreases-uses l = 2 * (l.limit - l.self.size) + (length l.work.items - l.done)
