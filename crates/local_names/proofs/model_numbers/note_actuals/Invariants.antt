use Rattle.std.proofs.Common.{◌≡◌, drop, length}
use Rattle.local_names.specs.Places.{IsIndexed}
use Rattle.local_names.proofs.Gathered.{AreActualsNoted}
use Rattle.local_names.proofs.model_numbers.note_actuals.Given as goal

pub record Keeps (l : goal.Live-loop-index) : Type 0 where
  pub count : length l.place ≡ length l.fn.place
  pub indexed : IsIndexed l.kept.items l.place
  pub noted : AreActualsNoted (length l.fn.place) (drop 1 l.words) l.index l.fn.kept.items l.kept.items

abbrev pub invariant-loop-index : goal.invariant-loop-index
invariant-loop-index l = Keeps l
