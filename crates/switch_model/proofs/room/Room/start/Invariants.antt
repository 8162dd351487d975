use Rattle.std.proofs.Common.{◌≡◌, ◌<◌, ℕ, get_or, length}
use Rattle.deck.specs.Switches.{value_of}
use Rattle.switch_model.specs.Found.{class_at}
use Rattle.switch_model.specs.FourDrives.{no_drives}
use Rattle.switch_model.specs.Joins.{above}
use Rattle.switch_model.specs.Sweeps.{IsRoom}
use Rattle.switch_model.proofs.room.Room.start.Given as goal

abbrev pub invariant-loop-net : goal.invariant-loop-net
invariant-loop-net l = record {
  room : IsRoom (length l.values) l.self;
  alone : (k : ℕ) → k < l.net-index → above l.self.parents.items (get_or l.nets k 0) ≡ get_or l.nets k 0;
  drives : (k : ℕ) → k < l.net-index → (class_at l.self.classes.items (get_or l.nets k 0)).drives ≡ no_drives;
  charge : (k : ℕ) → k < l.net-index → (class_at l.self.classes.items (get_or l.nets k 0)).charge ≡ value_of l.values (get_or l.nets k 0);
}
