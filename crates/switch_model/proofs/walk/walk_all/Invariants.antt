use Rattle.std.proofs.Common.{◌≡◌, ◌<◌, ◌+◌, ℕ, List, true, get_or, length}
use Rattle.std.specs.Prelude.{Some, slice_get}
use Rattle.deck.specs.declared.device.Device.{Device}
use Rattle.switch_model.specs.Found.{AreFound}
use Rattle.switch_model.specs.FourDrives.{IsPlain}
use Rattle.switch_model.specs.LinksData.{is_first}
use Rattle.switch_model.specs.Sweeps.{IsRoom}
use Rattle.switch_model.proofs.Walking.{AreWalked}
use Rattle.switch_model.proofs.walk.walk_all.Given as goal

abbrev pub invariant-loop-place : goal.invariant-loop-place
invariant-loop-place g l = record {
  room : IsRoom (length l.values) l.room;
  found : (ds : List Device) × AreWalked l.wires l.places l.place-index ds
      × AreFound l.fn.room.parents.items l.nets (is_first l.sources) l.sort l.values ds l.room;
  plain : l.plain ≡ true → (d : Device) (k : ℕ) → k < l.place-index → slice_get l.wires (get_or l.places k 0) ≡ Some d → IsPlain (is_first l.sources) l.values d;
  cost : l.steps ≡ l.fn.steps + l.place-index;
}
