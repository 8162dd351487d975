use Rattle.std.proofs.Common.{◌≡◌, ◌+◌, Bool, List, []}
use Rattle.deck.specs.declared.device.Device.{Device}
use Rattle.switch_model.specs.FourDrives.{IsTold, sort_of}
use Rattle.switch_model.specs.LinksData.{is_first}
use Rattle.switch_model.specs.Walks.{IsLed, PassesSort}
use Rattle.switch_model.proofs.Walking.{AreWalked}
use Rattle.switch_model.proofs.single.single_drives.Given as goal

abbrev pub invariant-loop-place : goal.invariant-loop-place
invariant-loop-place g l = record {
  driven : (ds : List Device) × AreWalked l.wires l.places l.place-index ds
      × ((definite keepers : Bool) → IsTold l.drives definite keepers (IsLed [] (PassesSort (sort_of definite keepers) l.values) (is_first l.sources) ds l.net) l.values);
  cost : l.steps ≡ l.fn.steps + l.place-index;
}
