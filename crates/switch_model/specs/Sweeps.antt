-- Room for the classes of nets by four sorts of paths, and the targets that they give.
use Rattle.std.specs.Prelude.{◌≡◌, ℕ, Bool, true, false, length}
use Rattle.dom_base.specs.declared.tri.Tri.{Tri}
use Rattle.switch_model.specs.Found.{class_of}
use Rattle.switch_model.specs.FourDrives.{drives_by, target_by_drives}
use Rattle.switch_model.specs.Joins.{IsJoinForest}
use Rattle.switch_model.specs.declared.drives.Drives.{Drives}
use Rattle.switch_model.specs.declared.room.Room.{Room}
use Rattle.switch_model.specs.declared.rooms.Rooms.{Rooms}

-- room for so many nets
pub record IsRoom (nets : ℕ) (room : Room) : Type 0 where
  pub forest : IsJoinForest room.parents.items
  pub parents : length room.parents.items ≡ nets
  pub classes : length room.classes.items ≡ nets

pub record AreRooms (nets : ℕ) (rooms : Rooms) : Type 0 where
  pub strong_definite : IsRoom nets rooms.strong_definite
  pub strong_possible : IsRoom nets rooms.strong_possible
  pub definite : IsRoom nets rooms.definite
  pub possible : IsRoom nets rooms.possible

-- the drives of a net by all sorts of paths: at once, where all sorts have the classes of possible paths, else each by its own classes
abbrev pub drives_in : Bool → Rooms → ℕ → Drives
drives_in true rooms net = (class_of rooms.possible net).drives
drives_in false rooms net =
    drives_by (class_of rooms.strong_definite net).drives (class_of rooms.strong_possible net).drives (class_of rooms.definite net).drives
    (class_of rooms.possible net).drives

-- the target that a sweep found for a net
abbrev pub target_in : Bool → Rooms → ℕ → Tri
target_in plain rooms net = target_by_drives (drives_in plain rooms net) (class_of rooms.possible net).charge
