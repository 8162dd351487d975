-- What a walk over devices finds: the classes of nets, what drives each, and its charge.
use Rattle.std.specs.Prelude.{◌≡◌, ◌≢◌, ◌↔◌, ◌⊎◌, ℕ, Bool, true, List, Contains, slice_index_or}
use Rattle.dom_base.specs.declared.tri.Tri.{Tri}
use Rattle.dom_base.specs.declared.tri.Tri.TheVariants.{Unknown}
use Rattle.deck.specs.declared.device.Device.{Device}
use Rattle.deck.specs.Switches.{value_of}
use Rattle.switch_model.specs.FourDrives.{IsTold, no_drives, sort_of, tells}
use Rattle.switch_model.specs.Joins.{AreJoined, AreTopsOf, IsTopMoved, top_of}
use Rattle.switch_model.specs.Walks.{IsLed, Linked, PassesSort}
use Rattle.switch_model.specs.declared.class.Class.{Class}
use Rattle.switch_model.specs.declared.drives.Drives.{Drives}
use Rattle.switch_model.specs.declared.room.Room.{Room}
use Rattle.switch_model.specs.declared.sort.Sort.{Sort}

-- what is known of the class of a top
abbrev pub class_at : List Class → ℕ → Class
class_at classes top = slice_index_or classes top (record { drives = no_drives; charge = Unknown })

abbrev pub class_of : Room → ℕ → Class
class_of room net = class_at room.classes.items (top_of room.parents.items net)

-- the value of all nets, or Unknown where two have different ones
abbrev pub IsCharge : (ℕ → Type 0) → List Tri → Tri → Type 0
IsCharge S values c = ((m : ℕ) → S m → value_of values m ≡ c)
    ⊎ ((c ≡ Unknown) × ((m : ℕ) × (n : ℕ) × S m × S n × (value_of values m ≢ value_of values n)))

-- the value of both, Unknown where they differ
pub record IsMixed (a b c : Tri) : Type 0 where
  pub same : a ≡ b → c ≡ a
  pub apart : a ≢ b → c ≡ Unknown

-- drives by the sources of both
abbrev pub IsWith : Drives → Drives → Drives → Type 0
IsWith a b c = (definite keepers high : Bool)
    → (tells c definite keepers high ≡ true) ↔ ((tells a definite keepers high ≡ true) ⊎ (tells b definite keepers high ≡ true))

-- what is known of two classes, as of one
pub record AreJoinedTo (a b c : Class) : Type 0 where
  pub drives : IsWith a.drives b.drives c.drives
  pub charge : IsMixed a.charge b.charge c.charge

-- two nets were joined: of their tops keep stays, gone goes below it, and keep has what is known of both
pub record IsUnited (old new : Room) (a b keep gone : ℕ) : Type 0 where
  pub both : AreTopsOf old.parents.items a b keep gone
  pub tops : (n : ℕ) → IsTopMoved old.parents.items new.parents.items keep gone n
  pub here : AreJoinedTo (class_at old.classes.items keep) (class_at old.classes.items gone) (class_at new.classes.items keep)
  pub others : (t : ℕ) → t ≢ keep → class_at new.classes.items t ≡ class_at old.classes.items t

-- what a walk over devices has found: the nets joined by a sort of paths, and of the class of each net of a list the sources that
-- paths of each sort lead to, and the value of all nets of the list in it
pub record AreFound (start nets : List ℕ) (is_source : ℕ → Bool) (sort : Sort) (values : List Tri) (ds : List Device) (room : Room)
    : Type 0 where
  pub joined : (x y : ℕ) → AreJoined room.parents.items x y ↔ Linked (AreJoined start) (PassesSort sort values) is_source ds x y
  pub driven : (definite keepers : Bool) (n : ℕ) → Contains nets n → IsTold (class_of room n).drives definite keepers
      (IsLed room.parents.items (PassesSort (sort_of definite keepers) values) is_source ds (top_of room.parents.items n)) values
  pub charged : (n : ℕ) → Contains nets n
      → IsCharge (λ m. Contains nets m × (top_of room.parents.items m ≡ top_of room.parents.items n)) values (class_of room n).charge
