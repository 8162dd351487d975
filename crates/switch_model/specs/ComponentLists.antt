-- The components of a circuit by number: the nets and the places of the devices of each, and the components that each net touches.
use Rattle.std.specs.Prelude.{◌≡◌, ◌<◌, ◌≤◌, ◌+◌, ◌^◌, ℕ, All, zero, suc, Bool, true, false, ◌&&◌, ◌||◌, not, nat_eq, List, [], ◌∷◌, ◌++◌, ◌⊎◌, ◌↔◌, Option, Some, None, length, slice_get, slice_index_or, slice_set, Contains}
use Rattle.std.specs.List.Sorted.{IsStrictlyIncreasing}
use Rattle.deck.specs.Nets.{IsInRange}
use Rattle.deck.specs.declared.device.Device.{Device}
use Rattle.switch_model.specs.Components.{AreConnected, IsAt}
use Rattle.switch_model.specs.Joins.{IsJoinForest, top_of}
use Rattle.switch_model.specs.LinksData.{is_first}
use Rattle.switch_model.specs.Sweeps.{AreRooms}
use Rattle.switch_model.specs.declared.components.Components.{Components}
use Rattle.switch_model.specs.declared.rooms.Rooms.{Rooms}

-- the list at a place; past the end it is empty
abbrev pub list_at : List (List ℕ) → ℕ → List ℕ
list_at lists place = slice_index_or lists place []

-- the lists with a number more at the end of one of them
abbrev pub with_number : List (List ℕ) → ℕ → ℕ → List (List ℕ)
with_number lists place number = slice_set lists place (list_at lists place ++ number ∷ [])

abbrev pub one_where : Bool → ℕ → List ℕ
one_where true n = n ∷ []
one_where false n = []

-- the numbers below a bound that pass a test, by rising number
abbrev pub listed_below : (ℕ → Bool) → ℕ → List ℕ
listed_below test zero = []
listed_below test (suc n) = listed_below test n ++ one_where (test n) n

-- an end of the device is a net, no source, with this number
abbrev pub has_end_in : (ℕ → ℕ) → (ℕ → Bool) → ℕ → Device → Bool
has_end_in number is_source k d =
    (not (is_source d.drain) && nat_eq (number d.drain) k) || (not (is_source d.source) && nat_eq (number d.source) k)

-- there is a device, and an end of it is a net, no source, with this number
abbrev pub is_of : (ℕ → ℕ) → (ℕ → Bool) → ℕ → Option Device → Bool
is_of number is_source k None = false
is_of number is_source k (Some d) = has_end_in number is_source k d

-- nets that are no sources have one number where they are of one component: it is that of one of its nets
pub record IsNumbering (devices : List Device) (is_source : ℕ → Bool) (number : ℕ → ℕ) : Type 0 where
  pub low : (n : ℕ) → number n ≤ n
  pub joint : (d : Device) → Contains devices d → is_source d.drain ≡ false → is_source d.source ≡ false → number d.drain ≡ number d.source
  pub connected : (a b : ℕ) → number a ≡ number b → (a ≡ b) ⊎ AreConnected devices is_source a b

-- the net is one of these, or the gate, the drain or the source of a device at one of these places
abbrev pub IsTouchedBy : List Device → List ℕ → List ℕ → ℕ → Type 0
IsTouchedBy devices nets places x =
    Contains nets x ⊎ ((place : ℕ) × (d : Device) × Contains places place × (slice_get devices place ≡ Some d) × IsAt d x)

-- numbers that rise up to a bound, which only the last of them may reach
pub record RisesTo (bound : ℕ) (numbers : List ℕ) : Type 0 where
  pub rising : IsStrictlyIncreasing numbers
  pub before : (k : ℕ) → k + 1 < length numbers → slice_index_or numbers k 0 < bound
  pub within : (k : ℕ) → k < length numbers → slice_index_or numbers k 0 ≤ bound

abbrev pub AreRisingTo : ℕ → List (List ℕ) → Type 0
AreRisingTo bound lists = (place : ℕ) → RisesTo bound (list_at lists place)

-- the number of a net's component
abbrev pub number_in : Components → ℕ → ℕ
number_in c net = top_of c.parents.items net

-- the lists of a circuit with so many nets
pub record AreComponentLists (devices : List Device) (is_source : ℕ → Bool) (nets : ℕ) (c : Components) : Type 0 where
  pub forest : IsJoinForest c.parents.items
  pub numbering : IsNumbering devices is_source (number_in c)
  pub parents_long : length c.parents.items ≡ nets
  pub nets_long : length c.nets ≡ nets
  pub places_long : length c.places ≡ nets
  pub touched_long : length c.touched ≡ nets
  pub nets_are : (k n : ℕ) → Contains (list_at c.nets k) n ↔ ((n < nets) × (is_source n ≡ false) × (number_in c n ≡ k))
  pub places_are : (k : ℕ) → k < nets
      → list_at c.places k ≡ listed_below (λ place. is_of (number_in c) is_source k (slice_get devices place)) (length devices)
  pub rising : (x : ℕ) → IsStrictlyIncreasing (list_at c.touched x)
  pub touched_are : (x k : ℕ) → Contains (list_at c.touched x) k
      ↔ ((k < nets) × IsTouchedBy devices (list_at c.nets k) (list_at c.places k) x)

-- what a circuit's links hold: the devices are in range, the components are theirs, and there is room for each net
pub record AreLinks (sources : ℕ) (devices : List Device) (components : Components) (rooms : Rooms) : Type 0 where
  pub few : length components.nets ≤ 2 ^ 26
  pub in_range : All (IsInRange (length components.nets)) devices
  pub components_are : AreComponentLists devices (is_first sources) (length components.nets) components
  pub rooms_are : AreRooms (length components.nets) rooms
