-- What an audit finds in a circuit that keeps all rules: its dynamic nets in an order in which each cell reads earlier ones alone, its
-- complements and its latches; and the places of its devices, part by part, in the order of a deck (SPICE M cards).
use Rattle.std.specs.Prelude.{List, Some, [], flat_map, length, slice_get, suc, zero, ℕ, ◌++◌, ◌+◌, ◌<◌, ◌∷◌, ◌≡◌, ◌≤◌}
use Rattle.deck.specs.CircuitData.{CircuitData}
use Rattle.deck.specs.PortLayout.{first_output, first_pin, source_count}
use Rattle.deck.specs.declared.device.Device.{Device}
use Rattle.deck.specs.declared.role.Roles.{Roles}
use Rattle.sp_network.specs.Tree.{Tree}
use Rattle.domino_law.specs.Nets.{DeckSignal, FromLatch, FromPin, leaf_of}
use Rattle.sp_reduction.specs.Networks.{Link, whole_height, whole_width}
use Rattle.link_reduce.specs.Parts.{IsOnce, numbers_of}
use Rattle.deck_audit.specs.Audits.{HasMeasure, IsGreatest, IsYes}
use Rattle.deck_audit.specs.Rules.{HasFront, HasTree, KeepsRules, Reads}
use Rattle.deck_audit.specs.Words.{Group, IsComplement, IsDynamic, IsGroup, IsInner, IsInverterOutput, StandsAt}

-- a latch, with the places of its nine devices
pub record FoundLatch : Type 0 where
  pub group : Group
  pub places : List ℕ

pub record FoundParts : Type 0 where
  pub tops : List ℕ
  pub complements : List ℕ
  pub latches : List FoundLatch

-- the net is that of the signal: a pin, or the output of one of the latches
abbrev pub IsSignalNet : Roles → List FoundLatch → DeckSignal → ℕ → Type 0
IsSignalNet roles latches (FromPin p) n = (p < roles.pins) × (first_pin roles + p ≡ n)
IsSignalNet roles latches (FromLatch j) n = (l : FoundLatch) × (slice_get latches j ≡ Some l) × ((l.group).output ≡ n)

-- the net is the complement of the signal
abbrev pub IsOfSignal : List Device → Roles → List FoundLatch → ℕ → DeckSignal → Type 0
IsOfSignal ds roles latches n l = (i : ℕ) × IsSignalNet roles latches l i × IsComplement ds roles n i

-- these are all dynamic nets, all complements and all latches, each once; each cell reads cells before it alone, and the complements stand
-- in order of the leaves of their signals: pins first, then the latches as they are listed
pub record AreFound (ds : List Device) (roles : Roles) (f : FoundParts) : Type 0 where
  pub tops_sound : (k x : ℕ) → slice_get f.tops k ≡ Some x → IsDynamic ds roles x
  pub tops_full : (x : ℕ) → IsDynamic ds roles x → (k : ℕ) × (slice_get f.tops k ≡ Some x)
  pub tops_once : IsOnce f.tops
  pub in_order : (k x y : ℕ) → slice_get f.tops k ≡ Some x → Reads ds roles x y → (j : ℕ) × (j < k) × (slice_get f.tops j ≡ Some y)
  pub complements_sound : (k n : ℕ) → slice_get f.complements k ≡ Some n → (i : ℕ) × IsComplement ds roles n i
  pub complements_full : (n i : ℕ) → IsComplement ds roles n i → (k : ℕ) × (slice_get f.complements k ≡ Some n)
  pub complements_ordered : (i j m n : ℕ) (a b : DeckSignal) → i < j → slice_get f.complements i ≡ Some m → slice_get f.complements j ≡ Some n
      → IsOfSignal ds roles f.latches m a → IsOfSignal ds roles f.latches n b → leaf_of roles.pins a < leaf_of roles.pins b
  pub latches_sound : (j : ℕ) (l : FoundLatch) → slice_get f.latches j ≡ Some l → IsGroup ds roles l.group l.places
  pub latches_full : (g : Group) (places : List ℕ) → IsGroup ds roles g places
      → (j : ℕ) × (l : FoundLatch) × (slice_get f.latches j ≡ Some l) × (l.group ≡ g)
  pub latches_once : (i j : ℕ) (l m : FoundLatch) → slice_get f.latches i ≡ Some l → slice_get f.latches j ≡ Some m → l.group ≡ m.group → i ≡ j

-- one list of places for each part, in order
pub record AreBlocks {X : Type 0} (P : X → List ℕ → Type 0) (xs : List X) (blocks : List (List ℕ)) : Type 0 where
  pub count : length blocks ≡ length xs
  pub each : (i : ℕ) (x : X) (block : List ℕ) → slice_get xs i ≡ Some x → slice_get blocks i ≡ Some block → P x block

abbrev pub whole : List (List ℕ) → List ℕ
whole blocks = flat_map (λ block. block) blocks

-- the places of a cell: its precharge, its keeper, its tree, its foot and its inverter
pub record IsCellPlaces (ds : List Device) (roles : Roles) (x clock output bottom : ℕ) (tree : Tree Link) (places : List ℕ) : Type 0 where
  pub front : HasFront ds roles x clock output
  pub has_tree : HasTree ds roles x clock bottom tree
  pub no_port : IsInner roles output
  pub inverter : IsInverterOutput ds output x
  pub places_are : places ≡ front.precharge ∷ front.keeper ∷ ((numbers_of tree ++ has_tree.foot ∷ []) ++ inverter.up ∷ inverter.down ∷ [])

abbrev pub AreCellPlaces : List Device → Roles → ℕ → List ℕ → Type 0
AreCellPlaces ds roles x places =
    (clock : ℕ) × (output : ℕ) × (bottom : ℕ) × (tree : Tree Link) × IsCellPlaces ds roles x clock output bottom tree places

-- the places of an inverter with this output
pub record AreInverterPlaces (ds : List Device) (n : ℕ) (places : List ℕ) : Type 0 where
  pub input : ℕ
  pub inverter : IsInverterOutput ds n input
  pub places_are : places ≡ inverter.up ∷ inverter.down ∷ []

-- so many numbers, from the first on
abbrev pub numbers_from : ℕ → ℕ → List ℕ
numbers_from n zero = []
numbers_from n (suc k) = n ∷ numbers_from (n + 1) k

-- the places of all parts: cells, complements, latches, inverters of output ports and of latch inputs
pub record ArePlaces (ds : List Device) (roles : Roles) (f : FoundParts) (order : List ℕ) : Type 0 where
  pub cells : List (List ℕ)
  pub complements : List (List ℕ)
  pub latches : List (List ℕ)
  pub outputs : List (List ℕ)
  pub nexts : List (List ℕ)
  pub cells_are : AreBlocks (AreCellPlaces ds roles) f.tops cells
  pub complements_are : AreBlocks (AreInverterPlaces ds) f.complements complements
  pub latches_are : AreBlocks (λ (l : FoundLatch) block. block ≡ l.places) f.latches latches
  pub outputs_are : AreBlocks (AreInverterPlaces ds) (numbers_from (first_output roles) roles.outs) outputs
  pub nexts_are : AreBlocks (λ (l : FoundLatch) block. AreInverterPlaces ds (l.group).data_net block) f.latches nexts
  pub order_is : order ≡ whole cells ++ (whole complements ++ (whole latches ++ (whole outputs ++ whole nexts)))

-- where all rules hold, these places are the order of a yes
abbrev pub FoundDecksGetYes : Type 0
FoundDecksGetYes =
    (c : CircuitData) (roles : Roles) (f : FoundParts) (order : List ℕ) (w h : ℕ) → 1 ≤ roles.clocks → source_count roles ≤ length c.nets
    → ((d : Device) (p : ℕ) → StandsAt c.devices p d → (d.drain < length c.nets) × (d.source < length c.nets))
    → KeepsRules c.devices roles (length c.nets) → AreFound c.devices roles f → ArePlaces c.devices roles f order
    → IsGreatest (HasMeasure c.devices roles whole_width) w → IsGreatest (HasMeasure c.devices roles whole_height) h
    → IsYes c roles order (length f.tops) w h
