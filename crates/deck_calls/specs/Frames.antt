-- The expansion of a subcircuit step by step, with a stack of calls: what a loop over it has made and has left.
use Rattle.std.specs.Prelude.{ℕ, ◌≡◌, nat_eq, if◌then◌else◌, List, [], ◌∷◌, ◌++◌, map, flat_map, Option, Some, None}
use Rattle.std.specs.Cmp.Lexicographic.{pointwise}
use Rattle.deck.specs.NamedDevices.{NamedDevice, map_device}
use Rattle.deck.specs.Subckts.{Call, SubcktPart, Single, Called, Subckt, passed_net, part_devices, part_count, expansion, expansions, sizes}

-- a subcircuit that is being expanded: the names that its nets have in its caller, the subcircuits above it, the nearest first, and its
-- parts that are left
pub record ExpansionFrame : Type 0 where
  pub rename : List ℕ → List ℕ
  pub above : List Subckt
  pub parts : List SubcktPart

-- the name that a net of the nearest frame has in the end: it is renamed by each frame in turn, so a net that is a port of
-- some caller has the name of what was passed there
abbrev pub name_in : List ExpansionFrame → List ℕ → List ℕ
name_in [] name = name
name_in (f ∷ frames) name = name_in frames (f.rename name)

-- the devices that are left, the nearest frame first
abbrev pub left_in : List ExpansionFrame → List (NamedDevice (List ℕ))
left_in [] = []
left_in (f ∷ frames) = map (map_device (name_in (f ∷ frames))) (flat_map (part_devices (expansions f.above)) f.parts) ++ left_in frames

-- the frame of the subcircuit that is expanded
abbrev pub main_frame : List Subckt → Subckt → ExpansionFrame
main_frame above s = record { rename = λ name. name; above = above; parts = s.parts }

-- the frame of a call of this subcircuit, which stands behind these
abbrev pub call_frame : Call → Subckt → List Subckt → ExpansionFrame
call_frame call s above = record { rename = passed_net call.name s.ports call.nets; above = above; parts = s.parts }

-- the subcircuit of this name and those above it
abbrev pub found_above : List ℕ → List Subckt → Option (Subckt × List Subckt)
found_above name [] = None
found_above name (s ∷ above) = if pointwise nat_eq name s.name then Some (s, above) else found_above name above

-- each step of the expansion leaves what it should
pub record ExpansionSteps : Type 0 where
  -- at first all devices are left
  pub start : (above : List Subckt) (s : Subckt) → left_in (main_frame above s ∷ []) ≡ (expansion (expansions above) s).devices
  -- a frame whose parts are done is dropped
  pub done : (f : ExpansionFrame) (frames : List ExpansionFrame) → f.parts ≡ [] → left_in (f ∷ frames) ≡ left_in frames
  -- a device is the next one, by the names that its nets have in the end
  pub device : (f : ExpansionFrame) (frames : List ExpansionFrame) (d : NamedDevice (List ℕ)) (parts : List SubcktPart)
      → f.parts ≡ Single d ∷ parts
      → left_in (f ∷ frames) ≡ map_device (name_in (f ∷ frames)) d ∷ left_in (record f { parts = parts } ∷ frames)
  -- a call gives a frame of its own
  pub call : (f : ExpansionFrame) (frames : List ExpansionFrame) (c : Call) (parts : List SubcktPart) (s : Subckt) (above : List Subckt)
      → f.parts ≡ Called c ∷ parts → found_above c.unit f.above ≡ Some (s, above)
      → left_in (f ∷ frames) ≡ left_in (call_frame c s above ∷ record f { parts = parts } ∷ frames)
  -- but for a call of a subcircuit without devices, which is passed over
  pub empty : (f : ExpansionFrame) (frames : List ExpansionFrame) (c : Call) (parts : List SubcktPart)
      → f.parts ≡ Called c ∷ parts → part_count (sizes f.above) (Called c) ≡ 0
      → left_in (f ∷ frames) ≡ left_in (record f { parts = parts } ∷ frames)
