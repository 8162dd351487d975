-- The lines of a trace other than those of cycles.
use Rattle.std.specs.Prelude.{ℕ, List, [], ◌∷◌, ◌++◌, codes, filter, flat_map, length, slice_index_or}
use Rattle.std.specs.Fmt.{decimal}
use Rattle.dom_base.specs.Tri.{letter_of}
use Rattle.event_sim.specs.declared.event.Event.{Event}
use Rattle.trace_tool.specs.Courses.{Course, Settled, Unsettled}
use Rattle.trace_tool.specs.Probes.{is_told}
use Rattle.trace_tool.specs.SetupData.{SetupData}

-- the line of an event, over the names of the nets
abbrev pub event_line : List (List ℕ) → Event → List ℕ
event_line nets event =
    codes "event " ++ decimal event.step ++ codes " " ++ slice_index_or nets event.net []
    ++ codes " " ++ letter_of event.before ∷ codes " " ++ letter_of event.after ∷ 10 ∷ []

-- the lines of those of the events that are told
abbrev pub event_lines : SetupData → List Event → List ℕ
event_lines setup events = flat_map (event_line setup.circuit.nets) (filter (is_told setup) events)

-- the line of power, with the number of its events
abbrev pub power_line : ℕ → List ℕ
power_line events = codes "power events " ++ decimal events ++ 10 ∷ []

-- the line of a settling that ends unsettled: the cycle, 0 in power, and the number of its events
abbrev pub unsettled_line : ℕ → ℕ → List ℕ
unsettled_line cycle events = codes "unsettled cycle " ++ decimal cycle ++ codes " events " ++ decimal events ++ 10 ∷ []

-- the lines of a course in a cycle, 0 in power: those of its events that are told, and then its own line, for the number of
-- all its events, or the line of the settling that ended unsettled
abbrev pub lines_of : SetupData → ℕ → (ℕ → List ℕ) → Course → List ℕ
lines_of setup cycle line (Settled events) = event_lines setup events ++ line (length events)
lines_of setup cycle line (Unsettled events last) = event_lines setup events ++ unsettled_line cycle (length last)
