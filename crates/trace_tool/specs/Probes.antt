-- Probe words: the nets that they name, and the events that they tell.
use Rattle.std.specs.Prelude.{ℕ, Bool, ◌==◌, ◌&&◌, ◌||◌, not, nat_eq, List, [], All, Contains, slice_index_or}
use Rattle.std.specs.Cmp.Lexicographic.{pointwise}
use Rattle.std.specs.List.{list_any}
use Rattle.dom_base.specs.declared.tri.Tri.{Tri}
use Rattle.dom_base.specs.declared.tri.Tri.TheVariants.{One, Zero}
use Rattle.dom_base.specs.Tri.{letter_of}
use Rattle.event_sim.specs.declared.event.Edge.{Edge}
use Rattle.event_sim.specs.declared.event.Edge.TheVariants.{Any, Fall, Rise}
use Rattle.event_sim.specs.declared.event.Event.{Event}
use Rattle.trace_tool.specs.declared.options.ProbeWord.{ProbeWord}
use Rattle.trace_tool.specs.SetupData.{SetupData}

-- each word's name is one of these nets
abbrev pub AreNets : List (List ℕ) → List ProbeWord → Type 0
AreNets nets words = All (λ word. Contains nets word.name) words

-- two values are the same
abbrev pub same_value : Tri → Tri → Bool
same_value a b = letter_of a == letter_of b

-- the edge's relation holds of an old and a new value: any change, a change to One, or a change to Zero
abbrev pub has_edge : Edge → Tri → Tri → Bool
has_edge Any before after = not (same_value before after)
has_edge Rise before after = same_value after One && not (same_value before One)
has_edge Fall before after = same_value after Zero && not (same_value before Zero)

-- a word has the name of an event's net, and its edge's relation holds of the old and the new value
abbrev pub tells : List (List ℕ) → Event → ProbeWord → Bool
tells nets event word =
    pointwise nat_eq word.name (slice_index_or nets event.net []) && has_edge word.edge event.before event.after

-- an event is told where every event is, or a probe word tells it
abbrev pub is_told : SetupData → Event → Bool
is_told setup event = setup.events || list_any (tells setup.circuit.nets event) setup.probes
