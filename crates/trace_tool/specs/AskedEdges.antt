-- The edges that probe words ask for at each net.
use Rattle.std.specs.Prelude.{ℕ, ◌≡◌, ◌<◌, Bool, false, ◌&&◌, ◌||◌, List, length, slice_index_or}
use Rattle.std.specs.List.{list_any}
use Rattle.event_sim.specs.declared.event.Edge.TheVariants.{Any, Fall, Rise}
use Rattle.event_sim.specs.declared.event.Event.{Event}
use Rattle.dom_base.specs.declared.tri.Tri.{Tri}
use Rattle.trace_tool.specs.Probes.{has_edge, tells}
use Rattle.trace_tool.specs.declared.asked.Asked.{Asked}
use Rattle.trace_tool.specs.declared.options.ProbeWord.{ProbeWord}

-- no edge
abbrev pub unasked : Asked
unasked = record { any = false; rise = false; fall = false }

-- some of the edges holds of an old and a new value
abbrev pub hits : Asked → Tri → Tri → Bool
hits a before after =
    (a.any && has_edge Any before after) || (a.rise && has_edge Rise before after) || (a.fall && has_edge Fall before after)

-- at each net the edges are those that the words with its name ask for
abbrev pub AreAsked : List ProbeWord → List (List ℕ) → List Asked → Type 0
AreAsked probes nets asked = (event : Event) → event.net < length nets
    → hits (slice_index_or asked event.net unasked) event.before event.after ≡ list_any (tells nets event) probes
