-- The lines of events, and texts put together from pieces.
use Rattle.std.proofs.Common.{◌≡◌, ℕ, Bool, true, false, if◌then◌else◌, List, [], ◌∷◌, ◌++◌, codes, filter, flat_map, slice_index_or, refl, sym, ap, ◌∙◌, append_assoc, append-nil}
use Rattle.std.proofs.lemmas.List.Elements.{filter-append}
use Rattle.std.proofs.lemmas.Grind.{flat_map-append}
use Rattle.std.specs.Fmt.{decimal}
use Rattle.dom_base.specs.Tri.{letter_of}
use Rattle.event_sim.specs.declared.event.Event.{Event}
use Rattle.trace_tool.specs.Probes.{is_told}
use Rattle.trace_tool.specs.TraceLines.{event_line, event_lines}
use Rattle.trace_tool.specs.SetupData.{SetupData}

-- a piece of a text, and what follows it
pub piece : (before mid after a rest : List ℕ) → mid ≡ before ++ a → after ≡ mid ++ rest → after ≡ before ++ (a ++ rest)
piece before mid after a rest p q = q ∙ ap (λ (l : List ℕ). l ++ rest) p ∙ append_assoc before a rest

-- the line of an event up to its values
abbrev pub event_front : List (List ℕ) → Event → List ℕ
event_front nets event = codes "event " ++ decimal event.step ++ codes " " ++ slice_index_or nets event.net [] ++ codes " "

pub event_line-is : (nets : List (List ℕ)) (event : Event)
    → event_line nets event ≡ event_front nets event ++ (letter_of event.before ∷ 32 ∷ letter_of event.after ∷ 10 ∷ [])
event_line-is nets event = append_assoc (event_front nets event) (letter_of event.before ∷ 32 ∷ []) (letter_of event.after ∷ 10 ∷ [])

-- the lines of events that follow others
pub event_lines-append : (setup : SetupData) (d e : List Event) → event_lines setup (d ++ e) ≡ event_lines setup d ++ event_lines setup e
event_lines-append setup d e =
    ap (flat_map (event_line setup.circuit.nets)) (filter-append (is_told setup) d e)
    ∙ flat_map-append (event_line setup.circuit.nets) (filter (is_told setup) d) (filter (is_told setup) e)

pub event_lines-none : (setup : SetupData) → event_lines setup [] ≡ []
event_lines-none setup = refl

-- the line of one event, where it is told and where it isn't
pub event_lines-told : (setup : SetupData) (event : Event) → is_told setup event ≡ true → event_lines setup (event ∷ []) ≡ event_line setup.circuit.nets event
event_lines-told setup event told =
    ap (λ (b : Bool). flat_map (event_line setup.circuit.nets) (if b then event ∷ [] else [])) told ∙ append-nil (event_line setup.circuit.nets event)

pub event_lines-untold : (setup : SetupData) (event : Event) → is_told setup event ≡ false → event_lines setup (event ∷ []) ≡ []
event_lines-untold setup event untold = ap (λ (b : Bool). flat_map (event_line setup.circuit.nets) (if b then event ∷ [] else [])) untold

-- a text goes on with the lines of further events
pub text-append : (setup : SetupData) (before mid after : List ℕ) (d e : List Event)
    → mid ≡ before ++ event_lines setup d → after ≡ mid ++ event_lines setup e → after ≡ before ++ event_lines setup (d ++ e)
text-append setup before mid after d e p q =
    piece before mid after (event_lines setup d) (event_lines setup e) p q
    ∙ ap (λ (l : List ℕ). before ++ l) (sym (event_lines-append setup d e))
