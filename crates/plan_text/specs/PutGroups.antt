-- Clocked inverters by the names of their nets, and sinks by their places.
use Rattle.std.specs.Prelude.{ℕ, Bool, List, [], ◌∷◌, ◌++◌, codes, map}
use Rattle.std.specs.List.{zip}
use Rattle.deck.specs.NamedDevices.{NamedDevice}
use Rattle.deck.specs.declared.phase.Phase.{Phase}
use Rattle.deck_form.specs.DeckNets.{sink_nets}
use Rattle.dom_base.specs.declared.kind.Kind.TheVariants.{N as nch, P as pch}
use Rattle.plan_text.specs.Nets.{listed_net}

-- a clocked inverter with this output: while its clock is 1, and the opposite 0, it drives its output to the opposite of its input
abbrev pub clocked_inverter : List ℕ → List ℕ → List ℕ → List ℕ → List (NamedDevice (List ℕ))
clocked_inverter out clock opposite input =
    record { kind = pch; drain = out; gate = opposite; source = out ++ codes "p" }
    ∷ record { kind = pch; drain = out ++ codes "p"; gate = input; source = codes "vdd" }
    ∷ record { kind = nch; drain = out; gate = clock; source = out ++ codes "n" }
    ∷ record { kind = nch; drain = out ++ codes "n"; gate = input; source = codes "vss" }
    ∷ []

-- the net of a sink by its place: the outputs stand first, then the data of the latches
abbrev pub nth_sink : List (List ℕ) → ℕ → List ℕ
nth_sink outs k = listed_net outs (codes "x") k

-- the phases of sinks with these signs
abbrev pub signed_phases : List (List ℕ) → List Bool → List Bool → List Phase
signed_phases outs starts signs = map (λ p. record { net = p.0; plus = p.1 }) (zip (sink_nets outs starts) signs)
