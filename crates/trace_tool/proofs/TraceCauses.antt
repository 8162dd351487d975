-- Why a deck and a stimulus have no trace, by what was read.
use Rattle.std.proofs.Common.{◌≡◌, ℕ, List, refl, sym, subst}
use Rattle.deck.specs.CircuitData.{CircuitData}
use Rattle.deck.specs.DeckText.{IsDeckOf}
use Rattle.deck.specs.Roles.{AreRoles, ports_of}
use Rattle.deck.specs.declared.role.Roles.{Roles}
use Rattle.stim_text.specs.declared.fault.StimFault.{StimFault}
use Rattle.stim_text.specs.declared.fault.StimFault.TheVariants as stim_faults
use Rattle.stim_text.specs.declared.fault.StimKind.{StimKind}
use Rattle.stim_text.specs.Stimuli.{IsStimFaultAt}
use Rattle.trace_tool.specs.Probes.{AreNets}
use Rattle.trace_tool.specs.Refusals.{IsRefused, IsUnnamed, of_stim}
use Rattle.trace_tool.specs.declared.fault.TraceFault.{TraceFault}
use Rattle.trace_tool.specs.declared.fault.TraceFault.TheVariants.{Blif, Flat, Deck, Ports, NoNet, Stim, Memory}
use Rattle.trace_tool.specs.declared.options.ProbeWord.{ProbeWord}

pub unnamed_refused : (deck stim : List ℕ) (probes : List ProbeWord) (c : CircuitData) (roles : Roles) (why : TraceFault) → IsDeckOf deck c → AreRoles (ports_of c) roles
    → IsUnnamed c.nets probes why → IsRefused deck stim probes why
unnamed_refused deck stim probes c roles (NoNet name) is_deck are x = record { circuit = c; roles = roles; is_deck = is_deck; are_roles = are; first = x }
unnamed_refused deck stim probes c roles (Blif line kind) is_deck are x = absurd x
unnamed_refused deck stim probes c roles (Flat fault) is_deck are x = absurd x
unnamed_refused deck stim probes c roles (Deck line kind) is_deck are x = absurd x
unnamed_refused deck stim probes c roles (Ports place) is_deck are x = absurd x
unnamed_refused deck stim probes c roles (Stim line kind) is_deck are x = absurd x
unnamed_refused deck stim probes c roles Memory is_deck are x = tt

pub stimulus_refused : (deck stim : List ℕ) (probes : List ProbeWord) (c : CircuitData) (roles : Roles) (fault : StimFault) (why : TraceFault) → IsDeckOf deck c → AreRoles (ports_of c) roles
    → AreNets c.nets probes → ((line : ℕ) (kind : StimKind) → fault ≡ stim_faults.At line kind → IsStimFaultAt roles.pins stim line kind) → why ≡ of_stim fault
    → IsRefused deck stim probes why
stimulus_refused deck stim probes c roles (stim_faults.At line kind) why is_deck are nets f is =
    subst (IsRefused deck stim probes) (sym is)
    (record { circuit = c; roles = roles; is_deck = is_deck; are_roles = are; are_nets = nets; fault = f line kind refl })
stimulus_refused deck stim probes c roles stim_faults.Memory why is_deck are nets f is = subst (IsRefused deck stim probes) (sym is) tt
