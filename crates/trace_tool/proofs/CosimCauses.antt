-- Why a text of BLIF, a deck and a stimulus have no verdict, by what was read.
use Rattle.std.proofs.Common.{◌≡◌, ℕ, List, refl, sym, subst}
use Rattle.deck.specs.DeckFaults.{IsDeckFaultAt}
use Rattle.deck.specs.declared.fault.DeckKind.{DeckKind}
use Rattle.network.specs.NetworkData.{NetworkData}
use Rattle.spice_read.specs.declared.faults.DeckFault.{DeckFault}
use Rattle.spice_read.specs.declared.faults.DeckFault.TheVariants as deck_faults
use Rattle.trace_tool.specs.CosimRefusals.{HasNetworkOf, IsCosimRefused, IsUnflattened}
use Rattle.trace_tool.specs.Refusals.{of_deck}
use Rattle.trace_tool.specs.declared.fault.TraceFault.{TraceFault}
use Rattle.trace_tool.specs.declared.fault.TraceFault.TheVariants.{Blif, Flat, Deck, Ports, NoNet, Stim, Memory}

pub unflattened_refused : (blif deck stim : List ℕ) (why : TraceFault) → IsUnflattened blif why → IsCosimRefused blif deck stim why
unflattened_refused blif deck stim (Blif line kind) x = x
unflattened_refused blif deck stim (Flat fault) x = x
unflattened_refused blif deck stim (Deck line kind) x = absurd x
unflattened_refused blif deck stim (Ports place) x = absurd x
unflattened_refused blif deck stim (NoNet name) x = absurd x
unflattened_refused blif deck stim (Stim line kind) x = absurd x
unflattened_refused blif deck stim Memory x = tt

pub deck_refused : (blif deck stim : List ℕ) (n : NetworkData) (fault : DeckFault) (why : TraceFault) → HasNetworkOf blif n
    → ((line : ℕ) (kind : DeckKind) → fault ≡ deck_faults.At line kind → IsDeckFaultAt deck line kind) → why ≡ of_deck fault → IsCosimRefused blif deck stim why
deck_refused blif deck stim n (deck_faults.At line kind) why has f is =
    subst (IsCosimRefused blif deck stim) (sym is) (record { network = n; has = has; fault = f line kind refl })
deck_refused blif deck stim n deck_faults.Memory why has f is = subst (IsCosimRefused blif deck stim) (sym is) tt
