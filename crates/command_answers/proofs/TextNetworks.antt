-- The bytes of a file with a network, and for what they have no run.
use Rattle.std.proofs.Common.{◌≡◌, ◌≤◌, ℕ, List, length, refl, subst, sym}
use Rattle.command_answers.specs.Networks.{HasNetwork, IsRunRefused}
use Rattle.dom_io.specs.Held.{file_limit}
use Rattle.network.specs.NetworkData.{NetworkData}
use Rattle.stim_text.specs.Stimuli.{IsStimFaultAt}
use Rattle.stim_text.specs.declared.fault.StimFault.{StimFault}
use Rattle.stim_text.specs.declared.fault.StimFault.TheVariants as stim_faults
use Rattle.stim_text.specs.declared.fault.StimKind.{StimKind}
use Rattle.trace_tool.specs.CosimRefusals.{HasNetworkOf, IsUnflattened}
use Rattle.trace_tool.specs.Refusals.{of_stim}
use Rattle.trace_tool.specs.declared.fault.TraceFault.{TraceFault}
use Rattle.trace_tool.specs.declared.fault.TraceFault.TheVariants as trace_fault

-- bytes of a file with a network
pub text_network : (bytes : List ℕ) (n : NetworkData) → length bytes ≤ file_limit → HasNetworkOf bytes n → HasNetwork bytes n
text_network bytes n within has = record { within = within; file = has.file; accepted = has.accepted; network_is = has.network_is }

-- a text without a network has no run, nor has one whose stimulus has a fault
pub network_unrun : (bytes stim : List ℕ) (fault : TraceFault) → IsUnflattened bytes fault → IsRunRefused bytes stim fault
network_unrun bytes stim (trace_fault.Blif line kind) is = is
network_unrun bytes stim (trace_fault.Flat fault) is = is
network_unrun bytes stim (trace_fault.Deck line kind) is = is
network_unrun bytes stim (trace_fault.Ports place) is = is
network_unrun bytes stim (trace_fault.NoNet name) is = is
network_unrun bytes stim (trace_fault.Stim line kind) is = absurd is
network_unrun bytes stim trace_fault.Memory is = tt

pub stimulus_unrun : (bytes stim : List ℕ) (n : NetworkData) (fault : StimFault) (why : TraceFault) → HasNetwork bytes n
    → ((line : ℕ) (kind : StimKind) → fault ≡ stim_faults.At line kind → IsStimFaultAt n.inputs stim line kind) → why ≡ of_stim fault → IsRunRefused bytes stim why
stimulus_unrun bytes stim n (stim_faults.At line kind) why has f is = subst (IsRunRefused bytes stim) (sym is) (record { network = n; has = has; fault = f line kind refl })
stimulus_unrun bytes stim n stim_faults.Memory why has f is = subst (IsRunRefused bytes stim) (sym is) tt
