-- Signs by a method are there and are one list; bytes whose network doesn't suit the method have no deck.
use Rattle.std.proofs.Common.{ℕ, List, subst, sym}
use Rattle.command_words.specs.declared.command.Method.{Method}
use Rattle.command_words.specs.declared.command.Method.TheVariants.{Compound, Exact, Plain, Skew}
use Rattle.network.specs.NetworkData.{NetworkData}
use Rattle.network.specs.Networks.{IsNetwork}
use Rattle.gate_decompose.proofs.GatesOrder.{gates_are_ordered, network_gates_are_in_place}
use Rattle.gate_decompose.proofs.NetworkOrder.{networks_are_ordered}
use Rattle.exact_phase.proofs.ExactSigns.{exact_one, exact_there}
use Rattle.plan_law.specs.Laws.{HaveSigns}
use Rattle.plan_law.specs.OneText.{HaveOneSigns}
use Rattle.plan_law.proofs.DecksThere.{chosen_signs}
use Rattle.plan_law.proofs.OneDeck.{chosen_one}
use Rattle.trace_tool.specs.CosimRefusals.{IsUnflattened}
use Rattle.command_answers.specs.declared.fault.Fault.{Fault}
use Rattle.command_answers.specs.declared.fault.Fault.TheVariants as fault
use Rattle.command_answers.specs.Methods.{AreSignsOf, IsUndecked, IsUnsuited}
use Rattle.command_answers.specs.Networks.{HasNetwork}

pub method_one : (method : Method) (network : NetworkData) → HaveOneSigns (AreSignsOf method) network
method_one (Plain version) network = chosen_one network
method_one Exact network = λ gates a b are x y. (exact_one gates a b x.0 y.0 x.1 y.1).0
method_one Skew network = chosen_one network
method_one Compound network = chosen_one network

pub method_there : (method : Method) (network : NetworkData) → IsNetwork network → HaveSigns (AreSignsOf method) network
method_there (Plain version) network is = chosen_signs network is
method_there Exact network is = λ gates are.
    let ordered = gates_are_ordered gates (network_gates_are_in_place network gates (networks_are_ordered network is) are) in
    let exact = exact_there gates ordered in
    (exact.0, (exact.1, exact.2), exact.2.one_each)
method_there Skew network is = chosen_signs network is
method_there Compound network is = chosen_signs network is

-- a network that doesn't suit the method is that of bytes without a deck
pub unsuited_undecked : (method : Method) (bytes : List ℕ) (network : NetworkData) (why : Fault) → HasNetwork bytes network → IsUnsuited method network why → IsUndecked method bytes why
unsuited_undecked method bytes network (fault.Traced why) has is = subst (IsUnflattened bytes) (sym is) tt
unsuited_undecked (Plain version) bytes network (fault.TooManySinks count) has is = is
unsuited_undecked Exact bytes network (fault.TooManySinks count) has is = record { network = network; has = has; sinks = is }
unsuited_undecked Skew bytes network (fault.TooManySinks count) has is = is
unsuited_undecked Compound bytes network (fault.TooManySinks count) has is = is
