-- In an order of events a text of BLIF, a deck and a stimulus have one verdict, or are refused for one cause.
use Rattle.std.proofs.Common.{◌≡◌, ◌≢◌, ◌∙◌, ℕ, Bool, List, refl, sym, ap, subst}
use Rattle.deck.specs.CircuitData.{CircuitData}
use Rattle.deck.specs.declared.role.Roles.{Roles}
use Rattle.deck.proofs.DeckUnique.{IsDeckOf-unique}
use Rattle.network.specs.NetworkData.{NetworkData}
use Rattle.net_run.specs.Runs.{Cycle, IsNetworkRun}
use Rattle.net_run.proofs.OneRun.{one_run}
use Rattle.event_sim.specs.Orders.{By}
use Rattle.stim_text.specs.Stimuli.{IsStimFaultAt, IsStimulusOf}
use Rattle.stim_text.specs.declared.fault.StimKind.{StimKind}
use Rattle.trace_tool.specs.CosimRefusals.{HasStimFault, IsCosimRefused}
use Rattle.trace_tool.specs.Traces.{picked_place}
use Rattle.trace_tool.specs.VerdictLaws.{VerdictIsOne}
use Rattle.trace_tool.specs.Verdicts.{IsVerdict, IsVerdictOf}
use Rattle.trace_tool.specs.declared.fault.TraceFault.{TraceFault}
use Rattle.trace_tool.specs.declared.fault.TraceFault.TheVariants.{Blif, Flat, Deck, Ports, NoNet, Stim, Memory}
use Rattle.trace_tool.specs.declared.options.Order.{Order}
use Rattle.trace_tool.specs.declared.verdict.Verdict.{Verdict}
use Rattle.trace_tool.proofs.NetworkTexts.{blif_fault_same, network_same, no_network_apart, no_network_same, text_network_kept}
use Rattle.trace_tool.proofs.OneAnswer.{bad_ports_apart, bad_ports_same, deck_fault_same, no_circuit, no_stimulus, roles_same, stim_fault_same, stimulus_same}
use Rattle.trace_tool.proofs.OneVerdict.{verdict_same}

verdict_is_same : (blif deck stim : List ℕ) (order : Order) (seed : ℕ) (a b : Verdict)
    → IsVerdictOf blif deck stim order seed a → IsVerdictOf blif deck stim order seed b → a ≡ b
verdict_is_same blif deck stim order seed a b x y =
    let networks = network_same blif y.network x.network y.has x.has in
    let circuits = IsDeckOf-unique deck y.circuit x.circuit y.is_deck x.is_deck in
    let roles = roles_same deck y.circuit x.circuit y.roles x.roles y.is_deck x.is_deck y.are_roles x.are_roles in
    let streams = stimulus_same x.network.inputs stim y.stream x.stream
    (subst (λ (n : NetworkData). IsStimulusOf n.inputs stim y.stream) networks y.is_stimulus) x.is_stimulus in
    let one = one_run x.network x.stream (text_network_kept blif x.network x.has) x.is_stimulus.widths_are in
    let moved = subst (λ (l : List (List Bool)). IsNetworkRun x.network l y.cycles) streams (subst (λ (n : NetworkData). IsNetworkRun n y.stream y.cycles) networks y.is_run) in
    let cycles = one.1.only y.cycles moved ∙ sym (one.1.only x.cycles x.is_run) in
    let by = By (picked_place order seed) in
    verdict_same (picked_place order seed) x.network x.circuit x.roles x.stream x.cycles a b x.is_verdict
    (subst (λ (l : List Cycle). IsVerdict by x.network x.circuit x.roles x.stream l b) cycles
    (subst (λ (l : List (List Bool)). IsVerdict by x.network x.circuit x.roles l y.cycles b) streams
    (subst (λ (r : Roles). IsVerdict by x.network x.circuit r y.stream y.cycles b) roles
    (subst (λ (c : CircuitData). IsVerdict by x.network c y.roles y.stream y.cycles b) circuits
    (subst (λ (n : NetworkData). IsVerdict by n y.circuit y.roles y.stream y.cycles b) networks y.is_verdict)))))

-- a stimulus is refused at one line for one kind
stim_same : (blif deck stim : List ℕ) (line line' : ℕ) (kind kind' : StimKind) → HasStimFault blif deck stim line kind → HasStimFault blif deck stim line' kind'
    → (line ≡ line') × (kind ≡ kind')
stim_same blif deck stim line line' kind kind' x y =
    stim_fault_same x.network.inputs stim line line' kind kind' x.fault
    (subst (λ (n : NetworkData). IsStimFaultAt n.inputs stim line' kind') (network_same blif y.network x.network y.has x.has) y.fault)

cause_is_same : (blif deck stim : List ℕ) (a b : TraceFault) → a ≢ Memory → b ≢ Memory
    → IsCosimRefused blif deck stim a → IsCosimRefused blif deck stim b → a ≡ b
cause_is_same blif deck stim Memory b p q x y = absurd (p refl)
cause_is_same blif deck stim (NoNet name) b p q x y = absurd x
cause_is_same blif deck stim (Blif line kind) Memory p q x y = absurd (q refl)
cause_is_same blif deck stim (Flat fault) Memory p q x y = absurd (q refl)
cause_is_same blif deck stim (Deck line kind) Memory p q x y = absurd (q refl)
cause_is_same blif deck stim (Ports place) Memory p q x y = absurd (q refl)
cause_is_same blif deck stim (Stim line kind) Memory p q x y = absurd (q refl)
cause_is_same blif deck stim (Blif line kind) (NoNet name) p q x y = absurd y
cause_is_same blif deck stim (Flat fault) (NoNet name) p q x y = absurd y
cause_is_same blif deck stim (Deck line kind) (NoNet name) p q x y = absurd y
cause_is_same blif deck stim (Ports place) (NoNet name) p q x y = absurd y
cause_is_same blif deck stim (Stim line kind) (NoNet name) p q x y = absurd y
cause_is_same blif deck stim (Blif line kind) (Blif line' kind') p q x y =
    let same = blif_fault_same blif line line' kind kind' x y in
    λ i. Blif (same.0 i) (same.1 i)
cause_is_same blif deck stim (Blif line kind) (Flat fault) p q x y = absurd (y.accepted.no_fault line kind x.fault)
cause_is_same blif deck stim (Blif line kind) (Deck line' kind') p q x y = absurd (y.has.accepted.no_fault line kind x.fault)
cause_is_same blif deck stim (Blif line kind) (Ports place) p q x y = absurd (y.has.accepted.no_fault line kind x.fault)
cause_is_same blif deck stim (Blif line kind) (Stim line' kind') p q x y = absurd (y.has.accepted.no_fault line kind x.fault)
cause_is_same blif deck stim (Flat fault) (Blif line kind) p q x y = absurd (x.accepted.no_fault line kind y.fault)
cause_is_same blif deck stim (Flat fault) (Flat fault') p q x y = ap Flat (no_network_same blif fault fault' x y)
cause_is_same blif deck stim (Flat fault) (Deck line kind) p q x y = absurd (no_network_apart blif y.network fault y.has x)
cause_is_same blif deck stim (Flat fault) (Ports place) p q x y = absurd (no_network_apart blif y.network fault y.has x)
cause_is_same blif deck stim (Flat fault) (Stim line kind) p q x y = absurd (no_network_apart blif y.network fault y.has x)
cause_is_same blif deck stim (Deck line kind) (Blif line' kind') p q x y = absurd (x.has.accepted.no_fault line' kind' y.fault)
cause_is_same blif deck stim (Deck line kind) (Flat fault) p q x y = absurd (no_network_apart blif x.network fault x.has y)
cause_is_same blif deck stim (Deck line kind) (Deck line' kind') p q x y =
    let same = deck_fault_same deck line line' kind kind' x.fault y.fault in
    λ i. Deck (same.0 i) (same.1 i)
cause_is_same blif deck stim (Deck line kind) (Ports place) p q x y = absurd (no_circuit deck line kind y.fault.circuit x.fault y.fault.is_deck)
cause_is_same blif deck stim (Deck line kind) (Stim line' kind') p q x y = absurd (no_circuit deck line kind y.circuit x.fault y.is_deck)
cause_is_same blif deck stim (Ports place) (Blif line' kind') p q x y = absurd (x.has.accepted.no_fault line' kind' y.fault)
cause_is_same blif deck stim (Ports place) (Flat fault) p q x y = absurd (no_network_apart blif x.network fault x.has y)
cause_is_same blif deck stim (Ports place) (Deck line kind) p q x y = absurd (no_circuit deck line kind x.fault.circuit y.fault x.fault.is_deck)
cause_is_same blif deck stim (Ports place) (Ports place') p q x y = ap Ports (bad_ports_same deck place place' x.fault y.fault)
cause_is_same blif deck stim (Ports place) (Stim line kind) p q x y = absurd (bad_ports_apart deck place y.circuit y.roles x.fault y.is_deck y.are_roles)
cause_is_same blif deck stim (Stim line kind) (Blif line' kind') p q x y = absurd (x.has.accepted.no_fault line' kind' y.fault)
cause_is_same blif deck stim (Stim line kind) (Flat fault) p q x y = absurd (no_network_apart blif x.network fault x.has y)
cause_is_same blif deck stim (Stim line kind) (Deck line' kind') p q x y = absurd (no_circuit deck line' kind' x.circuit y.fault x.is_deck)
cause_is_same blif deck stim (Stim line kind) (Ports place) p q x y = absurd (bad_ports_apart deck place x.circuit x.roles y.fault x.is_deck x.are_roles)
cause_is_same blif deck stim (Stim line kind) (Stim line' kind') p q x y =
    let same = stim_same blif deck stim line line' kind kind' x y in
    λ i. Stim (same.0 i) (same.1 i)

verdict_or_cause : (blif deck stim : List ℕ) (order : Order) (seed : ℕ) (a : Verdict) (b : TraceFault) → b ≢ Memory
    → IsVerdictOf blif deck stim order seed a → IsCosimRefused blif deck stim b → ⊥
verdict_or_cause blif deck stim order seed a Memory q x y = q refl
verdict_or_cause blif deck stim order seed a (NoNet name) q x y = y
verdict_or_cause blif deck stim order seed a (Blif line kind) q x y = x.has.accepted.no_fault line kind y.fault
verdict_or_cause blif deck stim order seed a (Flat fault) q x y = no_network_apart blif x.network fault x.has y
verdict_or_cause blif deck stim order seed a (Deck line kind) q x y = no_circuit deck line kind x.circuit y.fault x.is_deck
verdict_or_cause blif deck stim order seed a (Ports place) q x y = bad_ports_apart deck place x.circuit x.roles y.fault x.is_deck x.are_roles
verdict_or_cause blif deck stim order seed a (Stim line kind) q x y =
    no_stimulus x.network.inputs stim line kind x.stream
    (subst (λ (n : NetworkData). IsStimFaultAt n.inputs stim line kind) (network_same blif y.network x.network y.has x.has) y.fault) x.is_stimulus

pub verdict_is_one : VerdictIsOne
verdict_is_one = record { verdict = verdict_is_same; cause = cause_is_same; apart = verdict_or_cause }
