-- A deck and a stimulus with options have one trace, or are refused for one cause.
use Rattle.std.proofs.Common.{◌≡◌, ◌≢◌, ℕ, Bool, List, refl, ap, ◌∙◌, subst}
use Rattle.dom_base.proofs.Faults.{answer_or_refusal, answer_same, refusal_same}
use Rattle.deck.specs.CircuitData.{CircuitData}
use Rattle.deck.specs.DeckFaults.{IsDeckFault, IsDeckFaultAt}
use Rattle.deck.specs.DeckText.{IsDeckOf}
use Rattle.deck.specs.Roles.{AreRoles, LeavesRolesAt, ports_of}
use Rattle.deck.specs.declared.fault.DeckKind.{DeckKind}
use Rattle.deck.specs.declared.role.Roles.{Roles}
use Rattle.deck.proofs.DeckUnique.{IsDeckOf-unique}
use Rattle.deck.proofs.PortOrder.{LeavesRolesAt-same}
use Rattle.deck.proofs.PortLayout.{AreRoles-same}
use Rattle.spice_read.proofs.OneAnswer.{one_answer as deck_answer}
use Rattle.event_sim.specs.Orders.{By}
use Rattle.stim_text.specs.Stimuli.{IsStimFaultAt, IsStimulusOf}
use Rattle.stim_text.specs.declared.fault.StimKind.{StimKind}
use Rattle.stim_text.proofs.OneAnswer.{one_answer as stimulus_answer}
use Rattle.trace_tool.specs.declared.fault.TraceFault.{TraceFault}
use Rattle.trace_tool.specs.declared.fault.TraceFault.TheVariants.{Blif, Flat, Deck, Ports, NoNet, Stim, Memory}
use Rattle.port_runs.specs.declared.clocking.Clocking.{Clocking}
use Rattle.port_runs.specs.declared.clocking.Clocking.TheVariants.{Together}
use Rattle.trace_tool.specs.declared.options.ProbeWord.{ProbeWord}
use Rattle.trace_tool.specs.Probes.{AreNets}
use Rattle.trace_tool.specs.Laws.{AnswerIsOne}
use Rattle.trace_tool.specs.Refusals.{HasBadPorts, HasBadStimulus, HasNoNet, IsFirstNoNet, IsRefused}
use Rattle.trace_tool.specs.TraceData.{TraceData, TraceOptionsData}
use Rattle.trace_tool.specs.Traces.{IsRun, IsTraceBy, picked_place, setup_of}
use Rattle.trace_tool.proofs.FirstNoNet.{first_is_none, first_is_one}
use Rattle.trace_tool.proofs.OneTrace.{trace_is_one}

-- a deck that is refused has no circuit
pub no_circuit : (text : List ℕ) (line : ℕ) (kind : DeckKind) (circuit : CircuitData) → IsDeckFaultAt text line kind → IsDeckOf text circuit → ⊥
no_circuit text line kind circuit fault is = answer_or_refusal (IsDeckOf text) (IsDeckFault text) (IsDeckFaultAt text) (λ l k f. f.fault) (deck_answer text) circuit line kind is fault

-- it is refused at one line for one kind
pub deck_fault_same : (text : List ℕ) (line line' : ℕ) (kind kind' : DeckKind) → IsDeckFaultAt text line kind → IsDeckFaultAt text line' kind' → (line ≡ line') × (kind ≡ kind')
deck_fault_same text line line' kind kind' x y = refusal_same (IsDeckOf text) (IsDeckFault text) (IsDeckFaultAt text) (λ l k f. f.fault) (deck_answer text) line line' kind kind' x y

-- at each number of pins a text is the stimulus of one list of cycles
pub stimulus_same : (width : ℕ) (text : List ℕ) (a b : List (List Bool)) → IsStimulusOf width text a → IsStimulusOf width text b → a ≡ b
stimulus_same width text a b x y = answer_same (IsStimulusOf width text) (IsStimFaultAt width text) (IsStimFaultAt width text) (stimulus_answer width text) a b x y

-- one that is refused is no stimulus
pub no_stimulus : (width : ℕ) (text : List ℕ) (line : ℕ) (kind : StimKind) (cycles : List (List Bool)) → IsStimFaultAt width text line kind → IsStimulusOf width text cycles → ⊥
no_stimulus width text line kind cycles fault is = answer_or_refusal (IsStimulusOf width text) (IsStimFaultAt width text) (IsStimFaultAt width text) (λ l k f. f) (stimulus_answer width text) cycles line kind is fault

-- it is refused at one line for one kind
pub stim_fault_same : (width : ℕ) (text : List ℕ) (line line' : ℕ) (kind kind' : StimKind) → IsStimFaultAt width text line kind → IsStimFaultAt width text line' kind' → (line ≡ line') × (kind ≡ kind')
stim_fault_same width text line line' kind kind' x y = refusal_same (IsStimulusOf width text) (IsStimFaultAt width text) (IsStimFaultAt width text) (λ l k f. f) (stimulus_answer width text) line line' kind kind' x y

-- a deck has one count of clocks, pins and outputs
pub roles_same : (deck : List ℕ) (c d : CircuitData) (r q : Roles) → IsDeckOf deck c → IsDeckOf deck d
    → AreRoles (ports_of c) r → AreRoles (ports_of d) q → r ≡ q
roles_same deck c d r q x y h k =
    AreRoles-same (ports_of c) r q h
    (subst (λ (e : CircuitData). AreRoles (ports_of e) q) (IsDeckOf-unique deck d c y x) k)

trace_same : (clocking : Clocking) (deck stim : List ℕ) (options : TraceOptionsData) (a b : TraceData)
    → IsTraceBy clocking deck stim options a → IsTraceBy clocking deck stim options b → a ≡ b
trace_same clocking deck stim options a b x y =
    let circuits = IsDeckOf-unique deck y.circuit x.circuit y.is_deck x.is_deck in
    let roles = roles_same deck y.circuit x.circuit y.roles x.roles y.is_deck x.is_deck y.are_roles x.are_roles in
    let cycles = stimulus_same x.roles.pins stim y.cycles x.cycles
    (subst (λ (r : Roles). IsStimulusOf r.pins stim y.cycles) roles y.is_stimulus) x.is_stimulus in
    let order = By (picked_place options.order options.seed) in
    trace_is_one (picked_place options.order options.seed) (setup_of clocking x.circuit x.roles options) x.cycles a b x.is_run
    (subst (λ (l : List (List Bool)). IsRun order (setup_of clocking x.circuit x.roles options) l b) cycles
    (subst (λ (r : Roles). IsRun order (setup_of clocking x.circuit r options) y.cycles b) roles
    (subst (λ (c : CircuitData). IsRun order (setup_of clocking c y.roles options) y.cycles b) circuits y.is_run)))

-- ports that leave every order are no deck's whose ports are in order
pub bad_ports_apart : (deck : List ℕ) (place : ℕ) (circuit : CircuitData) (roles : Roles) → HasBadPorts deck place → IsDeckOf deck circuit → AreRoles (ports_of circuit) roles → ⊥
bad_ports_apart deck place circuit roles bad is are =
    bad.leaves.no_order roles
    (subst (λ (c : CircuitData). AreRoles (ports_of c) roles) (IsDeckOf-unique deck circuit bad.circuit is bad.is_deck) are)

pub bad_ports_same : (deck : List ℕ) (place place' : ℕ) → HasBadPorts deck place → HasBadPorts deck place' → place ≡ place'
bad_ports_same deck place place' x y =
    LeavesRolesAt-same (ports_of x.circuit) place place' x.leaves
    (subst (λ (c : CircuitData). LeavesRolesAt (ports_of c) place') (IsDeckOf-unique deck y.circuit x.circuit y.is_deck x.is_deck) y.leaves)

-- a probe word that names no net is none of a deck that has the nets of all
no_net_apart : (deck : List ℕ) (probes : List ProbeWord) (name : List ℕ) (circuit : CircuitData)
    → HasNoNet deck probes name → IsDeckOf deck circuit → AreNets circuit.nets probes → ⊥
no_net_apart deck probes name circuit x is are =
    let circuits = IsDeckOf-unique deck circuit x.circuit is x.is_deck in
    first_is_none x.circuit.nets probes name x.first (subst (λ (c : CircuitData). AreNets c.nets probes) circuits are)

no_net_same : (deck : List ℕ) (probes : List ProbeWord) (name name' : List ℕ) → HasNoNet deck probes name → HasNoNet deck probes name' → name ≡ name'
no_net_same deck probes name name' x y =
    first_is_one x.circuit.nets probes name name' x.first
    (subst (λ (c : CircuitData). IsFirstNoNet c.nets probes name') (IsDeckOf-unique deck y.circuit x.circuit y.is_deck x.is_deck) y.first)

bad_stimulus_same : (deck stim : List ℕ) (probes : List ProbeWord) (line line' : ℕ) (kind kind' : StimKind)
    → HasBadStimulus deck stim probes line kind → HasBadStimulus deck stim probes line' kind' → (line ≡ line') × (kind ≡ kind')
bad_stimulus_same deck stim probes line line' kind kind' x y =
    let roles = roles_same deck y.circuit x.circuit y.roles x.roles y.is_deck x.is_deck y.are_roles x.are_roles in
    stim_fault_same x.roles.pins stim line line' kind kind' x.fault
    (subst (λ (r : Roles). IsStimFaultAt r.pins stim line' kind') roles y.fault)

cause_same : (deck stim : List ℕ) (probes : List ProbeWord) (a b : TraceFault) → a ≢ Memory → b ≢ Memory
    → IsRefused deck stim probes a → IsRefused deck stim probes b → a ≡ b
cause_same deck stim probes Memory b p q x y = absurd (p refl)
cause_same deck stim probes (Blif line kind) b p q x y = absurd x
cause_same deck stim probes (Flat fault) b p q x y = absurd x
cause_same deck stim probes (Deck line kind) Memory p q x y = absurd (q refl)
cause_same deck stim probes (Ports place) Memory p q x y = absurd (q refl)
cause_same deck stim probes (NoNet name) Memory p q x y = absurd (q refl)
cause_same deck stim probes (Stim line kind) Memory p q x y = absurd (q refl)
cause_same deck stim probes (Deck line kind) (Blif line' kind') p q x y = absurd y
cause_same deck stim probes (Deck line kind) (Flat fault) p q x y = absurd y
cause_same deck stim probes (Ports place) (Blif line' kind') p q x y = absurd y
cause_same deck stim probes (Ports place) (Flat fault) p q x y = absurd y
cause_same deck stim probes (NoNet name) (Blif line' kind') p q x y = absurd y
cause_same deck stim probes (NoNet name) (Flat fault) p q x y = absurd y
cause_same deck stim probes (Stim line kind) (Blif line' kind') p q x y = absurd y
cause_same deck stim probes (Stim line kind) (Flat fault) p q x y = absurd y
cause_same deck stim probes (Deck line kind) (Deck line' kind') p q x y =
    let same = deck_fault_same deck line line' kind kind' x y in
    ap (λ (n : ℕ). Deck n kind) same.0 ∙ ap (λ (k : DeckKind). Deck line' k) same.1
cause_same deck stim probes (Deck line kind) (Ports place) p q x y = absurd (no_circuit deck line kind y.circuit x y.is_deck)
cause_same deck stim probes (Deck line kind) (NoNet name) p q x y = absurd (no_circuit deck line kind y.circuit x y.is_deck)
cause_same deck stim probes (Deck line kind) (Stim line' kind') p q x y = absurd (no_circuit deck line kind y.circuit x y.is_deck)
cause_same deck stim probes (Ports place) (Deck line kind) p q x y = absurd (no_circuit deck line kind x.circuit y x.is_deck)
cause_same deck stim probes (Ports place) (Ports place') p q x y = ap Ports (bad_ports_same deck place place' x y)
cause_same deck stim probes (Ports place) (NoNet name) p q x y = absurd (bad_ports_apart deck place y.circuit y.roles x y.is_deck y.are_roles)
cause_same deck stim probes (Ports place) (Stim line kind) p q x y = absurd (bad_ports_apart deck place y.circuit y.roles x y.is_deck y.are_roles)
cause_same deck stim probes (NoNet name) (Deck line kind) p q x y = absurd (no_circuit deck line kind x.circuit y x.is_deck)
cause_same deck stim probes (NoNet name) (Ports place) p q x y = absurd (bad_ports_apart deck place x.circuit x.roles y x.is_deck x.are_roles)
cause_same deck stim probes (NoNet name) (NoNet name') p q x y = ap (λ (n : List ℕ). NoNet n) (no_net_same deck probes name name' x y)
cause_same deck stim probes (NoNet name) (Stim line kind) p q x y = absurd (no_net_apart deck probes name y.circuit x y.is_deck y.are_nets)
cause_same deck stim probes (Stim line kind) (Deck line' kind') p q x y = absurd (no_circuit deck line' kind' x.circuit y x.is_deck)
cause_same deck stim probes (Stim line kind) (Ports place) p q x y = absurd (bad_ports_apart deck place x.circuit x.roles y x.is_deck x.are_roles)
cause_same deck stim probes (Stim line kind) (NoNet name) p q x y = absurd (no_net_apart deck probes name x.circuit y x.is_deck x.are_nets)
cause_same deck stim probes (Stim line kind) (Stim line' kind') p q x y =
    let same = bad_stimulus_same deck stim probes line line' kind kind' x y in
    ap (λ (n : ℕ). Stim n kind) same.0 ∙ ap (λ (k : StimKind). Stim line' k) same.1

trace_or_cause : (clocking : Clocking) (deck stim : List ℕ) (options : TraceOptionsData) (a : TraceData) (b : TraceFault) → b ≢ Memory
    → IsTraceBy clocking deck stim options a → IsRefused deck stim options.probes b → ⊥
trace_or_cause clocking deck stim options a Memory q x y = q refl
trace_or_cause clocking deck stim options a (Blif line kind) q x y = y
trace_or_cause clocking deck stim options a (Flat fault) q x y = y
trace_or_cause clocking deck stim options a (Deck line kind) q x y = no_circuit deck line kind x.circuit y x.is_deck
trace_or_cause clocking deck stim options a (Ports place) q x y = bad_ports_apart deck place x.circuit x.roles y x.is_deck x.are_roles
trace_or_cause clocking deck stim options a (NoNet name) q x y = no_net_apart deck options.probes name x.circuit y x.is_deck x.are_nets
trace_or_cause clocking deck stim options a (Stim line kind) q x y =
    let roles = roles_same deck y.circuit x.circuit y.roles x.roles y.is_deck x.is_deck y.are_roles x.are_roles in
    no_stimulus x.roles.pins stim line kind x.cycles (subst (λ (r : Roles). IsStimFaultAt r.pins stim line kind) roles y.fault) x.is_stimulus

pub answer_by : (clocking : Clocking) → AnswerIsOne clocking
answer_by clocking = record { trace = trace_same clocking; cause = cause_same; apart = trace_or_cause clocking }

pub answer_is_one : AnswerIsOne Together
answer_is_one = answer_by Together
