-- Bytes that have no network or no run over a stimulus have none for one cause.
use Rattle.std.proofs.Common.{◌≡◌, ◌∙◌, ◌⊎◌, inl, inr, ℕ, List, refl, sym, subst, arith}
use Rattle.dom_base.proofs.Faults.{answer_or_refusal}
use Rattle.net_flatten.specs.Flattening.{IsNetworkOf}
use Rattle.network.specs.NetworkData.{NetworkData}
use Rattle.model_calls.specs.Refusal.{Refusal as Hierarchy}
use Rattle.model_calls.specs.Refusal as hierarchy
use Rattle.model_calls.specs.Refusals.{IsRefusal}
use Rattle.net_flatten.proofs.OneRefusal.{refusal_once}
use Rattle.stim_text.specs.Stimuli.{IsStimFaultAt, IsStimulusOf}
use Rattle.stim_text.specs.declared.fault.StimKind.{StimKind}
use Rattle.stim_text.proofs.OneAnswer.{one_answer as stim_answer}
use Rattle.trace_tool.proofs.NetworkTexts.{blif_fault_same}
use Rattle.command_answers.specs.Networks.{HasNetwork, IsRunOf, IsStimRefused}
use Rattle.command_answers.proofs.OneNetwork.{networks_alike, stimuli_alike}
use Rattle.domsyn.specs.declared.refusal.Refusal.{Refusal}
use Rattle.domsyn.specs.declared.refusal.Refusal.TheVariants.{TooLong, Blif, Flat, TooMany, TooManySinks, Deck, Ports, NoNet, Stim}
use Rattle.domsyn.specs.Refusals.{HasNoNetworkFor, IsHierarchyRefused, IsNotRunFor}

hierarchies_alike : (bytes : List ℕ) (r s : Hierarchy) → IsHierarchyRefused bytes r → IsHierarchyRefused bytes s → r ≡ s
hierarchies_alike bytes r s x y = refusal_once x.file r s x.refused (subst (λ f. IsRefusal f s) (y.accepted.file_is ∙ sym x.accepted.file_is) y.refused)

not_refused : (bytes : List ℕ) (n : NetworkData) (r : Hierarchy) → HasNetwork bytes n → IsHierarchyRefused bytes r → ⊥
not_refused bytes n r x y =
    (subst (λ f. IsNetworkOf f n) (x.accepted.file_is ∙ sym y.accepted.file_is) x.network_is).accepted r y.refused.has

-- bytes that have a network are refused for no cause
pub network_or_cause : (bytes : List ℕ) (n : NetworkData) (why : Refusal) → HasNetwork bytes n → HasNoNetworkFor bytes why → ⊥
network_or_cause bytes n TooLong x y = omega (arith, x.within, y)
network_or_cause bytes n (Blif line kind) x y = x.accepted.no_fault line kind y.fault.fault
network_or_cause bytes n (Flat line kind name) x y = not_refused bytes n (hierarchy.At kind line name) x y
network_or_cause bytes n (TooMany limit count) x y = not_refused bytes n (hierarchy.TooMany limit count) x y
network_or_cause bytes n (TooManySinks count) x y = y
network_or_cause bytes n (Deck line kind) x y = y
network_or_cause bytes n (Ports place) x y = y
network_or_cause bytes n (NoNet name) x y = y
network_or_cause bytes n (Stim line kind) x y = y

-- the causes of bytes are one
pub network_causes_alike : (bytes : List ℕ) (a b : Refusal) → HasNoNetworkFor bytes a → HasNoNetworkFor bytes b → a ≡ b
network_causes_alike bytes TooLong TooLong x y = refl
network_causes_alike bytes TooLong (Blif line kind) x y = absurd (omega (arith, x, y.within))
network_causes_alike bytes TooLong (Flat line kind name) x y = absurd (omega (arith, x, y.within))
network_causes_alike bytes TooLong (TooMany limit count) x y = absurd (omega (arith, x, y.within))
network_causes_alike bytes TooLong (TooManySinks count) x y = absurd y
network_causes_alike bytes TooLong (Deck line kind) x y = absurd y
network_causes_alike bytes TooLong (Ports place) x y = absurd y
network_causes_alike bytes TooLong (NoNet net) x y = absurd y
network_causes_alike bytes TooLong (Stim line kind) x y = absurd y
network_causes_alike bytes (Blif line kind) TooLong x y = absurd (omega (arith, y, x.within))
network_causes_alike bytes (Blif line kind) (Blif other any) x y = let same = blif_fault_same bytes line other kind any x.fault y.fault in λ i. Blif (same.0 i) (same.1 i)
network_causes_alike bytes (Blif line kind) (Flat other any name) x y = absurd (y.accepted.no_fault line kind x.fault.fault)
network_causes_alike bytes (Blif line kind) (TooMany limit count) x y = absurd (y.accepted.no_fault line kind x.fault.fault)
network_causes_alike bytes (Blif line kind) (TooManySinks sinks) x y = absurd y
network_causes_alike bytes (Blif line kind) (Deck other any) x y = absurd y
network_causes_alike bytes (Blif line kind) (Ports place) x y = absurd y
network_causes_alike bytes (Blif line kind) (NoNet net) x y = absurd y
network_causes_alike bytes (Blif line kind) (Stim other any) x y = absurd y
network_causes_alike bytes (Flat line kind name) TooLong x y = absurd (omega (arith, y, x.within))
network_causes_alike bytes (Flat line kind name) (Blif other any) x y = absurd (x.accepted.no_fault other any y.fault.fault)
network_causes_alike bytes (Flat line kind name) (Flat other any word) x y =
    let same = hierarchies_alike bytes (hierarchy.At kind line name) (hierarchy.At any other word) x y in
    let kinds : kind ≡ any = cc in
    let lines : line ≡ other = cc in
    let names : name ≡ word = cc in
    λ i. Flat (lines i) (kinds i) (names i)
network_causes_alike bytes (Flat line kind name) (TooMany limit count) x y =
    let same = hierarchies_alike bytes (hierarchy.At kind line name) (hierarchy.TooMany limit count) x y in absurd cc
network_causes_alike bytes (Flat line kind name) (TooManySinks sinks) x y = absurd y
network_causes_alike bytes (Flat line kind name) (Deck other any) x y = absurd y
network_causes_alike bytes (Flat line kind name) (Ports place) x y = absurd y
network_causes_alike bytes (Flat line kind name) (NoNet net) x y = absurd y
network_causes_alike bytes (Flat line kind name) (Stim other any) x y = absurd y
network_causes_alike bytes (TooMany limit count) TooLong x y = absurd (omega (arith, y, x.within))
network_causes_alike bytes (TooMany limit count) (Blif other any) x y = absurd (x.accepted.no_fault other any y.fault.fault)
network_causes_alike bytes (TooMany limit count) (Flat line kind name) x y =
    let same = hierarchies_alike bytes (hierarchy.TooMany limit count) (hierarchy.At kind line name) x y in absurd cc
network_causes_alike bytes (TooMany limit count) (TooMany most number) x y =
    let same = hierarchies_alike bytes (hierarchy.TooMany limit count) (hierarchy.TooMany most number) x y in
    let limits : limit ≡ most = cc in
    let counts : count ≡ number = cc in
    λ i. TooMany (limits i) (counts i)
network_causes_alike bytes (TooMany limit count) (TooManySinks sinks) x y = absurd y
network_causes_alike bytes (TooMany limit count) (Deck other any) x y = absurd y
network_causes_alike bytes (TooMany limit count) (Ports place) x y = absurd y
network_causes_alike bytes (TooMany limit count) (NoNet net) x y = absurd y
network_causes_alike bytes (TooMany limit count) (Stim other any) x y = absurd y
network_causes_alike bytes (TooManySinks count) b x y = absurd x
network_causes_alike bytes (Deck line kind) b x y = absurd x
network_causes_alike bytes (Ports place) b x y = absurd x
network_causes_alike bytes (NoNet name) b x y = absurd x
network_causes_alike bytes (Stim line kind) b x y = absurd x

-- the cause is that of the network, or that of the stimulus
cause_of : (bytes stim : List ℕ) (why : Refusal) → IsNotRunFor bytes stim why
    → HasNoNetworkFor bytes why ⊎ ((line : ℕ) × ((kind : StimKind) × IsStimRefused bytes stim line kind × (why ≡ Stim line kind)))
cause_of bytes stim TooLong x = absurd x
cause_of bytes stim (Blif line kind) x = inl x
cause_of bytes stim (Flat line kind name) x = inl x
cause_of bytes stim (TooMany limit count) x = inl x
cause_of bytes stim (TooManySinks count) x = absurd x
cause_of bytes stim (Deck line kind) x = absurd x
cause_of bytes stim (Ports place) x = absurd x
cause_of bytes stim (NoNet name) x = absurd x
cause_of bytes stim (Stim line kind) x = inr (line, (kind, x, refl))

-- and none where there is a cause
pub run_or_cause : (bytes stim t : List ℕ) (why : Refusal) → IsRunOf bytes stim t → IsNotRunFor bytes stim why → ⊥
run_or_cause bytes stim t why x y = elim (cause_of bytes stim why y) [
  | inl cause ↦ network_or_cause bytes x.network why x.has cause
  | inr fault ↦
      let refused = fault.1.1 in
      answer_or_refusal (IsStimulusOf x.network.inputs stim) (IsStimFaultAt x.network.inputs stim) (IsStimFaultAt x.network.inputs stim) (λ l k f. f)
      (stim_answer x.network.inputs stim) x.stream fault.0 fault.1.0 x.stimulus
      (subst (λ (n : NetworkData). IsStimFaultAt n.inputs stim fault.0 fault.1.0) (networks_alike bytes refused.network x.network refused.has x.has) refused.fault)
]

pub run_causes_alike : (bytes stim : List ℕ) (a b : Refusal) → IsNotRunFor bytes stim a → IsNotRunFor bytes stim b → a ≡ b
run_causes_alike bytes stim a b x y = by (cause_of bytes stim a x) (cause_of bytes stim b y)
  where
    by : HasNoNetworkFor bytes a ⊎ ((line : ℕ) × ((kind : StimKind) × IsStimRefused bytes stim line kind × (a ≡ Stim line kind)))
        → HasNoNetworkFor bytes b ⊎ ((line : ℕ) × ((kind : StimKind) × IsStimRefused bytes stim line kind × (b ≡ Stim line kind))) → a ≡ b
    by (inl p) (inl q) = network_causes_alike bytes a b p q
    by (inl p) (inr q) = absurd (network_or_cause bytes q.1.1.network a q.1.1.has p)
    by (inr p) (inl q) = absurd (network_or_cause bytes p.1.1.network b p.1.1.has q)
    by (inr p) (inr q) =
        let same = stimuli_alike bytes stim p.0 q.0 p.1.0 q.1.0 p.1.1 q.1.1 in
        p.1.2 ∙ (λ i. Stim (same.0 i) (same.1 i)) ∙ sym q.1.2
