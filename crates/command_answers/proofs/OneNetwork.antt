-- Bytes have one network, and one run over a stimulus.
use Rattle.std.proofs.Common.{◌≡◌, ◌∙◌, ℕ, List, sym, ap, subst}
use Rattle.dom_base.proofs.Faults.{answer_same, refusal_same}
use Rattle.blif_read.proofs.AcceptedIsGoodModels.{accepted_file}
use Rattle.net_flatten.specs.Flattening.{IsNetworkOf}
use Rattle.network.specs.NetworkData.{NetworkData}
use Rattle.network.specs.Networks.{IsNetwork}
use Rattle.net_flatten.proofs.Kept.{network_kept as kept}
use Rattle.net_flatten.proofs.OneNetwork.{network_once}
use Rattle.net_run.proofs.OneRun.{one_run}
use Rattle.stim_text.specs.Stimuli.{IsStimFaultAt, IsStimulusOf}
use Rattle.stim_text.specs.declared.fault.StimKind.{StimKind}
use Rattle.stim_text.proofs.OneAnswer.{one_answer as stim_answer}
use Rattle.command_answers.specs.Networks.{HasNetwork, IsRunOf, IsRunText, IsStimRefused, run_lines}

-- what is kept by the network of bytes
pub network_kept : (bytes : List ℕ) (n : NetworkData) → HasNetwork bytes n → IsNetwork n
network_kept bytes n has = kept has.file n (accepted_file bytes has.file has.accepted) has.network_is

pub networks_alike : (bytes : List ℕ) (m n : NetworkData) → HasNetwork bytes m → HasNetwork bytes n → m ≡ n
networks_alike bytes m n x y =
    network_once x.file m n x.network_is (subst (λ f. IsNetworkOf f n) (y.accepted.file_is ∙ sym x.accepted.file_is) y.network_is)

-- bytes have one run over a stimulus
pub runs_alike : (bytes stim t t' : List ℕ) → IsRunOf bytes stim t → IsRunOf bytes stim t' → t ≡ t'
runs_alike bytes stim t t' x y =
    let networks = networks_alike bytes y.network x.network y.has x.has in
    let stimulus = subst (λ n. IsStimulusOf n.inputs stim y.stream) networks y.stimulus in
    let streams = answer_same (IsStimulusOf x.network.inputs stim) (IsStimFaultAt x.network.inputs stim) (IsStimFaultAt x.network.inputs stim) (stim_answer x.network.inputs stim) y.stream x.stream stimulus x.stimulus in
    let text = subst (λ n. IsRunText n y.stream t') networks y.text_is in
    let moved = subst (λ s. IsRunText x.network s t') streams text in
    let one = one_run x.network x.stream (network_kept bytes x.network x.has) x.stimulus.widths_are in
    let cycles = one.1.only x.text_is.cycles x.text_is.run ∙ sym (one.1.only moved.cycles moved.run) in
    x.text_is.text_is ∙ ap (run_lines 0 x.stream) cycles ∙ sym moved.text_is

pub stimuli_alike : (bytes stim : List ℕ) (l m : ℕ) (j k : StimKind) → IsStimRefused bytes stim l j → IsStimRefused bytes stim m k → (l ≡ m) × (j ≡ k)
stimuli_alike bytes stim l m j k x y =
    let fault = subst (λ (n : NetworkData). IsStimFaultAt n.inputs stim m k) (networks_alike bytes y.network x.network y.has x.has) y.fault in
    refusal_same (IsStimulusOf x.network.inputs stim) (IsStimFaultAt x.network.inputs stim) (IsStimFaultAt x.network.inputs stim) (λ l k f. f) (stim_answer x.network.inputs stim) l m j k x.fault fault
