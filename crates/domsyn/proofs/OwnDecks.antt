-- The outcome of `cosim` of a right deck of a text, by any method.
use Rattle.std.specs.Prelude.{Some}
use Rattle.std.proofs.Common.{ℕ, List, Bool, length, refl, subst}
use Rattle.command_words.specs.declared.command.Method.{Method}
use Rattle.deck_form.specs.declared.options.SynthOptions.{SynthOptions}
use Rattle.dom_base.proofs.Faults.{answer_same}
use Rattle.network.specs.NetworkData.{NetworkData}
use Rattle.stim_text.specs.Stimuli.{IsStimFaultAt, IsStimulusOf}
use Rattle.stim_text.proofs.OneAnswer.{one_answer as stim_answer}
use Rattle.trace_tool.specs.CosimRefusals.{HasNetworkOf}
use Rattle.trace_tool.specs.VerdictLines.{same_line}
use Rattle.trace_tool.specs.Verdicts.{IsVerdictOf}
use Rattle.trace_tool.specs.declared.options.Order.{Order}
use Rattle.trace_tool.specs.declared.verdict.Verdict.{Verdict}
use Rattle.trace_tool.specs.declared.verdict.Verdict.TheVariants.{Same}
use Rattle.trace_tool.proofs.NetworkTexts.{network_same}
use Rattle.verdict_law.specs.Laws.{IsRightTogether, IsSame}
use Rattle.verdict_law.proofs.RightVerdicts.{right_deck_is_same, some_verdict}
use Rattle.command_answers.proofs.RightTogether.{right_for}
use Rattle.domsyn.specs.Outcomes.{IsComparison}
use Rattle.domsyn.specs.OwnDecks.{AreOwnFiles, OwnDeckIsSame}

module _ (known : List (List ℕ × List ℕ)) (file deck stim : List ℕ) (order : Order) (seed : ℕ) (options : SynthOptions) (method : Method) (stream : List (List Bool))
    (o : AreOwnFiles known file deck stim options method stream) where
  has : HasNetworkOf o.bytes o.network
  has = record { file = o.has.file; accepted = o.has.accepted; network_is = o.has.network_is }

  right : IsRightTogether o.bytes options.phases o.deck_bytes
  right = right_for o.bytes o.deck_bytes options method o.right

  some : (verdict : Verdict) × IsVerdictOf o.bytes o.deck_bytes o.stim_bytes order seed verdict
  some = some_verdict o.bytes o.deck_bytes options.phases right o.stim_bytes order seed stream o.network has o.is_stimulus

  same : IsSame some.0 (length stream)
  same =
      let over = right_deck_is_same o.bytes o.deck_bytes o.stim_bytes options.phases order seed some.0 right some.1 in
      let theirs = network_same o.bytes over.network o.network over.has has in
      let stimulus = subst (λ (n : NetworkData). IsStimulusOf n.inputs o.stim_bytes over.stream) theirs over.is_stimulus in
      let text = o.stim_bytes in
      let width = o.network.inputs in
      let streams = answer_same (IsStimulusOf width text) (IsStimFaultAt width text) (IsStimFaultAt width text) (stim_answer width text) over.stream stream stimulus o.is_stimulus in
      subst (λ (s : List (List Bool)). IsSame some.0 (length s)) streams over.is_same

  compared : IsComparison (Some known) file deck stim order seed 0 (same_line (length stream))
  compared = record {
    bytes = o.bytes;
    deck_bytes = o.deck_bytes;
    stim_bytes = o.stim_bytes;
    verdict = Same (length stream) same.events;
    is_file = o.is_file;
    is_deck = o.is_deck;
    is_stim = o.is_stim;
    is_verdict = subst (λ (v : Verdict). IsVerdictOf o.bytes o.deck_bytes o.stim_bytes order seed v) same.verdict_is some.1;
    text_is = refl;
    status_is = refl;
  }

pub own_deck_same : OwnDeckIsSame
own_deck_same known file deck stim order seed options method stream o = compared known file deck stim order seed options method stream o
