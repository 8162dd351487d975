use Rattle.std.proofs.Common.{◌∙◌, ◌++◌, ap, sym, map, subst, append-nil}
use Rattle.std.specs.List.{AllByRecursion}
use Rattle.std.specs.Option.{option_to_list}
use Rattle.dom_base.specs.Lines.{IsLowerWord}
use Rattle.deck.specs.DeckText.{phase_of}
use Rattle.spice_read.proofs.LowerCase.{line_words, words_of-lower}
use Rattle.spice_read.proofs.words.push_phase.Goals as goal

pub phase_of-requires : goal.phase_of-requires
phase_of-requires c =
    let same = words_of-lower (λ w. w.now) _ c.args.line.now (ap (map (λ w. w.now)) c.deref.ensures.value ∙ c.in_ok-words.ensures) in
    subst (AllByRecursion IsLowerWord) (sym same) (line_words c.args.line.now)

pub returns-in-Some : goal.returns-in-Some
returns-in-Some c =
    let same = words_of-lower (λ w. w.now) _ c.args.line.now (ap (map (λ w. w.now)) c.deref.ensures.value ∙ c.in_ok-words.ensures) in
    c.in_ok-push-in-Some.ensures.items ∙ ap (λ o. c.args.phases.now.items ++ option_to_list o) (sym c.in-Some.is ∙ c.in_ok-phase.ensures ∙ ap phase_of same)

pub returns : goal.returns
returns c =
    let same = words_of-lower (λ w. w.now) _ c.args.line.now (ap (map (λ w. w.now)) c.deref.ensures.value ∙ c.in_ok-words.ensures) in
    sym (append-nil c.args.phases.now.items) ∙ ap (λ o. c.args.phases.now.items ++ option_to_list o) (sym c.in-None.is ∙ c.in_ok-phase.ensures ∙ ap phase_of same)
