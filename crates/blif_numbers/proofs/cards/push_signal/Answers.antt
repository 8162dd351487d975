use Rattle.std.proofs.Common.{ap, ◌∙◌}
use Rattle.std.specs.Option.{option_to_list}
use Rattle.std.proofs.lemmas.Result.{on_ok_weaker}
use Rattle.numbered_file.specs.OpenLists.{open_lists, with_words}
use Rattle.numbered_file.proofs.ListSteps.{grows-none, words-none}
use Rattle.blif_numbers.proofs.cards.push_signal.Goals as goal

pub returns-in-Some-clause-lists : goal.returns-in-Some-clause-lists
returns-in-Some-clause-lists c = on_ok_weaker c.add_word.result
    (λ e. e ∙ ap (λ o. with_words (open_lists c.args.file.now) (option_to_list o)) c.in-Some.ensures) c.add_word.ensures.lists

pub returns-in-None-clause-lists : goal.returns-in-None-clause-lists
returns-in-None-clause-lists c = words-none (open_lists c.args.file.now)
    ∙ ap (λ o. with_words (open_lists c.args.file.now) (option_to_list o)) c.in-None.ensures

pub returns-in-None-clause-grown : goal.returns-in-None-clause-grown
returns-in-None-clause-grown c = grows-none c.args.file.now.names
