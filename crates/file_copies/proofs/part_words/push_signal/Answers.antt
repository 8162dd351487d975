use Rattle.std.proofs.Common.{ap, ◌∙◌}
use Rattle.std.proofs.lemmas.Result.{on_ok_weaker}
use Rattle.numbered_file.specs.OpenLists.{open_lists, with_words}
use Rattle.numbered_file.proofs.ListSteps.{words-none}
use Rattle.file_copies.proofs.part_words.push_signal.Goals as goal

pub returns-in-Some : goal.returns-in-Some
returns-in-Some c = on_ok_weaker c.add_word.result (λ e. e ∙ ap (with_words (open_lists c.args.file.now)) c.in-Some.ensures) c.add_word.ensures.lists

pub returns-in-None : goal.returns-in-None
returns-in-None c = words-none (open_lists c.args.file.now) ∙ ap (with_words (open_lists c.args.file.now)) c.in-None.ensures
