use Rattle.std.proofs.Common.{rules, tests, ◌==◌, ◌∙◌, sym}
use Rattle.std.proofs.lemmas.Iterator.{YieldsList-from_slice}
use Rattle.std.proofs.lemmas.Iterator.Search.{any_from_yields_List}
use Rattle.spice_read.proofs.LowerCase.{equals-lower}
use Rattle.spice_read.proofs.cards.has_equals.Goals as goal

pub returns : goal.returns
returns c = any_from_yields_List (λ w. w == 61) _ _ _ c.any.ensures.ran (YieldsList-from_slice c.args.word.now cc) (λ x b q k. search (rules, tests)) ∙ sym (equals-lower c.args.word.now)
