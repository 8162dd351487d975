use Rattle.std.proofs.Common.{rules, tests, ◌∙◌, sym}
use Rattle.std.specs.List.{list_any}
use Rattle.std.proofs.lemmas.Iterator.{YieldsList-from_slice}
use Rattle.std.proofs.lemmas.Iterator.Search.{any_from_yields_List}
use Rattle.dom_base.specs.Lines.{is_control}
use Rattle.dom_base.proofs.Lists.{list_any-map}
use Rattle.dom_base.proofs.words.have_control.Goals as goal

pub returns : goal.returns
returns c = any_from_yields_List (λ w. list_any is_control w.now) _ _ _ c.any.ensures.ran (YieldsList-from_slice c.args.words.now cc) (λ x b q k. search (rules, tests)) ∙ sym (list_any-map (list_any is_control) (λ w. w.now) c.args.words.now)
