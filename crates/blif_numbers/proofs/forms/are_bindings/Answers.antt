use Rattle.std.proofs.Common.{rules, tests, ◌∙◌, sym}
use Rattle.std.proofs.lemmas.Iterator.{YieldsList-from_slice}
use Rattle.std.proofs.lemmas.Iterator.Search.{all_from_yields_List}
use Rattle.blif_ast.specs.Cards.{is_binding}
use Rattle.dom_base.proofs.Lists.{list_all-map}
use Rattle.blif_numbers.proofs.forms.are_bindings.Goals as goal

pub returns : goal.returns
returns c = all_from_yields_List (λ w. is_binding w.now) _ _ _ c.all.ensures.ran (YieldsList-from_slice c.args.words.now cc) (λ x b q k. search (rules, tests)) ∙ sym (list_all-map is_binding (λ w. w.now) c.args.words.now)
