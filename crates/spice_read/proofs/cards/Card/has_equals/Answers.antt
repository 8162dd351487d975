use Rattle.std.proofs.Common.{rules, tests, ◌∙◌, ap, sym}
use Rattle.std.specs.List.{list_any}
use Rattle.std.specs.Str.{str_to_ascii_lowercase}
use Rattle.std.proofs.lemmas.Iterator.{YieldsList-from_slice}
use Rattle.std.proofs.lemmas.Iterator.Search.{any_from_yields_List}
use Rattle.deck.specs.DeckCards.{NumberedCard, has_equals}
use Rattle.dom_base.proofs.Lists.{list_any-map}
use Rattle.spice_read.proofs.cards.Card.has_equals.Goals as goal

pub returns : goal.returns
returns c =
    any_from_yields_List (λ w. has_equals (str_to_ascii_lowercase w.now)) _ _ _ c.any.ensures.ran (YieldsList-from_slice c.deref.result.now cc) (λ x b q k. search (rules, tests))
    ∙ ap (list_any (λ w. has_equals (str_to_ascii_lowercase w.now))) c.deref.ensures.value
    ∙ sym (list_any-map has_equals (λ w. str_to_ascii_lowercase w.now) c.self.inside.words.items)
    ∙ ap (λ (k : NumberedCard). list_any has_equals k.words) c.self.view_is
