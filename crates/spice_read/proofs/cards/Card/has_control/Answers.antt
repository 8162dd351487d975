use Rattle.std.proofs.Common.{◌∙◌, ap}
use Rattle.std.specs.List.{list_any}
use Rattle.dom_base.specs.Lines.{is_control}
use Rattle.deck.specs.DeckCards.{NumberedCard}
use Rattle.spice_read.proofs.cards.Card.has_control.Goals as goal

pub returns : goal.returns
returns c = c.self.invariant ∙ ap (λ (k : NumberedCard). list_any (list_any is_control) k.words) c.self.view_is
