use Rattle.deck.proofs.Escaping.{escapes_differ}
use Rattle.deck.proofs.escape.escapes_differ.Goals as goal

pub returns : goal.returns
returns c = escapes_differ
