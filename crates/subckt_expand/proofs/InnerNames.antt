-- The name of an inner net of a call is the name of a net.
use Rattle.deck.proofs.InnerNames.{inner_name-good}

pub ruleset inner_names = (inner_name-good)
