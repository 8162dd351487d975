use Rattle.deck.proofs.Counts.{sizes_count}
use Rattle.deck_calls.proofs.laws.sizes_count.Goals as goal

pub returns : goal.returns
returns c = λ all. sizes_count all
