use Rattle.std.proofs.Common.{is_ok}
use Rattle.deck.proofs.KnownNumbers.{distinct_either}
use Rattle.deck.proofs.number.number.Goals as goal

pub returns-clause-distinct : goal.returns-clause-distinct
returns-clause-distinct c = distinct_either (is_ok c.add.result) c.args.nets.now.keys c.args.net.name.now c.add.new.nets.keys c.add.ensures.keys c.requires.distinct
