use Rattle.std.proofs.Common.{ap, ◌∙◌}
use Rattle.deck.specs.Nets.{net_number, with_net}
use Rattle.deck.proofs.number.add.Goals as goal

pub returns-clause-number : goal.returns-clause-number
returns-clause-number c = c.in_ok-number.ensures.index ∙ ap (λ name. net_number c.args.nets.now.keys name) c.in_ok-copy.ensures

pub returns-clause-keys : goal.returns-clause-keys
returns-clause-keys c = c.in_ok-number.ensures.keys ∙ ap (λ name. with_net c.args.nets.now.keys name) c.in_ok-copy.ensures
