use Rattle.std.proofs.Common.{refl}
use Rattle.command_answers.proofs.TextNetworks.{text_network}
use Rattle.command_answers.proofs.flat_command.flat.Goals as goal

pub returns-clause-text : goal.returns-clause-text
returns-clause-text c = (
  c.in_ok-network.network,
  text_network c.args.bytes.now c.in_ok-network.network c.requires.within c.in_ok-network.ensures.network,
  c.in_ok-text.ensures,
  refl,
)
