use Rattle.std.proofs.Common.{refl}
use Rattle.command_answers.proofs.TextNetworks.{text_network}
use Rattle.command_answers.proofs.report_command.report.Goals as goal

pub returns-clause-figures : goal.returns-clause-figures
returns-clause-figures c = (
  record {
    network = c.in_ok-network.network;
    has = text_network c.args.bytes.now c.in_ok-network.network c.requires.within c.in_ok-network.ensures.network;
    lines = c.in_ok-text.ensures;
  },
  refl,
)
