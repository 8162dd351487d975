use Rattle.command_words.proofs.ProbeWords.{cut_at, no_comma}
use Rattle.command_words.proofs.probes.cut_at_comma.Goals as goal

pub returns-in-Some-clause-cut : goal.returns-in-Some-clause-cut
returns-in-Some-clause-cut c = cut_at c.args.text.now c.in-Some.at c.in-Some.ensures

pub returns-in-None-clause-cut : goal.returns-in-None-clause-cut
returns-in-None-clause-cut c = no_comma c.args.text.now c.in-None.ensures
