use Rattle.std.proofs.Common.{arith}
use Rattle.deck.proofs.PortLayout.{ports-count}
use Rattle.switch_model.proofs.SourceNets.{ports-few, sources-first, targets-same}
use Rattle.switch_model.proofs.laws.sources_stand_first.Goals as goal

pub returns-clause-first : goal.returns-clause-first
returns-clause-first c = λ circuit roles h r. (omega (arith, ports-count circuit roles h r, ports-few circuit h), sources-first circuit roles h r)

pub returns-clause-targets : goal.returns-clause-targets
returns-clause-targets c = targets-same
