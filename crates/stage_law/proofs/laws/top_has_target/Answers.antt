use Rattle.stage_law.proofs.Held.{held}
use Rattle.stage_law.proofs.TappedTargets.{drives, keeps, strong_through}
use Rattle.stage_law.proofs.laws.top_has_target.Goals as goal

pub returns-clause-ways : goal.returns-clause-ways
returns-clause-ways c = strong_through

pub returns-clause-drives : goal.returns-clause-drives
returns-clause-drives c = drives

pub returns-clause-keeps : goal.returns-clause-keeps
returns-clause-keeps c = keeps

pub returns-clause-holds : goal.returns-clause-holds
returns-clause-holds c = held
