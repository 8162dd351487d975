use Rattle.verdict_law.proofs.OneClock.{one_clock_is_right}
use Rattle.verdict_law.proofs.laws.one_clock_is_right.Goals as goal

pub returns : goal.returns
returns c = one_clock_is_right
