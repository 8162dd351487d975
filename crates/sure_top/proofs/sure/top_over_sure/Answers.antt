use Rattle.std.proofs.Common.{sym}
use Rattle.sure_top.proofs.NeverRose.{never_rose}
use Rattle.sure_top.proofs.sure.top_over_sure.Goals as goal

pub returns-clause-read : goal.returns-clause-read
returns-clause-read c = λ three. never_rose (c.top.ensures.cannot_read (sym three))

pub returns-clause-written : goal.returns-clause-written
returns-clause-written c = λ four. never_rose (c.top.ensures.cannot_write (sym four))

pub returns-clause-complete : goal.returns-clause-complete
returns-clause-complete c = λ outcome is. c.top.ensures.complete outcome is never_rose never_rose
