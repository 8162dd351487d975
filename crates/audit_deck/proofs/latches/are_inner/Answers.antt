use Rattle.deck_audit.specs.Words.{IsInner}
use Rattle.audit_deck.proofs.Checks.{all_before}
use Rattle.audit_deck.proofs.latches.are_inner.Goals as goal

pub returns-clause-yes : goal.returns-clause-yes
returns-clause-yes c = λ e. all_before (IsInner c.args.roles) c.args.nets.now c.loop-net.net-index c.loop-net-test.false c.loop-net.invariant
