use Rattle.std.proofs.Common.{length}
use Rattle.std.proofs.lemmas.Bool.{eqb-false, eqb-true}
use Rattle.audit_deck.specs.Indexes.{EndingAt}
use Rattle.audit_deck.proofs.NetUses.{none_in, some_in}
use Rattle.audit_deck.proofs.index.Index.ends_none.Goals as goal

pub returns-clause-yes : goal.returns-clause-yes
returns-clause-yes c = λ e p d at ends.
    let l = c.ending.result.now in
    none_in (EndingAt c.args.self.now.devices c.args.net) l c.ending.ensures.are (eqb-true (length l) 0 e) p (d, at, ends)

pub returns-clause-no : goal.returns-clause-no
returns-clause-no c = λ e none.
    let l = c.ending.result.now in
    let y = some_in (EndingAt c.args.self.now.devices c.args.net) l c.ending.ensures.are (eqb-false (length l) 0 e) in
    none y.0 y.1.0 y.1.1 y.1.2
