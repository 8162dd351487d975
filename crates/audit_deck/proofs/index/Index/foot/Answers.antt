use Rattle.std.proofs.lemmas.Option.{slice_get_within}
use Rattle.audit_deck.proofs.index.Index.foot.Goals as goal

pub returns-in_default-clause-none : goal.returns-in_default-clause-none
returns-in_default-clause-none c = λ g f. c.in_default.ensures.none g.place f.only

pub device-device-requires : goal.device-device-requires
device-device-requires c = let y = c.in-Some.ensures.some.has in slice_get_within c.args.self.now.devices c.in-Some.place y.0 y.1
