use Rattle.std.proofs.Common.{◌<◌, length, refl, subst, rules}
use Rattle.std.proofs.lemmas.Result.{IfOk-weaker}
use Rattle.local_names.specs.LostFormals.{IsFormalLost}
use Rattle.local_names.proofs.Placing.{placed-instance}
use Rattle.local_names.proofs.word_places.put_instance.Goals as goal

pub returns-clause-placed : goal.returns-clause-placed
returns-clause-placed c =
    let some : 0 < length c.args.words.now = search rules in
    IfOk-weaker c.put_bindings.result _ _
    (λ good h is. placed-instance c.args.names.now c.args.unit_names.now c.args.words.now c.behind_first.result.now c.args.all.now.items c.push.new.self.items
    c.put_bindings.new.all.items some c.behind_first.ensures c.in_ok-push.ensures.items (h is))
    c.put_bindings.ensures.placed

pub returns-clause-lost : goal.returns-clause-lost
returns-clause-lost c =
    IfOk-weaker c.put_bindings.result _ _
    (λ good h is. record { instance = refl; lost = subst (IsFormalLost c.args.unit_names.now) c.behind_first.ensures (h is) })
    c.put_bindings.ensures.lost
