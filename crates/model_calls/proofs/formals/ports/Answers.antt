use Rattle.std.proofs.Common.{rules, ◌≡◌, ◌++◌, [], sym, subst}
use Rattle.model_calls.proofs.Scans.{no_names}
use Rattle.model_calls.specs.Scans.{AreFirsts}
use Rattle.model_calls.proofs.formals.ports.Goals as goal

pub returns : goal.returns
returns c =
    let inputs : c.deref.result.now ≡ c.args.model.now.inputs = search rules in
    let outputs : c.deref-2.result.now ≡ c.args.model.now.outputs = search rules in
    let first = c.in_ok-add_all.ensures [] (subst (AreFirsts []) (sym c.new-names.ensures) no_names) in
    subst (λ l. AreFirsts (c.args.model.now.inputs ++ l) c.add_all-2.new.names) outputs
    (c.in_ok-add_all-2.ensures c.args.model.now.inputs (subst (λ l. AreFirsts l c.add_all.new.names) inputs first))
