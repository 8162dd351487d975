use Rattle.std.proofs.Common.{rules, ◌≡◌, ◌||◌, true, false, sym, ◌∙◌, ap}
use Rattle.std.specs.List.{list_any}
use Rattle.std.proofs.lemmas.List.Folds.{list_any-append}
use Rattle.blif_ast.specs.BlifModelData.{BlifModelData}
use Rattle.blif_ast.specs.Cards.{same}
use Rattle.model_calls.proofs.formals.is_listed.Goals as goal

pub returns-then-is_input : goal.returns-then-is_input
returns-then-is_input c = let unit = c.args.unit.now in let name = c.args.name.now in
    let inputs : list_any (λ port. same port name) c.deref.result.now ≡ list_any (λ port. same port name) unit.inputs =
    ap (list_any (λ port. same port name)) (c.deref.ensures.value ∙ ap (λ (m : BlifModelData). m.inputs) c.unit.view_is) in
    let found : c.contains-is_input.result ≡ true = search rules in
    found ∙ sym (list_any-append (λ port. same port name) unit.inputs unit.outputs
    ∙ ap (λ b. b || list_any (λ port. same port name) unit.outputs) (sym (c.contains-is_input.ensures.value ∙ inputs) ∙ found))

pub returns-else-is_input : goal.returns-else-is_input
returns-else-is_input c = let unit = c.args.unit.now in let name = c.args.name.now in
    let inputs : list_any (λ port. same port name) c.deref.result.now ≡ list_any (λ port. same port name) unit.inputs =
    ap (list_any (λ port. same port name)) (c.deref.ensures.value ∙ ap (λ (m : BlifModelData). m.inputs) c.unit.view_is) in
    let outputs : list_any (λ port. same port name) c.deref-2.result.now ≡ list_any (λ port. same port name) unit.outputs =
    ap (list_any (λ port. same port name)) (c.deref-2.ensures.value ∙ ap (λ (m : BlifModelData). m.outputs) c.unit.view_is) in
    let missed : c.contains-is_input.result ≡ false = search rules in
    c.contains-is_output.ensures.value ∙ outputs
    ∙ sym (list_any-append (λ port. same port name) unit.inputs unit.outputs
    ∙ ap (λ b. b || list_any (λ port. same port name) unit.outputs) (sym (c.contains-is_input.ensures.value ∙ inputs) ∙ missed))
