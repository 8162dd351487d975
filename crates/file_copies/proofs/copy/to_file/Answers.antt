use Rattle.std.proofs.Common.{◌++◌, ◌∷◌, [], ap, arith, refl, sym, take, ◌∙◌}
use Rattle.std.proofs.lemmas.List.{take_all}
use Rattle.numbered_file.specs.Numbered.{between, model_by, models_from, name_of, named, parts_of}
use Rattle.numbered_file.specs.OpenLists.{inputs_end, outputs_end, parts_end}
use Rattle.numbered_file.proofs.PartLists.{take-get}
use Rattle.numbered_file.proofs.Growth.{inputs_end-push, models-push, outputs_end-push, parts_end-push}
use Rattle.file_copies.proofs.copy.to_file.Goals as goal

pub loop-index-init : goal.loop-index-init
loop-index-init c = record { models = c.in_ok-models.ensures.items; inputs = refl; outputs = refl; parts = refl }

pub loop-index-preserved : goal.loop-index-preserved
loop-index-preserved c =
    let d = c.args.file.now in
    let all = c.models-all.result.now in
    let i = c.loop-index.index in
    let at = c.model_at-at.result in
    let before = c.loop-index.invariant in
    let inputs = named d.names d.inputs in
    let outputs = named d.names d.outputs in
    let more = take-get all i at c.model_at-at.ensures in
    let model = c.in_ok-model.ensures ∙ (λ k. model_by (name_of d.names at.name) at.line (between (before.inputs k) at.inputs_end inputs)
    (between (before.outputs k) at.outputs_end outputs) (between (before.parts k) at.parts_end (parts_of d))) in
    record {
      models = c.in_ok-push.ensures.items ∙ (λ k. before.models k ++ model k ∷ [])
          ∙ sym (models-push d.names inputs outputs (parts_of d) 0 0 0 (take i all) at)
          ∙ ap (models_from d.names inputs outputs (parts_of d) 0 0 0) (sym more);
      inputs = sym (ap (inputs_end 0) more ∙ inputs_end-push 0 (take i all) at);
      outputs = sym (ap (outputs_end 0) more ∙ outputs_end-push 0 (take i all) at);
      parts = sym (ap (parts_end 0) more ∙ parts_end-push 0 (take i all) at);
    }

pub returns : goal.returns
returns c =
    let d = c.args.file.now in
    let all = c.models-all.result.now in
    ap (λ ms. record { models = ms }) (c.loop-index.invariant.models
    ∙ ap (models_from d.names (named d.names d.inputs) (named d.names d.outputs) (parts_of d) 0 0 0)
    (take_all c.loop-index.index all (omega (arith, c.loop-index-test.false)) ∙ c.models-all.ensures))
