use Rattle.std.proofs.Common.{◌≤◌, ◌<◌, length, ap, ◌∙◌, arith}
use Rattle.std.proofs.lemmas.List.{take_all}
use Rattle.numbered_file.specs.Numbered.{models_in}
use Rattle.numbered_file.proofs.Places.{length-models_in}
use Rattle.part_numbers.specs.NetworkSizes.{model_weights}
use Rattle.local_names.proofs.Weights.{weights-more}
use Rattle.local_names.proofs.sizes.weigh_models.Goals as goal

pub loop-model-preserved : goal.loop-model-preserved
loop-model-preserved c =
    let l = c.loop-model in
    let d = c.args.file.now in
    let within : l.model < length d.models = omega (arith, ap length c.models-model-end.ensures, c.loop-model-test.true) in
    weights-more d c.args.limit l.model c.weigh.result l.weights.items c.push.new.self.items within c.weigh.ensures l.invariant c.in_ok-push.ensures.items

pub returns : goal.returns
returns c =
    let l = c.loop-model in
    let d = c.args.file.now in
    let all : length (models_in d) ≤ l.model = omega (arith, length-models_in d, ap length c.models-model-end.ensures, c.loop-model-test.false) in
    l.invariant ∙ ap (model_weights c.args.limit) (take_all l.model (models_in d) all)
