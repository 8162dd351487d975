use Rattle.std.proofs.Common.{◌≤◌, ◌<◌, length, map, ap, ◌∙◌, arith}
use Rattle.std.proofs.lemmas.List.{take_all}
use Rattle.numbered_file.specs.Numbered.{models_in}
use Rattle.numbered_file.proofs.Places.{length-models_in}
use Rattle.card_places.specs.NumberLists.{with_numbers}
use Rattle.local_names.proofs.ModelNames.{below-more, list-more, names-more}
use Rattle.part_numbers.specs.SignalNumbers.{model_names}
use Rattle.local_names.proofs.names_of_file.names_of_models.Goals as goal

pub loop-model-preserved : goal.loop-model-preserved
loop-model-preserved c =
    let l = c.loop-model in
    let d = c.args.file.now in
    let kept = c.names_of_model.new.kept.items in
    let extended = c.in_ok-extend.ensures ∙ ap (with_numbers l.models) c.deref.ensures.value in
    let more = list-more l.models kept c.extend.new.self c.close.new.self l.invariant.next extended c.in_ok-close.ensures in
    let within : l.model < length d.models = omega (arith, ap length c.models-model-end.ensures, c.loop-model-test.true) in
    record {
      count = c.names_of_model.ensures.length ∙ l.invariant.count;
      next = more.0;
      names = names-more d l.model kept l.models.lists c.close.new.self.lists within c.in_ok-names_of_model.ensures.names more.1 l.invariant.names;
      below = below-more (length d.names) l.models.lists c.close.new.self.lists kept more.1 l.invariant.below c.in_ok-names_of_model.ensures.below;
    }

pub returns-clause-names : goal.returns-clause-names
returns-clause-names c =
    let l = c.loop-model in
    let d = c.args.file.now in
    let all : length (models_in d) ≤ l.model = omega (arith, length-models_in d, ap length c.models-model-end.ensures, c.loop-model-test.false) in
    l.invariant.names ∙ ap (map model_names) (take_all l.model (models_in d) all)
