use Rattle.std.proofs.Common.{subst, rules}
use Rattle.numbered_file.specs.Places.{inputs_at, outputs_at}
use Rattle.local_names.specs.Placed.{IsPlaced}
use Rattle.local_names.proofs.Placing.{inputs-more, outputs-more}
use Rattle.local_names.proofs.names_of_file.place_all.Goals as goal

pub loop-model-preserved : goal.loop-model-preserved
loop-model-preserved c =
    let l = c.loop-model in
    let d = c.args.file.now in
    let models = c.args.lookup.models.now.lists in
    let names = c.at-names.ensures in
    record {
      inputs = inputs-more d c.is_in_order.ensures models l.model l.placed.inputs.items c.put_words.new.all.items l.invariant.inputs
          (subst (λ ns. IsPlaced ns (inputs_at d l.model) l.placed.inputs.items c.put_words.new.all.items) names
          (subst (λ ns. IsPlaced c.at-names.result.now ns l.placed.inputs.items c.put_words.new.all.items) c.inputs_of.ensures c.in_ok-put_words.ensures));
      outputs = outputs-more d c.is_in_order.ensures models l.model l.placed.outputs.items c.put_words-in-loop-model.new.all.items l.invariant.outputs
          (subst (λ ns. IsPlaced ns (outputs_at d l.model) l.placed.outputs.items c.put_words-in-loop-model.new.all.items) names
          (subst (λ ns. IsPlaced c.at-names.result.now ns l.placed.outputs.items c.put_words-in-loop-model.new.all.items) c.outputs_of.ensures c.in_ok-put_words-2.ensures));
      words = c.in_ok-put_parts.ensures.placed (search rules);
    }
