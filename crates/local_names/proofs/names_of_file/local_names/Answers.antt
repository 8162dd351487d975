use Rattle.std.proofs.Common.{subst}
use Rattle.std.specs.Prelude.{IfNone, IfSome}
use Rattle.std.proofs.lemmas.Option.{slice_get_within}
use Rattle.local_names.specs.AllPlaced.{AreAllPlaced}
use Rattle.local_names.specs.LostFormals.{HasLostFormal}
use Rattle.local_names.proofs.LostFormals.{lost_refused}
use Rattle.local_names.proofs.names_of_file.local_names.Goals as goal

pub returns-in-Some-clause-names : goal.returns-in-Some-clause-names
returns-in-Some-clause-names c =
    let d = c.args.file.now in
    let placed = subst (λ o. IfSome o (AreAllPlaced d c.in_ok-models.models.lists)) c.in-Some.is c.in_ok-placed.ensures.placed in
    record {
      models = c.in_ok-models.ensures.names;
      input_count = placed.inputs.count;
      output_count = placed.outputs.count;
      word_count = placed.words.count;
      inputs = λ m below. placed.inputs.each m below;
      outputs = λ m below. placed.outputs.each m below;
      words = λ m k part inside there. placed.words.own m k part (slice_get_within d.parts k part there) inside there;
      formals = λ k unit instance named. placed.words.formals k unit (slice_get_within d.parts k instance.part instance.there) instance named;
    }

pub returns-clause-refused : goal.returns-clause-refused
returns-clause-refused c =
    let d = c.args.file.now in
    let lost = subst (λ o. IfNone o (HasLostFormal d c.in_ok-models.models.lists)) c.in-None.is c.in_ok-placed.ensures.lost in
    lost_refused d c.is_in_order.ensures c.args.units.now c.requires c.in_ok-models.models.lists c.in_ok-models.ensures.names c.in_ok-models.ensures.below lost
