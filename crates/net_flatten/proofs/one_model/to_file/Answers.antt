use Rattle.net_flatten.proofs.ToFile.{one_file_accepted, one_file_good}
use Rattle.net_flatten.proofs.one_model.to_file.Goals as goal

pub returns-clause-good : goal.returns-clause-good
returns-clause-good c = one_file_good c.args.network.now c.model_of.ensures.network c.in_ok-model_of.field-0 c.in_ok-model_of.ensures.model c.in_ok-models.models.items c.in_ok-models.ensures.items

pub returns-clause-accepted : goal.returns-clause-accepted
returns-clause-accepted c =
    one_file_accepted c.args.network.now c.model_of.ensures.network c.in_ok-model_of.field-0 c.in_ok-model_of.ensures.model c.in_ok-models.models.items c.in_ok-models.ensures.items
