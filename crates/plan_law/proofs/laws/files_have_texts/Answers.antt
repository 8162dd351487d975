use Rattle.plan_law.proofs.FilesAnswered.{files_answered}
use Rattle.plan_law.proofs.laws.files_have_texts.Goals as goal

pub returns : goal.returns
returns c = files_answered
