-- A text that is generated is accepted, and its file is refused for nothing.
use Rattle.std.proofs.Common.{ap}
use Rattle.blif_ast.specs.BlifFileData.{BlifFileData}
use Rattle.blif_read.proofs.PrintReadsBackFiles.{reads_back}
use Rattle.net_flatten.proofs.OneModel.{good_one_model}
use Rattle.net_gen.specs.Generated.{generated, generated_network}
use Rattle.net_gen.specs.Laws.{GeneratedIsAccepted}
use Rattle.net_gen.proofs.GeneratedNetworks.{generated_is}
use Rattle.net_gen.proofs.RelinedFiles.{unlined_unrefused}

pub generated_is_accepted : GeneratedIsAccepted
generated_is_accepted = λ seed tables some few.
    let n = generated_network seed tables in
    let is = generated_is seed tables some few in
    let back = reads_back (generated seed tables) (good_one_model n is) in
    (back.0, record { is_file = back.1; same = back.2; unrefused = unlined_unrefused n is back.0.models (ap (λ (f : BlifFileData). f.models) back.2) })
