-- Over files that are known, a command has an outcome.
use Rattle.std.proofs.Common.{[], ◌∷◌}
use Rattle.std.specs.Prelude.{All}
use Rattle.std.proofs.lemmas.List.Elements.{All-head, All-tail}
use Rattle.command_words.specs.Commands.{Command, Synth, Flat as flat, Run as run, Sim, Cosim, Report, Bench, Audit, HasGoodOptions, files_of}
use Rattle.domsyn.specs.Laws.{HasAnswer, IsKnownFile}
use Rattle.domsyn.proofs.AuditThere.{audit_there}
use Rattle.command_answers.proofs.Benches.{bench_there}
use Rattle.domsyn.specs.Outcomes.{Printed}
use Rattle.domsyn.proofs.KnownFiles.{Pairs, HasOne}
use Rattle.domsyn.proofs.CosimThere.{cosim_there}
use Rattle.domsyn.proofs.FlatThere.{flat_there}
use Rattle.domsyn.proofs.ReportThere.{report_there}
use Rattle.domsyn.proofs.RunThere.{run_there}
use Rattle.domsyn.proofs.SimThere.{sim_there}
use Rattle.domsyn.proofs.SynthThere.{synth_there}

pub outcome_there : (known : Pairs) (command : Command) → HasGoodOptions command → All (IsKnownFile known) (files_of command) → HasAnswer known command
    → HasOne known command
outcome_there known (Synth file options method) good all answered = synth_there known file options method good (All-head (IsKnownFile known) file [] all)
outcome_there known (flat file) good all answered = flat_there known file (All-head (IsKnownFile known) file [] all)
outcome_there known (run file stim) good all answered =
    run_there known file stim (All-head (IsKnownFile known) file (stim ∷ []) all)
    (All-head (IsKnownFile known) stim [] (All-tail (IsKnownFile known) file (stim ∷ []) all))
outcome_there known (Sim deck stim options clocking) good all answered =
    sim_there known deck stim options clocking (All-head (IsKnownFile known) deck (stim ∷ []) all)
    (All-head (IsKnownFile known) stim [] (All-tail (IsKnownFile known) deck (stim ∷ []) all))
outcome_there known (Cosim file deck stim order seed) good all answered =
    let more = All-tail (IsKnownFile known) file (deck ∷ stim ∷ []) all in
    cosim_there known file deck stim order seed (All-head (IsKnownFile known) file (deck ∷ stim ∷ []) all) (All-head (IsKnownFile known) deck (stim ∷ []) more)
    (All-head (IsKnownFile known) stim [] (All-tail (IsKnownFile known) deck (stim ∷ []) more))
outcome_there known (Report file options) good all answered = report_there known file options good (All-head (IsKnownFile known) file [] all)
outcome_there known (Bench seed size options) good all answered = let made = bench_there seed size options good.1 good.0 in (Printed made.0 made.1, made.2)
outcome_there known (Audit deck) good all answered = audit_there known deck (All-head (IsKnownFile known) deck [] all) answered
