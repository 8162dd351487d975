use Rattle.std.proofs.Common.{◌<◌, take, All}
use Rattle.synth_flow.proofs.bare.see_names.Given as goal

abbrev pub invariant-names : goal.invariant-names
invariant-names l = All (λ name. All (λ b. b < 256) name) (take l.k l.names)
