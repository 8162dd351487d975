use Rattle.std.proofs.Common.{◌≡◌, ◌++◌, ◌∷◌, [], map}
use Rattle.std.specs.List.{flat_map, range_with_len}
use Rattle.stim_text.specs.CycleLines.{pin_letters}
use Rattle.net_gen.specs.Stimulus.{stimulus_cycle}
use Rattle.net_gen.proofs.stimulus.bench_stimulus.Given as goal

abbrev pub invariant-cycles : goal.invariant-cycles
invariant-cycles l = l.text.items ≡ flat_map (λ pins. pin_letters pins ++ 10 ∷ []) (map (stimulus_cycle l.seed l.width) (range_with_len 0 l.cycle))
