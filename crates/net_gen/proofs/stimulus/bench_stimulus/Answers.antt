use Rattle.std.proofs.Common.{Bool, List, ℕ, ◌++◌, [], ◌∷◌, map, ap, sym, ◌∙◌, zero-add, append-nil, append_assoc}
use Rattle.std.specs.List.{flat_map, range_with_len}
use Rattle.std.proofs.lemmas.Grind.{flat_map-append}
use Rattle.std.proofs.lemmas.List.FromFn.{map-range_with_len_more}
use Rattle.stim_text.specs.CycleLines.{pin_letters}
use Rattle.net_gen.specs.Stimulus.{stimulus_cycle}
use Rattle.net_gen.proofs.stimulus.bench_stimulus.Goals as goal

pub cycles-preserved : goal.cycles-preserved
cycles-preserved c =
    let k = c.cycles.cycle in
    let cycle = stimulus_cycle c.args.seed c.args.width in
    let line : List Bool → List ℕ = λ pins. pin_letters pins ++ 10 ∷ [] in
    let before = map cycle (range_with_len 0 k) in
    c.in_ok-push_cycle.ensures
    ∙ append_assoc c.cycles.text.items (pin_letters (cycle k)) (10 ∷ [])
    ∙ ap (λ l. l ++ line (cycle k)) c.cycles.invariant
    ∙ ap (λ l. flat_map line before ++ l) (sym (append-nil (line (cycle k))))
    ∙ sym (flat_map-append line before (cycle k ∷ []))
    ∙ ap (flat_map line) (sym (map-range_with_len_more cycle 0 k k (zero-add k)))
