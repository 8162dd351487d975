-- The devices of a compound cell, appended part by part.
use Rattle.std.proofs.Common.{◌≡◌, ℕ, List, ◌++◌, ap, sym, ◌∙◌}
use Rattle.deck.proofs.CircuitGrowth.{with_devices-append}
use Rattle.deck.specs.CircuitData.{CircuitData}
use Rattle.deck.specs.NamedDevices.{with_devices}
use Rattle.sp_network.specs.Tree.{Tree}
use Rattle.compound_cell.proofs.PairCells.{left_stage, pair_gate, right_stage}

-- both stages and the static gate
pub pair_pushed : (clock k : ℕ) (l r : Tree (List ℕ)) (old between mid new : CircuitData)
    → between ≡ with_devices old (left_stage clock k l r) → mid ≡ with_devices between (right_stage clock k l r) → new ≡ with_devices mid (pair_gate clock k l r)
    → new ≡ with_devices old (left_stage clock k l r ++ (right_stage clock k l r ++ pair_gate clock k l r))
pair_pushed clock k l r old between mid new one two three =
    let gate = pair_gate clock k l r in
    three
    ∙ ap (λ c. with_devices c gate) two
    ∙ sym (with_devices-append between (right_stage clock k l r) gate)
    ∙ ap (λ c. with_devices c (right_stage clock k l r ++ gate)) one
    ∙ sym (with_devices-append old (left_stage clock k l r) (right_stage clock k l r ++ gate))
