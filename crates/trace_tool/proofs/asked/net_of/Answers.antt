use Rattle.std.proofs.Common.{◌≡◌, List, ℕ, Some, subst, ap, ◌∙◌}
use Rattle.std.specs.Prelude.{Contains, MatchOption, slice_get}
use Rattle.std.proofs.lemmas.List.{map-id}
use Rattle.deck.specs.CircuitData.{CircuitData}
use Rattle.model_calls.proofs.NameNumbers.{looked_up}
use Rattle.trace_tool.proofs.asked.net_of.Goals as goal

pub returns : goal.returns
returns c =
    let nets = map-id c.circuit.inside.nets.keys ∙ ap (λ (x : CircuitData). x.nets) c.circuit.view_is in
    subst (λ (names : List (List ℕ)). MatchOption c.get_index_of.result (Contains names c.args.name.now → ⊥) (λ n. slice_get names n ≡ Some c.args.name.now)) nets
    (looked_up (λ (k : List ℕ). k) c.args.name.now c.circuit.inside.nets.keys c.get_index_of.result c.get_index_of.ensures.index c.get_index_of.ensures.found)
