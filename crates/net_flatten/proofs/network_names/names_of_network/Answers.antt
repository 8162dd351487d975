use Rattle.std.proofs.Common.{ℕ, ◌∙◌, ap, sym, List, map, [], ◌∷◌, ◌++◌}
use Rattle.std.specs.Prelude.{slice_index_or}
use Rattle.std.proofs.lemmas.Option.{slice_get-get_or}
use Rattle.model_calls.specs.Numbering.{letters_w}
use Rattle.net_flatten.specs.NetworkNames.{network_name}
use Rattle.net_flatten.proofs.NetworkNames.{next_name}
use Rattle.net_flatten.proofs.network_names.names_of_network.Goals as goal

pub loop-index-preserved : goal.loop-index-preserved
loop-index-preserved c =
    let number : ℕ = slice_index_or c.args.numbers.now c.loop-index.index 0 in
    let at = slice_get-get_or c.args.numbers.now c.loop-index.index 0 c.loop-index-test.true in
    c.in_ok-push_name.ensures
    ∙ ap (λ (names : List (List ℕ)). names ++ network_name (map (λ k. k.now) c.args.main_names.now) (letters_w c.in_ok-width.width) c.loop-index.index number ∷ []) c.loop-index.invariant
    ∙ sym (next_name (map (λ k. k.now) c.args.main_names.now) (letters_w c.in_ok-width.width) c.args.numbers.now c.loop-index.index number at)
