use Rattle.std.proofs.Common.{◌≡◌, ℕ, inl, inr, length, ap, sym, subst, refl, ◌∙◌, arith, min}
use Rattle.blif_ast.specs.BlifFileData.{BlifFileData}
use Rattle.numbered_file.specs.Numbered.{file_of}
use Rattle.graph_order.specs.WalkSums.{largest_u64}
use Rattle.model_calls.specs.Occurrences.{main_model}
use Rattle.model_calls.specs.declared.fault.Limit.{Limit}
use Rattle.model_calls.specs.declared.fault.Limit.TheVariants.{Signals, Instances, Letters, Sinks}
use Rattle.part_numbers.specs.NetworkSizes.{limit_count, path_weights}
use Rattle.part_numbers.proofs.NetworkSizes.{paths_count_once}
use Rattle.local_names.proofs.Weights.{main-outputs}
use Rattle.local_names.proofs.sizes.count_for.Goals as goal

-- for a limit that counts nothing but paths
paths_at : (f : BlifFileData) (count : ℕ) (limit one : Limit) → limit ≡ one → path_weights one f ≡ limit_count one f
    → count ≡ min (path_weights limit f) largest_u64 → count ≡ min (limit_count limit f) largest_u64
paths_at f count limit one is same made =
    made ∙ ap (λ n. min n largest_u64) (ap (λ (l : Limit). path_weights l f) is ∙ same ∙ sym (ap (λ (l : Limit). limit_count l f) is))

pub returns-in-Sinks : goal.returns-in-Sinks
returns-in-Sinks c =
    let d = c.args.file.now in
    let f = file_of d in
    let paths = c.in_ok-paths.paths in
    let outputs : length c.outputs_of.result.now ≡ length (main_model f).outputs = ap length c.outputs_of.ensures ∙ main-outputs d c.requires.planned.main in
    let latches : paths ≡ min (path_weights Sinks f) largest_u64 = c.in_ok-paths.ensures ∙ ap (λ (l : Limit). min (path_weights l f) largest_u64) c.in-Sinks.is in
    subst (λ (l : Limit). c.saturating_add.result ≡ min (limit_count l f) largest_u64) (sym c.in-Sinks.is)
    (omega (arith, latches, outputs, c.saturating_add.ensures))

pub returns-in-Signals : goal.returns-in-Signals
returns-in-Signals c =
    let f = file_of c.args.file.now in
    let count = c.in_ok-paths.paths in
    elim c.in-Signals.is [
      | inl s ↦ paths_at f count c.args.limit Signals s refl c.in_ok-paths.ensures
      | inr other ↦ elim other [
        | inl i ↦ paths_at f count c.args.limit Instances i (paths_count_once f) c.in_ok-paths.ensures
        | inr l ↦ paths_at f count c.args.limit Letters l refl c.in_ok-paths.ensures
      ]
    ]
