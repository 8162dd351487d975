-- The trial that is there still holds.
use Rattle.std.proofs.Common.{◌≤◌, ◌<◌, ◌∙◌, ℕ, Bool, Some, get_or, ap, subst, sym}
use Rattle.std.proofs.lemmas.Option.{slice_get-get_or}
use Rattle.phase_assign.specs.LookedPairs.{looked_pairs}
use Rattle.phase_assign.specs.Uses.{times}
use Rattle.phase_assign.proofs.search.Search.is_settled.Goals as goal

pub returns-in-Some : goal.returns-in-Some
returns-in-Some c = λ e. (
  c.in-Some.trial,
  slice_get-get_or c.args.self.now.trials.items c.args.sink c.index.result.now c.requires.sink ∙ ap Some (sym c.index.ensures ∙ c.in-Some.is),
  subst (λ cs. (n : ℕ) (s : Bool) → 0 < times n s (looked_pairs c.in-Some.trial.looked) → c.in-Some.trial.size ≤ get_or cs n 0) c.as_slice.ensures.value (c.is_current.ensures e),
)
