-- What refuses a file of BLIF, the Berkeley Logic Interchange Format, as far as it was looked for.
use Rattle.std.specs.Prelude.{ℕ, ◌≤◌}
use Rattle.blif_ast.specs.BlifFileData.{BlifFileData}
use Rattle.model_calls.specs.Refusal.{Refusal, refusal_order}
use Rattle.model_calls.specs.Refusals.{HasRefusal}

-- nothing of the first so many orders refuses a file, counts among them
abbrev pub HasNoRefusal : BlifFileData → ℕ → Type 0
HasNoRefusal f most = (r : Refusal) → refusal_order r ≤ most → HasRefusal f r → ⊥
