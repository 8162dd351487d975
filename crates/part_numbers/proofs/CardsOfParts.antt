-- Models of a file by their numbers, and the cards of its parts.
use Rattle.std.proofs.Common.{◌≡◌, ℕ, zero, suc, ◌<◌, List, [], ◌∷◌, length, Option, Some, None, ap, sym, subst, refl, arith}
use Rattle.std.specs.Prelude.{IsSome, slice_get, slice_index_or}
use Rattle.std.proofs.lemmas.Option.{slice_get_within}
use Rattle.std.proofs.lemmas.Bool.{true≢false}
use Rattle.blif_ast.specs.BlifFileData.{BlifFileData}
use Rattle.blif_ast.specs.BlifModelData.{BlifModelData}
use Rattle.part_numbers.specs.NumberedFiles.{model_at}
use Rattle.model_calls.specs.Occurrences.{first_model}

module _ {X : Type 0} (part : BlifModelData → List X) (none : part (first_model []) ≡ []) where
  -- a model that has a part at some index is there
  pub model_there : (f : BlifFileData) (k i : ℕ) → IsSome (slice_get (part (model_at f k)) i) → k < length f.models
  model_there f k i some = by f.models k some
    where
      by : (models : List BlifModelData) (k : ℕ) → IsSome (slice_get (part (slice_index_or models k (first_model []))) i) → k < length models
      by [] k s = absurd (true≢false (sym (subst IsSome (ap (λ l. slice_get l i) none) s)))
      by (m ∷ models) zero s = omega arith
      by (m ∷ models) (suc k) s = omega (arith, by models k s)

pub some_within : {X : Type 0} (xs : List X) (i : ℕ) → IsSome (slice_get xs i) → i < length xs
some_within {X = X} xs i s = by (slice_get xs i) refl s
  where
    by : (o : Option X) → slice_get xs i ≡ o → IsSome o → i < length xs
    by None e s = absurd (true≢false (sym s))
    by (Some x) e s = slice_get_within xs i x e
