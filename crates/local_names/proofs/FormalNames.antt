-- The names of the formals of an instance.
use Rattle.std.proofs.Common.{◌≡◌, ℕ, List, [], ◌∷◌, map, refl, ap}
use Rattle.blif_ast.specs.declared.instance.Binding.{Binding}
use Rattle.numbered_file.specs.Numbered.{bindings_by, name_of, named}
use Rattle.local_names.specs.LocalNames.{firsts}

-- the formals of an instance by its words
pub formals_named : (names : List (List ℕ)) (words : List ℕ) → map (λ (b : Binding). b.formal) (bindings_by (named names words)) ≡ named names (firsts words)
formals_named names [] = refl
formals_named names (a ∷ []) = refl
formals_named names (a ∷ b ∷ words) = ap (λ l. name_of names a ∷ l) (formals_named names words)
