-- The signals of a file of BLIF, the Berkeley Logic Interchange Format: names at paths, where a formal that an instance binds
-- is its actual one level up.
use Rattle.std.specs.Prelude.{ℕ, ◌≡◌, List, [], ◌∷◌, Option, Some, ◌↔◌}
use Rattle.std.specs.List.{find}
use Rattle.std.specs.Option.{option_map, option_map_or}
use Rattle.blif_ast.specs.Cards.{same}
use Rattle.blif_ast.specs.declared.instance.Binding.{Binding}
use Rattle.blif_ast.specs.InstanceData.{InstanceData}

-- A path is a list of instances from the main model down, given with the nearest first; the main model's own is empty.
-- In a good file no two instances of a model are equal, since their lines differ.

-- a name of the model at a path
pub record Signal : Type 0 where
  pub path : List InstanceData
  pub name : List ℕ

-- the actual that an instance binds to a formal, if it binds it
abbrev pub bound_actual : InstanceData → List ℕ → Option (List ℕ)
bound_actual i formal = option_map (λ (b : Binding). b.actual) (find (λ (b : Binding). same b.formal formal) i.bindings)

-- the signal of a name at a path: the name that is reached from it by going from bound formals to their actuals, one
-- level up each time, until it is no bound formal
abbrev pub signal_of : List InstanceData → List ℕ → Signal
signal_of [] name = record { path = []; name = name }
signal_of (i ∷ up) name = option_map_or (signal_of up) (bound_actual i name) (record { path = i ∷ up; name = name })

-- names at paths that are one signal, by steps between a bound formal and its actual one level up
pub data IsOneSignal : Signal → Signal → Type 0 where
  bound : {i : InstanceData} {up : List InstanceData} {formal actual : List ℕ} → bound_actual i formal ≡ Some actual
      → IsOneSignal (record { path = i ∷ up; name = formal }) (record { path = up; name = actual })
  itself : {s : Signal} → IsOneSignal s s
  back : {s t : Signal} → IsOneSignal s t → IsOneSignal t s
  both : {s t u : Signal} → IsOneSignal s t → IsOneSignal t u → IsOneSignal s u

-- two names at paths are one signal exactly where `signal_of` takes them to the same one
abbrev pub SignalsAreClasses : Type 0
SignalsAreClasses = (s t : Signal) → IsOneSignal s t ↔ (signal_of s.path s.name ≡ signal_of t.path t.name)
