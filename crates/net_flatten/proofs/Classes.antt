-- Names at paths that are one signal.
use Rattle.std.proofs.Common.{◌≡◌, ℕ, List, [], ◌∷◌, Option, Some, None, refl, ap, sym, ◌∙◌, subst}
use Rattle.std.specs.Option.{option_map_or}
use Rattle.blif_ast.specs.InstanceData.{InstanceData}
use Rattle.model_calls.specs.Signals.{IsOneSignal, Signal, bound_actual, back, both, bound, itself, signal_of, SignalsAreClasses}

alike : {s t : Signal} → IsOneSignal s t → signal_of s.path s.name ≡ signal_of t.path t.name
alike (bound {i} {up} {formal} {actual} is) = ap (λ o. option_map_or (signal_of up) o (record { path = i ∷ up; name = formal })) is
alike itself = refl
alike (back h) = sym (alike h)
alike (both h k) = alike h ∙ alike k

-- a name at a path is one signal with the one that it comes to
climbs : (path : List InstanceData) (name : List ℕ) → IsOneSignal (record { path = path; name = name }) (signal_of path name)
climbs [] name = itself
climbs (i ∷ up) name = by (climbs up) (bound_actual i name) refl
  where
    by : ((actual : List ℕ) → IsOneSignal (record { path = up; name = actual }) (signal_of up actual)) → (found : Option (List ℕ)) → bound_actual i name ≡ found
        → IsOneSignal (record { path = i ∷ up; name = name }) (option_map_or (signal_of up) found (record { path = i ∷ up; name = name }))
    by above None is = itself
    by above (Some actual) is = both (bound is) (above actual)

pub classes : SignalsAreClasses
classes s t = (λ h. alike h, λ e. both (climbs s.path s.name) (subst (λ u. IsOneSignal u t) (sym e) (back (climbs t.path t.name))))
