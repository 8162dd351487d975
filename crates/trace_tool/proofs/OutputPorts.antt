-- The values and the names of the outputs, by index.
use Rattle.std.proofs.Common.{◌≡◌, ℕ, ◌+◌, ◌<◌, ◌≤◌, List, [], drop, length, take, Some, slice_get, slice_index_or, sym, ap, ◌∙◌, arith, length-drop, length-take}
use Rattle.std.proofs.lemmas.List.{get_or-drop, get_or-take}
use Rattle.std.proofs.lemmas.Option.{slice_get-get_or}
use Rattle.dom_base.specs.declared.tri.Tri.{Tri}
use Rattle.dom_base.specs.declared.tri.Tri.TheVariants.{Unknown}

pub value_at_output : (values : List Tri) (first outs index : ℕ) → index < outs → first + outs ≤ length values
    → slice_get (take outs (drop first values)) index ≡ Some (slice_index_or values (first + index) Unknown)
value_at_output values first outs index lt within =
    slice_get-get_or (take outs (drop first values)) index Unknown (omega (arith, lt, within, length-take outs (drop first values), length-drop first values))
    ∙ ap Some (get_or-take outs (drop first values) index Unknown lt ∙ get_or-drop first values index Unknown)

pub name_at_output : (nets : List (List ℕ)) (ports first index : ℕ) (name : List ℕ) → first + index < length (take ports nets)
    → name ≡ slice_index_or nets (first + index) [] → slice_get (drop first (take ports nets)) index ≡ Some name
name_at_output nets ports first index name lt is =
    slice_get-get_or (drop first (take ports nets)) index [] (omega (arith, lt, length-drop first (take ports nets)))
    ∙ ap Some (get_or-drop first (take ports nets) index [] ∙ get_or-take ports nets (first + index) [] (omega (arith, lt, length-take ports nets)) ∙ sym is)
