-- Ends for what sinks ask for.
use Rattle.std.proofs.Common.{◌≡◌, ◌⊎◌, inl, inr, refl, sym, ap, subst, ◌∙◌, ℕ, ◌<◌, Bool, true, false, not, List, [], ◌∷◌, ◌++◌, length, get_or, Some, slice_get, arith}
use Rattle.std.proofs.lemmas.Option.{get_or_from_slice_get, slice_get-get_or}
use Rattle.dom_base.proofs.Lists.{slice_get-push_cases}
use Rattle.gate_decompose.specs.declared.gates.Node.{Node}
use Rattle.gate_decompose.specs.declared.gates.Node.TheVariants.{Not}
use Rattle.gate_decompose.specs.declared.gates.Ref.{Ref}
use Rattle.gate_decompose.specs.declared.gates.Ref.TheVariants.{Const as constant_ref}
use Rattle.gate_decompose.specs.GatesData.{GatesData}
use Rattle.gate_decompose.specs.GatesOrder.{AreInPlace, ReadsEarlier}
use Rattle.gate_decompose.proofs.GatesOrder.{sink_there}
use Rattle.gate_decompose.specs.Needed.{Asked, AsksFor, Literal, Pair, Value, constant, gate, leaf, under}
use Rattle.dual_rail.specs.ArmPlaces.{HasPlace}
use Rattle.dual_rail.specs.EndPlaces.{AreEndsSoFar, IsEndFor, IsNodeWithin, SinksHavePlaces}
use Rattle.dual_rail.specs.Forests.{IsEndOf}
use Rattle.dual_rail.specs.Places.{place_at}
use Rattle.dual_rail.specs.WantedNodes.{AreOrderedNodes}
use Rattle.dual_rail.proofs.ArmsOf.{plain_place}
use Rattle.dual_rail.proofs.TargetsOf.{asks_opposite}
use Rattle.dual_rail.specs.declared.forest.End.{End}
use Rattle.dual_rail.specs.declared.signed.Signed.{Signed}

-- a sink reads what is there
pub sink_at : (gates : GatesData) (sinks : List Ref) (n i : ℕ) (d : Ref) → AreInPlace gates → sinks ≡ gates.sinks → n ≡ length gates.nodes → i < length sinks → ReadsEarlier n (get_or sinks i d)
sink_at gates sinks n i d is same count lt =
    subst (λ k. ReadsEarlier k (get_or sinks i d)) (sym count)
    (sink_there gates.leaves (length gates.nodes) (get_or sinks i d) (is.sinks i (get_or sinks i d) (ap (λ xs. slice_get xs i) (sym same) ∙ slice_get-get_or sinks i d lt)))

-- and asks for a pair that is there, if for any
placed_within : (n : ℕ) (x : Asked) → HasPlace n x → IsNodeWithin n x
placed_within n (Value b) h = tt
placed_within n (Literal k t) h = tt
placed_within n (Pair m t) h = h

pub sink_within : (nodes : List Node) → AreOrderedNodes nodes → {r : Ref} {s : Bool} {x : Asked} → ReadsEarlier (length nodes) r → AsksFor nodes r s x → IsNodeWithin (length nodes) x
sink_within nodes order h constant = tt
sink_within nodes order h leaf = tt
sink_within nodes order h (gate is) = h
sink_within nodes order {x = x} h (under {n = m} {a = a} at more) = placed_within (length nodes) x (plain_place nodes order m (omega (arith, h)) (order m (Not a) at) more)

-- the end for what a sink asks for
end_is : (nodes : List Node) (origin : List (ℕ × Bool)) (places : List (Signed ℕ)) (r : Ref) (sign : Bool) (x : Asked) (end : End) → AsksFor nodes r true x → IsEndFor places x sign end
    → ((m : ℕ) (t : Bool) → AsksFor nodes r sign (Pair m t) → slice_get origin (place_at places m t) ≡ Some (m, t)) → IsEndOf nodes origin r sign end
end_is nodes origin places r sign (Value b) end asks is stand = subst (IsEndOf nodes origin r sign) (sym is) asks
end_is nodes origin places r sign (Literal k t) end asks is stand = subst (IsEndOf nodes origin r sign) (sym is) asks
end_is nodes origin places r true (Pair m t) end asks is stand = subst (IsEndOf nodes origin r true) (sym is) (refl, (m, t), stand m t asks, asks)
end_is nodes origin places r false (Pair m t) end asks is stand =
    subst (IsEndOf nodes origin r false) (sym is) (refl, (m, not t), stand m (not t) (asks_opposite nodes asks), asks_opposite nodes asks)

-- an end more
pub ends_next : (gates : GatesData) (signs : List Bool) (origin : List (ℕ × Bool)) (places : List (Signed ℕ)) (sinks : List Ref) (ends new : List End) (end : End) (i : ℕ) (x : Asked) → sinks ≡ gates.sinks
    → length ends ≡ i → new ≡ ends ++ (end ∷ []) → AsksFor gates.nodes (get_or sinks i (constant_ref false)) true x → IsEndFor places x (get_or signs i false) end
    → SinksHavePlaces gates signs origin places → AreEndsSoFar gates signs origin ends → AreEndsSoFar gates signs origin new
ends_next gates signs origin places sinks ends new end i x same count next asks is stand before k r sign e at sign_at end_at = by (slice_get-push_cases ends end k e (ap (λ xs. slice_get xs k) (sym next) ∙ end_at))
  where
    by : (slice_get ends k ≡ Some e) ⊎ ((k ≡ length ends) × (end ≡ e)) → IsEndOf gates.nodes origin r sign e
    by (inl f) = before k r sign e at sign_at f
    by (inr (here, own)) =
        let r_is : get_or sinks i (constant_ref false) ≡ r =
        ap (λ n. get_or sinks n (constant_ref false)) (sym (here ∙ count)) ∙ ap (λ xs. get_or xs k (constant_ref false)) same ∙ get_or_from_slice_get gates.sinks k r (constant_ref false) at in
        let sign_is : get_or signs i false ≡ sign = ap (λ n. get_or signs n false) (sym (here ∙ count)) ∙ get_or_from_slice_get signs k sign false sign_at in
        subst (IsEndOf gates.nodes origin r sign) own
        (end_is gates.nodes origin places r sign x end (subst (λ u. AsksFor gates.nodes u true x) r_is asks) (subst (λ s. IsEndFor places x s end) sign_is is) (λ m t f. stand k r sign m t at sign_at f))
