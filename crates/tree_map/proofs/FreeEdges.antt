-- Which edges are free, by how often pairs and ends name each pair.
use Rattle.std.proofs.Common.{◌≡◌, refl, sym, ap, subst, ◌∙◌, ℕ, ◌+◌, ◌<◌, Bool, true, false, ◌&&◌, ◌==◌, List, length, map, get_or, count_by, eqb-true, arith}
use Rattle.std.specs.Prelude.{All}
use Rattle.std.specs.List.{range_with_len}
use Rattle.std.proofs.lemmas.List.{ext_get_or, get_or-map, length-map}
use Rattle.std.proofs.lemmas.List.FromFn.{get_or-map-range_with_len, length-map-range_with_len}
use Rattle.dom_base.proofs.Bools.{and_false}
use Rattle.dual_rail.specs.declared.forest.End.{End}
use Rattle.dual_rail.specs.declared.forest.End.TheVariants.{Const, Literal, FromDynamic, FromOutput}
use Rattle.dual_rail.specs.ForestData.{ForestData}
use Rattle.dual_rail.specs.ForestOrder.{IsEndOfForest, IsForest}
use Rattle.dual_rail.specs.Forests.{arm_uses, end_uses, is_end_from}
use Rattle.dual_rail.specs.Uses.{IsEndThere}
use Rattle.compound_plan.specs.PlanTrees.{is_free}

pub end_there : (forest : ForestData) (end : End) → IsEndOfForest forest end → IsEndThere (length forest.pairs) end
end_there forest (Const b) is = tt
end_there forest (Literal rail) is = tt
end_there forest (FromDynamic place) is = is
end_there forest (FromOutput place) is = is

-- one use in all, none of them by an end
pub one_by_arm : (a e : ℕ) → ((a + e == 1) && (e == 0)) ≡ ((a == 1) && (e == 0))
one_by_arm a e = by (e == 0) refl
  where
    by : (b : Bool) → (e == 0) ≡ b → ((a + e == 1) && b) ≡ ((a == 1) && b)
    by true is = let none = eqb-true e 0 is in let same : a + e ≡ a = omega arith in ap (λ n. (n == 1) && true) same
    by false is = and_false (a + e == 1) ∙ sym (and_false (a == 1))

pub once_long : (forest : ForestData) (once : List Bool) → IsForest forest → once ≡ map (λ n. n == 1) forest.uses → length once ≡ length forest.pairs
once_long forest once is same =
    ap length same ∙ length-map forest.uses (λ n. n == 1) ∙ ap length is.in_place.uses_are
    ∙ length-map-range_with_len (λ place. arm_uses forest place + end_uses forest place) 0 (length forest.pairs)

pub ends_there : (forest : ForestData) (ends : List End) (n : ℕ) → IsForest forest → ends ≡ forest.ends → n ≡ length forest.pairs → All (IsEndThere n) ends
ends_there forest ends n is same len =
    subst (λ m. All (IsEndThere m) ends) (sym len) (subst (All (IsEndThere (length forest.pairs))) (sym same)
    (λ k d lt. end_there forest (get_or forest.ends k d) (is.in_place.has_ends k d lt)))

pub free_are : (forest : ForestData) (free once : List Bool) → IsForest forest → once ≡ map (λ n. n == 1) forest.uses → length free ≡ length once
    → ((p : ℕ) → p < length once → get_or free p false ≡ (get_or once p false && (count_by (is_end_from p) forest.ends == 0)))
    → free ≡ map (is_free forest) (range_with_len 0 (length forest.pairs))
unfolding is_free
free_are forest free once is same len left =
    ext_get_or false free (map (is_free forest) (range_with_len 0 (length forest.pairs)))
    (len ∙ long ∙ sym (length-map-range_with_len (is_free forest) 0 (length forest.pairs)))
    (λ p lt. at p (omega (arith, lt, len, long)))
  where
    use_of : ℕ → ℕ
    use_of place = arm_uses forest place + end_uses forest place

    long : length once ≡ length forest.pairs
    long = once_long forest once is same

    uses_long : length forest.uses ≡ length forest.pairs
    uses_long = ap length is.in_place.uses_are ∙ length-map-range_with_len use_of 0 (length forest.pairs)

    at : (p : ℕ) → p < length forest.pairs → get_or free p false ≡ get_or (map (is_free forest) (range_with_len 0 (length forest.pairs))) p false
    at p lt =
        let used = ap (λ (ns : List ℕ). get_or ns p 0) is.in_place.uses_are ∙ get_or-map-range_with_len use_of 0 (length forest.pairs) p p 0 lt (omega arith) in
        let one = ap (λ (bs : List Bool). get_or bs p false) same ∙ get_or-map (λ n. n == 1) forest.uses p 0 false (omega (arith, lt, uses_long)) ∙ ap (λ n. n == 1) used in
        left p (omega (arith, lt, long)) ∙ ap (λ b. b && (end_uses forest p == 0)) one ∙ one_by_arm (arm_uses forest p) (end_uses forest p)
        ∙ sym (get_or-map-range_with_len (is_free forest) 0 (length forest.pairs) p p false lt (omega arith))
