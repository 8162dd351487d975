-- What the search keeps, at its start and at a sink's turn.
use Rattle.std.proofs.Common.{◌≡◌, refl, sym, ap, subst, ◌∙◌, ℕ, zero, suc, ◌+◌, ◌*◌, ◌≤◌, ◌<◌, Bool, true, false, not, List, [], ◌∷◌, ◌++◌, length, flat_map, take, replicate, length-set, set, get_or, Option, Some, None, slice_get, arith}
use Rattle.std.proofs.lemmas.List.{take_all}
use Rattle.gate_decompose.specs.GatesData.{GatesData}
use Rattle.gate_decompose.specs.GatesOrder.{AreOrderedGates}
use Rattle.gate_decompose.specs.Needed.{HasSize}
use Rattle.gate_decompose.proofs.NeededLists.{size_one}
use Rattle.phase_assign.specs.Search.{IsSearch}
use Rattle.phase_assign.specs.Signs.{Lowers, with_sign_changed}
use Rattle.phase_assign.specs.Uses.{AreBelow, AreTried, AreUses, HasFewRoots, HasRoots, asked, asked_by_sinks, is_live, living, one_if, total, used, uses_by_pairs}
use Rattle.phase_assign.specs.Wiring.{AreWired, IsWiring}
use Rattle.dual_rail.specs.declared.signed.Signed.{Signed}
use Rattle.phase_assign.specs.ArmsData.{ArmsData as Arms}
use Rattle.dual_rail.specs.declared.signed.SignedNode.{SignedNode}
use Rattle.phase_assign.proofs.Exchanges.{few_without, living_alike, sinks_with, uses_alike, uses_without}
use Rattle.phase_assign.proofs.NeededUses.{uses_size, uses_within}
use Rattle.phase_assign.proofs.Totals.{below_append, total_few}

-- the number of used pairs is that of the needed ones
pub search_size : (gates : GatesData) → AreOrderedGates gates → (arms : List Arms) (ends : List (Option SignedNode)) → IsWiring arms ends → AreWired gates arms ends → (signs : List Bool) (uses : List (Signed ℕ)) (size : ℕ)
    → IsSearch arms ends signs uses size → HasSize gates signs size
search_size gates order arms ends wiring wired signs uses size is = subst (HasSize gates signs) (sym is.size_is) (uses_size gates order arms ends wiring wired signs (used uses) is.uses_are)

pub tried_none : (gates : GatesData) → AreOrderedGates gates → (arms : List Arms) (ends : List (Option SignedNode)) → IsWiring arms ends → AreWired gates arms ends → (signs : List Bool) (uses : List (Signed ℕ)) (size k : ℕ)
    → IsSearch arms ends signs uses size → AreTried arms (asked_by_sinks ends (with_sign_changed signs k)) size → Lowers gates signs k → ⊥
tried_none gates order arms ends wiring wired signs uses size k is tried (b, a, has_b, has_a, lt) =
    let x = size_one gates signs size b (search_size gates order arms ends wiring wired signs uses size is) has_b in
    let y = uses_within gates order arms ends wiring wired (with_sign_changed signs k) tried.count tried.uncounted tried.uses a has_a in
    omega (arith, tried.no_fewer)

-- a sink's use and the others
pub turn_uses : (arms : List Arms) (ends : List (Option SignedNode)) → IsWiring arms ends → (signs : List Bool) (uses : List (Signed ℕ)) (size k : ℕ) (e : Option SignedNode) (b d : Bool) → IsSearch arms ends signs uses size
    → slice_get ends k ≡ Some e → k < length signs → b ≡ get_or signs k d → (others : List SignedNode) × HasFewRoots arms (others ++ asked e b) × AreUses arms (used uses) others [] (asked e b)
turn_uses arms ends wiring signs uses size k e b d is at lt own =
    (asked_by_sinks (set ends k None) signs, few_without arms ends signs k e b at wiring.few, uses_without arms (used uses) ends signs k e b d at lt own is.uses_are)

-- after a change
pub turn_changed : (arms seen : List Arms) (ends : List (Option SignedNode)) (signs : List Bool) (uses new : List (Signed ℕ)) (size after k : ℕ) (e : Option SignedNode) (b d : Bool) → seen ≡ arms → IsSearch arms ends signs uses size
    → slice_get ends k ≡ Some e → k < length signs → b ≡ get_or signs k d → length new ≡ length seen → after ≡ living (used new) (length seen)
    → ((others roots : List SignedNode) → AreUses seen (used uses) others [] (asked e b) → HasRoots others (asked e (not b)) roots → AreUses seen (used new) roots [] [])
    → IsSearch arms ends (set signs k (not b)) new after
turn_changed arms seen ends signs uses new size after k e b d same is at lt own count counted change = record {
  one_each = length-set signs k (not b) ∙ is.one_each;
  count = count ∙ ap length same;
  uses_are = subst (λ (xs : List Arms). AreUses xs (used new) (asked_by_sinks ends (set signs k (not b))) [] []) same
      (change (asked_by_sinks (set ends k None) signs) (asked_by_sinks ends (set signs k (not b)))
      (subst (λ (xs : List Arms). AreUses xs (used uses) (asked_by_sinks (set ends k None) signs) [] (asked e b)) (sym same) (uses_without arms (used uses) ends signs k e b d at lt own is.uses_are))
      (sinks_with ends signs k e (not b) at lt));
  size_is = counted ∙ ap (λ (xs : List Arms). living (used new) (length xs)) same;
}

-- no uses
total_zero : (a n : ℕ) → total (λ m t. 0) a n ≡ 0
total_zero a zero = refl
total_zero a (suc n) = let r = total_zero (a + 1) n in omega arith

abbrev none : Signed ℕ
none = record { plus = 0; minus = 0 }

none_used : (n m : ℕ) (s : Bool) → used (replicate n none) m s ≡ 0
none_used zero m true = refl
none_used zero m false = refl
none_used (suc n) zero true = refl
none_used (suc n) zero false = refl
none_used (suc n) (suc m) s = none_used n m s

pub none_living : (uses : List (Signed ℕ)) (n nodes : ℕ) → uses ≡ replicate n none → living (used uses) nodes ≡ 0
none_living uses n nodes e = living_alike (used uses) (λ m s. 0) nodes (λ m s. ap (λ us. used us m s) e ∙ none_used n m s) ∙ total_zero 0 nodes

pub none_counted : (arms : List Arms) (uses : List (Signed ℕ)) (n : ℕ) (roots : List SignedNode) → uses ≡ replicate n none → AreUses arms (used uses) roots roots []
none_counted arms uses n roots e = uses_alike arms (λ m s. 0) (used uses) roots roots [] (λ m s. sym (ap (λ us. used us m s) e ∙ none_used n m s)) (record {
  each = λ m s. let z : uses_by_pairs arms (λ k t. 0) m s ≡ 0 = total_zero 0 (length arms) in omega arith;
})

pub sinks_below : (n : ℕ) (ends : List (Option SignedNode)) (signs : List Bool) → ((k : ℕ) (e : Option SignedNode) (s : Bool) → slice_get ends k ≡ Some e → AreBelow n (asked e s)) → AreBelow n (asked_by_sinks ends signs)
sinks_below n [] signs low = tt
sinks_below n (e ∷ ends) [] low = tt
sinks_below n (e ∷ ends) (b ∷ signs) low = below_append n (asked e b) (asked_by_sinks ends signs) (low 0 e b refl) (sinks_below n ends signs (λ k d s at. low (suc k) d s at))

all_plus : (ends : List (Option SignedNode)) → flat_map (λ (e : Option SignedNode). asked e true) ends ≡ asked_by_sinks ends (replicate (length ends) true)
all_plus [] = refl
all_plus (e ∷ ends) = ap (λ ps. asked e true ++ ps) (all_plus ends)

pub at_first : (ends : List (Option SignedNode)) (i : ℕ) (work : List SignedNode) → length ends ≤ i → work ≡ flat_map (λ (e : Option SignedNode). asked e true) (take i ends) → work ≡ asked_by_sinks ends (replicate (length ends) true)
at_first ends i work le e = e ∙ ap (flat_map (λ (o : Option SignedNode). asked o true)) (take_all i ends le) ∙ all_plus ends

pub few_living : (count : ℕ → Bool → ℕ) (nodes : ℕ) → living count nodes ≤ nodes * 2
few_living count nodes = total_few (λ m t. one_if (is_live count m t)) 1 (λ m t. one_le (is_live count m t)) 0 nodes
  where
    one_le : (b : Bool) → one_if b ≤ 1
    one_le true = omega arith
    one_le false = omega arith
