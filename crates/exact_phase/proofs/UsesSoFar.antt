-- The uses by the first sinks: of one sink more, and what they say of the lists that begin with these signs.
use Rattle.std.proofs.Common.{◌≡◌, refl, sym, ap, subst, ◌∙◌, ℕ, ◌≤◌, ◌<◌, Bool, List, [], ◌∷◌, ◌++◌, length, replicate, append-nil, append_assoc, Option, Some, slice_get, arith}
use Rattle.std.proofs.lemmas.Option.{same_Some, slice_get_within}
use Rattle.gate_decompose.specs.GatesData.{GatesData}
use Rattle.gate_decompose.specs.GatesOrder.{AreOrderedGates}
use Rattle.gate_decompose.specs.Needed.{HasSize}
use Rattle.phase_assign.specs.Uses.{AreUses, HasFewRoots, IsSupplied, asked, asked_by_sinks, living, used}
use Rattle.phase_assign.specs.Wiring.{AreWired, IsWiring}
use Rattle.dual_rail.specs.declared.signed.Signed.{Signed}
use Rattle.phase_assign.specs.ArmsData.{ArmsData as Arms}
use Rattle.dual_rail.specs.declared.signed.SignedNode.{SignedNode}
use Rattle.phase_assign.proofs.Exchanges.{living_alike, roots_appended, sinks_few, uses_added, uses_alike}
use Rattle.phase_assign.proofs.NeededUses.{uses_size, uses_within}
use Rattle.phase_assign.proofs.Searches.{none_counted, none_living}
use Rattle.phase_assign.proofs.Totals.{times-append}
use Rattle.exact_phase.specs.Search.{IsSearched, NeedAtLeast}
use Rattle.exact_phase.specs.UsesSoFar.{AreAsBefore, AreUsesSoFar}
use Rattle.exact_phase.proofs.Searches.{searched_fewer}

-- sinks without signs ask for nothing
none_asked : (ends : List (Option SignedNode)) → asked_by_sinks ends [] ≡ []
none_asked [] = refl
none_asked (e ∷ ends) = refl

-- one sign more
pub sinks_next : (ends : List (Option SignedNode)) (signs : List Bool) (e : Option SignedNode) (s : Bool) → slice_get ends (length signs) ≡ Some e
    → asked_by_sinks ends (signs ++ (s ∷ [])) ≡ asked_by_sinks ends signs ++ asked e s
sinks_next [] signs e s at = absurd (let low = slice_get_within [] (length signs) e at in omega arith)
sinks_next (o ∷ ends) [] e s at =
    let same : o ≡ e = same_Some o e at in
    ap (λ ps. asked o s ++ ps) (none_asked ends) ∙ append-nil (asked o s) ∙ ap (λ x. asked x s) same
sinks_next (o ∷ ends) (b ∷ signs) e s at =
    ap (λ ps. asked o b ++ ps) (sinks_next ends signs e s at) ∙ sym (append_assoc (asked o b) (asked_by_sinks ends signs) (asked e s))

-- more signs
sinks_more : (ends : List (Option SignedNode)) (signs rest : List Bool) → (more : List SignedNode) × (asked_by_sinks ends (signs ++ rest) ≡ asked_by_sinks ends signs ++ more)
sinks_more [] signs rest = ([], refl)
sinks_more (o ∷ ends) [] rest = (asked_by_sinks (o ∷ ends) rest, refl)
sinks_more (o ∷ ends) (b ∷ signs) rest =
    let r = sinks_more ends signs rest in
    (r.0, ap (λ ps. asked o b ++ ps) r.1 ∙ sym (append_assoc (asked o b) (asked_by_sinks ends signs) r.0))

-- the roots are few
pub few_roots : (arms : List Arms) (ends : List (Option SignedNode)) → IsWiring arms ends → (signs : List Bool) → HasFewRoots arms (asked_by_sinks ends signs)
few_roots arms ends wiring signs = let few = sinks_few ends signs in omega (arith, wiring.few)

-- a sink's use is to be added
pub uses_next : (arms : List Arms) (ends : List (Option SignedNode)) → IsWiring arms ends → (signs : List Bool) (uses : List (Signed ℕ)) (size : ℕ) (e : Option SignedNode) (s : Bool) → AreUsesSoFar arms ends signs uses size
    → slice_get ends (length signs) ≡ Some e → AreUses arms (used uses) (asked_by_sinks ends (signs ++ (s ∷ []))) (asked e s) []
uses_next arms ends wiring signs uses size e s are at =
    subst (λ roots. AreUses arms (used uses) roots (asked e s) []) (sym (sinks_next ends signs e s at))
    (uses_added arms (used uses) (asked_by_sinks ends signs) (asked e s) (asked_by_sinks ends signs ++ asked e s) are.uses_are (roots_appended (asked_by_sinks ends signs) (asked e s)))

module _ (gates : GatesData) (order : AreOrderedGates gates) (arms : List Arms) (ends : List (Option SignedNode)) (wiring : IsWiring arms ends) (wired : AreWired gates arms ends) where
  -- all lists that begin with these signs need at least as many pairs as are used
  pub needed_later : (signs : List Bool) (count : ℕ → Bool → ℕ) (uncounted : List SignedNode) (pairs : ℕ) → AreUses arms count (asked_by_sinks ends signs) uncounted [] → pairs ≤ living count (length arms)
      → NeedAtLeast gates signs pairs
  needed_later signs count uncounted pairs are le others n one (rest, e) has =
      let m = sinks_more ends signs rest in
      let roots : asked_by_sinks ends others ≡ asked_by_sinks ends signs ++ m.0 = ap (asked_by_sinks ends) e ∙ m.1 in
      let all : AreUses arms count (asked_by_sinks ends others) (uncounted ++ m.0) [] =
      subst (λ ps. AreUses arms count ps (uncounted ++ m.0) []) (sym roots) (record {
        each = λ k s.
            let a = are.each k s in
            let b = times-append k s uncounted m.0 in
            let c = times-append k s (asked_by_sinks ends signs) m.0 in
            omega (arith, a, b, c);
      }) in
      let low = uses_within gates order arms ends wiring wired others count (uncounted ++ m.0) all n has in
      omega arith

  -- all sinks have signs
  pub found_whole : (signs old : List Bool) (uses : List (Signed ℕ)) (size before : ℕ) → AreUsesSoFar arms ends signs uses size → length signs ≡ length ends → size < before → IsSearched gates signs old before signs size
  found_whole signs old uses size before are whole lt =
      searched_fewer gates signs old before size (whole ∙ wired.ends_count)
      (subst (HasSize gates signs) (sym are.size_is) (uses_size gates order arms ends wiring wired signs (used uses) are.uses_are)) lt

-- counts that are as before are those of the same signs
pub so_far_again : (arms : List Arms) (ends : List (Option SignedNode)) (signs : List Bool) (uses new : List (Signed ℕ)) (size after : ℕ) → AreUsesSoFar arms ends signs uses size → AreAsBefore uses size new after → AreUsesSoFar arms ends signs new after
so_far_again arms ends signs uses new size after are stay = record {
  count = stay.count ∙ are.count;
  uses_are = uses_alike arms (used uses) (used new) (asked_by_sinks ends signs) [] [] (λ n s. sym (stay.same n s)) are.uses_are;
  size_is = stay.size_same ∙ are.size_is ∙ living_alike (used uses) (used new) (length arms) (λ n s. sym (stay.same n s));
}

pub as_before_twice : (a b c : List (Signed ℕ)) (x y z : ℕ) → AreAsBefore a x b y → AreAsBefore b y c z → AreAsBefore a x c z
as_before_twice a b c x y z first second = record {
  count = second.count ∙ first.count;
  same = λ n s. second.same n s ∙ first.same n s;
  size_same = second.size_same ∙ first.size_same;
}

-- all of a sink's uses were added
pub so_far_next : (arms : List Arms) (ends : List (Option SignedNode)) (signs : List Bool) (new : List (Signed ℕ)) (size limit : ℕ) → length new ≡ length arms → size ≡ living (used new) (length arms)
    → IsSupplied arms (used new) (asked_by_sinks ends signs) size limit → size < limit → AreUsesSoFar arms ends signs new size
so_far_next arms ends signs new size limit count size_is supplied lt = record {
  count = count;
  uses_are = subst (λ ps. AreUses arms (used new) (asked_by_sinks ends signs) ps []) (supplied.whole lt) supplied.uses;
  size_is = size_is;
}

-- what was supplied, where a sink has a sign more
pub supplied_next : (arms seen : List Arms) (ends : List (Option SignedNode)) → IsWiring arms ends → (signs : List Bool) (uses new : List (Signed ℕ)) (size after limit : ℕ) (e : Option SignedNode) (s : Bool) (come : List SignedNode) → seen ≡ arms
    → AreUsesSoFar arms ends signs uses size → slice_get ends (length signs) ≡ Some e → come ≡ asked e s → ((roots : List SignedNode) → AreUses seen (used uses) roots come [] → IsSupplied seen (used new) roots after limit)
    → IsSupplied arms (used new) (asked_by_sinks ends (signs ++ (s ∷ []))) after limit
supplied_next arms seen ends wiring signs uses new size after limit e s come same are at asks supply =
    let roots = asked_by_sinks ends (signs ++ (s ∷ [])) in
    subst (λ xs. IsSupplied xs (used new) roots after limit) same
    (supply roots (subst (λ xs. AreUses xs (used uses) roots come []) (sym same) (subst (λ ps. AreUses arms (used uses) roots ps []) (sym asks) (uses_next arms ends wiring signs uses size e s are at))))

-- no sink has a sign
pub none_so_far : (arms : List Arms) (ends : List (Option SignedNode)) (uses : List (Signed ℕ)) (n : ℕ) → uses ≡ replicate n (record { plus = 0; minus = 0 }) → length uses ≡ length arms → AreUsesSoFar arms ends [] uses 0
none_so_far arms ends uses n e count = record {
  count = count;
  uses_are = subst (λ roots. AreUses arms (used uses) roots [] []) (sym (none_asked ends)) (none_counted arms uses n [] e);
  size_is = sym (none_living uses n (length arms) e);
}
