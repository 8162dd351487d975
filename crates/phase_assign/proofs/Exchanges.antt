-- A sink's use with one sign in place of that with the other.
use Rattle.std.proofs.Common.{◌≡◌, refl, sym, ap, subst, ◌∙◌, ℕ, zero, suc, ◌+◌, ◌*◌, ◌≤◌, ◌<◌, ◌^◌, Bool, List, [], ◌∷◌, ◌++◌, length, length-append, length-set, set, get_or, Option, Some, None, slice_get, arith}
use Rattle.std.proofs.lemmas.List.{set-get_or}
use Rattle.std.proofs.lemmas.Option.{same_Some}
use Rattle.phase_assign.specs.Uses.{AreUses, HasFewRoots, HasRoots, asked, asked_by_sinks, living, times}
use Rattle.phase_assign.specs.ArmsData.{ArmsData as Arms}
use Rattle.dual_rail.specs.declared.signed.SignedNode.{SignedNode}
use Rattle.phase_assign.proofs.Totals.{times-append, times-le}
use Rattle.phase_assign.proofs.UseSteps.{few_edges}

-- counts that are alike
pub living_alike : (a b : ℕ → Bool → ℕ) (nodes : ℕ) → ((n : ℕ) (s : Bool) → a n s ≡ b n s) → living a nodes ≡ living b nodes
living_alike a b nodes same = ap (λ (f : ℕ → Bool → ℕ). living f nodes) (λ i n s. same n s i)

pub uses_alike : (arms : List Arms) (a b : ℕ → Bool → ℕ) (roots uncounted dropped : List SignedNode) → ((n : ℕ) (s : Bool) → a n s ≡ b n s) → AreUses arms a roots uncounted dropped → AreUses arms b roots uncounted dropped
uses_alike arms a b roots uncounted dropped same u = let e : a ≡ b = λ i n s. same n s i in subst (λ (f : ℕ → Bool → ℕ). AreUses arms f roots uncounted dropped) e u

-- uses that are to be added
pub uses_added : (arms : List Arms) (count : ℕ → Bool → ℕ) (others added roots : List SignedNode) → AreUses arms count others [] [] → HasRoots others added roots → AreUses arms count roots added []
uses_added arms count others added roots u h = record { each = λ n s. let e = u.each n s in let r = h n s in omega arith }

pub roots_appended : (others added : List SignedNode) → HasRoots others added (others ++ added)
roots_appended others added = λ n s. sym (times-append n s others added)

asked_length : (o : Option SignedNode) (s t : Bool) → length (asked o s) ≡ length (asked o t)
asked_length None s t = refl
asked_length (Some p) s t = refl

pub few_turned : (arms : List Arms) (others : List SignedNode) (o : Option SignedNode) (s t : Bool) → HasFewRoots arms (others ++ asked o s) → HasFewRoots arms (others ++ asked o t)
few_turned arms others o s t few =
    let a = length-append others (asked o s) in
    let b = length-append others (asked o t) in
    let c = asked_length o s t in
    omega arith

-- counts fit
pub uses_fit : (arms : List Arms) (count : ℕ → Bool → ℕ) (others dropped : List SignedNode) → AreUses arms count others [] dropped → HasFewRoots arms (others ++ dropped) → (n : ℕ) (s : Bool) → count n s < 2 ^ 32
uses_fit arms count others dropped u few n s =
    let e = u.each n s in
    let a = few_edges arms count n s in
    let b = times-le n s others in
    let c = times-le n s dropped in
    let l = length-append others dropped in
    omega arith

-- the sinks but for one, and with it
pub sinks_with : (ends : List (Option SignedNode)) (signs : List Bool) (k : ℕ) (e : Option SignedNode) (c : Bool) → slice_get ends k ≡ Some e → k < length signs
    → HasRoots (asked_by_sinks (set ends k None) signs) (asked e c) (asked_by_sinks ends (set signs k c))
sinks_with [] signs k e c at lt n s = absurd (cc)
sinks_with (d ∷ ends) [] k e c at lt n s = absurd (omega arith)
sinks_with (d ∷ ends) (b ∷ signs) zero e c at lt n s =
    let same : times n s (asked d c) ≡ times n s (asked e c) = ap (λ o. times n s (asked o c)) (same_Some d e at) in
    let split = times-append n s (asked d c) (asked_by_sinks ends signs) in
    omega arith
sinks_with (d ∷ ends) (b ∷ signs) (suc k) e c at lt n s =
    let r = sinks_with ends signs k e c at (omega arith) n s in
    let x = times-append n s (asked d b) (asked_by_sinks (set ends k None) signs) in
    let y = times-append n s (asked d b) (asked_by_sinks ends (set signs k c)) in
    omega arith

pub sinks_few : (ends : List (Option SignedNode)) (signs : List Bool) → length (asked_by_sinks ends signs) ≤ length ends
sinks_few [] signs = omega arith
sinks_few (e ∷ ends) [] = omega arith
sinks_few (e ∷ ends) (b ∷ signs) =
    let r = sinks_few ends signs in
    let l = length-append (asked e b) (asked_by_sinks ends signs) in
    let one = few e b in
    omega arith
  where
    few : (o : Option SignedNode) (s : Bool) → length (asked o s) ≤ 1
    few None s = omega arith
    few (Some p) s = omega arith

-- a sink's use is one of all uses
pub uses_without : (arms : List Arms) (count : ℕ → Bool → ℕ) (ends : List (Option SignedNode)) (signs : List Bool) (k : ℕ) (e : Option SignedNode) (b d : Bool) → slice_get ends k ≡ Some e → k < length signs → b ≡ get_or signs k d
    → AreUses arms count (asked_by_sinks ends signs) [] [] → AreUses arms count (asked_by_sinks (set ends k None) signs) [] (asked e b)
uses_without arms count ends signs k e b d at lt is u =
    let same : set signs k b ≡ signs = ap (set signs k) is ∙ set-get_or signs k d in
    record {
      each = λ n s.
          let each = u.each n s in
          let r = sinks_with ends signs k e b at lt n s in
          let x : times n s (asked_by_sinks ends (set signs k b)) ≡ times n s (asked_by_sinks ends signs) = ap (λ bs. times n s (asked_by_sinks ends bs)) same in
          omega arith;
    }

pub few_without : (arms : List Arms) (ends : List (Option SignedNode)) (signs : List Bool) (k : ℕ) (e : Option SignedNode) (b : Bool) → slice_get ends k ≡ Some e → 4 * length arms + length ends + 1 < 2 ^ 32
    → HasFewRoots arms (asked_by_sinks (set ends k None) signs ++ asked e b)
few_without arms ends signs k e b at few =
    let low = sinks_few (set ends k None) signs in
    let same = length-set ends k None in
    let l = length-append (asked_by_sinks (set ends k None) signs) (asked e b) in
    let one = own e b in
    omega arith
  where
    own : (o : Option SignedNode) (s : Bool) → length (asked o s) ≤ 1
    own None s = omega arith
    own (Some p) s = omega arith
