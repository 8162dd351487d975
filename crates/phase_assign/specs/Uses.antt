-- Uses of pairs: a pair is used by each needed pair with an arm that asks for it, and by each sink that asks for it; a
-- needed pair is one that is used.
use Rattle.std.specs.Prelude.{ℕ, zero, suc, ◌+◌, ◌*◌, ◌<◌, ◌≤◌, ◌^◌, ◌≡◌, ◌==◌, ◌&&◌, Bool, true, false, cond, List, [], ◌∷◌, ◌++◌, length, Option, Some, None, get_or}
use Rattle.std.specs.List.{AllByRecursion}
use Rattle.dual_rail.specs.SignedValues.{of_node, same_sign, with_sign}
use Rattle.dual_rail.specs.declared.signed.SignedNode.{SignedNode}
use Rattle.phase_assign.specs.ArmsData.{ArmsData as Arms}
use Rattle.dual_rail.specs.declared.signed.Signed.{Signed}

-- what is asked for with a sign, where this, if anything, is asked for with the sign plus
abbrev pub asked : Option SignedNode → Bool → List SignedNode
asked None s = []
asked (Some p) s = with_sign p s ∷ []

abbrev pub asked_by_arms : Arms → Bool → List SignedNode
asked_by_arms arms s = asked arms.left s ++ asked arms.right s

-- what a pair's arms ask for
abbrev pub asked_by_pair : List Arms → ℕ → Bool → List SignedNode
asked_by_pair arms n s = asked_by_arms (get_or arms n (record { left = None; right = None })) s

-- what sinks ask for
abbrev pub asked_by_sinks : List (Option SignedNode) → List Bool → List SignedNode
asked_by_sinks [] signs = []
asked_by_sinks (e ∷ ends) [] = []
asked_by_sinks (e ∷ ends) (s ∷ signs) = asked e s ++ asked_by_sinks ends signs

-- pairs of nodes below this one
abbrev pub AreBelow : ℕ → List SignedNode → Type 0
AreBelow n ps = AllByRecursion (λ (p : SignedNode). p.node < n) ps

-- the arms of each node ask for pairs of nodes before it
abbrev pub AreArms : List Arms → Type 0
AreArms arms = (n : ℕ) (s : Bool) → n < length arms → AreBelow n (asked_by_pair arms n s)

abbrev pub one_if : Bool → ℕ
one_if b = cond b 1 0

-- how often a pair stands in a list
abbrev pub is_pair : ℕ → Bool → SignedNode → Bool
is_pair n s p = (p.node == n) && same_sign p.plus s

abbrev pub times : ℕ → Bool → List SignedNode → ℕ
times n s [] = 0
times n s (p ∷ ps) = one_if (is_pair n s p) + times n s ps

-- the counts of a list
abbrev pub used : List (Signed ℕ) → ℕ → Bool → ℕ
used uses n s = of_node 0 uses n s

-- a pair is live where it is used
abbrev pub is_some_use : ℕ → Bool
is_some_use zero = false
is_some_use (suc n) = true

abbrev pub is_live : (ℕ → Bool → ℕ) → ℕ → Bool → Bool
is_live count n s = is_some_use (count n s)

-- a sum over the pairs of so many nodes from one on
abbrev pub total : (ℕ → Bool → ℕ) → ℕ → ℕ → ℕ
total f first zero = 0
total f first (suc n) = f first true + f first false + total f (first + 1) n

-- how many pairs are live
abbrev pub living : (ℕ → Bool → ℕ) → ℕ → ℕ
living count nodes = total (λ m t. one_if (is_live count m t)) 0 nodes

-- the uses of a pair by live pairs
abbrev pub uses_by_pairs : List Arms → (ℕ → Bool → ℕ) → ℕ → Bool → ℕ
uses_by_pairs arms count n s = total (λ m t. cond (is_live count m t) (times n s (asked_by_pair arms m t)) 0) 0 (length arms)

-- the counts are those of the uses by live pairs and by these roots, but for uses that aren't counted yet and uses that
-- are still counted
pub record AreUses (arms : List Arms) (count : ℕ → Bool → ℕ) (roots uncounted dropped : List SignedNode) : Type 0 where
  pub each : (n : ℕ) (s : Bool)
      → count n s + times n s uncounted ≡ uses_by_pairs arms count n s + times n s roots + times n s dropped

-- uses were added, and all of them where fewer pairs than a limit are live
pub record IsSupplied (arms : List Arms) (count : ℕ → Bool → ℕ) (roots : List SignedNode) (size limit : ℕ) : Type 0 where
  pub uncounted : List SignedNode
  pub uses : AreUses arms count roots uncounted []
  pub whole : size < limit → uncounted ≡ []

-- counts fit
abbrev pub HasFewRoots : List Arms → List SignedNode → Type 0
HasFewRoots arms roots = 4 * length arms + length roots < 2 ^ 32

-- these roots are the others with those that are added
abbrev pub HasRoots : List SignedNode → List SignedNode → List SignedNode → Type 0
HasRoots others added roots = (n : ℕ) (s : Bool) → times n s others + times n s added ≡ times n s roots

-- some uses by these roots, by which no fewer pairs are used
pub record AreTried (arms : List Arms) (roots : List SignedNode) (size : ℕ) : Type 0 where
  pub count : ℕ → Bool → ℕ
  pub uncounted : List SignedNode
  pub uses : AreUses arms count roots uncounted []
  pub no_fewer : size ≤ living count (length arms)
