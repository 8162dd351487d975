-- What a trial of a sink that lowered nothing has shown.
use Rattle.std.specs.Prelude.{ℕ, ◌+◌, ◌≤◌, ◌≡◌, Bool, not, List, Option, length}
use Rattle.phase_assign.specs.Uses.{asked, living, times, uses_by_pairs}
use Rattle.phase_assign.specs.ArmsData.{ArmsData as Arms}
use Rattle.dual_rail.specs.declared.signed.SignedNode.{SignedNode}

-- a sink's use with the other sign in place of that with this sign leaves no fewer pairs used, by counts that differ from
-- these for pairs of the list alone
pub record IsSignChangeRefused (arms : List Arms) (count : ℕ → Bool → ℕ) (target : Option SignedNode) (sign : Bool)
    (looked : List SignedNode) : Type 0 where
  pub without : ℕ → Bool → ℕ
  pub tried : ℕ → Bool → ℕ
  pub uncounted : List SignedNode
  pub taken : (n : ℕ) (s : Bool)
      → without n s + uses_by_pairs arms count n s + times n s (asked target sign) ≡ count n s + uses_by_pairs arms without n s
  pub added : (n : ℕ) (s : Bool)
      → tried n s + times n s uncounted + uses_by_pairs arms without n s
      ≡ without n s + uses_by_pairs arms tried n s + times n s (asked target (not sign))
  pub no_fewer : living count (length arms) ≤ living tried (length arms)
  pub elsewhere : (n : ℕ) (s : Bool) → times n s looked ≡ 0 → (without n s ≡ count n s) × (tried n s ≡ count n s)
