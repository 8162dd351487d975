-- Tests of values, and of the conduction of a tree by those of its leaves.
use Rattle.std.proofs.Common.{◌≡◌, Bool, true, false, cond, refl}
use Rattle.std.specs.Prelude.{◌≢◌}
use Rattle.dom_base.specs.Conduction.{conduction}
use Rattle.dom_base.specs.declared.kind.Kind.{Kind}
use Rattle.dom_base.specs.declared.tri.Tri.{Tri}
use Rattle.dom_base.specs.declared.tri.Tri.TheVariants.{Zero, One, Unknown}
use Rattle.sp_network.specs.Known.{IsTest, is_not_zero, is_one}
use Rattle.sp_network.specs.Tree.{Tree, Leaf, Series, Parallel, both, either, joins, tree_conduction}

pub is_one-from : (v : Tri) → v ≡ One → is_one v ≡ true
is_one-from v e = rw e refl

pub is_one-true : (v : Tri) → is_one v ≡ true → v ≡ One
is_one-true Zero h = absurd (cc)
is_one-true One h = refl
is_one-true Unknown h = absurd (cc)

pub is_not_zero-true : (v : Tri) → is_not_zero v ≡ true → v ≢ Zero
is_not_zero-true Zero h = absurd (cc)
is_not_zero-true One h = λ e. cc
is_not_zero-true Unknown h = λ e. cc

pub is_not_zero-from : (v : Tri) → v ≢ Zero → is_not_zero v ≡ true
is_not_zero-from Zero h = absurd (h refl)
is_not_zero-from One h = refl
is_not_zero-from Unknown h = refl

is_one-both : (a b : Tri) → is_one (both a b) ≡ cond (is_one a) (is_one b) false
is_one-both Zero b = refl
is_one-both One b = refl
is_one-both Unknown Zero = refl
is_one-both Unknown One = refl
is_one-both Unknown Unknown = refl

is_one-either : (a b : Tri) → is_one (either a b) ≡ cond (is_one a) true (is_one b)
is_one-either Zero b = refl
is_one-either One b = refl
is_one-either Unknown Zero = refl
is_one-either Unknown One = refl
is_one-either Unknown Unknown = refl

is_not_zero-both : (a b : Tri) → is_not_zero (both a b) ≡ cond (is_not_zero a) (is_not_zero b) false
is_not_zero-both Zero b = refl
is_not_zero-both One b = refl
is_not_zero-both Unknown Zero = refl
is_not_zero-both Unknown One = refl
is_not_zero-both Unknown Unknown = refl

is_not_zero-either : (a b : Tri) → is_not_zero (either a b) ≡ cond (is_not_zero a) true (is_not_zero b)
is_not_zero-either Zero b = refl
is_not_zero-either One b = refl
is_not_zero-either Unknown Zero = refl
is_not_zero-either Unknown One = refl
is_not_zero-either Unknown Unknown = refl

pub IsTest-is_one : IsTest is_one
IsTest-is_one = record { on_both = is_one-both; on_either = is_one-either }

pub IsTest-is_not_zero : IsTest is_not_zero
IsTest-is_not_zero = record { on_both = is_not_zero-both; on_either = is_not_zero-either }

-- the test of a tree's conduction is the tree over the tests of its leaves
pub joins-conduction : {Net : Type 0} (test : Tri → Bool) → IsTest test → (kind : Kind) (value : Net → Tri) (t : Tree Net)
    → test (tree_conduction kind value t) ≡ joins (λ gate. test (conduction kind (value gate))) t
joins-conduction test h kind value (Leaf gate) = refl
joins-conduction test h kind value (Series l r) =
    rw (h.on_both, joins-conduction test h kind value l, joins-conduction test h kind value r) refl
joins-conduction test h kind value (Parallel l r) =
    rw (h.on_either, joins-conduction test h kind value l, joins-conduction test h kind value r) refl
