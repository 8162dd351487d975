-- Arms for what the parts of a node ask for, and pairs over arms.
use Rattle.std.proofs.Common.{◌≡◌, inl, inr, refl, sym, ap, subst, ◌∙◌, ℕ, ◌+◌, ◌≤◌, ◌<◌, ◌≢◌, Bool, true, false, cond, List, [], ◌∷◌, ◌++◌, length, take, get_or, Some, slice_get, arith, add-one}
use Rattle.std.specs.List.{AllZip}
use mathlib.Core.Bool.{beq}
use Rattle.std.proofs.Math.Seq.{take-suc}
use Rattle.std.proofs.lemmas.Option.{get_or_from_slice_get, slice_get_within}
use Rattle.gate_decompose.specs.declared.gates.Node.{Node}
use Rattle.gate_decompose.specs.declared.gates.Node.TheVariants.{And as and_node, Not as not_node, Or as or_node}
use Rattle.gate_decompose.specs.declared.gates.Ref.{Ref}
use Rattle.gate_decompose.specs.Needed.{Asked, AsksFor, IsGateNode, Literal, Pair as asked_pair, Value, constant, gate, leaf, under}
use Rattle.dual_rail.specs.ArmPlaces.{HasGates, HasPlace, IsArmFor, IsOperation}
use Rattle.dual_rail.specs.Forests.{IsArm, IsPairOf}
use Rattle.dual_rail.specs.Places.{place_at}
use Rattle.dual_rail.specs.WantedNodes.{AreOrderedNodes, HasPlainParts, IsPlainPart}
use Rattle.dual_rail.specs.declared.arms.Operation.{Operation}
use Rattle.dual_rail.specs.declared.forest.Arm.{Arm}
use Rattle.dual_rail.specs.declared.forest.Pair.TheVariants.{And, Or}
use Rattle.dual_rail.specs.declared.signed.Signed.{Signed}

-- the node at a number where a gate stands
pub gate_at : (nodes : List Node) (n : ℕ) (d : Node) (operation : Operation) → HasGates nodes n → IsOperation (get_or nodes n d) operation
    → slice_get nodes n ≡ Some (cond operation.is_and (and_node operation.left operation.right) (or_node operation.left operation.right))
gate_at nodes n d operation (x, at, is) same = at ∙ ap Some (sym (get_or_from_slice_get nodes n x d at) ∙ same)

pub gate_within : (nodes : List Node) (n : ℕ) → HasGates nodes n → n < length nodes
gate_within nodes n (x, at, is) = slice_get_within nodes n x at

pub operands_plain : (nodes : List Node) (n : ℕ) (operation : Operation) → AreOrderedNodes nodes
    → slice_get nodes n ≡ Some (cond operation.is_and (and_node operation.left operation.right) (or_node operation.left operation.right))
    → IsPlainPart n operation.left × IsPlainPart n operation.right
operands_plain nodes n operation order at = by operation.is_and (order n _ at)
  where
    by : (b : Bool) → HasPlainParts n (cond b (and_node operation.left operation.right) (or_node operation.left operation.right)) → IsPlainPart n operation.left × IsPlainPart n operation.right
    by true h = h
    by false h = h

-- a part that is a leaf or a node before asks for no constant, and for a pair that is there
pub plain_place : (nodes : List Node) → AreOrderedNodes nodes → (n : ℕ) → n ≤ length nodes → {r : Ref} {s : Bool} {x : Asked} → IsPlainPart n r → AsksFor nodes r s x → HasPlace (length nodes) x
plain_place nodes order n le h constant = absurd h
plain_place nodes order n le h leaf = tt
plain_place nodes order n le h (gate is) = omega (arith, h, le)
plain_place nodes order n le h (under {n = m} {a = a} at more) = plain_place nodes order m (omega (arith, h, le)) (order m (not_node a) at) more

-- the arm for what a part asks for
pub arm_is : (nodes : List Node) (origin : List (ℕ × Bool)) (places : List (Signed ℕ)) (r : Ref) (s : Bool) (x : Asked) (arm : Arm) → AsksFor nodes r s x → IsArmFor places x arm
    → ((m : ℕ) (t : Bool) → AsksFor nodes r s (asked_pair m t) → slice_get origin (place_at places m t) ≡ Some (m, t)) → IsArm nodes origin s r arm
arm_is nodes origin places r s (Value b) arm asks is stand = absurd is
arm_is nodes origin places r s (Literal k t) arm asks is stand = subst (IsArm nodes origin s r) (sym is) asks
arm_is nodes origin places r s (asked_pair m t) arm asks is stand = subst (IsArm nodes origin s r) (sym is) ((m, t), stand m t asks, asks)

abbrev ParentOf : List Node → ℕ → Operation → Type 0
ParentOf nodes n operation = slice_get nodes n ≡ Some (cond operation.is_and (and_node operation.left operation.right) (or_node operation.left operation.right))

pub gate_node : (nodes : List Node) (n : ℕ) (operation : Operation) → ParentOf nodes n operation → IsGateNode nodes n operation.left operation.right
gate_node nodes n operation at = by operation.is_and at
  where
    by : (b : Bool) → slice_get nodes n ≡ Some (cond b (and_node operation.left operation.right) (or_node operation.left operation.right)) → IsGateNode nodes n operation.left operation.right
    by true e = inl e
    by false e = inr e

pub pair_and : (nodes : List Node) (origin : List (ℕ × Bool)) (n : ℕ) (plus : Bool) (operation : Operation) (a b : Arm) → ParentOf nodes n operation → operation.is_and ≡ plus
    → IsArm nodes origin plus operation.left a → IsArm nodes origin plus operation.right b → IsPairOf nodes origin (n, plus) (And a b)
pair_and nodes origin n true operation a b at e left right =
    (operation.left, operation.right, at ∙ ap (λ c. Some (cond c (and_node operation.left operation.right) (or_node operation.left operation.right))) e, left, right)
pair_and nodes origin n false operation a b at e left right =
    (operation.left, operation.right, at ∙ ap (λ c. Some (cond c (and_node operation.left operation.right) (or_node operation.left operation.right))) e, left, right)

pub pair_or : (nodes : List Node) (origin : List (ℕ × Bool)) (n : ℕ) (plus : Bool) (operation : Operation) (a b : Arm) → ParentOf nodes n operation → operation.is_and ≢ plus
    → IsArm nodes origin plus operation.left a → IsArm nodes origin plus operation.right b → IsPairOf nodes origin (n, plus) (Or a b)
pair_or nodes origin n plus operation a b at other left right = by plus operation.is_and refl refl
  where
    by : (p is : Bool) → plus ≡ p → operation.is_and ≡ is → IsPairOf nodes origin (n, plus) (Or a b)
    by true true e f = absurd (other (f ∙ sym e))
    by false false e f = absurd (other (f ∙ sym e))
    by true false e f =
        subst (λ p. IsPairOf nodes origin (n, p) (Or a b)) (sym e) (
          operation.left,
          operation.right,
          at ∙ ap (λ c. Some (cond c (and_node operation.left operation.right) (or_node operation.left operation.right))) f,
          subst (λ p. IsArm nodes origin p operation.left a) e left,
          subst (λ p. IsArm nodes origin p operation.right b) e right,
        )
    by false true e f =
        subst (λ p. IsPairOf nodes origin (n, p) (Or a b)) (sym e) (
          operation.left,
          operation.right,
          at ∙ ap (λ c. Some (cond c (and_node operation.left operation.right) (or_node operation.left operation.right))) f,
          subst (λ p. IsArm nodes origin p operation.left a) e left,
          subst (λ p. IsArm nodes origin p operation.right b) e right,
        )

-- a pair of items more
all_zip-push : {A B : Type 0} (R : A → B → Type 0) (xs : List A) (ys : List B) (x : A) (y : B) → AllZip R xs ys → R x y → AllZip R (xs ++ (x ∷ [])) (ys ++ (y ∷ []))
all_zip-push R [] [] x y h r = (r, tt)
all_zip-push R [] (b ∷ ys) x y h r = absurd h
all_zip-push R (a ∷ xs) [] x y h r = absurd h
all_zip-push R (a ∷ xs) (b ∷ ys) x y h r = (h.0, all_zip-push R xs ys x y h.1 r)

pub all_zip_next : {A B : Type 0} (R : A → B → Type 0) (xs : List A) (ys new : List B) (i : ℕ) (d : A) (y : B) → i < length xs → new ≡ ys ++ (y ∷ []) → AllZip R (take i xs) ys → R (get_or xs i d) y
    → AllZip R (take (i + 1) xs) new
all_zip_next R xs ys new i d y lt next h r =
    subst (AllZip R (take (i + 1) xs)) (sym next) (subst (λ us. AllZip R us (ys ++ (y ∷ []))) (sym (more i lt)) (all_zip-push R (take i xs) ys (get_or xs i d) y h r))
  where
    more : (i : ℕ) → i < length xs → take (i + 1) xs ≡ take i xs ++ (get_or xs i d ∷ [])
    more i lt = rw (add-one) (take-suc xs i d lt)

-- equal and different signs
pub same_sign : (a b : Bool) → beq a b ≡ true → a ≡ b
same_sign true true e = refl
same_sign true false e = absurd (cc)
same_sign false true e = absurd (cc)
same_sign false false e = refl

pub other_sign : (a b : Bool) → beq a b ≡ false → a ≢ b
other_sign true true e = absurd (cc)
other_sign true false e = λ f. cc
other_sign false true e = λ f. cc
other_sign false false e = absurd (cc)
