-- Pairs have their nodes' values with their signs, and sinks those of their ends.
use Rattle.std.proofs.Common.{◌≡◌, refl, sym, ap, ap₂, ◌∙◌, ℕ, zero, suc, ◌<◌, Bool, true, false, not, ◌&&◌, ◌||◌, List, Some, slice_get, arith}
use Rattle.std.proofs.Math.Bool.{not-not}
use Rattle.dual_rail.specs.declared.forest.Arm.{Arm}
use Rattle.dual_rail.specs.declared.forest.Arm.TheVariants.{Literal, Pair as pair_arm}
use Rattle.dual_rail.specs.declared.forest.End.{End}
use Rattle.dual_rail.specs.declared.forest.End.TheVariants.{Const, Literal as literal_end, FromDynamic, FromOutput}
use Rattle.dual_rail.specs.declared.forest.Pair.{Pair}
use Rattle.dual_rail.specs.declared.forest.Pair.TheVariants.{And, Or}
use Rattle.gate_decompose.specs.declared.gates.Node.TheVariants.{And as and_node, Or as or_node, Not as not_node}
use Rattle.gate_decompose.specs.declared.gates.Ref.{Ref}
use Rattle.dual_rail.specs.ForestData.{ForestData}
use Rattle.dual_rail.specs.ForestOrder.{AreInOrder, ReadsBefore}
use Rattle.dual_rail.specs.Forests.{IsArm, IsEndOf, IsForestOf, IsPairOf}
use Rattle.dual_rail.specs.ForestValues.{ArePairValues, PairsHaveValues, EndsHaveValues, arm_bit, end_bit}
use Rattle.gate_decompose.specs.GatesData.{GatesData}
use Rattle.gate_decompose.specs.Needed.{Asked, Value, Literal as asked_literal, Pair as asked_pair, AsksFor, constant, leaf, gate, under, signed}
use Rattle.gate_decompose.specs.Values.{AreNodeValues, ref_value}
use Rattle.dual_rail.proofs.ForestOrders.{forests_are_in_place}
use Rattle.dual_rail.proofs.Zips.{all_zip_get}

-- the value of what is asked for
asked_bit : (ℕ → Bool) → (ℕ → Bool) → Asked → Bool
asked_bit leaf_bit node (Value b) = b
asked_bit leaf_bit node (asked_literal k sign) = signed sign (leaf_bit k)
asked_bit leaf_bit node (asked_pair n sign) = signed sign (node n)

signed_not : (s b : Bool) → signed (not s) b ≡ signed s (not b)
signed_not true b = refl
signed_not false true = refl
signed_not false false = refl

asked_value : (gates : GatesData) (leaf_bit node : ℕ → Bool) → AreNodeValues gates leaf_bit node → {r : Ref} {s : Bool} {x : Asked} → AsksFor gates.nodes r s x
    → asked_bit leaf_bit node x ≡ signed s (ref_value leaf_bit node r)
unfolding asked_bit
asked_value gates leaf_bit node values constant = refl
asked_value gates leaf_bit node values leaf = refl
asked_value gates leaf_bit node values (gate is) = refl
asked_value gates leaf_bit node values (under {n = n} {sign = s} {a = a} at more) =
    asked_value gates leaf_bit node values more ∙ signed_not s (ref_value leaf_bit node a) ∙ ap (signed s) (sym (values n (not_node a) at))

not_and : (a b : Bool) → not a || not b ≡ not (a && b)
not_and true b = refl
not_and false b = refl

not_or : (a b : Bool) → (not a && not b) ≡ not (a || b)
not_or true b = refl
not_or false b = refl

module _ (gates : GatesData) (signs : List Bool) (forest : ForestData) (leaf_bit node pair : ℕ → Bool) (is : IsForestOf gates signs forest) (order : AreInOrder forest.pairs)
    (values : AreNodeValues gates leaf_bit node) (pairs : ArePairValues forest leaf_bit pair) where
  arm_value : (s : Bool) (r : Ref) (arm : Arm) (p : ℕ) → ((q : ℕ) (o : ℕ × Bool) → q < p → slice_get forest.origin q ≡ Some o → pair q ≡ signed o.1 (node o.0)) → ReadsBefore p arm
      → IsArm gates.nodes forest.origin s r arm → arm_bit leaf_bit pair arm ≡ signed s (ref_value leaf_bit node r)
  unfolding asked_bit
  arm_value s r (Literal rail) p earlier low asks = asked_value gates leaf_bit node values asks
  arm_value s r (pair_arm q) p earlier low (o, at, asks) = earlier q o low at ∙ asked_value gates leaf_bit node values asks

  pub pair_value : (room p : ℕ) → p < room → (o : ℕ × Bool) → slice_get forest.origin p ≡ Some o → pair p ≡ signed o.1 (node o.0)
  pair_value zero p lt o at = absurd (omega arith)
  pair_value (suc room) p lt (n, s) at =
      let found = all_zip_get (IsPairOf gates.nodes forest.origin) forest.origin forest.pairs p (n, s) is.pairs_are at in
      by s found.0 found.1 found.2 (λ q o low e. pair_value room q (omega arith) o e)
    where
      by : (t : Bool) (x : Pair) → slice_get forest.pairs p ≡ Some x → IsPairOf gates.nodes forest.origin (n, t) x
          → ((q : ℕ) (o : ℕ × Bool) → q < p → slice_get forest.origin q ≡ Some o → pair q ≡ signed o.1 (node o.0)) → pair p ≡ signed t (node n)
      by true (And a b) e (l, r, f, left, right) earlier =
          let low = order p (And a b) e in
          pairs p (And a b) e ∙ ap₂ (λ u v. u && v) (arm_value true l a p earlier low.0 left) (arm_value true r b p earlier low.1 right) ∙ sym (values n (and_node l r) f)
      by true (Or a b) e (l, r, f, left, right) earlier =
          let low = order p (Or a b) e in
          pairs p (Or a b) e ∙ ap₂ (λ u v. u || v) (arm_value true l a p earlier low.0 left) (arm_value true r b p earlier low.1 right) ∙ sym (values n (or_node l r) f)
      by false (And a b) e (l, r, f, left, right) earlier =
          let low = order p (And a b) e in
          pairs p (And a b) e ∙ ap₂ (λ u v. u && v) (arm_value false l a p earlier low.0 left) (arm_value false r b p earlier low.1 right)
          ∙ not_or (ref_value leaf_bit node l) (ref_value leaf_bit node r) ∙ ap not (sym (values n (or_node l r) f))
      by false (Or a b) e (l, r, f, left, right) earlier =
          let low = order p (Or a b) e in
          pairs p (Or a b) e ∙ ap₂ (λ u v. u || v) (arm_value false l a p earlier low.0 left) (arm_value false r b p earlier low.1 right)
          ∙ not_and (ref_value leaf_bit node l) (ref_value leaf_bit node r) ∙ ap not (sym (values n (and_node l r) f))

  pub end_value : (r : Ref) (sign : Bool) (end : End) → IsEndOf gates.nodes forest.origin r sign end → end_bit leaf_bit pair end ≡ ref_value leaf_bit node r
  unfolding asked_bit
  end_value r sign (Const b) asks = asked_value gates leaf_bit node values asks
  end_value r sign (literal_end rail) asks = asked_value gates leaf_bit node values asks
  end_value r sign (FromDynamic p) (plus, o, at, asks) = pair_value (suc p) p (omega arith) o at ∙ asked_value gates leaf_bit node values asks
  end_value r sign (FromOutput p) (minus, o, at, asks) =
      ap not (pair_value (suc p) p (omega arith) o at ∙ asked_value gates leaf_bit node values asks) ∙ not-not (ref_value leaf_bit node r)

pub pairs_have_values : PairsHaveValues
pairs_have_values = λ gates signs forest leaf_bit node pair place is values pairs p o at.
    pair_value gates signs forest leaf_bit node pair is (forests_are_in_place gates signs forest place is).in_order values pairs (suc p) p (omega arith) o at

pub ends_have_values : EndsHaveValues
ends_have_values = λ gates signs forest leaf_bit node pair place is values pairs k r sign end e f g.
    end_value gates signs forest leaf_bit node pair is (forests_are_in_place gates signs forest place is).in_order values pairs r sign end (is.ends_are k r sign end e f g)
