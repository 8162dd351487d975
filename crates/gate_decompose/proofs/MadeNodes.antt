-- What an appended node makes of a part.
use Rattle.std.proofs.Common.{◌≡◌, ◌⊎◌, inl, inr, refl, sym, ap, ◌∙◌, ℕ, ◌+◌, ◌≤◌, Bool, true, false, List, length, arith, count_by, add-zero, cond}
use Rattle.std.proofs.lemmas.List.Sums.{sum_by_push}
use Rattle.gate_decompose.specs.declared.gates.Node.{Node}
use Rattle.gate_decompose.specs.declared.gates.Node.TheVariants.{Not as not_node}
use Rattle.gate_decompose.specs.declared.gates.Ref.{Ref}
use Rattle.gate_decompose.specs.declared.gates.Ref.TheVariants.{Leaf as leaf_ref, Node as node_ref}
use Rattle.gate_decompose.specs.declared.operator.Operator.{Operator}
use Rattle.gate_decompose.specs.declared.operator.Operator.TheVariants.{And, Or}
use Rattle.gate_decompose.specs.GateNodes.{Fixed, Input, Joint, Made, NodeName, NotOf, Operand, is_fixed, node_of, ref_of, standing}
use Rattle.gate_decompose.specs.GatesOrder.{is_operator}
use Rattle.gate_decompose.specs.TermNodes.{IsPushed, Makes, joint_by, no_nodes, over, two_parts, under_not}

-- the reference is a leaf or a node
abbrev pub IsPlain : Ref → Type 0
IsPlain r = ((k : ℕ) × (r ≡ leaf_ref k)) ⊎ ((n : ℕ) × (r ≡ node_ref n))

pub not_fixed : (names : List NodeName) (a : Operand) (r : Ref) → r ≡ ref_of names a → IsPlain r → is_fixed a ≡ false
not_fixed names (Input leaf) r e plain = refl
not_fixed names (Made name) r e plain = refl
not_fixed names (Fixed b) r e (inl (k, f)) = absurd (cc)
not_fixed names (Fixed b) r e (inr (n, f)) = absurd (cc)

-- an operator that stands is the one node of its part
pub stands : (names : List NodeName) (name : NodeName) (joint : Joint) (b : Bool) (old new : List Node) (r : Ref) → b ≡ false → IsPushed old new r (node_of names joint)
    → Makes names old new r (record { nodes = standing b name joint; comes_to = Made name })
stands names name joint true old new r e pushed = absurd (cc)
stands names name joint false old new r e pushed = λ numbered. record {
  nodes = pushed.nodes;
  comes_to = pushed.number ∙ ap node_ref (sym (numbered 0 (record { name = name; joint = joint }) refl ∙ add-zero (length old)));
}

pub negated : (names : List NodeName) (name : NodeName) (a : Operand) (part r : Ref) (old new : List Node) → IsPlain part → part ≡ ref_of names a
    → IsPushed old new r (not_node part) → Makes names old new r (under_not name a)
negated names name (Fixed b) part r old new plain e pushed = let never : true ≡ false = not_fixed names (Fixed b) part e plain in absurd (cc)
negated names name (Input leaf) part r old new plain e pushed = stands names name (NotOf (Input leaf)) false old new r refl (rw e at pushed)
negated names name (Made other) part r old new plain e pushed = stands names name (NotOf (Made other)) false old new r refl (rw e at pushed)

pub joined : (names : List NodeName) (name : NodeName) (operator : Operator) (a b : Operand) (left right r : Ref) (old new : List Node) → IsPlain left → IsPlain right
    → left ≡ ref_of names a → right ≡ ref_of names b → IsPushed old new r (over operator left right) → Makes names old new r (two_parts operator name (no_nodes a) (no_nodes b))
joined names name operator (Fixed x) b left right r old new p q e f pushed = let never : true ≡ false = not_fixed names (Fixed x) left e p in absurd (cc)
joined names name operator (Input k) (Fixed y) left right r old new p q e f pushed = let never : true ≡ false = not_fixed names (Fixed y) right f q in absurd (cc)
joined names name operator (Made n) (Fixed y) left right r old new p q e f pushed = let never : true ≡ false = not_fixed names (Fixed y) right f q in absurd (cc)
joined names name And (Input k) (Input m) left right r old new p q e f pushed = stands names name (joint_by And (Input k) (Input m)) false old new r refl (rw (e, f) at pushed)
joined names name And (Input k) (Made m) left right r old new p q e f pushed = stands names name (joint_by And (Input k) (Made m)) false old new r refl (rw (e, f) at pushed)
joined names name And (Made n) (Input m) left right r old new p q e f pushed = stands names name (joint_by And (Made n) (Input m)) false old new r refl (rw (e, f) at pushed)
joined names name And (Made n) (Made m) left right r old new p q e f pushed = stands names name (joint_by And (Made n) (Made m)) false old new r refl (rw (e, f) at pushed)
joined names name Or (Input k) (Input m) left right r old new p q e f pushed = stands names name (joint_by Or (Input k) (Input m)) false old new r refl (rw (e, f) at pushed)
joined names name Or (Input k) (Made m) left right r old new p q e f pushed = stands names name (joint_by Or (Input k) (Made m)) false old new r refl (rw (e, f) at pushed)
joined names name Or (Made n) (Input m) left right r old new p q e f pushed = stands names name (joint_by Or (Made n) (Input m)) false old new r refl (rw (e, f) at pushed)
joined names name Or (Made n) (Made m) left right r old new p q e f pushed = stands names name (joint_by Or (Made n) (Made m)) false old new r refl (rw (e, f) at pushed)

-- a node more is at most an operator more
pub pushed_few : (old new : List Node) (r : Ref) (node : Node) → IsPushed old new r node → count_by is_operator new ≤ count_by is_operator old + 1
pushed_few old new r node pushed = rw (pushed.nodes, sum_by_push (λ x. cond (is_operator x) 1 0) old node) (one (is_operator node))
  where
    one : (b : Bool) → count_by is_operator old + cond b 1 0 ≤ count_by is_operator old + 1
    one true = omega arith
    one false = omega arith
