-- Marks of wanted nodes: what sinks and nodes add, and the pass over marks that are one.
use Rattle.std.proofs.Common.{◌≡◌, ◌⊎◌, inl, inr, refl, sym, ap, ap₂, ◌∙◌, ℕ, zero, suc, ◌+◌, ◌<◌, Bool, true, false, not, ◌&&◌, ◌||◌, List, [], ◌∷◌, length, take, drop, ◌++◌, replicate, get_or, Some, slice_get, arith, add-one}
use Rattle.std.proofs.Math.Seq.{take-append_seam}
use Rattle.dom_base.proofs.Bools.{or_assoc, or_false}
use Rattle.gate_decompose.specs.declared.gates.Node.{Node}
use Rattle.gate_decompose.specs.declared.gates.Node.TheVariants.{And, Or}
use Rattle.gate_decompose.specs.declared.gates.Ref.{Ref}
use Rattle.gate_decompose.specs.declared.gates.Ref.TheVariants.{Const}
use Rattle.gate_decompose.specs.GatesData.{GatesData}
use Rattle.gate_decompose.specs.Needed.{signed}
use Rattle.gate_decompose.specs.NeededPass.{is_asked_by, is_asked_by_sinks, names_node, pass, wanted_by_pass}
use Rattle.dual_rail.specs.WantedNodes.{holds}
use Rattle.dual_rail.specs.SignedValues.{of_sign}
use Rattle.dual_rail.specs.declared.signed.Signed.{Signed}

pub two_marks : (a b w v x : Bool) → a ≡ (b || (w && x)) → ((a || (v && x)) ≡ (b || (x && (w || v))))
two_marks a b w v x e = rw e (by b w v x)
  where
    by : (b w v x : Bool) → ((b || (w && x)) || (v && x)) ≡ (b || (x && (w || v)))
    by true w v x = refl
    by false true true true = refl
    by false true true false = refl
    by false true false true = refl
    by false true false false = refl
    by false false true true = refl
    by false false true false = refl
    by false false false true = refl
    by false false false false = refl

-- what a sink with its sign adds
pub sign_held : (signs : Signed Bool) (sign s : Bool) → signs ≡ record { plus = sign; minus = not sign } → of_sign signs s ≡ signed sign s
sign_held signs true true e = rw e refl
sign_held signs true false e = rw e refl
sign_held signs false true e = rw e refl
sign_held signs false false e = rw e refl

sinks_next : (sinks : List Ref) (signs : List Bool) (i : ℕ) (n : ℕ) (s : Bool) → i < length sinks → length signs ≡ length sinks
    → is_asked_by_sinks (take (i + 1) sinks) (take (i + 1) signs) n s
    ≡ (is_asked_by_sinks (take i sinks) (take i signs) n s || (names_node n (get_or sinks i (Const false)) && signed (get_or signs i false) s))
sinks_next sinks signs i n s lt count = rw (add-one) (step sinks signs i lt count)
  where
    step : (sinks : List Ref) (signs : List Bool) (i : ℕ) → i < length sinks → length signs ≡ length sinks
        → is_asked_by_sinks (take (suc i) sinks) (take (suc i) signs) n s
        ≡ (is_asked_by_sinks (take i sinks) (take i signs) n s || (names_node n (get_or sinks i (Const false)) && signed (get_or signs i false) s))
    step [] signs i lt count = absurd (omega arith)
    step (r ∷ sinks) [] i lt count = absurd (omega arith)
    step (r ∷ sinks) (b ∷ signs) zero lt count = or_false (names_node n r && signed b s)
    step (r ∷ sinks) (b ∷ signs) (suc i) lt count =
        ap (λ x. (names_node n r && signed b s) || x) (step sinks signs i (omega arith) (omega arith))
        ∙ sym (or_assoc (names_node n r && signed b s) (is_asked_by_sinks (take i sinks) (take i signs) n s) (names_node n (get_or sinks i (Const false)) && signed (get_or signs i false) s))

-- one sink more
pub sink_marked : (old mid new : List (Signed Bool)) (signs : Signed Bool) (sinks : List Ref) (bits : List Bool) (i n : ℕ) (s : Bool) → i < length sinks → length bits ≡ length sinks
    → signs ≡ record { plus = get_or bits i false; minus = not (get_or bits i false) }
    → holds mid n s ≡ (holds old n s || is_asked_by_sinks (take i sinks) (take i bits) n s)
    → holds new n s ≡ (holds mid n s || (names_node n (get_or sinks i (Const false)) && of_sign signs s))
    → holds new n s ≡ (holds old n s || is_asked_by_sinks (take (i + 1) sinks) (take (i + 1) bits) n s)
sink_marked old mid new signs sinks bits i n s lt count is before added =
    added ∙ ap₂ (λ x y. x || (names_node n (get_or sinks i (Const false)) && y)) before (sign_held signs (get_or bits i false) s is)
    ∙ or_assoc (holds old n s) (is_asked_by_sinks (take i sinks) (take i bits) n s) (names_node n (get_or sinks i (Const false)) && signed (get_or bits i false) s)
    ∙ ap (λ x. holds old n s || x) (sym (sinks_next sinks bits i n s lt count))

-- the pass over marks that hold the same
pub pass_same : (nodes : List Node) (k : ℕ) (a b : ℕ → Bool → Bool) → ((n : ℕ) (s : Bool) → a n s ≡ b n s) → (n : ℕ) (s : Bool) → pass nodes a k n s ≡ pass nodes b k n s
pass_same nodes k a b h n s = ap (λ f. pass nodes f k n s) (λ i m t. h m t i)

-- both parts of an operator
pub parts_marked : (old mid new : List (Signed Bool)) (signs : Signed Bool) (node : Node) (left right : Ref) → (node ≡ And left right) ⊎ (node ≡ Or left right)
    → ((n : ℕ) (s : Bool) → holds mid n s ≡ (holds old n s || (names_node n left && of_sign signs s)))
    → ((n : ℕ) (s : Bool) → holds new n s ≡ (holds mid n s || (names_node n right && of_sign signs s)))
    → (n : ℕ) (s : Bool) → holds new n s ≡ (holds old n s || is_asked_by (of_sign signs) (Some node) n s)
parts_marked old mid new signs node left right is first second n s =
    second n s ∙ two_marks (holds mid n s) (holds old n s) (names_node n left) (names_node n right) (of_sign signs s) (first n s) ∙ by is
  where
    by : (node ≡ And left right) ⊎ (node ≡ Or left right)
        → (holds old n s || (of_sign signs s && (names_node n left || names_node n right))) ≡ (holds old n s || is_asked_by (of_sign signs) (Some node) n s)
    by (inl e) = ap (λ x. holds old n s || is_asked_by (of_sign signs) (Some x) n s) (sym e)
    by (inr e) = ap (λ x. holds old n s || is_asked_by (of_sign signs) (Some x) n s) (sym e)

-- a node less
pub node_marked : (nodes : List Node) (i j : ℕ) (mid new : List (Signed Bool)) (node : Node) (goal : ℕ → Bool → Bool) → i ≡ suc j → slice_get nodes j ≡ Some node
    → ((n : ℕ) (s : Bool) → holds new n s ≡ (holds mid n s || is_asked_by (holds mid j) (Some node) n s))
    → ((n : ℕ) (s : Bool) → pass nodes (holds mid) i n s ≡ goal n s) → (n : ℕ) (s : Bool) → pass nodes (holds new) j n s ≡ goal n s
node_marked nodes i j mid new node goal e at added before n s =
    pass_same nodes j (holds new) (λ m t. holds mid m t || is_asked_by (holds mid j) (slice_get nodes j) m t)
    (λ m t. added m t ∙ ap (λ o. holds mid m t || is_asked_by (holds mid j) o m t) (sym at)) n s
    ∙ ap (λ k. pass nodes (holds mid) k n s) (sym e) ∙ before n s

-- what was written over a whole list
pub written_over : {X : Type 0} (n : ℕ) (new old : List X) → n ≡ length new → take n (new ++ drop (length new) old) ≡ new
written_over n new old e = ap (λ k. take k (new ++ drop (length new) old)) e ∙ take-append_seam new (drop (length new) old)

-- no marks
abbrev unwanted : Signed Bool
unwanted = record { plus = false; minus = false }

unmarked : (n k : ℕ) (s : Bool) → holds (replicate n unwanted) k s ≡ false
unmarked n k s = ap (λ (w : Signed Bool). of_sign w s) (none n k) ∙ by s
  where
    by : (s : Bool) → of_sign unwanted s ≡ false
    by true = refl
    by false = refl

    none : (n k : ℕ) → get_or (replicate n unwanted) k unwanted ≡ unwanted
    none zero k = refl
    none (suc n) zero = refl
    none (suc n) (suc k) = none n k

-- all sinks and all nodes
pub all_marked : (gates : GatesData) (signs : List Bool) (n : ℕ) (old mid end : List (Signed Bool)) → old ≡ replicate n unwanted
    → ((n : ℕ) (s : Bool) → holds mid n s ≡ (holds old n s || is_asked_by_sinks gates.sinks signs n s))
    → ((n : ℕ) (s : Bool) → holds end n s ≡ pass gates.nodes (holds mid) (length gates.nodes) n s) → (n : ℕ) (s : Bool) → holds end n s ≡ wanted_by_pass gates signs n s
all_marked gates signs count old mid end none sinks nodes n s =
    nodes n s
    ∙ pass_same gates.nodes (length gates.nodes) (holds mid) (is_asked_by_sinks gates.sinks signs)
    (λ m t. sinks m t ∙ ap (λ x. x || is_asked_by_sinks gates.sinks signs m t) (ap (λ ws. holds ws m t) none ∙ unmarked count m t)) n s
