-- Rows of least sums, as entries are put into them.
use Rattle.std.proofs.lemmas.Option.{same_Some, slice_get-get_or, slice_get_within}
use Rattle.std.proofs.lemmas.List.{get_or-replicate, length-replicate, length-set}
use Rattle.std.proofs.Math.Nat.{mul-le-mul_right}
use Rattle.std.proofs.Common.{◌≡◌, inl, inr, refl, sym, ap, subst, ◌∙◌, ℕ, zero, suc, ◌+◌, ◌*◌, ◌-◌, ◌≤◌, ◌<◌, min, Bool, true, false, cond, List, [], ◌∷◌, ◌++◌, length, set, replicate, Option, Some, None, slice_get, arith}
use Rattle.dom_base.proofs.Lists.{slice_get-set_other}
use Rattle.gate_decompose.specs.Items.{Among}
use Rattle.gate_decompose.proofs.Among.{among_either}
use Rattle.cover_plan.proofs.Tables.{best_reached, same_shape-is, same_shape-self}
use Rattle.cover_plan.specs.Parts.{TreeShape}
use Rattle.tree_map.specs.CoverRows.{IsRow, IsShapeIn, row_index, sum_or_zero}
use Rattle.cover_plan.specs.CoverTables.{Entry, best, lower_of, lowest, same_shape}

-- what stands at an index that is set, and elsewhere
set_here : {X : Type 0} (xs : List X) (k : ℕ) (y : X) → k < length xs → slice_get (set xs k y) k ≡ Some y
set_here [] k y h = absurd (omega arith)
set_here (x ∷ xs) zero y h = refl
set_here (x ∷ xs) (suc k) y h = set_here xs k y (omega arith)

-- the least of numbers doesn't depend on their order
lower_twice : (m n : ℕ) (o : Option ℕ) → lower_of m (lower_of n o) ≡ lower_of n (lower_of m o)
lower_twice m n None = ap Some (omega arith)
lower_twice m n (Some k) = ap Some (omega arith)

pub best-push : (es : List Entry) (e : Entry) (shape : TreeShape) → best (es ++ e ∷ []) shape ≡ cond (same_shape e.shape shape) (lower_of e.sum (best es shape)) (best es shape)
best-push [] e shape = refl
best-push (x ∷ es) e shape = rw (best-push es e shape) (by (same_shape x.shape shape) (same_shape e.shape shape))
  where
    by : (a b : Bool)
        → cond a (lower_of x.sum (cond b (lower_of e.sum (best es shape)) (best es shape))) (cond b (lower_of e.sum (best es shape)) (best es shape))
        ≡ cond b (lower_of e.sum (cond a (lower_of x.sum (best es shape)) (best es shape))) (cond a (lower_of x.sum (best es shape)) (best es shape))
    by true true = lower_twice x.sum e.sum (best es shape)
    by true false = refl
    by false true = refl
    by false false = refl

pub lowest-push : (es : List Entry) (e : Entry) → lowest (es ++ e ∷ []) ≡ lower_of e.sum (lowest es)
lowest-push [] e = refl
lowest-push (x ∷ es) e = rw (lowest-push es e) (lower_twice x.sum e.sum (lowest es))

-- shapes at one index are one shape
index_parts : (w a b c d : ℕ) → a * w + b ≡ c * w + d → b < w → d < w → (a ≡ c) × (b ≡ d)
index_parts w zero b zero d e low high = (refl, omega arith)
index_parts w zero b (suc c) d e low high = absurd (omega arith)
index_parts w (suc a) b zero d e low high = absurd (omega arith)
index_parts w (suc a) b (suc c) d e low high = let more = index_parts w a b c d (omega arith) low high in (ap suc more.0, more.1)

pub index_shape : (w h : ℕ) (a b : TreeShape) → IsShapeIn w h a → IsShapeIn w h b → row_index w a ≡ row_index w b → a ≡ b
index_shape w h a b is_a is_b e =
    let parts = index_parts w (a.height - 1) (a.width - 1) (b.height - 1) (b.width - 1) e (omega (arith, is_a.wide, is_a.broad)) (omega (arith, is_b.wide, is_b.broad)) in
    let tall : a.height ≡ b.height = omega (arith, is_a.tall, is_b.tall, parts.0) in
    let wide : a.width ≡ b.width = omega (arith, is_a.wide, is_b.wide, parts.1) in
    λ i. record { height = tall i; width = wide i }

index_below : (w h a b : ℕ) → a + 1 ≤ h → b < w → a * w + b < w * h
index_below w h a b low high = let m = mul-le-mul_right {m = a + 1} {n = h} w low in omega arith

pub index_in : (w h : ℕ) (shape : TreeShape) → IsShapeIn w h shape → row_index w shape < w * h
index_in w h shape is = index_below w h (shape.height - 1) (shape.width - 1) (omega (arith, is.tall, is.high)) (omega (arith, is.wide, is.broad))

-- a row of nothing
pub row_none : (w h n : ℕ) → n ≡ w * h → IsRow w h [] (replicate n 0)
row_none w h n is = record {
  count = length-replicate {A = ℕ} n 0 ∙ is;
  some = λ e at. absurd at;
  each = λ shape in_. none (row_index w shape) (subst (λ m. row_index w shape < m) (sym is) (index_in w h shape in_));
}
  where
    none : (k : ℕ) → k < n → slice_get {X = ℕ} (replicate n 0) k ≡ Some 0
    none k lt = slice_get-get_or {X = ℕ} (replicate n 0) k 0 (rw (length-replicate {A = ℕ} n 0) lt) ∙ ap Some (get_or-replicate n k 0 0 lt)

-- one more entry counts, also where it isn't within the bounds
pub some_more : (es : List Entry) (e : Entry) → ((x : Entry) → Among x es → 1 ≤ x.sum) → 1 ≤ e.sum → (x : Entry) → Among x (es ++ e ∷ []) → 1 ≤ x.sum
some_more es e some one x at = elim (among_either x es (e ∷ []) at) [ inl in_ ↦ some x in_ | inr is ↦ here is ]
  where
    here : Among x (e ∷ []) → 1 ≤ x.sum
    here (inl same) = subst (λ y. 1 ≤ y.sum) same one
    here (inr at') = absurd at'

pub row_past : (w h : ℕ) (es : List Entry) (e : Entry) (row : List ℕ) → IsRow w h es row → (IsShapeIn w h e.shape → ⊥) → 1 ≤ e.sum → IsRow w h (es ++ e ∷ []) row
row_past w h es e row is out one = record {
  count = is.count;
  some = some_more es e is.some one;
  each = λ shape in_. is.each shape in_ ∙ ap (λ o. Some (sum_or_zero o)) (sym (best-push es e shape ∙ other shape in_ (same_shape e.shape shape) refl));
}
  where
    other : (shape : TreeShape) → IsShapeIn w h shape → (b : Bool) → same_shape e.shape shape ≡ b → cond b (lower_of e.sum (best es shape)) (best es shape) ≡ best es shape
    other shape in_ true t = absurd (out (subst (IsShapeIn w h) (sym (same_shape-is e.shape shape t)) in_))
    other shape in_ false t = refl

-- a number in a row, where 0 is none, and a sum
abbrev pub IsLesser : ℕ → ℕ → ℕ → Type 0
IsLesser number sum least = (number ≡ 0 → least ≡ sum) × (0 < number → least ≡ min sum number)

lesser_is : (o : Option ℕ) (sum least : ℕ) → ((n : ℕ) → o ≡ Some n → 1 ≤ n) → IsLesser (sum_or_zero o) sum least → least ≡ sum_or_zero (lower_of sum o)
lesser_is None sum least some is = is.0 refl
lesser_is (Some n) sum least some is = is.1 (some n refl)

pub row_put : (w h : ℕ) (es : List Entry) (e : Entry) (row : List ℕ) (number least : ℕ) → IsRow w h es row → IsShapeIn w h e.shape → 1 ≤ e.sum
    → slice_get row (row_index w e.shape) ≡ Some number → IsLesser number e.sum least → IsRow w h (es ++ e ∷ []) (set row (row_index w e.shape) least)
row_put w h es e row number least is in_ one at less = record {
  count = length-set row (row_index w e.shape) least ∙ is.count;
  some = some_more es e is.some one;
  each = λ shape here. subst (λ o. slice_get (set row (row_index w e.shape) least) (row_index w shape) ≡ Some (sum_or_zero o)) (sym (best-push es e shape)) (by shape here (same_shape e.shape shape) refl);
}
  where
    was : number ≡ sum_or_zero (best es e.shape)
    was = same_Some number (sum_or_zero (best es e.shape)) (sym at ∙ is.each e.shape in_)

    some : (n : ℕ) → best es e.shape ≡ Some n → 1 ≤ n
    some n b = let r = best_reached es e.shape n b in subst (λ m. 1 ≤ m) r.3 (is.some r.0 r.1)

    apart : {shape : TreeShape} → same_shape e.shape shape ≡ false → shape ≡ e.shape → ⊥
    apart {shape} t e' = let self = same_shape-self e.shape in let same : same_shape e.shape e.shape ≡ false = subst (λ x. same_shape e.shape x ≡ false) e' t in cc

    by : (shape : TreeShape) → IsShapeIn w h shape → (b : Bool) → same_shape e.shape shape ≡ b
        → slice_get (set row (row_index w e.shape) least) (row_index w shape) ≡ Some (sum_or_zero (cond b (lower_of e.sum (best es shape)) (best es shape)))
    by shape here true t =
        subst (λ s. slice_get (set row (row_index w e.shape) least) (row_index w s) ≡ Some (sum_or_zero (lower_of e.sum (best es s)))) (same_shape-is e.shape shape t)
        (set_here row (row_index w e.shape) least (slice_get_within row (row_index w e.shape) number at) ∙ ap Some (lesser_is (best es e.shape) e.sum least some (subst (λ n. IsLesser n e.sum least) was less)))
    by shape here false t =
        slice_get-set_other row (row_index w e.shape) (row_index w shape) least (λ same. apart t (index_shape w h shape e.shape here in_ same)) ∙ is.each shape here
