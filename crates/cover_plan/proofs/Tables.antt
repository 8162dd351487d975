-- The table of a part holds the least sums of its shapes.
use Rattle.std.proofs.lemmas.Option.{same_Some}
use Rattle.std.proofs.Common.{◌≡◌, ◌⊎◌, inl, inr, refl, sym, ap, subst, ℕ, ◌≤◌, min, Bool, true, false, cond, ◌==◌, List, [], ◌∷◌, map, option_map, Option, Some, None, eqb-true, eq-eqb, arith}
use Rattle.std.specs.List.{range_with_len}
use Rattle.std.proofs.lemmas.Bool.{cases_lt}
use Rattle.gate_decompose.specs.Items.{Among}
use Rattle.gate_decompose.proofs.Among.{among_map, among_mapped, among_flat, among_flattened, among_filter_map, among_filtered, among_range, among_ranged}
use Rattle.dom_base.proofs.Bools.{and_both}
use Rattle.cover_plan.specs.Parts.{TreeShape, Fits}
use Rattle.cover_plan.specs.CoverTables.{Entry, same_shape, lower_of, best, lowest, shapes, table_within}

-- shapes are the same exactly where the test says so
pub same_shape-is : (a b : TreeShape) → same_shape a b ≡ true → a ≡ b
same_shape-is a b h =
    let parts = and_both (a.height == b.height) (a.width == b.width) h in
    λ i. record { height = eqb-true a.height b.height parts.0 i; width = eqb-true a.width b.width parts.1 i }

pub same_shape-self : (a : TreeShape) → same_shape a a ≡ true
same_shape-self a = rw (eq-eqb a.height a.height refl, eq-eqb a.width a.width refl) refl

pub none_is : {X : Type 0} (a : X) → None ≡ Some a → ⊥
none_is a e = cc

-- the least of a number and an optional one is one of the two, and below both
pub lower_of-is : (n : ℕ) (o : Option ℕ) (m : ℕ) → lower_of n o ≡ Some m → (m ≡ n) ⊎ (o ≡ Some m)
lower_of-is n None m e = inl (sym (same_Some n m e))
lower_of-is n (Some k) m e =
    let same = same_Some (min n k) m e in
    elim (cases_lt n k) [ inl lt ↦ inl (omega arith) | inr le ↦ inr (ap Some (omega arith)) ]

-- an optional number that is there, and at most this one
abbrev pub AtMost : Option ℕ → ℕ → Type 0
AtMost o n = (m : ℕ) × (o ≡ Some m) × (m ≤ n)

pub lower_of-first : (n : ℕ) (o : Option ℕ) → AtMost (lower_of n o) n
lower_of-first n None = (n, refl, omega arith)
lower_of-first n (Some k) = (min n k, refl, omega arith)

pub lower_of-second : (n : ℕ) (o : Option ℕ) (k : ℕ) → AtMost o k → AtMost (lower_of n o) k
lower_of-second n None k (m, e, le) = absurd (none_is m e)
lower_of-second n (Some j) k (m, e, le) = (min n j, refl, let same = same_Some j m e in omega arith)

-- what `best` answers is the sum of an entry of this shape
pub best_reached : (es : List Entry) (shape : TreeShape) (n : ℕ) → best es shape ≡ Some n → (e : Entry) × Among e es × (e.shape ≡ shape) × (e.sum ≡ n)
best_reached [] shape n h = absurd (none_is n h)
best_reached (e ∷ es) shape n h = by (same_shape e.shape shape) refl h (λ g. best_reached es shape n g)
  where
    by : (b : Bool) → same_shape e.shape shape ≡ b → cond b (lower_of e.sum (best es shape)) (best es shape) ≡ Some n
        → (best es shape ≡ Some n → (x : Entry) × Among x es × (x.shape ≡ shape) × (x.sum ≡ n)) → (x : Entry) × Among x (e ∷ es) × (x.shape ≡ shape) × (x.sum ≡ n)
    by false t g more = let r = more g in (r.0, inr r.1, r.2, r.3)
    by true t g more =
        elim (lower_of-is e.sum (best es shape) n g) [
          | inl here ↦ (e, inl refl, same_shape-is e.shape shape t, sym here)
          | inr there ↦ let r = more there in (r.0, inr r.1, r.2, r.3)
        ]

-- and it is at most that of each such entry
pub best_below : (es : List Entry) (e : Entry) → Among e es → AtMost (best es e.shape) e.sum
best_below [] e at = elim at [ ]
best_below (x ∷ es) e (inl same) = subst (λ y. AtMost (best (x ∷ es) y.shape) y.sum) same (rw (same_shape-self x.shape) (lower_of-first x.sum (best es x.shape)))
best_below (x ∷ es) e (inr at) = by (same_shape x.shape e.shape) (best_below es e at)
  where
    by : (b : Bool) → AtMost (best es e.shape) e.sum → AtMost (cond b (lower_of x.sum (best es e.shape)) (best es e.shape)) e.sum
    by true h = lower_of-second x.sum (best es e.shape) e.sum h
    by false h = h

-- the same of the lowest sum of all
pub lowest_reached : (es : List Entry) (n : ℕ) → lowest es ≡ Some n → (e : Entry) × Among e es × (e.sum ≡ n)
lowest_reached [] n h = absurd (none_is n h)
lowest_reached (e ∷ es) n h =
    elim (lower_of-is e.sum (lowest es) n h) [
      | inl here ↦ (e, inl refl, sym here)
      | inr there ↦ let r = lowest_reached es n there in (r.0, inr r.1, r.2)
    ]

pub lowest_below : (es : List Entry) (e : Entry) → Among e es → AtMost (lowest es) e.sum
lowest_below [] e at = elim at [ ]
lowest_below (x ∷ es) e (inl same) = subst (λ y. AtMost (lowest (x ∷ es)) y.sum) same (lower_of-first x.sum (lowest es))
lowest_below (x ∷ es) e (inr at) = lower_of-second x.sum (lowest es) e.sum (lowest_below es e at)

-- the shapes within the bounds
pub among_shapes : (w h : ℕ) (shape : TreeShape) → 1 ≤ shape.height → 1 ≤ shape.width → Fits w h shape → Among shape (shapes w h)
among_shapes w h shape tall wide fits =
    among_flat (λ height. map (λ width. record { height = height; width = width }) (range_with_len 1 w)) shape.height shape (range_with_len 1 h)
    (among_range shape.height 1 h tall (omega (arith, fits.1)))
    (among_map (λ width. record { height = shape.height; width = width }) shape.width (range_with_len 1 w) (among_range shape.width 1 w wide (omega (arith, fits.0))))

pub shape_fits : (w h : ℕ) (shape : TreeShape) → Among shape (shapes w h) → Fits w h shape
shape_fits w h shape at =
    let tall = among_flattened (λ height. map (λ width. record { height = height; width = width }) (range_with_len 1 w)) shape (range_with_len 1 h) at in
    let wide = among_mapped (λ width. record { height = tall.0; width = width }) shape (range_with_len 1 w) tall.2 in
    let high = among_ranged tall.0 1 h tall.1 in
    let broad = among_ranged wide.0 1 w wide.1 in
    subst (Fits w h) wide.2 (omega (arith, broad.1), omega (arith, high.1))

-- the entries of a table are the best ones of the shapes within the bounds
pub among_table : (w h : ℕ) (es : List Entry) (e : Entry) → Among e.shape (shapes w h) → best es e.shape ≡ Some e.sum → Among e (table_within w h es)
among_table w h es e at h' =
    among_filter_map (λ shape. option_map (λ sum. record { shape = shape; sum = sum }) (best es shape)) e.shape e (shapes w h) at (rw h' refl)

pub table_best : (w h : ℕ) (es : List Entry) (e : Entry) → Among e (table_within w h es) → Among e.shape (shapes w h) × (best es e.shape ≡ Some e.sum)
table_best w h es e at =
    let r = among_filtered (λ shape. option_map (λ sum. record { shape = shape; sum = sum }) (best es shape)) e (shapes w h) at in
    by r.0 r.1 (best es r.0) refl r.2
  where
    by : (shape : TreeShape) → Among shape (shapes w h) → (o : Option ℕ) → best es shape ≡ o → option_map (λ sum. record { shape = shape; sum = sum }) o ≡ Some e
        → Among e.shape (shapes w h) × (best es e.shape ≡ Some e.sum)
    by shape in_ None is h' = absurd (none_is e h')
    by shape in_ (Some n) is h' =
        let same = same_Some (record { shape = shape; sum = n }) e h' in
        subst (λ x. Among x.shape (shapes w h) × (best es x.shape ≡ Some x.sum)) same (in_, is)
