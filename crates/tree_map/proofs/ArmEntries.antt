-- Entries of arms: lists that have the same come to the same.
use Rattle.std.proofs.lemmas.Option.{same_Some}
use Rattle.std.proofs.Common.{◌≡◌, ◌↔◌, refl, sym, ap, subst, ◌∙◌, ℕ, ◌≤◌, List, map, Option, Some, None, arith}
use Rattle.std.specs.List.{range_with_len}
use Rattle.dual_rail.specs.declared.forest.Arm.{Arm}
use Rattle.dual_rail.specs.ForestData.{ForestData}
use Rattle.gate_decompose.specs.Items.{Among}
use Rattle.gate_decompose.proofs.Among.{among_flat, among_flattened, among_map, among_mapped, among_ranged}
use Rattle.cover_plan.specs.Covers.{Costs}
use Rattle.cover_plan.specs.CoverTables.{Entry, arm_entries, best, combined, lowest, shapes}
use Rattle.cover_plan.specs.Parts.{CoverPart, Operator, TreeShape}
use Rattle.tree_map.specs.CoverRows.{IsShapeIn, joined_entry}
use Rattle.tree_map.specs.LeastPlans.{IsPartOf}
use Rattle.cover_plan.proofs.Tables.{best_below, best_reached, lowest_below, lowest_reached, none_is}

-- what one list has, the other has
abbrev pub HaveSame : List Entry → List Entry → Type 0
HaveSame es fs = (e : Entry) → Among e es ↔ Among e fs

-- the entries are those of the part below an arm
abbrev pub AreEntriesOf : Costs → ForestData → ℕ → ℕ → Arm → List Entry → Type 0
AreEntriesOf c forest w h arm es = (part : CoverPart) → IsPartOf forest arm part → HaveSame es (arm_entries c w h part)

pub have_same : (es fs : List Entry) → HaveSame es fs → HaveSame fs es
have_same es fs same = λ e. ((same e).1, (same e).0)

-- lists that have the same have the same least sums
pub best_same : (es fs : List Entry) → HaveSame es fs → (shape : TreeShape) → best es shape ≡ best fs shape
best_same es fs same shape = by (best es shape) (best fs shape) refl refl
  where
    over : (xs ys : List Entry) → HaveSame xs ys → (n : ℕ) → best xs shape ≡ Some n → (m : ℕ) × (best ys shape ≡ Some m) × (m ≤ n)
    over xs ys is n e =
        let r = best_reached xs shape n e in
        let low = best_below ys r.0 ((is r.0).0 r.1) in
        (low.0, subst (λ s. best ys s ≡ Some low.0) r.2 low.1, omega (arith, low.2, r.3))

    by : (a b : Option ℕ) → best es shape ≡ a → best fs shape ≡ b → best es shape ≡ best fs shape
    by None None e f = e ∙ sym f
    by None (Some n) e f = let low = over fs es (have_same es fs same) n f in absurd (none_is low.0 (sym e ∙ low.1))
    by (Some m) None e f = let low = over es fs same m e in absurd (none_is low.0 (sym f ∙ low.1))
    by (Some m) (Some n) e f =
        let one = over es fs same m e in
        let two = over fs es (have_same es fs same) n f in
        let first = same_Some n one.0 (sym f ∙ one.1) in
        let second = same_Some m two.0 (sym e ∙ two.1) in
        let both : m ≡ n = omega (arith, one.2, two.2, first, second) in
        e ∙ ap Some both ∙ sym f

pub lowest_same : (es fs : List Entry) → HaveSame es fs → lowest es ≡ lowest fs
lowest_same es fs same = by (lowest es) (lowest fs) refl refl
  where
    over : (xs ys : List Entry) → HaveSame xs ys → (n : ℕ) → lowest xs ≡ Some n → (m : ℕ) × (lowest ys ≡ Some m) × (m ≤ n)
    over xs ys is n e =
        let r = lowest_reached xs n e in
        let low = lowest_below ys r.0 ((is r.0).0 r.1) in
        (low.0, low.1, omega (arith, low.2, r.2))

    by : (a b : Option ℕ) → lowest es ≡ a → lowest fs ≡ b → lowest es ≡ lowest fs
    by None None e f = e ∙ sym f
    by None (Some n) e f = let low = over fs es (have_same es fs same) n f in absurd (none_is low.0 (sym e ∙ low.1))
    by (Some m) None e f = let low = over es fs same m e in absurd (none_is low.0 (sym f ∙ low.1))
    by (Some m) (Some n) e f =
        let one = over es fs same m e in
        let two = over fs es (have_same es fs same) n f in
        let first = same_Some n one.0 (sym f ∙ one.1) in
        let second = same_Some m two.0 (sym e ∙ two.1) in
        let both : m ≡ n = omega (arith, one.2, two.2, first, second) in
        e ∙ ap Some both ∙ sym f

-- and come to the same
combined_over : (c : Costs) (op : Operator) (ls rs ms ns : List Entry) → HaveSame ls ms → HaveSame rs ns → (e : Entry) → Among e (combined c op ls rs) → Among e (combined c op ms ns)
combined_over c op ls rs ms ns left right e at =
    let p = among_flattened (λ a. map (joined_entry c op a) rs) e ls at in
    let q = among_mapped (joined_entry c op p.0) e rs p.2 in
    among_flat (λ a. map (joined_entry c op a) ns) p.0 e ms ((left p.0).0 p.1) (subst (λ x. Among x (map (joined_entry c op p.0) ns)) q.2 (among_map (joined_entry c op p.0) q.0 ns ((right q.0).0 q.1)))

pub combined_same : (c : Costs) (op : Operator) (ls rs ms ns : List Entry) → HaveSame ls ms → HaveSame rs ns → HaveSame (combined c op ls rs) (combined c op ms ns)
combined_same c op ls rs ms ns left right = λ e. (combined_over c op ls rs ms ns left right e, combined_over c op ms ns ls rs (have_same ls ms left) (have_same rs ns right) e)

-- a shape of a table is within the bounds
pub shape_in : (w h : ℕ) (shape : TreeShape) → Among shape (shapes w h) → IsShapeIn w h shape
shape_in w h shape at =
    let tall = among_flattened (λ height. map (λ width. record { height = height; width = width }) (range_with_len 1 w)) shape (range_with_len 1 h) at in
    let wide = among_mapped (λ width. record { height = tall.0; width = width }) shape (range_with_len 1 w) tall.2 in
    let high = among_ranged tall.0 1 h tall.1 in
    let broad = among_ranged wide.0 1 w wide.1 in
    subst (IsShapeIn w h) wide.2 (record { tall = high.0; high = omega (arith, high.1); wide = broad.0; broad = omega (arith, broad.1) })
