-- The sums of a forest, as the row of one more pair is appended.
use Rattle.std.proofs.lemmas.Option.{same_Some, slice_get-get_or, slice_get_within}
use Rattle.std.proofs.lemmas.Bool.{cases_lt}
use Rattle.std.proofs.Math.Nat.{mul-le-mul_right}
use Rattle.std.proofs.Common.{◌≡◌, ◌↔◌, inl, inr, refl, sym, ap, subst, ◌∙◌, ℕ, zero, suc, ◌+◌, ◌*◌, ◌≤◌, ◌<◌, Bool, true, false, cond, ◌&&◌, List, [], ◌∷◌, ◌++◌, filter_map, length, map, get_or, option_map, Option, Some, None, slice_get, arith}
use Rattle.std.specs.List.{range_with_len}
use Rattle.std.proofs.lemmas.List.{length-map}
use Rattle.std.proofs.lemmas.List.FromFn.{length-range_with_len}
use Rattle.tree_map.specs.Plans.{is_free}
use Rattle.dom_base.proofs.Lists.{slice_get-behind, slice_get-left, slice_get-push}
use Rattle.dual_rail.specs.declared.forest.Arm.{Arm}
use Rattle.dual_rail.specs.declared.forest.Pair.{Pair}
use Rattle.dual_rail.specs.ForestData.{ForestData}
use Rattle.dual_rail.proofs.ForestOrders.{reads_later}
use Rattle.dual_rail.specs.ForestOrder.{AreInOrder, IsForest, ReadsBefore}
use Rattle.dual_rail.specs.Forests.{left_arm, right_arm}
use Rattle.gate_decompose.specs.Items.{Among}
use Rattle.cover_plan.specs.Covers.{Costs, is_parallel}
use Rattle.cover_plan.specs.CoverTables.{Entry, arm_entries, best, combined, joined_cost, lower_both, lowest, root_of, shapes, table, table_within}
use Rattle.cover_plan.specs.Parts.{CoverPart, Join, Operator, TreeShape}
use Rattle.tree_map.specs.CoverRows.{AreFewCosts, AreSmall, IsRow, IsShapeIn, cut_number, entry_of, row_index, sum_or_zero}
use Rattle.tree_map.specs.CoverSums.{AreCutsOf, AreLeastBefore, AreSumsOf, HasLeast, SumsData, above_zero, cut_at, has_shape, sum_at, sum_index, with_cut, with_row}
use Rattle.tree_map.specs.LeastPlans.{IsPartOf, operator_of}
use Rattle.tree_map.proofs.ArmEntries.{AreEntriesOf, HaveSame, best_same, combined_same, lowest_same, shape_in}
use Rattle.tree_map.proofs.HadShapes.{shape_had_in, sum_in}
use Rattle.cover_plan.proofs.Recurrence.{arm_reached, root_least, shape_some, table_least}
use Rattle.compound_plan.proofs.PlanParts.{arm_part}
use Rattle.tree_map.specs.declared.offers.Offer.{Offer}
use Rattle.tree_map.specs.Offers.{AreFreeOf, AreOffersFor}
use Rattle.tree_map.proofs.OfferedEntries.{offered_same}
use Rattle.tree_map.proofs.Rows.{index_in}
use Rattle.tree_map.proofs.SumBounds.{few_in_arm, some_sum}
use Rattle.tree_map.proofs.SumReads.{shape_had}
use Rattle.cover_plan.proofs.Tables.{among_shapes, among_table, best_reached, none_is, table_best}

-- the sums of a pair are these entries
abbrev pub AreSumsIn : SumsData → ℕ → List Entry → Type 0
AreSumsIn t place es = (e : Entry) → (sum_at t place e.shape ≡ Some e.sum) ↔ Among e es

-- where they are those of its table, and what it adds where it is cut is a leaf and the cost of its root, all are least
tabled_least : (t : SumsData) (place : ℕ) → 1 ≤ t.w → 1 ≤ t.h → (op : Operator) (l r : CoverPart) → AreSumsIn t place (table t.costs t.w t.h op l r)
    → cut_at t place ≡ option_map (λ n. 1 + n) (root_of t.costs t.w t.h op l r) → HasLeast t place (Join op l r)
tabled_least t place wide tall op l r sums cut = (
  (λ shape sum.
      let e : Entry = record { shape = shape; sum = sum } in
      let in_ = sums e in
      let least = table_least t.costs t.w t.h wide tall op l r e in
      (λ s. least.0 (in_.0 s), λ is. in_.1 (least.1 is))),
  (λ cost.
      let least = root_least t.costs t.w t.h wide tall op l r cost in
      (λ s. least.0 (one_less (root_of t.costs t.w t.h op l r) cost (sym cut ∙ s)), λ is. cut ∙ ap (option_map (λ n. 1 + n)) (least.1 is))),
)
  where
    one_less : (o : Option ℕ) (n : ℕ) → option_map (λ n. 1 + n) o ≡ Some (1 + n) → o ≡ Some n
    one_less None n e = absurd (none_is (1 + n) e)
    one_less (Some m) n e = let same = same_Some (1 + m) (1 + n) e in ap Some (omega (arith, same))

index_before : (other m k i : ℕ) → other < m → i < k → other * k + i < m * k
index_before other m k i lt low = let more = mul-le-mul_right {m = other + 1} {n = m} k (omega arith) in omega arith

module _ (t : SumsData) (row : List ℕ) (m : ℕ) (count : length t.sums ≡ m * (t.w * t.h)) where
  sum_before : (other : ℕ) → other < m → (shape : TreeShape) → sum_at (with_row t row) other shape ≡ sum_at t other shape
  sum_before other lt shape = by (has_shape t shape) refl
    where
      by : (b : Bool) → has_shape t shape ≡ b
          → cond b (above_zero (slice_get (t.sums ++ row) (sum_index t other shape))) None ≡ cond b (above_zero (slice_get t.sums (sum_index t other shape))) None
      by false had = refl
      by true had = ap above_zero (slice_get-left t.sums row (sum_index t other shape) (rw count (index_before other m (t.w * t.h) (row_index t.w shape) lt (index_in t.w t.h shape (shape_had_in t shape had)))))

  there_or_not : (o : Option ℕ) → ((n : ℕ) → o ≡ Some n → 1 ≤ n) → above_zero (Some (sum_or_zero o)) ≡ o
  there_or_not None some = refl
  there_or_not (Some zero) some = absurd (let one = some zero refl in omega arith)
  there_or_not (Some (suc n)) some = refl

  sum_new : (es : List Entry) → IsRow t.w t.h es row → (shape : TreeShape) → IsShapeIn t.w t.h shape → sum_at (with_row t row) m shape ≡ best es shape
  sum_new es is shape in_ =
      rw (shape_had t shape in_.tall in_.high in_.wide in_.broad)
      (ap above_zero (ap (λ n. slice_get (t.sums ++ row) (n + row_index t.w shape)) (sym count) ∙ slice_get-behind t.sums row (row_index t.w shape) ∙ is.each shape in_)
      ∙ there_or_not (best es shape) (λ n e. let r = best_reached es shape n e in subst (λ s. 1 ≤ s) r.3 (is.some r.0 r.1)))

  -- the new sums are those of any entries that have the same least sums
  pub new_row : (es fs : List Entry) → IsRow t.w t.h es row → ((shape : TreeShape) → best es shape ≡ best fs shape) → AreSumsIn (with_row t row) m (table_within t.w t.h fs)
  new_row es fs is same e = (there, back)
    where
      there : sum_at (with_row t row) m e.shape ≡ Some e.sum → Among e (table_within t.w t.h fs)
      there at =
          let in_ = sum_in (with_row t row) m e.shape e.sum at in
          among_table t.w t.h fs e
          (among_shapes t.w t.h e.shape in_.tall in_.wide (in_.broad, in_.high))
          (sym (same e.shape) ∙ sym (sum_new es is e.shape in_) ∙ at)

      back : Among e (table_within t.w t.h fs) → sum_at (with_row t row) m e.shape ≡ Some e.sum
      back at =
          let b = table_best t.w t.h fs e at in
          sum_new es is e.shape (shape_in t.w t.h e.shape b.0) ∙ same e.shape ∙ b.1

-- entries that have the same come to the same root
cut_same : (c : Costs) (w h : ℕ) (op : Operator) (ls rs ms ns : List Entry) → HaveSame ls ms → HaveSame rs ns → cut_number c w h op ls rs ≡ cut_number c w h op ms ns
cut_same c w h op ls rs ms ns left right =
    let best_is = best_same (combined c op ls rs) (combined c op ms ns) (combined_same c op ls rs ms ns left right) in
    let low = lowest_same ls ms left in
    let high = lowest_same rs ns right in
    λ i. sum_or_zero (option_map (λ n. 1 + n) (lower_both
    (option_map (λ n. n + c.simple) (lowest (filter_map (λ shape. option_map (λ sum. record { shape = shape; sum = sum }) (best_is shape i)) (shapes w h))))
    (cond (c.splits && is_parallel op) (joined_cost c.compound (low i) (high i)) None)))

read_cut : (o : Option ℕ) → above_zero (Some (sum_or_zero (option_map (λ n. 1 + n) o))) ≡ option_map (λ n. 1 + n) o
read_cut None = refl
read_cut (Some n) = let more : 1 + n ≡ suc n = omega arith in rw more refl

module _ (t : SumsData) (row : List ℕ) (cut m : ℕ) (count : length t.sums ≡ m * (t.w * t.h)) (cuts : length t.cuts ≡ m) where
  cut_before : (other : ℕ) → other < m → cut_at (with_cut (with_row t row) cut) other ≡ cut_at t other
  cut_before other lt = ap above_zero (slice_get-left t.cuts (cut ∷ []) other (omega (arith, lt, cuts)))

  cut_new : cut_at (with_cut (with_row t row) cut) m ≡ above_zero (Some cut)
  cut_new = ap above_zero (ap (slice_get (t.cuts ++ cut ∷ [])) (sym cuts) ∙ slice_get-push t.cuts cut)

  pub least_more : (forest : ForestData) (pair : Pair) (ls rs : List Entry) → 1 ≤ t.w → 1 ≤ t.h → AreLeastBefore forest m t → slice_get forest.pairs m ≡ Some pair
      → AreEntriesOf t.costs forest t.w t.h (left_arm pair) ls → AreEntriesOf t.costs forest t.w t.h (right_arm pair) rs
      → IsRow t.w t.h (combined t.costs (operator_of pair) ls rs) row → cut ≡ cut_number t.costs t.w t.h (operator_of pair) ls rs
      → AreLeastBefore forest (m + 1) (with_cut (with_row t row) cut)
  least_more forest pair ls rs wide tall least here left right is cut_is other x l r lt at dl dr = elim (cases_lt other m) [
    | inl before ↦
        (let old = least other x l r before at dl dr in (
          λ shape sum. let same = sum_before t row m count other before shape in (λ s. (old.0 shape sum).0 (sym same ∙ s), λ k. same ∙ (old.0 shape sum).1 k),
          λ cost. let same = cut_before other before in (λ s. (old.1 cost).0 (sym same ∙ s), λ k. same ∙ (old.1 cost).1 k),
        ))
    | inr past ↦
        (let last : other ≡ m = omega (arith, lt, past) in
        let pair_is : x ≡ pair = same_Some x pair (sym at ∙ ap (slice_get forest.pairs) last ∙ here) in
        let same_left = left l (subst (λ p. IsPartOf forest (left_arm p) l) pair_is dl) in
        let same_right = right r (subst (λ p. IsPartOf forest (right_arm p) r) pair_is dr) in
        subst (λ p. HasLeast (with_cut (with_row t row) cut) p (Join (operator_of x) l r)) (sym last)
        (subst (λ op. HasLeast (with_cut (with_row t row) cut) m (Join op l r)) (sym (ap operator_of pair_is)) (own l r same_left same_right)))
  ]
    where
      own : (l r : CoverPart) → HaveSame ls (arm_entries t.costs t.w t.h l) → HaveSame rs (arm_entries t.costs t.w t.h r) → HasLeast (with_cut (with_row t row) cut) m (Join (operator_of pair) l r)
      own l r same_left same_right =
          let ms = arm_entries t.costs t.w t.h l in
          let ns = arm_entries t.costs t.w t.h r in
          tabled_least (with_cut (with_row t row) cut) m wide tall (operator_of pair) l r
          (new_row t row m count (combined t.costs (operator_of pair) ls rs) (combined t.costs (operator_of pair) ms ns) is
          (best_same (combined t.costs (operator_of pair) ls rs) (combined t.costs (operator_of pair) ms ns) (combined_same t.costs (operator_of pair) ls rs ms ns same_left same_right)))
          (cut_new ∙ ap (λ n. above_zero (Some n)) (cut_is ∙ cut_same t.costs t.w t.h (operator_of pair) ls rs ms ns same_left same_right) ∙ read_cut (root_of t.costs t.w t.h (operator_of pair) l r))

module _ (forest : ForestData) (order : AreInOrder forest.pairs) where
  part_there : (m : ℕ) (arm : Arm) → ReadsBefore m arm → m ≤ length forest.pairs → (part : CoverPart) × IsPartOf forest arm part
  part_there m arm before le = arm_part forest order m arm before le

  -- what is read is small
  pub entries_small : (c : Costs) → AreFewCosts c → (m w h : ℕ) (arm : Arm) (es : List Entry) → 1 ≤ w → 1 ≤ h → w ≤ 8 → h ≤ 6 → length forest.pairs ≤ 800000 → m ≤ length forest.pairs → ReadsBefore m arm
      → AreEntriesOf c forest w h arm es → AreSmall es
  entries_small c costs m w h arm es wide tall broad high few le before are e at =
      let p = part_there m arm before le in
      let r = arm_reached c w h wide tall p.0 e ((are p.0 p.1 e).0 at) in
      let some = shape_some p.0 r.0 in
      let one = some_sum c p.0 r.0 in
      let most = few_in_arm c costs forest order w h p.1 r.0 r.1 in
      let rise = ap (λ (s : TreeShape). s.height) r.2 in
      let run = ap (λ (s : TreeShape). s.width) r.2 in
      record {
        tall = omega (arith, some.0, rise);
        high = omega (arith, (r.3).1, high);
        wide = omega (arith, some.1, run);
        broad = omega (arith, (r.3).0, broad);
        some = omega (arith, one, r.4);
        few = omega (arith, most, r.4, few);
      }

-- the sums of all pairs are the least, and so is what they add where they are cut
pub all_least : (forest : ForestData) (t : SumsData) → AreLeastBefore forest (length forest.pairs) t → AreSumsOf forest t × AreCutsOf forest t
all_least forest t least = (
  (λ place pair l r at dl dr. (least place pair l r (slice_get_within forest.pairs place pair at) at dl dr).0),
  (λ place pair l r at dl dr. (least place pair l r (slice_get_within forest.pairs place pair at) at dl dr).1),
)

pub none_least : (forest : ForestData) (t : SumsData) → AreLeastBefore forest 0 t
none_least forest t other pair l r lt = absurd (omega arith)

-- the row of a pair at the costs and the bounds of the sums
pub row_at : (c : Costs) (t : SumsData) (w h : ℕ) (op : Operator) (ls rs ms ns : List Entry) (row : List ℕ) → t.costs ≡ c → t.w ≡ w → t.h ≡ h → ls ≡ ms → rs ≡ ns
    → IsRow w h (combined c op ls rs) row → IsRow t.w t.h (combined t.costs op ms ns) row
row_at c t w h op ls rs ms ns row costs wide tall left right is =
    rw (wide, tall, costs) (subst (λ xs. IsRow w h (combined c op xs ns) row) left (subst (λ xs. IsRow w h (combined c op ls xs) row) right is))

-- a turn of the loop over the pairs: the pair at this place and its arms, over the sums of the pairs before it
pub record IsTurn (forest : ForestData) (w h m : ℕ) (t : SumsData) (arms : Arm × Arm) (pair : Pair) : Type 0 where
  pub is : IsForest forest
  pub wide : 2 ≤ w
  pub broad : w ≤ 8
  pub tall : 2 ≤ h
  pub high : h ≤ 6
  pub width : t.w ≡ w
  pub height : t.h ≡ h
  pub here : slice_get forest.pairs m ≡ Some pair
  pub left : arms.0 ≡ left_arm pair
  pub right : arms.1 ≡ right_arm pair
  pub least : AreLeastBefore forest m t

pub turn_of : (forest : ForestData) (items : List Pair) (d : Pair) (w h m : ℕ) (t : SumsData) (arms : Arm × Arm) → IsForest forest → items ≡ forest.pairs → m < length items
    → (2 ≤ w) × (w ≤ 8) → (2 ≤ h) × (h ≤ 6) → t.w ≡ w → t.h ≡ h → AreLeastBefore forest m t → arms.0 ≡ left_arm (get_or items m d) → arms.1 ≡ right_arm (get_or items m d)
    → IsTurn forest w h m t arms (get_or items m d)
turn_of forest items d w h m t arms is same lt width height t_w t_h least left right = record {
  is = is;
  wide = width.0;
  broad = width.1;
  tall = height.0;
  high = height.1;
  width = t_w;
  height = t_h;
  here = subst (λ xs. slice_get xs m ≡ Some (get_or items m d)) same (slice_get-get_or items m d lt);
  left = left;
  right = right;
  least = least;
}

module _ (forest : ForestData) (w h m : ℕ) (t : SumsData) (arms : Arm × Arm) (pair : Pair) (turn : IsTurn forest w h m t arms pair) where
  within : m < length forest.pairs
  within = slice_get_within forest.pairs m pair turn.here

  order : AreInOrder forest.pairs
  order = turn.is.in_place.in_order

  few : length forest.pairs ≤ 800000
  few = turn.is.few_pairs

  reads : ReadsBefore m (arms.0) × ReadsBefore m (arms.1)
  reads =
      let x = turn.is.in_place.in_order m pair turn.here in
      (subst (ReadsBefore m) (sym turn.left) x.0, subst (ReadsBefore m) (sym turn.right) x.1)

  later : (free : List Bool) → AreFreeOf forest free → (arm : Arm) → ReadsBefore m arm → ReadsBefore (length free) arm
  later free are arm before =
      let n = length forest.pairs in
      let count : length free ≡ n = ap length are ∙ length-map (range_with_len 0 n) (is_free forest) ∙ length-range_with_len 0 n in
      reads_later m (length free) arm before (omega (arith, count, within))

  pub turn_there : (free : List Bool) → AreFreeOf forest free → ReadsBefore (length free) (arms.0) × ReadsBefore (length free) (arms.1)
  turn_there free are = (later free are (arms.0) reads.0, later free are (arms.1) reads.1)

  wide_t : 1 ≤ t.w
  wide_t = omega (arith, turn.wide, turn.width)

  tall_t : 1 ≤ t.h
  tall_t = omega (arith, turn.tall, turn.height)

  module _ (free : List Bool) (are : AreFreeOf forest free) (lefts rights : List Offer) (for_left : AreOffersFor t free (arms.0) lefts) (for_right : AreOffersFor t free (arms.1) rights) where
    -- what is offered for its arms are their entries
    left_entries : AreEntriesOf t.costs forest t.w t.h (arms.0) (map entry_of lefts)
    left_entries part is = offered_same t.costs t.w t.h wide_t tall_t part lefts (for_left forest m part are reads.0 turn.least is)

    right_entries : AreEntriesOf t.costs forest t.w t.h (arms.1) (map entry_of rights)
    right_entries part is = offered_same t.costs t.w t.h wide_t tall_t part rights (for_right forest m part are reads.1 turn.least is)

    pub turn_small : AreFewCosts t.costs → AreSmall (map entry_of lefts) × AreSmall (map entry_of rights)
    turn_small costs =
        let inside = within in
        let le : m ≤ length forest.pairs = omega (arith, inside) in
        let broad : t.w ≤ 8 = omega (arith, turn.broad, turn.width) in
        let high : t.h ≤ 6 = omega (arith, turn.high, turn.height) in (
          entries_small forest order t.costs costs m t.w t.h (arms.0) (map entry_of lefts) wide_t tall_t broad high few le reads.0 left_entries,
          entries_small forest order t.costs costs m t.w t.h (arms.1) (map entry_of rights) wide_t tall_t broad high few le reads.1 right_entries,
        )

    pub turn_least : (row : List ℕ) → length t.sums ≡ m * (t.w * t.h) → length t.cuts ≡ m → IsRow t.w t.h (combined t.costs (operator_of pair) (map entry_of lefts) (map entry_of rights)) row
        → AreLeastBefore forest (m + 1) (with_cut (with_row t row) (cut_number t.costs t.w t.h (operator_of pair) (map entry_of lefts) (map entry_of rights)))
    turn_least row count cuts is =
        least_more t row (cut_number t.costs t.w t.h (operator_of pair) (map entry_of lefts) (map entry_of rights)) m count cuts forest pair (map entry_of lefts) (map entry_of rights) wide_t tall_t
        turn.least turn.here (subst (λ a. AreEntriesOf t.costs forest t.w t.h a (map entry_of lefts)) turn.left left_entries)
        (subst (λ a. AreEntriesOf t.costs forest t.w t.h a (map entry_of rights)) turn.right right_entries) is refl
