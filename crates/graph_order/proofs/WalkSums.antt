-- What each step of the sums over walks keeps.
use Rattle.std.proofs.Common.{◌≡◌, ℕ, zero, suc, ◌<◌, ◌≤◌, ◌+◌, ◌^◌, ◌⊎◌, inl, inr, min, List, [], ◌∷◌, length, set, take, Some, refl, ap, sym, ◌∙◌, arith}
use Rattle.std.specs.Prelude.{Contains, ◌≢◌, slice_get, slice_index_or}
use Rattle.std.specs.List.{sum_by}
use Rattle.std.proofs.lemmas.Bool.{cases_eq}
use Rattle.std.proofs.lemmas.List.{length-set}
use Rattle.std.proofs.lemmas.List.Elements.{All-contains}
use Rattle.std.proofs.lemmas.List.Sums.{sum_by-append, sum_by-cons}
use Rattle.std.proofs.lemmas.Option.{slice_get-get_or, slice_get_within}
use Rattle.dom_base.proofs.Lists.{AllByRecursion-contains, Contains-first, Contains-later}
use Rattle.graph_order.proofs.Lists.{get_set, take_get, take_next}
use Rattle.graph_order.specs.Orders.{IsGraph, IsOrder, successors}
use Rattle.graph_order.specs.WalkSums.{AreSumsTo, AreWalkSums, AreWeights, largest_u64, walk_sum}

-- sums of numbers that are cut off
cut_sum : (f g : ℕ → ℕ) (xs : List ℕ) → ((x : ℕ) → Contains xs x → f x ≡ min (g x) largest_u64) → min (sum_by f xs) largest_u64 ≡ min (sum_by g xs) largest_u64
cut_sum f g [] h = refl
cut_sum f g (x ∷ xs) h = omega (arith, sum_by-cons f x xs, sum_by-cons g x xs, h x (Contains-first x xs), cut_sum f g xs (λ y c. h y (Contains-later x xs y c)))

-- a loop that adds up has added nothing yet
pub total_begins : {X : Type 0} (f : X → ℕ) (xs : List X) {w : ℕ} → w < 2 ^ 64 → w ≡ min (w + sum_by f (take 0 xs)) largest_u64
total_begins {X} f xs {w} l = let z : sum_by f (take 0 xs) ≡ 0 = none xs in omega (arith, l, z)
  where
    none : (xs : List X) → sum_by f (take 0 xs) ≡ 0
    none [] = refl
    none (x ∷ xs) = refl

-- a loop that adds up has added one more
pub total_next : {X : Type 0} (f : X → ℕ) (xs : List X) (k w : ℕ) {x : X} {total : ℕ} → slice_get xs k ≡ Some x → total ≡ min (w + sum_by f (take k xs)) largest_u64
    → min (total + f x) largest_u64 ≡ min (w + sum_by f (take (k + 1) xs)) largest_u64
total_next f xs k w {x} {total} there is =
    let one : sum_by f (take (k + 1) xs) ≡ sum_by f (take k xs) + f x =
    ap (sum_by f) (take_next xs k x there) ∙ sum_by-append f (take k xs) (x ∷ [])
    ∙ (let z : sum_by f (take k xs) + sum_by f (x ∷ []) ≡ sum_by f (take k xs) + f x = omega (arith, sum_by-cons f x []) in z) in
    omega (arith, is, one)

module _ {nodes : List (List ℕ)} {weight : ℕ → ℕ} {order weights : List ℕ} (ordered : IsOrder nodes order) (weigh : AreWeights nodes weight weights) where
  module _ {done node : ℕ} {sums : List ℕ} (graph : IsGraph nodes) (there : slice_get order done ≡ Some node) (l : node < length nodes)
      (so_far : AreSumsTo nodes weight order done sums) where
    abbrev value : ℕ
    value = min (slice_index_or weights node 0 + sum_by (λ next. slice_index_or sums next 0) (successors nodes node)) largest_u64

    next_sum : (depth u : ℕ) → done ≤ depth → Contains (successors nodes node) u → slice_index_or sums u 0 ≡ min (walk_sum nodes weight depth u) largest_u64
    next_sum depth u low c =
        let before = AllByRecursion-contains (Contains (take done order)) (successors nodes node) u (ordered.earlier done node there) c in
        let g = take_get order done before.0 u (slice_get-get_or (take done order) before.0 u before.1 ∙ ap Some before.2) in
        let within = All-contains (λ n. n < length nodes) (successors nodes node) u (graph node [] l) c in
        so_far.sum before.0 u (slice_index_or sums u 0) depth g.0 g.1 (slice_get-get_or sums u 0 (omega (arith, within, so_far.count))) (omega (arith, g.0, low))

    value_is : (depth : ℕ) → done < depth → value ≡ min (walk_sum nodes weight depth node) largest_u64
    value_is zero low = absurd (omega (arith, low))
    value_is (suc depth) low =
        let w : slice_index_or weights node 0 ≡ min (weight node) largest_u64 = weigh.weigh node (slice_index_or weights node 0) (slice_get-get_or weights node 0 (omega (arith, l, weigh.count))) in
        let s = cut_sum (λ next. slice_index_or sums next 0) (walk_sum nodes weight depth) (successors nodes node) (λ u c. next_sum depth u (omega (arith, low)) c) in
        omega (arith, w, s)

    pub sums_next : AreSumsTo nodes weight order (done + 1) (set sums node value)
    sums_next = record { count = length-set sums node value ∙ so_far.count; sum = sum }
      where
        sum : (k n s depth : ℕ) → k < done + 1 → slice_get order k ≡ Some n → slice_get (set sums node value) n ≡ Some s → k < depth → s ≡ min (walk_sum nodes weight depth n) largest_u64
        sum k n s depth less at has low = elim (get_set sums node n value s has) [
          | inl h ↦ (
              let here : value ≡ min (walk_sum nodes weight depth node) largest_u64 = by h.0 (cases_eq k done) in
              sym h.1 ∙ here ∙ ap (λ x. min (walk_sum nodes weight depth x) largest_u64) (sym h.0)
              )
          | inr h ↦ elim (cases_eq k done) [
            | inl is ↦ absurd (h.0 (let e : Some n ≡ Some node = sym at ∙ ap (slice_get order) is ∙ there in cc))
            | inr apart ↦ so_far.sum k n s depth (omega (arith, less, apart)) at h.1 low
          ]
        ]
          where
            old : slice_get sums node ≡ Some (slice_index_or sums node 0)
            old = slice_get-get_or sums node 0 (omega (arith, l, so_far.count))

            by : n ≡ node → (k ≡ done) ⊎ (k ≢ done) → value ≡ min (walk_sum nodes weight depth node) largest_u64
            by e (inl is) = value_is depth (omega (arith, is, low))
            by e (inr apart) =
                let at' : slice_get order k ≡ Some node = at ∙ ap Some e in
                let less' : k < done = omega (arith, less, apart) in
                value_is (suc done) (omega arith)
                ∙ sym (so_far.sum k node (slice_index_or sums node 0) (suc done) less' at' old (omega (arith, less')))
                ∙ so_far.sum k node (slice_index_or sums node 0) depth less' at' old low

  -- no node was summed up, and all were
  pub sums_begin : {sums : List ℕ} → length sums ≡ length nodes → AreSumsTo nodes weight order 0 sums
  sums_begin same = record { count = same; sum = λ k n s depth l. absurd (omega (arith, l)) }

  pub sums_skip : {done node : ℕ} {sums : List ℕ} → slice_get order done ≡ Some node → length sums ≤ node → AreSumsTo nodes weight order done sums
      → AreSumsTo nodes weight order (done + 1) sums
  sums_skip {done} {node} {sums} there past so_far = record {
    count = so_far.count;
    sum = λ k n s depth less at has low. elim (cases_eq k done) [
      | inl is ↦ (
          let e : n ≡ node = (let z : Some n ≡ Some node = sym at ∙ ap (slice_get order) is ∙ there in cc) in
          absurd (omega (arith, past, e, slice_get_within sums n s has))
          )
      | inr apart ↦ so_far.sum k n s depth (omega (arith, less, apart)) at has low
    ];
  }

  pub sums_end : {done : ℕ} {sums : List ℕ} → length order ≤ done → AreSumsTo nodes weight order done sums → AreWalkSums nodes weight (length order) sums
  sums_end {done} {sums} whole so_far = record {
    count = so_far.count;
    sum = λ node s depth has low.
        let c = ordered.all node (omega (arith, slice_get_within sums node s has, so_far.count)) in
        so_far.sum c.0 node s depth (omega (arith, c.1, whole)) (slice_get-get_or order c.0 node c.1 ∙ ap Some c.2) has (omega (arith, c.1, low));
  }
