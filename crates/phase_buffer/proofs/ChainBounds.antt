-- The cells of a deck before it has buffers: their clocks, the lengths of their chains, and their new places.
use Rattle.std.specs.Prelude.{if◌then◌else◌, slice_get}
use Rattle.std.specs.List.{range_with_len}
use Rattle.std.proofs.Common.{Bool, List, Some, [], add-one, ap, arith, false, get_or, length, map, option_map, refl, subst, suc, sym, true, zero, zero-add, ℕ, ◌*◌, ◌++◌, ◌+◌, ◌-◌, ◌<◌, ◌^◌, ◌∙◌, ◌∷◌, ◌≡◌, ◌≤◌}
use Rattle.std.proofs.lemmas.Bool.{le-ltb}
use Rattle.std.proofs.lemmas.List.FromFn.{get_or-map-range_with_len, length-map-range_with_len, map-range_with_len_more}
use Rattle.std.proofs.lemmas.Option.{slice_get-get_or, slice_get-map}
use Rattle.sp_network.specs.declared.plan.GatePlan.{GatePlan}
use Rattle.sp_network.specs.Tree.{EachLeaf}
use Rattle.sp_network.specs.TypedTree.{tree_of}
use Rattle.clock_phase.specs.Levels.{greatest}
use Rattle.clock_phase.specs.Plans.{CellPlan, cell_plan}
use Rattle.clock_phase.proofs.Greatest.{each_leaf_weaker}
use Rattle.clock_phase.proofs.PlanTrees.{tree_at}
use Rattle.phase_buffer.specs.BufferedPlans.{HaveClocksUpTo, is_among, new_gate}
use Rattle.phase_buffer.specs.Chains.{chain_last, chain_length, clock_at, place, reader_clocks}
use Rattle.phase_buffer.specs.Unbuffered.{IsChainable, old_cells, old_numbers}
use Rattle.phase_buffer.specs.declared.unbuffered.Unbuffered.{Unbuffered}
use Rattle.phase_buffer.proofs.BufferedCells.{readers_below}

-- the gate of a cell stands behind the rails
pub new_gate_behind : (leaves : ℕ) (number : ℕ → ℕ) (gate : ℕ) → 2 * leaves ≤ gate → new_gate leaves number gate
    ≡ 2 * leaves + number (gate - 2 * leaves)
new_gate_behind leaves number gate l = rw (le-ltb gate (2 * leaves) l) refl

-- the clock of each cell of plans
pub clocks_between : (n : ℕ) (plans : List GatePlan) → HaveClocksUpTo n plans
    → (k : ℕ) (c : CellPlan) → slice_get (map cell_plan plans) k ≡ Some c → (1 ≤ c.clock) × (c.clock ≤ n)
clocks_between n [] all k c e = absurd (cc)
clocks_between n (p ∷ plans) all zero c e = let z : cell_plan p ≡ c = cc in
    subst (λ (x : CellPlan). (1 ≤ x.clock) × (x.clock ≤ n)) z (all 0 p (omega arith))
clocks_between n (p ∷ plans) all (suc k) c e = clocks_between n plans (λ i d l. all (suc i) d (omega arith)) k c e

-- one more entry of a list that has one for each number
pub one_more : (f : ℕ → ℕ) (k : ℕ) (xs ys : List ℕ) (n : ℕ) → xs ≡ map f (range_with_len 0 k) → ys ≡ xs ++ n ∷ [] → n ≡ f k → ys
    ≡ map f (range_with_len 0 (k + 1))
one_more f k xs ys n are more is =
    more ∙ ap (λ front. front ++ n ∷ []) are ∙ ap (λ m. map f (range_with_len 0 k) ++ m ∷ []) is
    ∙ sym (map-range_with_len_more f 0 k k (zero-add k))

some_plan : (plans : List GatePlan) → 0 < length plans → GatePlan
some_plan [] l = absurd (omega arith)
some_plan (p ∷ plans) l = p

module _ (u : Unbuffered) where
  abbrev pub count : ℕ
  count = length u.plans.now

  -- what stands for each cell in a list
  pub one_for_each : (f : ℕ → ℕ) (xs : List ℕ) → xs ≡ map f (old_numbers u) → length xs ≡ count
  one_for_each f xs e = ap length e ∙ length-map-range_with_len f 0 count

  pub one_at : (f : ℕ → ℕ) (xs : List ℕ) (k : ℕ) → xs ≡ map f (old_numbers u) → k < count → get_or xs k 0 ≡ f k
  one_at f xs k e l = ap (λ list. get_or list k 0) e ∙ get_or-map-range_with_len f 0 count k k 0 l (zero-add k)

  pub cell_at : (k : ℕ) (p : GatePlan) → k < count → slice_get (map cell_plan u.plans.now) k ≡ Some (cell_plan (get_or u.plans.now k p))
  cell_at k p l = slice_get-map cell_plan u.plans.now k ∙ ap (option_map cell_plan) (slice_get-get_or u.plans.now k p l)

  pub clock_is : (k : ℕ) (p : GatePlan) → k < count → clock_at (old_cells u) (slice_get (map cell_plan u.plans.now) k)
      ≡ (get_or u.plans.now k p).clock
  clock_is k p l = ap (clock_at (old_cells u)) (cell_at k p l)

  pub chain_is : (k : ℕ) (p : GatePlan) → k < count → chain_length (old_cells u) k
      ≡ chain_last (old_cells u) k - (get_or u.plans.now k p).clock
  chain_is k p l = ap (λ n. chain_last (old_cells u) k - n) (clock_is k p l)

  pub place_more : (k : ℕ) → place (old_cells u) (k + 1) ≡ place (old_cells u) k + 1 + chain_length (old_cells u) k
  place_more k = ap (place (old_cells u)) (add-one k)

  -- the trees of the plans read earlier cells
  pub reads_cells : IsChainable u → (k : ℕ) (p : GatePlan) → k < count
      → EachLeaf (λ gate. gate < 2 * u.leaves + count) (tree_of (get_or u.plans.now k p).tree)
  reads_cells may k p l =
      each_leaf_weaker (λ gate. gate < 2 * u.leaves + k) (λ gate. gate < 2 * u.leaves + count) (λ gate m. omega (arith, l, m))
      (tree_of (get_or u.plans.now k p).tree)
      (may.earlier k (tree_of (get_or u.plans.now k p).tree) (tree_at u.plans.now k p l))

  module _ (may : IsChainable u) where
    last_within : (k : ℕ) → chain_last (old_cells u) k ≤ u.phases
    last_within k = go (is_among k u.sinks.now) refl
      where
        all : greatest (reader_clocks (old_cells u) k (old_cells u).cells) ≤ u.phases
        all = readers_below (old_cells u) k u.phases (old_cells u).cells (λ j c e. (clocks_between u.phases u.plans.now may.clocks j c e).1)

        go : (b : Bool) → is_among k u.sinks.now ≡ b
            → (if is_among k u.sinks.now then u.phases else greatest (reader_clocks (old_cells u) k (old_cells u).cells) - 1) ≤ u.phases
        go true e = rw e (omega arith)
        go false e = rw e (omega (arith, all))

    pub clock_from_one : (k : ℕ) (p : GatePlan) → k < count → 1 ≤ (get_or u.plans.now k p).clock
    clock_from_one k p l = (may.clocks k p l).0

    pub clock_within : (k : ℕ) (p : GatePlan) → k < count → (get_or u.plans.now k p).clock ≤ 4
    clock_within k p l = omega (arith, may.few_phases, (may.clocks k p l).1)

    -- a chain ends by the fourth clock
    pub chain_within : (k : ℕ) (p : GatePlan) → k < count → (get_or u.plans.now k p).clock + chain_length (old_cells u) k ≤ 4
    chain_within k p l =
        subst (λ n. (get_or u.plans.now k p).clock + n ≤ 4) (sym (chain_is k p l))
        (sum (get_or u.plans.now k p).clock (chain_last (old_cells u) k) (clock_within k p l)
        (omega (arith, may.few_phases, last_within k)))
      where
        sum : (c n : ℕ) → c ≤ 4 → n ≤ 4 → c + (n - c) ≤ 4
        sum c n a b = omega arith

    -- and has at most three buffers
    pub chain_short : (k : ℕ) → k < count → chain_length (old_cells u) k ≤ 3
    chain_short k l = let p = some_plan u.plans.now (omega arith) in sum (get_or u.plans.now k p).clock (chain_length (old_cells u) k)
        (clock_from_one k p l) (chain_within k p l)
      where
        sum : (c n : ℕ) → 1 ≤ c → c + n ≤ 4 → n ≤ 3
        sum c n a b = omega arith

    place_within : (k : ℕ) → k ≤ count → place (old_cells u) k ≤ 4 * k
    place_within zero l = omega arith
    place_within (suc k) l =
        sum (place (old_cells u) k) (chain_length (old_cells u) k) k (place_within k (omega arith)) (chain_short k (omega arith))
      where
        sum : (a n k : ℕ) → a ≤ 4 * k → n ≤ 3 → a + 1 + n ≤ 4 * suc k
        sum a n k x y = omega arith

    -- the gates of a cell and of three cells behind it have numbers
    pub gate_fits : (k n : ℕ) → k < count → n ≤ 3 → 2 * u.leaves + (place (old_cells u) k + n) + 1 < 2 ^ 32
    gate_fits k n l few = omega (arith, place_within k (omega arith), may.room, l, few)
