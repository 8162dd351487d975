-- The clocks of the last readers of cells, plan by plan and sink by sink.
use Rattle.std.specs.Prelude.{if◌then◌else◌}
use Rattle.std.proofs.Common.{Bool, List, [], ap, arith, false, get_or, length, map, max, refl, sym, take, true, ℕ, ◌++◌, ◌+◌, ◌-◌, ◌<◌, ◌∙◌, ◌∷◌, ◌≡◌, take-suc, add-one}
use Rattle.std.proofs.lemmas.List.{ext_get_or, map-append}
use Rattle.std.proofs.Math.Seq.{take-length}
use Rattle.sp_network.specs.TypedTree.{tree_of}
use Rattle.sp_network.specs.declared.plan.GatePlan.{GatePlan}
use Rattle.clock_phase.specs.Levels.{cells_read, greatest}
use Rattle.clock_phase.specs.Plans.{cell_plan}
use Rattle.phase_buffer.specs.BufferedPlans.{is_among}
use Rattle.phase_buffer.specs.Chains.{Cells, chain_last, reader_clocks}
use Rattle.phase_buffer.specs.Unbuffered.{AreRaised, old_cells, last_reader, old_numbers}
use Rattle.phase_buffer.specs.declared.unbuffered.Unbuffered.{Unbuffered}
use Rattle.phase_buffer.proofs.ChainBounds.{count, one_at, one_for_each}

-- the greatest clock with one more cell
greatest_readers : {Cell : Type 0} (d : Cells Cell) (k : ℕ) (cells : List Cell) (c : Cell)
    → greatest (reader_clocks d k (cells ++ c ∷ []))
    ≡ (if d.reads k c then max (greatest (reader_clocks d k cells)) (d.clock c) else greatest (reader_clocks d k cells))
greatest_readers d k [] c = go (d.reads k c) refl
  where
    go : (b : Bool) → d.reads k c ≡ b → greatest (if d.reads k c then d.clock c ∷ [] else [])
        ≡ (if d.reads k c then max 0 (d.clock c) else 0)
    go true e = rw e (omega arith)
    go false e = rw e refl
greatest_readers d k (x ∷ cells) c = go (d.reads k x) (d.reads k c) refl refl (greatest_readers d k cells c)
  where
    go : (a b : Bool) → d.reads k x ≡ a → d.reads k c ≡ b
        → greatest (reader_clocks d k (cells ++ c ∷ []))
        ≡ (if d.reads k c then max (greatest (reader_clocks d k cells)) (d.clock c) else greatest (reader_clocks d k cells))
        → greatest (reader_clocks d k (x ∷ cells ++ c ∷ []))
        ≡ (if d.reads k c then max (greatest (reader_clocks d k (x ∷ cells))) (d.clock c) else greatest (reader_clocks d k (x ∷ cells)))
    go true true ea eb h = rw (ea, eb) (let g = rw eb at h in omega arith)
    go true false ea eb h = rw (ea, eb) (let g = rw eb at h in omega arith)
    go false true ea eb h = rw (ea, eb) (rw eb at h)
    go false false ea eb h = rw (ea, eb) (rw eb at h)

module _ (u : Unbuffered) where
  -- the clocks of the last readers among the first so many plans
  pub record AreOfPlans (i : ℕ) (clocks : List ℕ) : Type 0 where
    pub one_each : length clocks ≡ count u
    pub clock_is : (k : ℕ) → k < count u → get_or clocks k 0 ≡ greatest (reader_clocks (old_cells u) k (map cell_plan (take i u.plans.now)))

  -- and among all plans and the first so many sinks
  pub record AreOfSinks (i : ℕ) (clocks : List ℕ) : Type 0 where
    pub one_each : length clocks ≡ count u
    pub clock_is : (k : ℕ) → k < count u
        → get_or clocks k 0 ≡ (if is_among k (take i u.sinks.now) then u.phases + 1 else greatest
        (reader_clocks (old_cells u) k (old_cells u).cells))

  cells_more : (i : ℕ) (p : GatePlan) → i < count u → map cell_plan (take (i + 1) u.plans.now) ≡ map cell_plan (take i u.plans.now)
      ++ cell_plan (get_or u.plans.now i p) ∷ []
  cells_more i p l = rw (add-one, take-suc u.plans.now i p l) (map-append cell_plan (take i u.plans.now) (get_or u.plans.now i p ∷ []))

  pub one_plan_more : (i : ℕ) (p : GatePlan) (old new : List ℕ) → i < count u → AreOfPlans i old
      → AreRaised (get_or u.plans.now i p).clock (cells_read u.leaves (tree_of (get_or u.plans.now i p).tree)) old new
      → AreOfPlans (i + 1) new
  one_plan_more i p old new l are raised = record {
    one_each = raised.one_each ∙ are.one_each;
    clock_is = λ k m.
        raised.raised k (omega (arith, m, are.one_each))
        ∙ ap (λ n. if is_among k (cells_read u.leaves (tree_of (get_or u.plans.now i p).tree)) then max n
        (get_or u.plans.now i p).clock else n) (are.clock_is k m)
        ∙ sym (greatest_readers (old_cells u) k (map cell_plan (take i u.plans.now)) (cell_plan (get_or u.plans.now i p)))
        ∙ ap (λ cells. greatest (reader_clocks (old_cells u) k cells)) (sym (cells_more i p l));
  }

  -- the clock of the last reader of a cell among the plans
  abbrev of_plans : ℕ → ℕ
  of_plans k = greatest (reader_clocks (old_cells u) k (old_cells u).cells)

  pub all_sinks : (clocks : List ℕ) → AreOfSinks (length u.sinks.now) clocks → clocks ≡ map (last_reader u) (old_numbers u)
  all_sinks clocks are =
      ext_get_or 0 clocks (map (last_reader u) (old_numbers u))
      (are.one_each ∙ sym (one_for_each u (last_reader u) (map (last_reader u) (old_numbers u)) refl))
      (λ k l. let m : k < count u = omega (arith, l, are.one_each) in
      are.clock_is k m ∙ ap (λ sinks. if is_among k sinks then u.phases + 1 else of_plans k) (take-length u.sinks.now)
      ∙ sym (one_at u (last_reader u) (map (last_reader u) (old_numbers u)) k refl m))

  -- the last clock of a chain is the one before its last reader's
  pub last_is : (k : ℕ) → last_reader u k - 1 ≡ chain_last (old_cells u) k
  last_is k = by (is_among k u.sinks.now) refl
    where
      by : (b : Bool) → is_among k u.sinks.now ≡ b → (if is_among k u.sinks.now then u.phases + 1 else of_plans k) - 1
          ≡ (if is_among k u.sinks.now then u.phases else of_plans k - 1)
      by true e = rw e (omega arith)
      by false e = rw e refl
