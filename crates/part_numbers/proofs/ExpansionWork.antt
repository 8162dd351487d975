-- The steps of a walk over all paths by numbers: each keeps its bounds, and leaves less work.
use Rattle.std.proofs.Common.{◌≡◌, ℕ, zero, suc, ◌<◌, ◌≤◌, ◌+◌, ◌-◌, List, [], ◌∷◌, ◌++◌, reverse, length, drop, Option, Some, None, refl, ap, ◌∙◌, subst, arith}
use Rattle.std.specs.Prelude.{slice_get}
use Rattle.std.specs.List.{AllByRecursion, sum_by}
use Rattle.std.proofs.lemmas.List.{reverse-append}
use Rattle.std.proofs.lemmas.List.Sums.{sum_by-append, sum_by-cons}
use Rattle.dom_base.proofs.Lists.{AllByRecursion-append, AllByRecursion-left, AllByRecursion-right, Contains-slice_get, drop_next}
use Rattle.blif_ast.specs.BlifFileData.{BlifFileData}
use Rattle.blif_ast.specs.BlifModelData.{BlifModelData}
use Rattle.model_calls.specs.Expanded.{BodyCard}
use Rattle.model_calls.specs.declared.plan.CardAt.{CardAt}
use Rattle.model_calls.specs.declared.plan.CardAt.TheVariants.{Table, Latch as LatchAt, Instance}
use Rattle.part_numbers.specs.declared.walk.Frame.{Frame}
use Rattle.model_calls.specs.Plans.{AreCards, IsCardAt, plan_at}
use Rattle.part_numbers.specs.Expansions.{ExpansionData, AreFramesRanked, after_card, card_work, frame_work, further, stepped, pushed_frame, work, work_at, work_below}

-- lists

pub reverse_push : {X : Type 0} (xs : List X) (x : X) → reverse (xs ++ x ∷ []) ≡ x ∷ reverse xs
reverse_push xs x = reverse-append xs (x ∷ [])

-- a card of a plan and the card of the model at the same place
pub are_at : (f : BlifFileData) (m : BlifModelData) (ats : List CardAt) (cs : List BodyCard) (k : ℕ) (at : CardAt) → AreCards f m ats cs → slice_get ats k ≡ Some at
    → (c : BodyCard) × IsCardAt f m at c × (drop k cs ≡ c ∷ drop (k + 1) cs)
are_at f m [] [] k at h e = absurd cc
are_at f m [] (c ∷ cs) k at h e = absurd h
are_at f m (a ∷ ats) [] k at h e = absurd h
are_at f m (a ∷ ats) (c ∷ cs) zero at h e = let i : a ≡ at = cc in (c, subst (λ z. IsCardAt f m z c) i h.0, refl)
are_at f m (a ∷ ats) (c ∷ cs) (suc k) at h e = let r = are_at f m ats cs k at h.1 e in
    (r.0, r.1, r.2 ∙ ap (λ n. r.0 ∷ drop n (c ∷ cs)) (let z : suc (k + 1) ≡ suc k + 1 = omega arith in z))

pub are_past : (f : BlifFileData) (m : BlifModelData) (ats : List CardAt) (cs : List BodyCard) (k : ℕ) → AreCards f m ats cs → slice_get ats k ≡ None → drop k cs ≡ []
are_past f m [] [] zero h e = refl
are_past f m [] [] (suc k) h e = refl
are_past f m [] (c ∷ cs) k h e = absurd h
are_past f m (a ∷ ats) [] k h e = absurd h
are_past f m (a ∷ ats) (c ∷ cs) zero h e = absurd cc
are_past f m (a ∷ ats) (c ∷ cs) (suc k) h e = are_past f m ats cs k h.1 e

module _ (plans : List (List CardAt)) where
  abbrev IsLow : (ℕ → ℕ) → Frame → Type 0
  IsLow rank g = (g.model < length plans) × (rank g.model ≤ g.depth)

  -- under way

  low_rest : (e : ExpansionData) (g : Frame) (u : AreFramesRanked plans (pushed_frame e g)) → AllByRecursion (IsLow u.rank) e.frames
  low_rest e g u = AllByRecursion-left (IsLow u.rank) e.frames (g ∷ []) u.low

  low_top : (e : ExpansionData) (g : Frame) (u : AreFramesRanked plans (pushed_frame e g)) → IsLow u.rank g
  low_top e g u = (AllByRecursion-right (IsLow u.rank) e.frames (g ∷ []) u.low).0

  pub deep : (e : ExpansionData) (g : Frame) (at unit : ℕ) → AreFramesRanked plans (pushed_frame e g) → slice_get (plan_at plans g.model) g.next ≡ Some (Instance at unit) → 1 ≤ g.depth
  deep e g at unit u there = omega (arith, u.ranked.falls g.model at unit (Contains-slice_get (plan_at plans g.model) g.next (Instance at unit) there), (low_top e g u).1)

  low_further : (e : ExpansionData) (g : Frame) (u : AreFramesRanked plans (pushed_frame e g)) → AllByRecursion (IsLow u.rank) (e.frames ++ further g ∷ [])
  low_further e g u = AllByRecursion-append (IsLow u.rank) e.frames (further g ∷ []) (low_rest e g u) (low_top e g u, tt)

  pub still_under_way : (e : ExpansionData) (g : Frame) → AreFramesRanked plans (pushed_frame e g) → AreFramesRanked plans (stepped plans e g)
  still_under_way e g u = by (slice_get (plan_at plans g.model) g.next) refl
    where
      by : (card : Option CardAt) → slice_get (plan_at plans g.model) g.next ≡ card → AreFramesRanked plans (after_card e g card)
      by None there = record { rank = u.rank; ranked = u.ranked; low = low_rest e g u }
      by (Some (Table at)) there = record { rank = u.rank; ranked = u.ranked; low = low_further e g u }
      by (Some (LatchAt at)) there = record { rank = u.rank; ranked = u.ranked; low = low_further e g u }
      by (Some (Instance at unit)) there =
          let c = Contains-slice_get (plan_at plans g.model) g.next (Instance at unit) there in record {
            rank = u.rank;
            ranked = u.ranked;
            low = AllByRecursion-append (IsLow u.rank) (e.frames ++ further g ∷ []) (record { scope = length e.scopes; model = unit; next = 0; depth = g.depth - 1 } ∷ []) (low_further e g u)
                ((u.ranked.inside g.model at unit c, omega (arith, u.ranked.falls g.model at unit c, (low_top e g u).1)), tt);
          }

  -- work

  work_push : (fs : List Frame) (g : Frame) → sum_by (frame_work plans) (fs ++ g ∷ []) ≡ sum_by (frame_work plans) fs + frame_work plans g
  work_push fs g = sum_by-append (frame_work plans) fs (g ∷ []) ∙ ap (λ k. sum_by (frame_work plans) fs + k) (sum_by-cons (frame_work plans) g [] ∙ (let z : frame_work plans g + 0 ≡ frame_work plans g = omega arith in z))

  work_next : (g : Frame) (card : CardAt) → slice_get (plan_at plans g.model) g.next ≡ Some card
      → frame_work plans g ≡ card_work (work_below plans g.depth) card + frame_work plans (further g)
  work_next g card there = ap (λ l. sum_by (card_work (work_below plans g.depth)) l + 1) (drop_next (plan_at plans g.model) g.next card there)
      ∙ (let c = sum_by-cons (card_work (work_below plans g.depth)) card (drop (g.next + 1) (plan_at plans g.model)) in omega (arith, c))

  -- the work of a new frame is the work below the instance, and one more
  work_new : (scope unit depth : ℕ) → frame_work plans (record { scope = scope; model = unit; next = 0; depth = depth }) ≡ work_at plans depth unit + 1
  work_new scope unit zero = refl
  work_new scope unit (suc depth) = refl

  work_at_depth : (depth unit : ℕ) → 1 ≤ depth → work_below plans depth unit ≡ work_at plans (depth - 1) unit
  work_at_depth zero unit l = absurd (omega (arith, l))
  work_at_depth (suc depth) unit l = ap (λ d. work_at plans d unit) (let z : depth ≡ suc depth - 1 = omega arith in z)

  pub less_work : (e : ExpansionData) (g : Frame) → AreFramesRanked plans (pushed_frame e g) → work plans (stepped plans e g) < work plans (pushed_frame e g)
  less_work e g u = by (slice_get (plan_at plans g.model) g.next) refl
    where
      by : (card : Option CardAt) → slice_get (plan_at plans g.model) g.next ≡ card → work plans (after_card e g card) < work plans (pushed_frame e g)
      by None there = omega (arith, work_push e.frames g)
      by (Some (Table at)) there = omega (arith, work_push e.frames g, work_push e.frames (further g), work_next g (Table at) there)
      by (Some (LatchAt at)) there = omega (arith, work_push e.frames g, work_push e.frames (further g), work_next g (LatchAt at) there)
      by (Some (Instance at unit)) there = omega (
        arith,
        work_push e.frames g,
        work_push e.frames (further g),
        work_push (e.frames ++ further g ∷ []) (record { scope = length e.scopes; model = unit; next = 0; depth = g.depth - 1 }),
        work_next g (Instance at unit) there,
        work_new (length e.scopes) unit (g.depth - 1),
        work_at_depth g.depth unit (deep e g at unit u there),
      )
