use Rattle.std.proofs.Common.{◌≡◌, ◌<◌, ◌≤◌, ◌+◌, List, length, set, ap, sym, ◌∙◌, subst, arith, rules, ℕ, Bool}
use Rattle.std.specs.Prelude.{slice_get, slice_index_or, Some, true, false}
use Rattle.std.proofs.lemmas.Option.{slice_get-get_or, slice_get_within}
use Rattle.std.proofs.lemmas.Bool.{true≢false}
use Rattle.net_flatten.specs.LevelSteps.{AreLevelsSoFar}
use Rattle.net_flatten.proofs.LevelSteps.{level_worked_out, levels_at_other, levels_at_table, next_low}
use Rattle.net_flatten.proofs.levelling.set_levels.Goals as goal
use Rattle.net_flatten.proofs.levelling.set_levels.Goals.{then-contains, else-contains}

unmarked : (marks : List Bool) (b : ℕ) → slice_get marks b ≡ Some false → slice_get marks b ≡ Some true → ⊥
unmarked marks b off on = let d : Some false ≡ Some true = sym off ∙ on in let e : false ≡ true = cc in true≢false (sym e)

past : (marks : List Bool) (b n : ℕ) → length marks ≡ n → n ≤ b → slice_get marks b ≡ Some true → ⊥
past marks b n e l marked = omega (arith, e, l, slice_get_within marks b true marked)

pub overflow_add-level : goal.overflow_add-level
overflow_add-level c =
    let b : ℕ = slice_index_or c.args.order.now c.loop-index.index 0 in
    let within : b < length c.args.nodes.now = omega arith in
    let level = level_worked_out c.args.nodes.now b c.loop-index.levels.items c.as_slice.result.now c.next.result.now c.index-nodes-number.result c.greatest-level.result
    c.as_slice.ensures.value (c.next.ensures) within c.index-nodes-number.is c.greatest-level.ensures in
    let low = next_low c.args.nodes.now c.args.order.now c.args.tables.now (length c.args.nodes.now) c.loop-index.index c.loop-index.levels.items c.loop-index.invariant b in
    let small : 1 + c.greatest-level.result ≤ c.loop-index.index + 1 = omega (arith, level, low) in
    search (rules, small)

pub loop-index-preserved : goal.loop-index-preserved
loop-index-preserved c =
    let b : ℕ = slice_index_or c.args.order.now c.loop-index.index 0 in
    let at : slice_get c.args.order.now c.loop-index.index ≡ Some b = slice_get-get_or c.args.order.now c.loop-index.index 0 c.loop-index-test.true in
    let within : b < length c.args.nodes.now = omega arith in
    elim c.if-contains.branch [
      | then-contains w ↦
          subst (AreLevelsSoFar c.args.nodes.now c.args.order.now c.args.tables.now (length c.args.nodes.now) (c.loop-index.index + 1))
          (ap (set c.loop-index.levels.items b) (sym (level_worked_out c.args.nodes.now b c.loop-index.levels.items w.as_slice.result.now w.next.result.now w.index-nodes-number.result w.greatest-level.result
          w.as_slice.ensures.value (w.next.ensures) within w.index-nodes-number.is w.greatest-level.ensures)) ∙ ap (λ v. v.items) (sym w.levels-is))
          (levels_at_table c.args.nodes.now c.args.order.now c.args.tables.now (length c.args.nodes.now) c.loop-index.index c.loop-index.levels.items c.loop-index.invariant b at c.requires.order within w.if-contains.ensures)
      | else-contains w ↦
          subst (AreLevelsSoFar c.args.nodes.now c.args.order.now c.args.tables.now (length c.args.nodes.now) (c.loop-index.index + 1)) (ap (λ v. v.items) (sym w.levels-is))
          (levels_at_other c.args.nodes.now c.args.order.now c.args.tables.now (length c.args.nodes.now) c.loop-index.index c.loop-index.levels.items c.loop-index.invariant b at (unmarked c.args.tables.now b (w.if-contains.ensures {u = tt})))
    ]

pub loop-index-preserved-then-number-nodes : goal.loop-index-preserved-then-number-nodes
loop-index-preserved-then-number-nodes c =
    let b : ℕ = slice_index_or c.args.order.now c.loop-index.index 0 in
    let at : slice_get c.args.order.now c.loop-index.index ≡ Some b = slice_get-get_or c.args.order.now c.loop-index.index 0 c.loop-index-test.true in
    let over : length c.args.nodes.now ≤ b = omega arith in
    levels_at_other c.args.nodes.now c.args.order.now c.args.tables.now (length c.args.nodes.now) c.loop-index.index c.loop-index.levels.items c.loop-index.invariant b at
    (past c.args.tables.now b (length c.args.nodes.now) c.requires.tables over)
