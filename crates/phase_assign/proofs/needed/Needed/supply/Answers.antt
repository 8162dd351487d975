-- A use more, and those of the arms of a pair that wasn't used before.
use Rattle.std.proofs.Common.{◌≡◌, ◌<◌, ◌∙◌, ◌+◌, ◌++◌, [], vec_len, length, length-append, drop, ap, sym, subst, arith, rules, None}
use Rattle.std.proofs.lemmas.List.{get_or_default}
use Rattle.phase_assign.specs.ArmsData.{ArmsData as Arms}
use Rattle.phase_assign.specs.Uses.{AreBelow, AreUses, asked_by_arms, asked_by_pair, living, used}
use Rattle.phase_assign.proofs.Totals.{below_append, below_item, below_more, queue_next, queue_pushed, times_next, times_pushed}
use Rattle.phase_assign.proofs.UseSteps.{add_first, add_later, room_for}
use Rattle.phase_assign.proofs.needed.Needed.supply.Goals as goal

pub uses-preserved : goal.uses-preserved
uses-preserved c =
    let len : vec_len c.uses.work ≡ length c.uses.work.items = search rules in
    let lt : c.uses.done < length c.uses.work.items = omega (arith, c.uses-test.true, c.len.ensures) in
    record {
      within = omega arith;
      count = c.add.ensures.count ∙ c.uses.invariant.count;
      size = c.add.ensures.size ∙ ap (λ n. living (used c.add.new.self.uses.items) n) c.uses.invariant.count;
      below = c.uses.invariant.below;
      uses = λ roots u.
          add_later c.index-pair.result.now (used c.uses.self.uses.items) (used c.add.new.self.uses.items) (λ n s. sym (c.add.ensures.uses n s)) c.args.arms.now roots (drop (c.uses.done + 1) c.uses.work.items)
          (c.add.ensures.later c.if-add.false).0
          (subst (λ ws. AreUses c.args.arms.now (used c.uses.self.uses.items) roots ws []) (queue_next c.uses.work.items c.uses.done c.index-pair.result.now lt c.index-pair.ensures) (c.uses.invariant.uses roots u));
      come = λ n s.
          let t = times_next n s c.uses.work.items c.uses.done c.index-pair.result.now lt c.index-pair.ensures in
          let g = c.uses.invariant.come n s in
          let k = c.add.ensures.uses n s in
          omega arith;
    }

pub uses-preserved-in-Continue-1 : goal.uses-preserved-in-Continue-1
uses-preserved-in-Continue-1 c =
    let len : vec_len c.uses.work ≡ length c.uses.work.items = search rules in
    let lt : c.uses.done < length c.uses.work.items = omega (arith, c.uses-test.true, c.len.ensures) in
    let there : c.index-pair.result.now.node < length c.args.arms.now = below_item (length c.args.arms.now) c.uses.work.items c.uses.done c.index-pair.result.now c.uses.invariant.below lt c.index-pair.ensures in
    let own = c.index-arms-pair.is ∙ get_or_default c.args.arms.now c.index-pair.result.now.node c.index-arms-pair.result (record { left = None; right = None }) there in
    let pushed : c.push.new.work.items ≡ c.uses.work.items ++ asked_by_pair c.args.arms.now c.index-pair.result.now.node c.index-pair.result.now.plus =
    c.in_ok-push.ensures ∙ ap (λ (arms : Arms). c.uses.work.items ++ asked_by_arms arms c.index-pair.result.now.plus) own in
    let longer = ap length pushed ∙ length-append c.uses.work.items (asked_by_pair c.args.arms.now c.index-pair.result.now.node c.index-pair.result.now.plus) in
    record {
      within = omega arith;
      count = c.add.ensures.count ∙ c.uses.invariant.count;
      size = c.add.ensures.size ∙ ap (λ n. living (used c.add.new.self.uses.items) n) c.uses.invariant.count;
      below = subst (AreBelow (length c.args.arms.now)) (sym pushed)
          (below_append (length c.args.arms.now) c.uses.work.items (asked_by_pair c.args.arms.now c.index-pair.result.now.node c.index-pair.result.now.plus) c.uses.invariant.below
          (below_more c.index-pair.result.now.node (length c.args.arms.now) (asked_by_pair c.args.arms.now c.index-pair.result.now.node c.index-pair.result.now.plus) (omega arith)
          (c.requires.arms c.index-pair.result.now.node c.index-pair.result.now.plus there)));
      uses = λ roots u.
          subst (λ ws. AreUses c.args.arms.now (used c.add.new.self.uses.items) roots ws [])
          (sym (queue_pushed c.uses.work.items c.push.new.work.items (asked_by_pair c.args.arms.now c.index-pair.result.now.node c.index-pair.result.now.plus) c.uses.done lt pushed))
          (add_first c.index-pair.result.now (used c.uses.self.uses.items) (used c.add.new.self.uses.items) (λ n s. sym (c.add.ensures.uses n s)) c.args.arms.now roots (drop (c.uses.done + 1) c.uses.work.items)
          (c.add.ensures.first c.if-add.true).0 there
          (subst (λ ws. AreUses c.args.arms.now (used c.uses.self.uses.items) roots ws []) (queue_next c.uses.work.items c.uses.done c.index-pair.result.now lt c.index-pair.ensures) (c.uses.invariant.uses roots u)));
      come = λ n s.
          let t = times_pushed n s c.uses.work.items c.push.new.work.items (asked_by_pair c.args.arms.now c.index-pair.result.now.node c.index-pair.result.now.plus) c.uses.done c.index-pair.result.now lt
          c.index-pair.ensures pushed in
          let g = c.uses.invariant.come n s in
          let k = c.add.ensures.uses n s in
          omega arith;
    }

pub add-requires-clause-room : goal.add-requires-clause-room
add-requires-clause-room c =
    let len : vec_len c.uses.work ≡ length c.uses.work.items = search rules in
    let lt : c.uses.done < length c.uses.work.items = omega (arith, c.uses-test.true, c.len.ensures) in
    room_for c.args.arms.now (used c.uses.self.uses.items) c.requires.uses.0 (drop c.uses.done c.uses.work.items) (drop (c.uses.done + 1) c.uses.work.items) c.index-pair.result.now
    (c.uses.invariant.uses c.requires.uses.0 c.requires.uses.2) (queue_next c.uses.work.items c.uses.done c.index-pair.result.now lt c.index-pair.ensures) c.requires.uses.1
