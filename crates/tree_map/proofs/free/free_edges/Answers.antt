use Rattle.std.proofs.Common.{◌≡◌, ◌&&◌, ◌==◌, ◌∙◌, ap, sym, subst, List, length, map, get_or, count_by, false, rules}
use Rattle.dual_rail.specs.declared.forest.End.{End}
use Rattle.dual_rail.specs.ForestData.{ForestData}
use Rattle.dual_rail.specs.ForestOrder.{IsForest}
use Rattle.dual_rail.specs.Forests.{is_end_from}
use Rattle.dual_rail.proofs.Marks.{written_over}
use Rattle.tree_map.proofs.FreeEdges.{ends_there, free_are, once_long}
use Rattle.tree_map.proofs.free.free_edges.Goals as goal

pub leave_out_ends-requires : goal.leave_out_ends-requires
leave_out_ends-requires c =
    let is = subst IsForest c.forest.view_is c.forest.invariant in
    let uses = c.deref.ensures.value ∙ ap (λ (f : ForestData). f.uses) c.forest.view_is in
    let ends = c.deref-2.ensures.value ∙ ap (λ (f : ForestData). f.ends) c.forest.view_is in
    let once = c.as_mut_slice.ensures.value ∙ c.in_ok-free.ensures ∙ ap (map (λ n. n == 1)) uses in
    record { there = ends_there c.args.forest.now _ _ is ends (once_long c.args.forest.now _ is once) }

pub returns-clause-free : goal.returns-clause-free
returns-clause-free c =
    let is = subst IsForest c.forest.view_is c.forest.invariant in
    let uses = c.deref.ensures.value ∙ ap (λ (f : ForestData). f.uses) c.forest.view_is in
    let ends = c.deref-2.ensures.value ∙ ap (λ (f : ForestData). f.ends) c.forest.view_is in
    let once = c.as_mut_slice.ensures.value ∙ c.in_ok-free.ensures ∙ ap (map (λ n. n == 1)) uses in
    let len : c.in_ok-free.free.len ≡ length c.in_ok-free.free.items = search rules in
    written_over c.in_ok-free.free.len c.leave_out_ends.new.free c.in_ok-free.free.items
    (len ∙ sym (c.leave_out_ends.auto.free ∙ ap length c.as_mut_slice.ensures.value))
    ∙ free_are c.args.forest.now c.leave_out_ends.new.free c.as_mut_slice.result.now is once c.leave_out_ends.auto.free
    (λ p lt. c.leave_out_ends.ensures p lt ∙ ap (λ (es : List End). get_or c.as_mut_slice.result.now p false && (count_by (is_end_from p) es == 0)) ends)

pub returns-clause-order : goal.returns-clause-order
returns-clause-order c = (subst IsForest c.forest.view_is c.forest.invariant).in_place.in_order

pub returns-in_err-free-clause-order : goal.returns-in_err-free-clause-order
returns-in_err-free-clause-order c = (subst IsForest c.forest.view_is c.forest.invariant).in_place.in_order
