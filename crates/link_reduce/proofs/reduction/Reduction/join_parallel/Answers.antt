use Rattle.std.proofs.Common.{[], ap, arith, false, length, ◌+◌, ◌∙◌, ◌∷◌, ◌≡◌}
use Rattle.std.proofs.lemmas.List.{length-set}
use Rattle.std.proofs.lemmas.Result.{on_ok_weaker}
use Rattle.dom_base.proofs.Lists.{Contains-first, Contains-later}
use Rattle.link_reduce.specs.Reductions.{ReductionData, parallel_part, with_part, without}
use Rattle.link_reduce.specs.declared.part.Made.TheVariants.{Parallel as InParallel}
use Rattle.link_reduce.proofs.Steps.{held_few, held_low, held_low_live, parallel_settles}
use Rattle.link_reduce.proofs.reduction.Reduction.join_parallel.Goals as goal

pub part-p-requires : goal.part-p-requires
part-p-requires c =
    let o = c.requires.holding in
    held_low o.0 o.1 (c.args.second ∷ c.args.first ∷ []) c.args.net c.args.self.now o.2 c.args.first
    (Contains-later c.args.second (c.args.first ∷ []) c.args.first (Contains-first c.args.first []))

pub part-q-requires : goal.part-q-requires
part-q-requires c =
    let o = c.requires.holding in
    held_low o.0 o.1 (c.args.second ∷ c.args.first ∷ []) c.args.net c.args.self.now o.2 c.args.second
    (Contains-first c.args.second (c.args.first ∷ []))

pub remove-requires : goal.remove-requires
remove-requires c =
    let o = c.requires.holding in
    held_low_live o.0 o.1 (c.args.second ∷ c.args.first ∷ []) c.args.net c.args.self.now o.2 c.args.first
    (Contains-later c.args.second (c.args.first ∷ []) c.args.first (Contains-first c.args.first []))

pub remove-requires-2 : goal.remove-requires-2
remove-requires-2 c =
    let o = c.requires.holding in
    let low = held_low_live o.0 o.1 (c.args.second ∷ c.args.first ∷ []) c.args.net c.args.self.now o.2 c.args.second
    (Contains-first c.args.second (c.args.first ∷ [])) in
    omega (arith, low, ap (λ (s : ReductionData). length s.live) c.remove.ensures, length-set c.args.self.now.live c.args.first false)

pub overflow_add-p : goal.overflow_add-p
overflow_add-p c =
    let o = c.requires.holding in
    let few = held_few o.0 o.1 c.args.net c.args.self.now c.args.first c.args.second o.2 c.part-p.result c.part-q.result c.part-p.ensures c.part-q.ensures in
    omega (arith, few.0)

pub returns : goal.returns
returns c =
    let o = c.requires.holding in
    let without_both : c.remove-2.new.self ≡ without (without c.args.self.now c.args.first) c.args.second =
    c.remove-2.ensures ∙ ap (λ s. without s c.args.second) c.remove.ensures in
    on_ok_weaker c.add.result
    (λ is. parallel_settles o.0 o.1 c.args.net c.args.self.now c.add.new.self c.args.first c.args.second c.args.end c.part-p.result c.part-q.result
    c.part-p.ensures c.part-q.ensures c.requires.first c.requires.second o.2
    (is ∙ ap (λ n. with_part c.remove-2.new.self (record { from = c.args.net; to = c.args.end; width = c.part-p.result.width + c.part-q.result.width; height = n; made = InParallel c.args.first c.args.second })) c.max.ensures
    ∙ ap (λ s. with_part s (parallel_part c.args.first c.args.second c.part-p.result c.part-q.result c.args.net c.args.end)) without_both)) c.add.ensures
