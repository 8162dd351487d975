use Rattle.std.proofs.Common.{◌+◌, ◌++◌, ◌∷◌, [], ap, sym, ◌∙◌, arith}
use Rattle.std.specs.Prelude.{slice_get}
use Rattle.std.proofs.lemmas.Option.{slice_get_within}
use Rattle.numbered_file.specs.Numbered.{between, named, parts_of}
use Rattle.numbered_file.specs.Places.{rows_at, words_at}
use Rattle.card_places.proofs.KindPlaces.{all-between, between-most, part-between}
use Rattle.card_places.proofs.PartPlans.{counts-few, plan-all, plan-next}
use Rattle.card_places.proofs.model_plans.plan_model.Goals as goal

pub counted-counts-requires : goal.counted-counts-requires
counted-counts-requires c =
    let d = c.args.file.now in
    let i = c.loop-index.index in
    let whole = between c.args.start c.args.end (parts_of d) in
    let known = ap (λ l. slice_get l i) (sym (c.between-parts.ensures ∙ ap (between c.args.start c.args.end) c.parts.ensures))
    ∙ c.part_at-kind.ensures in
    let below = slice_get_within whole i _ (part-between d c.args.start c.args.end i c.part_at-kind.result known) in
    let few = counts-few c.loop-index.counts whole i c.args.end c.loop-index.invariant.counts_are below
    (omega (arith, between-most c.args.start c.args.end (parts_of d))) in
    record {
      tables = omega (arith, few.0, c.ranges.end);
      latches = omega (arith, few.1, c.ranges.end);
      instances = omega
          (arith, few.2, c.ranges.end);
    }

pub loop-index-preserved : goal.loop-index-preserved
loop-index-preserved c =
    let d = c.args.file.now in
    let i = c.loop-index.index in
    let part = c.part_at-kind.result in
    let known = ap (λ l. slice_get l i) (sym (c.between-parts.ensures ∙ ap (between c.args.start c.args.end) c.parts.ensures))
    ∙ c.part_at-kind.ensures in
    plan-next (between c.args.start c.args.end (parts_of d)) c.args.node.now i c.loop-index.cards.items c.push.new.self.items
    c.loop-index.counts c.counted-counts.result
    d.text part.kind part.line (named d.names (words_at d (c.args.start + i))) (rows_at d (c.args.start + i)) c.loop-index.invariant
    (part-between d c.args.start c.args.end i part known)
    (c.in_ok-push.ensures.items ∙ ap (λ a. c.loop-index.cards.items ++ a ∷ []) c.card_by.ensures) c.counted-counts.ensures

pub returns : goal.returns
returns c =
    let d = c.args.file.now in
    let all = all-between d c.args.start c.args.end c.loop-index.index c.between-parts.result.now
    (c.between-parts.ensures ∙ ap (between c.args.start c.args.end) c.parts.ensures)
    (omega (arith, c.loop-index-test.false)) in
    plan-all (between c.args.start c.args.end (parts_of d)) c.args.node.now c.loop-index.index c.loop-index.cards.items c.loop-index.counts
    c.loop-index.invariant all
