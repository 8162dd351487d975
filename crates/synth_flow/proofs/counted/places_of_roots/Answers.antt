use Rattle.std.proofs.Common.{◌++◌, ◌∷◌, [], ap, sym, ◌∙◌}
use Rattle.tree_map.proofs.RootTrees.{roots_kept, roots_more}
use Rattle.synth_flow.proofs.counted.places_of_roots.Goals.{then-not-kept-place+in_ok-push, else-not-kept-place}
use Rattle.synth_flow.proofs.counted.places_of_roots.Goals as goal

pub pairs-preserved : goal.pairs-preserved
pairs-preserved c =
    let place = c.pairs.place in
    elim c.if-not-kept-place.branch [
      | then-not-kept-place+in_ok-push w ↦
          ap (λ (v : _). v.items) w.places-is ∙ w.in_ok-push.ensures.items ∙ ap (λ l. l ++ place ∷ []) c.pairs.invariant
          ∙ sym (roots_more c.args.kept.now place w.if-not-kept-place.true)
      | else-not-kept-place w ↦
          ap (λ (v : _). v.items) w.places-is ∙ c.pairs.invariant ∙ sym (roots_kept c.args.kept.now place w.if-not-kept-place.false)
    ]
