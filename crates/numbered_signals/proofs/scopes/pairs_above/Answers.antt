use Rattle.std.proofs.Common.{drop, sym, ◌∙◌, subst, ap}
use Rattle.numbered_file.specs.Places.{of_part}
use Rattle.numbered_signals.specs.ScopeBlocks.{ArePairs}
use Rattle.numbered_signals.specs.ScopeRoots.{names_of_model}
use Rattle.numbered_signals.proofs.ScopeSteps.{instance_there, pairs_bound}
use Rattle.numbered_signals.proofs.scopes.pairs_above.Goals as goal

pub instance-place-requires : goal.instance-place-requires
instance-place-requires c = instance_there c.args.file.now c.args.places.now c.args.names.now c.requires.places c.requires.names c.args.scopes.now c.args.scope c.scope_at-above.result
    c.requires.called c.scope_at-above.ensures

pub returns : goal.returns
returns c = λ above i at.
    subst (ArePairs (names_of_model c.args.file.now c.args.scope.model) (names_of_model c.args.file.now above.model) i.bindings)
    (sym (c.behind_first.ensures ∙ ap (drop 1) (c.of_part.ensures ∙ ap (of_part c.args.file.now c.instance-place.result) c.words.ensures)))
    (pairs_bound c.args.file.now c.args.places.now c.args.names.now c.requires.places c.requires.names c.args.scopes.now c.args.scope c.scope_at-above.result
    c.requires.called c.scope_at-above.ensures c.instance-place.result c.instance-place.ensures above i at)
