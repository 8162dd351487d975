use Rattle.std.proofs.Common.{sym, ◌∙◌, subst}
use Rattle.numbered_signals.specs.ScopeBlocks.{BindsAll, CanBind}
use Rattle.numbered_signals.specs.ScopeRoots.{names_of_model}
use Rattle.numbered_signals.proofs.NamePlaces.{count_named}
use Rattle.numbered_signals.proofs.ScopeSteps.{adds_below, can_bind}
use Rattle.numbered_signals.proofs.scopes.add_below.Goals as goal

pub bind_all-requires : goal.bind_all-requires
bind_all-requires c =
    subst (λ start. CanBind c.push_own.new.self start c.args.scope.above c.pairs_above-pairs.result.now) (sym c.len-start.ensures)
    (can_bind c.args.file.now c.args.scopes.now c.args.scope c.args.roots.now c.push_own.new.self c.pairs_above-pairs.result.now c.requires.next c.requires.some
    c.in_ok-push_own.ensures.starts
    (c.in_ok-push_own.ensures.roots (names_of_model c.args.file.now c.args.scope.model)
    (sym (c.count.ensures ∙ count_named c.args.file.now c.args.names.now c.requires.names c.args.scope.model c.requires.called.model_in)))
    c.requires.called.above c.requires.called.instance c.requires.called.is_at
    (c.pairs_above-pairs.ensures c.requires.called.above c.requires.called.instance c.requires.called.is_at))

pub returns : goal.returns
returns c =
    adds_below c.args.file.now c.args.scopes.now c.args.scope c.args.roots.now c.push_own.new.self c.pairs_above-pairs.result.now c.requires.next c.requires.some
    c.in_ok-push_own.ensures.starts
    (c.in_ok-push_own.ensures.roots (names_of_model c.args.file.now c.args.scope.model)
    (sym (c.count.ensures ∙ count_named c.args.file.now c.args.names.now c.requires.names c.args.scope.model c.requires.called.model_in)))
    c.requires.called.above c.requires.called.instance c.requires.called.is_at
    (c.pairs_above-pairs.ensures c.requires.called.above c.requires.called.instance c.requires.called.is_at)
    c.bind_all.new.self
    (subst (λ start. BindsAll start c.args.scope.above c.pairs_above-pairs.result.now c.push_own.new.self c.bind_all.new.self) c.len-start.ensures c.bind_all.ensures)
