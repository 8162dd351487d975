use Rattle.std.proofs.Common.{◌≡◌, length, subst, arith}
use Rattle.std.specs.Prelude.{slice_index_or}
use Rattle.std.proofs.lemmas.Option.{slice_get-get_or}
use Rattle.numbered_file.specs.Numbered.{file_of}
use Rattle.numbered_signals.specs.ScopeRoots.{signals_with}
use Rattle.part_numbers.specs.SignalNumbers.{AreNumbers}
use Rattle.part_numbers.proofs.SignalNumbers.{still_numbers}
use Rattle.numbered_signals.proofs.ScopeSteps.{next_called}
use Rattle.numbered_signals.proofs.scopes.number_scopes.Goals as goal

pub add_scope-requires-clause-next : goal.add_scope-requires-clause-next
add_scope-requires-clause-next c =
    next_called (file_of c.args.file.now) c.args.scopes.now c.requires.few.paths c.requires.few.are_paths c.loop-scope.scope-index (signals_with c.args.file.now c.loop-scope.roots)
    (c.loop-scope.invariant c.requires.few.paths c.requires.few.are_paths)
    (slice_index_or c.args.scopes.now c.loop-scope.scope-index (record { model = 0; above = 0; instance = 0 }))
    (slice_get-get_or c.args.scopes.now c.loop-scope.scope-index (record { model = 0; above = 0; instance = 0 }) c.loop-scope-test.true)
    c.requires.few.few

pub loop-scope-preserved : goal.loop-scope-preserved
loop-scope-preserved c = λ paths are.
    still_numbers (file_of c.args.file.now) c.args.scopes.now paths are c.loop-scope.scope-index (signals_with c.args.file.now c.loop-scope.roots) (c.loop-scope.invariant paths are)
    (slice_index_or c.args.scopes.now c.loop-scope.scope-index (record { model = 0; above = 0; instance = 0 }))
    (slice_get-get_or c.args.scopes.now c.loop-scope.scope-index (record { model = 0; above = 0; instance = 0 }) c.loop-scope-test.true)
    (signals_with c.args.file.now c.add_scope.new.roots) c.in_ok-add_scope.ensures

pub returns : goal.returns
returns c = λ paths are.
    let all : c.loop-scope.scope-index ≡ length c.args.scopes.now = omega (arith, c.loop-scope-test.false, c.loop-scope.auto.scope-index-end) in
    subst (λ k. AreNumbers (file_of c.args.file.now) c.args.scopes.now paths k (signals_with c.args.file.now c.loop-scope.roots)) all (c.loop-scope.invariant paths are)
