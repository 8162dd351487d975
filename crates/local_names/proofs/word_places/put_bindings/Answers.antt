use Rattle.std.proofs.Common.{◌≡◌, ◌≤◌, length, refl, rules, Some}
use Rattle.std.specs.Prelude.{Contains, slice_get, slice_index_or}
use Rattle.local_names.proofs.Placing.{go-lost_from, go-on_from}
use Rattle.local_names.proofs.word_places.put_bindings.Goals as goal

pub returns-in_default-2-clause-lost : goal.returns-in_default-2-clause-lost
returns-in_default-2-clause-lost c = λ bad.
    let some : 2 ≤ length c.bindings.rest.now = search rules in
    let none : Contains c.args.unit_names.now (slice_index_or c.bindings.rest.now 0 0) → ⊥ = search rules in
    go-lost_from c.args.unit_names.now c.args.names.now c.args.words.now c.args.all.now.items c.bindings.all.items c.bindings.rest.now some
    c.bindings.invariant none

pub bindings-preserved : goal.bindings-preserved
bindings-preserved c =
    let some : 2 ≤ length c.bindings.rest.now = search rules in
    let formal : slice_get c.args.unit_names.now c.in-Some.unit_index ≡ Some (slice_index_or c.bindings.rest.now 0 0) = search rules in
    let actual : slice_get c.args.names.now c.in_ok-index.index ≡ Some (slice_index_or c.bindings.rest.now 1 0) = search rules in
    go-on_from c.args.unit_names.now c.args.names.now c.args.words.now c.args.all.now.items c.bindings.all.items c.bindings.rest.now some
    c.bindings.invariant c.push.new.self.items c.push-in-len2-up.new.self.items _ c.in-Some.unit_index c.in_ok-index.index formal actual
    c.in_ok-push.ensures.items c.in_ok-push-2.ensures.items refl
