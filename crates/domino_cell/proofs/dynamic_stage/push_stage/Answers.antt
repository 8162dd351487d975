use Rattle.std.proofs.Common.{ap, arith, length, refl, subst, sym, ◌∙◌}
use Rattle.deck.proofs.CircuitGrowth.{Grew-same}
use Rattle.sp_network.specs.TypedTree.{tree_of}
use Rattle.domino_cell.specs.NamedTrees.{AreInnerNames}
use Rattle.domino_cell.proofs.PushedTrees.{inner_count-below}
use Rattle.domino_cell.proofs.dynamic_stage.push_stage.Goals as goal

pub inner_names-requires-clause-few : goal.inner_names-requires-clause-few
inner_names-requires-clause-few c = omega (arith, c.requires.room, inner_count-below (tree_of c.args.tree.now))

pub returns-in_err-inner-clause-grew : goal.returns-in_err-inner-clause-grew
returns-in_err-inner-clause-grew c = Grew-same refl

pub push_named_stage-requires-clause-named : goal.push_named_stage-requires-clause-named
push_named_stage-requires-clause-named c = c.requires.named

pub push_named_stage-requires-clause-stand : goal.push_named_stage-requires-clause-stand
push_named_stage-requires-clause-stand c = c.requires.stand

pub push_named_stage-requires-clause-gates : goal.push_named_stage-requires-clause-gates
push_named_stage-requires-clause-gates c = c.requires.gates

pub push_named_stage-requires-clause-room : goal.push_named_stage-requires-clause-room
push_named_stage-requires-clause-room c = c.requires.room

pub push_named_stage-requires-clause-numbers : goal.push_named_stage-requires-clause-numbers
push_named_stage-requires-clause-numbers c = c.requires.numbers

pub push_named_stage-requires-clause-inner : goal.push_named_stage-requires-clause-inner
push_named_stage-requires-clause-inner c =
    let inner = c.deref.result.now in
    subst (λ front. AreInnerNames front inner) c.as_bytes.ensures.bytes
    (subst (AreInnerNames c.as_bytes.result.now) (sym c.deref.ensures.value) c.in_ok-inner.ensures.names)

pub push_named_stage-requires-clause-inner_count : goal.push_named_stage-requires-clause-inner_count
push_named_stage-requires-clause-inner_count c = ap length c.deref.ensures.value ∙ c.in_ok-inner.ensures.count

pub returns-clause-devices : goal.returns-clause-devices
returns-clause-devices c = c.push_named_stage.ensures.devices

pub returns-clause-count : goal.returns-clause-count
returns-clause-count c = c.push_named_stage.ensures.count

pub returns-clause-dynamic : goal.returns-clause-dynamic
returns-clause-dynamic c = c.push_named_stage.ensures.dynamic

pub returns-clause-output : goal.returns-clause-output
returns-clause-output c = c.push_named_stage.ensures.output

pub returns-clause-numbers : goal.returns-clause-numbers
returns-clause-numbers c = c.push_named_stage.ensures.numbers

pub returns-clause-grew : goal.returns-clause-grew
returns-clause-grew c = c.push_named_stage.ensures.grew
