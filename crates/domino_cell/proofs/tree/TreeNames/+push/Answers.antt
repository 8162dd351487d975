use Rattle.std.proofs.Common.{◌≡◌, ◌+◌, ◌<◌, length, ap, ap₂, sym, subst, ◌∙◌, arith}
use Rattle.std.proofs.lemmas.Result.{on_ok_weaker}
use Rattle.deck.specs.NamedDevices.{with_devices}
use Rattle.deck.specs.Nets.{net_name}
use Rattle.deck.specs.Pushes.{pushed}
use Rattle.deck.proofs.CircuitGrowth.{Grew-trans}
use Rattle.sp_network.specs.Tree.{EachLeaf, Parallel, Series, Tree, leaves}
use Rattle.sp_network.specs.TypedTree.{tree_of}
use Rattle.domino_cell.specs.NamedTrees.{named_tree}
use Rattle.domino_cell.specs.Spelling.{spell}
use Rattle.domino_cell.proofs.PushedTrees.{parallel_pushed, renamed_ends, series_pushed}
use Rattle.std.specs.Prelude.{ℕ, IfOk, Some, slice_get}
use Rattle.domino_cell.proofs.tree.TreeNames.+push.Goals as goal

pub push_leaf-requires-clause-gate : goal.push_leaf-requires-clause-gate
push_leaf-requires-clause-gate g t c = subst (λ t. EachLeaf (λ g. g < length c.args.self.now.gates.now) (tree_of t)) c.in-Leaf.is c.requires.gates

pub push_leaf-requires-clause-room : goal.push_leaf-requires-clause-room
push_leaf-requires-clause-room g t c = omega (arith, c.requires.room, ap leaves (ap tree_of c.in-Leaf.is))

pub returns-in_err-source-in-Leaf-clause-grew : goal.returns-in_err-source-in-Leaf-clause-grew
returns-in_err-source-in-Leaf-clause-grew g t c = c.push_leaf.ensures.grew

pub returns-in_ok-source-in-Leaf-clause-grew : goal.returns-in_ok-source-in-Leaf-clause-grew
returns-in_ok-source-in-Leaf-clause-grew g t c = c.push_leaf.ensures.grew

pub returns-in_ok-source-in-Leaf-clause-devices : goal.returns-in_ok-source-in-Leaf-clause-devices
returns-in_ok-source-in-Leaf-clause-devices g t c =
    c.in_ok-source-in-Leaf.ensures.devices
    ∙ ap (λ kind. pushed c.args.circuit.now kind c.args.top.name.now (net_name c.args.self.now.gates.now c.in-Leaf.gate) c.args.bottom.name.now)
    c.KIND.ensures
    ∙ ap (λ (t : Tree ℕ). with_devices c.args.circuit.now (spell g.S.Polarity.KIND (net_name c.args.self.now.inner.now)
    (named_tree c.args.self.now.gates.now t) c.args.top.name.now c.args.bottom.name.now c.args.inner)) (sym (ap tree_of c.in-Leaf.is))

pub returns-in_ok-source-in-Leaf-clause-count : goal.returns-in_ok-source-in-Leaf-clause-count
returns-in_ok-source-in-Leaf-clause-count g t c =
    c.in_ok-source-in-Leaf.ensures.count ∙ ap (λ (t : Tree ℕ). length c.args.circuit.now.devices + leaves t) (sym (ap tree_of c.in-Leaf.is))

pub returns-in_ok-source-in-Leaf-clause-stands : goal.returns-in_ok-source-in-Leaf-clause-stands
returns-in_ok-source-in-Leaf-clause-stands g t c = c.in_ok-source-in-Leaf.ensures.stands

pub returns-in_ok-source-in-Leaf-clause-numbers : goal.returns-in_ok-source-in-Leaf-clause-numbers
returns-in_ok-source-in-Leaf-clause-numbers g t c = c.in_ok-source-in-Leaf.ensures.numbers

pub returns-in_ok-next-in-Series-clause-devices : goal.returns-in_ok-next-in-Series-clause-devices
returns-in_ok-next-in-Series-clause-devices g t c =
    let series : tree_of c.args.tree.now ≡ Series (tree_of c.deref.result.now) (tree_of c.deref-in-Series.result.now) =
    ap tree_of c.in-Series.is ∙ ap₂ Series (ap tree_of (sym c.deref.ensures)) (ap tree_of (sym c.deref-in-Series.ensures)) in
    on_ok_weaker c.push-in-Series.result
    (λ two. series_pushed c.args.circuit.now c.push.new.circuit c.push-in-Series.new.circuit _
    (net_name c.args.self.now.inner.now) (net_name c.args.self.now.gates.now) (tree_of c.args.tree.now) (tree_of c.deref.result.now)
    (tree_of c.deref-in-Series.result.now) c.args.top.name.now c.args.bottom.name.now c.inner_at-middle.result.name.now c.args.inner _
    series c.inner_at-middle.ensures.name c.in_ok-next-in-Series.ensures.next c.in_ok-next-in-Series.ensures.devices
    (two ∙ renamed_ends c.push.new.circuit g.S.Polarity.KIND (net_name c.args.self.now.inner.now)
    (named_tree c.args.self.now.gates.now (tree_of c.deref-in-Series.result.now)) c.in_ok-next-in-Series.next c.at-middle.ensures.name c.checked-bottom.ensures.name))
    c.push-in-Series.ensures.devices

pub returns-in_ok-next-in-Parallel-clause-devices : goal.returns-in_ok-next-in-Parallel-clause-devices
returns-in_ok-next-in-Parallel-clause-devices g t c =
    on_ok_weaker c.push-in-Parallel-2.result
    (λ two. parallel_pushed c.args.circuit.now c.push-in-Parallel.new.circuit c.push-in-Parallel-2.new.circuit _
    (net_name c.args.self.now.inner.now) (net_name c.args.self.now.gates.now) (tree_of c.args.tree.now) (tree_of c.deref-in-Parallel.result.now)
    (tree_of c.deref-in-Parallel-2.result.now) c.args.top.name.now c.args.bottom.name.now c.args.inner _
    (ap tree_of c.in-Parallel.is ∙ ap₂ Parallel (ap tree_of (sym c.deref-in-Parallel.ensures)) (ap tree_of (sym c.deref-in-Parallel-2.ensures)))
    c.in_ok-next-in-Parallel.ensures.next c.in_ok-next-in-Parallel.ensures.devices
    (two ∙ renamed_ends c.push-in-Parallel.new.circuit g.S.Polarity.KIND (net_name c.args.self.now.inner.now)
    (named_tree c.args.self.now.gates.now (tree_of c.deref-in-Parallel-2.result.now)) c.in_ok-next-in-Parallel.next c.checked-top.ensures.name c.at-bottom.ensures.name))
    c.push-in-Parallel-2.ensures.devices

pub returns-in_ok-next-in-Series-clause-grew : goal.returns-in_ok-next-in-Series-clause-grew
returns-in_ok-next-in-Series-clause-grew g t c =
    Grew-trans c.args.circuit.now c.push.new.circuit c.push-in-Series.new.circuit c.in_ok-next-in-Series.ensures.grew c.push-in-Series.ensures.grew

pub returns-in_ok-next-in-Series-clause-stands : goal.returns-in_ok-next-in-Series-clause-stands
returns-in_ok-next-in-Series-clause-stands g t c =
    subst (λ name. IfOk c.push-in-Series.result (λ p. slice_get c.push-in-Series.new.circuit.nets p.1 ≡ Some name))
    c.checked-bottom.ensures.name c.push-in-Series.ensures.stands

pub returns-in_ok-next-in-Series-clause-numbers : goal.returns-in_ok-next-in-Series-clause-numbers
returns-in_ok-next-in-Series-clause-numbers g t c = c.push-in-Series.ensures.numbers

pub returns-in_ok-next-in-Parallel-clause-grew : goal.returns-in_ok-next-in-Parallel-clause-grew
returns-in_ok-next-in-Parallel-clause-grew g t c =
    Grew-trans c.args.circuit.now c.push-in-Parallel.new.circuit c.push-in-Parallel-2.new.circuit
    c.in_ok-next-in-Parallel.ensures.grew c.push-in-Parallel-2.ensures.grew

pub returns-in_ok-next-in-Parallel-clause-stands : goal.returns-in_ok-next-in-Parallel-clause-stands
returns-in_ok-next-in-Parallel-clause-stands g t c =
    subst (λ name. IfOk c.push-in-Parallel-2.result (λ p. slice_get c.push-in-Parallel-2.new.circuit.nets p.1 ≡ Some name))
    c.at-bottom.ensures.name c.push-in-Parallel-2.ensures.stands

pub returns-in_ok-next-in-Parallel-clause-numbers : goal.returns-in_ok-next-in-Parallel-clause-numbers
returns-in_ok-next-in-Parallel-clause-numbers g t c = c.push-in-Parallel-2.ensures.numbers
