use Rattle.std.proofs.Common.{refl, subst}
use Rattle.sp_network.specs.Tree.{Tree}
use Rattle.sp_reduction.specs.Networks.{Link}
use Rattle.std.proofs.Common.{ℕ}
use Rattle.deck_audit.specs.Audits.{tree}
use Rattle.deck_audit.specs.Rules.{HasTree}
use Rattle.audit_deck.specs.CellTrees.{IsTreeAt}
use Rattle.audit_deck.proofs.Breaks.{one_front, tree_break}
use Rattle.link_reduce.proofs.Options.{none_is, some_is}
use Rattle.audit_deck.proofs.index.Index.breaks_tree.Goals as goal

pub returns-in_default-clause-no : goal.returns-in_default-clause-no
returns-in_default-clause-no c = λ e b.
    let y = tree_break c.args.self.now.devices c.args.roles c.args.self.now.nets 3 c.args.net b refl in
    c.in_default.ensures.none y.0 y.1 y.3

pub returns-in_default-2-clause-yes : goal.returns-in_default-2-clause-yes
returns-in_default-2-clause-yes c = λ e.
    let f = c.in-Some.front in
    tree f.clock f.output (c.is_dynamic.ensures.yes c.if-not-is_dynamic.false) c.in-Some.ensures.some.front
    (none_is c.in_ok-_tree.field-0 ((bottom : ℕ) (t : Tree Link) → HasTree c.args.self.now.devices c.args.roles c.args.net f.clock bottom t → ⊥)
    c.in_default-2.is c.in_ok-_tree.ensures.none)

pub returns-clause-no : goal.returns-clause-no
returns-clause-no c = λ e b.
    let ds = c.args.self.now.devices in
    let y = tree_break ds c.args.roles c.args.self.now.nets 3 c.args.net b refl in
    let f = c.in-Some.front in
    let t = some_is c.in_ok-_tree.field-0 c.in-Some-2._tree (IsTreeAt ds c.args.roles c.args.net f.clock) c.in-Some-2.is c.in_ok-_tree.ensures.some in
    let same = one_front ds c.args.roles c.args.self.now.nets c.args.net f.clock f.output y.0 y.1 c.in-Some.ensures.some.front y.3 in
    y.4 c.in-Some-2._tree.bottom t.tree (subst (λ k. HasTree ds c.args.roles c.args.net k c.in-Some-2._tree.bottom t.tree) same.0 t.has_tree)
