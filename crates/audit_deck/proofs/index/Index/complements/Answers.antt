use Rattle.audit_deck.proofs.FirstComplements.{AreFirstBelow, first_all, first_kept, first_past, first_set, is_none_is, some_none}
use Rattle.std.specs.Prelude.{None, Some, slice_get}
use Rattle.std.specs.Option.{is_none}
use Rattle.std.proofs.Common.{ap, arith, false, rules, subst, sym, true, ◌+◌, ◌∙◌, ◌≡◌}
use Rattle.audit_deck.proofs.index.Index.complements.Goals as goal
use Rattle.audit_deck.proofs.index.Index.complements.Goals.{in-Some+then-is_none, in-Some+else-is_none, in_default}

pub loop-net-preserved : goal.loop-net-preserved
loop-net-preserved c =
    let ds = c.args.self.now.devices in
    let roles = c.args.roles in
    let nets = c.args.self.now.nets in
    let k = c.loop-net.net in
    let cs = c.loop-net.complements in
    elim c.match-complemented.branch [
      | in-Some+then-is_none w ↦
          let none : is_none w.of.result ≡ true = search rules in
          let at : slice_get cs w.in-Some.input ≡ Some None = w.of.ensures ∙ ap Some (is_none_is w.of.result none) in
          subst (AreFirstBelow ds roles nets (k + 1)) (sym (w.complements-is ∙ w.set.ensures))
          (first_set ds roles nets k cs c.loop-net.invariant w.in-Some.input w.in-Some.ensures.some at)
      | in-Some+else-is_none w ↦
          let some : is_none w.of.result ≡ false = search rules in
          subst (AreFirstBelow ds roles nets (k + 1)) (sym w.complements-is)
          (first_kept ds roles nets k cs c.loop-net.invariant w.in-Some.input w.in-Some.ensures.some w.of.result w.of.ensures (some_none w.of.result some))
      | in_default w ↦
          subst (AreFirstBelow ds roles nets (k + 1)) (sym w.complements-is) (first_past ds roles nets k cs c.loop-net.invariant w.in_default.ensures.none)
    ]

pub returns : goal.returns
returns c =
    first_all c.args.self.now.devices c.args.roles c.args.self.now.nets c.loop-net.net c.loop-net.complements c.requires.in_range
    (omega (arith, c.loop-net-test.false, c.requires.count)) c.loop-net.invariant
