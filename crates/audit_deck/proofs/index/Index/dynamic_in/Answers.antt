use Rattle.std.specs.Prelude.{Some, slice_get}
use Rattle.std.proofs.Common.{arith, get_or, length, subst, sym, ℕ, ◌+◌, ◌∙◌, ◌≡◌}
use Rattle.std.proofs.lemmas.Option.{slice_get-get_or}
use Rattle.deck_audit.specs.Words.{IsDynamic}
use Rattle.audit_deck.specs.Numberings.{NumberingData}
use Rattle.audit_deck.proofs.Breaks.{dynamic_low}
use Rattle.audit_deck.proofs.CellOrders.{AreMetUpto, all_met, met_next, none_met, passed}
use Rattle.audit_deck.proofs.MarkedNets.{mark_no, mark_yes}
use Rattle.audit_deck.proofs.index.Index.dynamic_in.Goals as goal
use Rattle.audit_deck.proofs.index.Index.dynamic_in.Goals.{then-net-nodes+then-has+in_ok-add, else-net-nodes, else-net-nodes-via-then-net-nodes+else-has, else-net-nodes-via-else-net-nodes}

pub loop-net-init : goal.loop-net-init
loop-net-init c = record {
  room = c.in_ok-cells.ensures.room;
  met = none_met c.args.self.now.devices c.args.roles c.args.order.now c.in_ok-cells.cells.nets c.in_ok-cells.ensures.none;
}

pub loop-net-preserved : goal.loop-net-preserved
loop-net-preserved c =
    let ds = c.args.self.now.devices in
    let roles = c.args.roles in
    let nets = c.args.self.now.nets in
    let nodes = c.args.nodes.now in
    let l = c.args.order.now in
    let i = c.loop-net.net-index in
    let x : ℕ = get_or l i 0 in
    let at : slice_get l i ≡ Some x = slice_get-get_or l i 0 c.loop-net-test.true in
    let before = c.loop-net.cells.nets in
    let h = c.loop-net.invariant.met in
    let marks = c.args.marks.now.dynamic in
    let are = c.requires.marked.dynamic in
    let past = λ (away : IsDynamic ds roles x → ⊥). passed ds roles nets nodes c.requires.reads c.requires.in_range l c.requires.ordered i x at before h away in
    let P = λ (v : NumberingData). (v.room ≡ length nodes) × AreMetUpto ds roles l (i + 1) v.nets in
    let both : P c.if-net-nodes.cells = elim c.if-net-nodes.branch [
      | then-net-nodes+then-has+in_ok-add w ↦
          subst P (sym w.cells-is) (
            w.in_ok-add.ensures.room ∙ c.loop-net.invariant.room,
            met_next ds roles nets nodes c.requires.reads c.requires.in_range l c.requires.ordered i x at before h
                (mark_yes (IsDynamic ds roles) nets marks are x w.has.result w.has.ensures w.if-has.true)
                w.add.new.self.nets w.in_ok-add.ensures.added,
          )
      | else-net-nodes w ↦
          subst P (sym w.cells-is) (
            c.loop-net.invariant.room,
            elim w.else-net-nodes.branch [
              | else-net-nodes-via-then-net-nodes+else-has v ↦
                  past (mark_no (IsDynamic ds roles) nets marks are x v.has.result v.has.ensures v.if-has.false)
              | else-net-nodes-via-else-net-nodes v ↦
                  past (λ dynamic. omega (arith, dynamic_low ds roles nets c.requires.in_range x dynamic, v.if-net-nodes.false, c.requires.reads.count))
            ],
          )
    ] in
    record { room = both.0; met = both.1 }

pub returns : goal.returns
returns c =
    all_met c.args.self.now.devices c.args.roles c.args.self.now.nets c.args.nodes.now c.requires.reads c.requires.in_range c.args.order.now c.requires.ordered
    c.loop-net.net-index c.loop-net.cells.nets c.loop-net-test.false c.loop-net.invariant.met c.nets-once.ensures.once
