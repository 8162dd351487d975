use Rattle.std.proofs.Common.{arith, subst, sym, ◌+◌, ◌≡◌}
use Rattle.deck_audit.specs.Words.{IsCellOutput}
use Rattle.audit_deck.specs.Marks.{AreMarks}
use Rattle.audit_deck.proofs.MarkedNets.{marks_begun, marks_more}
use Rattle.audit_deck.proofs.index.Index.output_marks.Goals as goal

pub loop-net-init : goal.loop-net-init
loop-net-init c =
    let P = IsCellOutput c.args.self.now.devices c.args.roles in
    subst (AreMarks P 0) (sym c.new-marks.ensures) (marks_begun P)

pub loop-net-preserved : goal.loop-net-preserved
loop-net-preserved c =
    let P = IsCellOutput c.args.self.now.devices c.args.roles in
    subst (AreMarks P (c.loop-net.net + 1)) (sym c.in_ok-add.ensures)
    (marks_more P c.loop-net.net c.loop-net.marks c.is_cell_output.result c.loop-net.invariant c.is_cell_output.ensures.yes c.is_cell_output.ensures.no)

pub returns : goal.returns
returns c =
    let all : c.loop-net.net ≡ c.args.self.now.nets = omega (arith, c.loop-net-test.false, c.loop-net.auto.net-end, c.requires.count) in
    subst (λ n. AreMarks (IsCellOutput c.args.self.now.devices c.args.roles) n c.loop-net.marks) all c.loop-net.invariant
