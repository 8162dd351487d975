use Rattle.std.proofs.Common.{subst, sym}
use Rattle.audit_deck.specs.Loops.{IsOnLoop}
use Rattle.audit_deck.specs.Marks.{AreMarks}
use Rattle.audit_deck.proofs.ReadNets.{circles_are, reads_graph}
use Rattle.audit_deck.proofs.index.Index.first_leaf_or_loop.Goals as goal

pub circle_marks-requires : goal.circle_marks-requires
circle_marks-requires c =
    record { graph = reads_graph c.args.self.now.devices c.args.roles c.args.self.now.nets c.args.nodes.now c.requires.reads c.requires.in_range }

pub first_among-requires-clause-circles : goal.first_among-requires-clause-circles
first_among-requires-clause-circles c =
    let ds = c.args.self.now.devices in
    let nets = c.args.self.now.nets in
    subst (AreMarks (IsOnLoop ds c.args.roles) nets) (sym c.as_slice.ensures.value)
    (circles_are ds c.args.roles nets c.args.nodes.now c.requires.reads c.requires.in_range c.in_ok-circles.circles.items c.in_ok-circles.ensures)
