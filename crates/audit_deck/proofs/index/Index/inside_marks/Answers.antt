use Rattle.std.specs.Prelude.{replicate}
use Rattle.std.proofs.Common.{arith, false, length, refl, subst, sym, ℕ, ◌<◌, ◌≡◌, ◌∙◌}
use Rattle.deck_audit.specs.Words.{IsDynamic, Reached}
use Rattle.audit_deck.specs.Marks.{AddsMarks, AreMarks, IsInCell}
use Rattle.audit_deck.proofs.Breaks.{dynamic_low}
use Rattle.audit_deck.proofs.MarkedNets.{Below, adds_all, adds_begun, adds_more, marks_of}
use Rattle.audit_deck.proofs.index.Index.inside_marks.Goals as goal

pub loop-net-init : goal.loop-net-init
loop-net-init c =
    let Q = λ (x n : ℕ). IsDynamic c.args.self.now.devices c.args.roles x × Reached c.args.self.now.devices c.args.roles x n in
    let none = replicate c.args.count false in
    record {
      room = c.in_ok-nets.ensures.room ∙ c.requires.count;
      marks = subst (AddsMarks (Below Q 0) none) (sym c.in_ok-marks.ensures) (adds_begun Q none);
    }

pub loop-net-preserved : goal.loop-net-preserved
loop-net-preserved c =
    let Q = λ (x n : ℕ). IsDynamic c.args.self.now.devices c.args.roles x × Reached c.args.self.now.devices c.args.roles x n in
    record {
      room = c.in_ok-mark_cell.ensures.room ∙ c.loop-net.invariant.room;
      marks = adds_more Q c.loop-net.net (replicate c.args.count false) c.loop-net.marks c.mark_cell.new.marks c.loop-net.invariant.marks
          c.in_ok-mark_cell.ensures.marked;
    }

pub returns : goal.returns
returns c =
    let ds = c.args.self.now.devices in
    let roles = c.args.roles in
    let nets = c.args.self.now.nets in
    let Q = λ (x n : ℕ). IsDynamic ds roles x × Reached ds roles x n in
    let none = replicate c.args.count false in
    let done : nets ≡ c.loop-net.net = omega (arith, c.loop-net-test.false, c.loop-net.auto.net-end, c.requires.count) in
    subst (λ n. AreMarks (IsInCell ds roles) n c.loop-net.marks) c.requires.count
    (marks_of (IsInCell ds roles) c.args.count none c.loop-net.marks refl
    (adds_all Q (IsInCell ds roles) c.loop-net.net none c.loop-net.marks
    (λ n x h. (x, h.0, h.1))
    (λ n (x, dynamic, reached). (x, (let z = dynamic_low ds roles nets c.requires.in_range x dynamic in omega (arith, z, done)), (dynamic, reached)))
    c.loop-net.invariant.marks))
