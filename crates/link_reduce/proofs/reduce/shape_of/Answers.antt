use Rattle.std.proofs.Common.{ℕ}
use Rattle.sp_reduction.specs.Reduction.{IsNetwork}
use Rattle.link_reduce.specs.Parts.{links_of}
use Rattle.link_reduce.specs.Reductions.{IsSound}
use Rattle.link_reduce.proofs.Begun.{begun_sound}
use Rattle.link_reduce.proofs.Options.{none_weaker}
use Rattle.dom_base.proofs.Options.{some_weaker}
use Rattle.link_reduce.proofs.reduce.shape_of.Goals as goal

pub run-requires : goal.run-requires
run-requires c = record {
  sound = (
    c.args.ends.now,
    c.requires.few,
    begun_sound c.args.ends.now c.args.top c.args.bottom c.begin.new.self (c.in_ok-begin.ensures.begun c.if-branch.true),
  );
}

pub shape-requires-clause-sound : goal.shape-requires-clause-sound
shape-requires-clause-sound c = (
  c.args.ends.now,
  c.requires.few,
  c.in_ok-run.ensures.sound c.args.ends.now
      (begun_sound c.args.ends.now c.args.top c.args.bottom c.begin.new.self (c.in_ok-begin.ensures.begun c.if-branch.true)),
)

pub returns-then-branch-clause-some : goal.returns-then-branch-clause-some
returns-then-branch-clause-some c =
    let sound : IsSound c.args.ends.now c.args.top c.args.bottom c.run.new.self = c.in_ok-run.ensures.sound c.args.ends.now
    (begun_sound c.args.ends.now c.args.top c.args.bottom c.begin.new.self (c.in_ok-begin.ensures.begun c.if-branch.true)) in
    some_weaker c.shape.result _ (λ s. IsNetwork (links_of c.args.ends.now) c.args.top c.args.bottom s.width s.height) (λ s h. h c.args.ends.now sound)
    c.shape.ensures.some

pub returns-then-branch-clause-none : goal.returns-then-branch-clause-none
returns-then-branch-clause-none c =
    let sound : IsSound c.args.ends.now c.args.top c.args.bottom c.run.new.self = c.in_ok-run.ensures.sound c.args.ends.now
    (begun_sound c.args.ends.now c.args.top c.args.bottom c.begin.new.self (c.in_ok-begin.ensures.begun c.if-branch.true)) in
    none_weaker c.shape.result _ ((w h : ℕ) → IsNetwork (links_of c.args.ends.now) c.args.top c.args.bottom w h → ⊥) (λ h. h c.args.ends.now sound)
    c.shape.ensures.none

pub returns-clause-none : goal.returns-clause-none
returns-clause-none c = c.in_ok-begin.ensures.self_loop c.if-branch.false c.args.top c.args.bottom
