use Rattle.std.specs.Prelude.{List}
use Rattle.std.proofs.Common.{refl, ℕ}
use Rattle.dom_base.proofs.Options.{if_ok-weaker, some_weaker}
use Rattle.sp_reduction.specs.Reduction.{IsNetwork}
use Rattle.link_reduce.specs.Parts.{IsSpelled, links_of}
use Rattle.link_reduce.specs.Reductions.{IsSound}
use Rattle.link_reduce.specs.Spellings.{SpelledData}
use Rattle.link_reduce.specs.declared.part.Ends.{Ends}
use Rattle.link_reduce.proofs.Begun.{begun_sound}
use Rattle.link_reduce.proofs.Options.{none_weaker}
use Rattle.link_reduce.proofs.reduce.spelled_of.Goals as goal

pub run-requires : goal.run-requires
run-requires c = record {
  sound = (
    c.args.ends.now,
    c.requires.few,
    begun_sound c.args.ends.now c.args.top c.args.bottom c.begin.new.self (c.in_ok-begin.ensures.begun c.if-branch.true),
  );
}

pub spelled-requires-clause-sound : goal.spelled-requires-clause-sound
spelled-requires-clause-sound c = (
  c.args.ends.now,
  c.requires.few,
  refl,
  c.in_ok-run.ensures.sound c.args.ends.now
      (begun_sound c.args.ends.now c.args.top c.args.bottom c.begin.new.self (c.in_ok-begin.ensures.begun c.if-branch.true)),
)

pub returns-then-branch-clause-some : goal.returns-then-branch-clause-some
returns-then-branch-clause-some c =
    let ends = c.args.ends.now in
    let sound : IsSound ends c.args.top c.args.bottom c.run.new.self = c.in_ok-run.ensures.sound ends
    (begun_sound ends c.args.top c.args.bottom c.begin.new.self (c.in_ok-begin.ensures.begun c.if-branch.true)) in
    if_ok-weaker c.spelled.result
    (λ o. some_weaker o
    (λ (s : SpelledData). (es : List Ends) → IsSound es c.args.top c.args.bottom c.run.new.self → IsSpelled (links_of es) c.args.top c.args.bottom s.width s.height s.order)
    (λ (s : SpelledData). IsSpelled (links_of ends) c.args.top c.args.bottom s.width s.height s.order) (λ s h. h ends sound))
    c.spelled.ensures.some

pub returns-then-branch-clause-none : goal.returns-then-branch-clause-none
returns-then-branch-clause-none c =
    let ends = c.args.ends.now in
    let sound : IsSound ends c.args.top c.args.bottom c.run.new.self = c.in_ok-run.ensures.sound ends
    (begun_sound ends c.args.top c.args.bottom c.begin.new.self (c.in_ok-begin.ensures.begun c.if-branch.true)) in
    if_ok-weaker c.spelled.result
    (λ o. none_weaker o
    ((es : List Ends) → IsSound es c.args.top c.args.bottom c.run.new.self → (w h : ℕ) → IsNetwork (links_of es) c.args.top c.args.bottom w h → ⊥)
    ((w h : ℕ) → IsNetwork (links_of ends) c.args.top c.args.bottom w h → ⊥) (λ h. h ends sound))
    c.spelled.ensures.none

pub returns-clause-none : goal.returns-clause-none
returns-clause-none c = c.in_ok-begin.ensures.self_loop c.if-branch.false c.args.top c.args.bottom
