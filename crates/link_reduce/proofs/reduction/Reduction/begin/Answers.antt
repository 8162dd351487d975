use Rattle.std.proofs.Common.{[], ap, arith, get_or, length, subst, sym, take, ◌++◌, ◌<◌, ◌∙◌, ◌∷◌}
use Rattle.std.proofs.lemmas.List.{take_more}
use Rattle.std.proofs.lemmas.Option.{slice_get-get_or}
use Rattle.link_reduce.specs.Parts.{with_number}
use Rattle.link_reduce.specs.Reductions.{IsBegun, ReductionData}
use Rattle.link_reduce.specs.declared.part.Ends.{Ends}
use Rattle.link_reduce.proofs.Begun.{begun_more, no_loop}
use Rattle.link_reduce.proofs.Steps.{room_more}
use Rattle.link_reduce.proofs.reduction.Reduction.begin.Goals as goal

abbrev no_ends : Ends
no_ends = record { from = 0; to = 0 }

pub returns-then-link-clause-self_loop : goal.returns-then-link-clause-self_loop
returns-then-link-clause-self_loop c = λ is a b w h n.
    let ends = c.args.ends.now in
    let i = c.loop-link.link-index in
    no_loop ends i (get_or ends i no_ends) (slice_get-get_or ends i no_ends c.loop-link-test.true) c.if-link.true a b w h n

pub loop-link-preserved : goal.loop-link-preserved
loop-link-preserved c =
    let ends = c.args.ends.now in
    let i = c.loop-link.link-index in
    let r = c.loop-link.self in
    let e : Ends = get_or ends i no_ends in
    let inside = c.requires.inside i no_ends c.loop-link-test.true in
    let room = c.loop-link.invariant.room in
    let from : e.from < length r.at = omega (arith, inside.0, room) in
    let to : e.to < length r.at = omega (arith, inside.1, room) in
    record {
      begun = subst (λ es. IsBegun es c.add.new.self) (sym (take_more ends i no_ends c.loop-link-test.true))
          (subst (IsBegun (take i ends ++ e ∷ [])) (sym c.in_ok-add.ensures) (begun_more (take i ends) r c.loop-link.invariant.begun e c.if-link.false from to));
      room = ap (λ (s : ReductionData). length s.at) c.in_ok-add.ensures ∙ room_more (with_number r.at e.from (length r.parts)) e.to (length r.parts)
          ∙ room_more r.at e.from (length r.parts) ∙ room;
    }
