use Rattle.std.specs.Prelude.{Some, slice_get}
use Rattle.std.proofs.Common.{List, [], get_or, subst, sym, ℕ, ◌++◌, ◌+◌, ◌∷◌, ◌≡◌}
use Rattle.std.proofs.lemmas.Option.{slice_get-get_or}
use Rattle.audit_deck.specs.Indexes.{AreThose}
use Rattle.audit_deck.proofs.LocalLinks.{OtherBefore, all_others, one_skipped, other_added}
use Rattle.audit_deck.proofs.trees.others.Goals as goal
use Rattle.audit_deck.proofs.trees.others.Goals.{then-place-one+in_ok-push, else-place-one}

pub loop-place-preserved : goal.loop-place-preserved
loop-place-preserved c =
    let places = c.args.places.now in
    let i = c.loop-place.place-index in
    let q : ℕ = get_or places i 0 in
    let at : slice_get places i ≡ Some q = slice_get-get_or places i 0 c.loop-place-test.true in
    let rest : List ℕ = c.loop-place.rest.items in
    elim c.if-place-one.branch [
      | then-place-one+in_ok-push w ↦
          let e : c.if-place-one.rest.items ≡ rest ++ q ∷ [] = cc (w.rest-is, w.in_ok-push.ensures.items) in
          subst (AreThose (OtherBefore places c.args.one (i + 1))) (sym e)
          (other_added places c.requires c.args.one i q at rest c.loop-place.invariant w.if-place-one.true)
      | else-place-one w ↦
          let e : c.if-place-one.rest.items ≡ rest = cc (w.rest-is) in
          subst (AreThose (OtherBefore places c.args.one (i + 1))) (sym e)
          (one_skipped places c.requires c.args.one i q at rest c.loop-place.invariant w.if-place-one.false)
    ]

pub returns : goal.returns
returns c = all_others c.args.places.now c.args.one c.loop-place.place-index c.loop-place.rest.items c.loop-place-test.false c.loop-place.invariant
