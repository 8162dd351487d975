use Rattle.std.proofs.Common.{[], get_or, subst, sym, take, ℕ, ◌++◌, ◌∷◌}
use Rattle.std.proofs.lemmas.List.{take_more}
use Rattle.audit_deck.specs.CellTrees.{AreLocal}
use Rattle.audit_deck.proofs.LocalLinks.{local_more}
use Rattle.audit_deck.proofs.index.Index.links.Goals as goal

pub loop-place-preserved : goal.loop-place-preserved
loop-place-preserved c =
    let ds = c.args.self.now.devices in
    let nets = c.args.nets.now.nets in
    let places = c.args.places.now in
    let i = c.loop-place.place-index in
    let p : ℕ = get_or places i 0 in
    subst (λ ps. AreLocal ds nets ps c.push.new.self.items) (sym (take_more places i 0 c.loop-place-test.true))
    (subst (AreLocal ds nets (take i places ++ p ∷ [])) (sym c.in_ok-push.ensures.items)
    (local_more ds nets (take i places) c.loop-place.links.items c.loop-place.invariant p c.local_ends.result c.local_ends.ensures))
