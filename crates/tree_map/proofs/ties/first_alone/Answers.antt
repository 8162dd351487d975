-- One more offer: it is the first of least sum, or that before stays.
use Rattle.std.proofs.Common.{◌+◌, ◌≡◌, ◌∙◌, ap, sym, subst, slice_get, Some}
use Rattle.std.proofs.lemmas.Option.{slice_get-get_or}
use Rattle.tree_map.proofs.FirstLeast.{IsFirstOf, first_of_all, first_of_new, first_of_none, first_of_old}
use Rattle.tree_map.proofs.ties.first_alone.Goals.{then-is_cheaper, else-is_cheaper}
use Rattle.tree_map.proofs.ties.first_alone.Goals as goal

pub loop-offer-preserved : goal.loop-offer-preserved
loop-offer-preserved c =
    let x = c.offer-item.result in
    let at : slice_get c.args.offers.now c.loop-offer.offer-index ≡ Some x =
    slice_get-get_or c.args.offers.now c.loop-offer.offer-index x c.loop-offer-test.true ∙ ap Some (sym c.offer-item.is) in
    elim c.if-is_cheaper.branch [
      | then-is_cheaper w ↦
          subst (IsFirstOf c.args.offers.now (c.loop-offer.offer-index + 1)) (sym w.first-is)
          (first_of_new c.args.offers.now c.loop-offer.offer-index c.loop-offer.first c.loop-offer.invariant x at (c.is_cheaper.ensures.less w.if-is_cheaper.true))
      | else-is_cheaper w ↦
          subst (IsFirstOf c.args.offers.now (c.loop-offer.offer-index + 1)) (sym w.first-is)
          (first_of_old c.args.offers.now c.loop-offer.offer-index c.loop-offer.first c.loop-offer.invariant x at (c.is_cheaper.ensures.not_less w.if-is_cheaper.false))
    ]

pub returns : goal.returns
returns c = first_of_all c.args.offers.now c.loop-offer.offer-index c.loop-offer.first c.loop-offer.invariant c.loop-offer-test.false

pub loop-offer-init : goal.loop-offer-init
loop-offer-init c =
    let x = c.index-offers-0.result in
    first_of_none c.args.offers.now x (slice_get-get_or c.args.offers.now 0 x c.requires.some ∙ ap Some (sym c.index-offers-0.is))
