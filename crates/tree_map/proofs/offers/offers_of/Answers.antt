-- Offers are the choices of an arm.
use Rattle.std.proofs.Common.{◌≡◌, ◌∙◌, ◌++◌, ◌∷◌, ◌<◌, [], ap, sym, subst, refl, List}
use Rattle.cover_plan.specs.Parts.{End, Join, leaf_shape}
use Rattle.dual_rail.specs.ForestOrder.{ReadsBefore}
use Rattle.tree_map.specs.declared.offers.Offer.{Offer}
use Rattle.tree_map.specs.declared.offers.Choice.TheVariants.{Nothing as offered_nothing}
use Rattle.tree_map.specs.LeastPlans.{operator_of}
use Rattle.tree_map.specs.Offers.{AreOffers}
use Rattle.tree_map.proofs.OfferedChoices.{free_part, no_cut, no_free_part, one_offer, with_cut}
use Rattle.tree_map.proofs.offers.offers_of.Goals as goal

pub returns-in_default : goal.returns-in_default
returns-in_default c = λ forest place part are before least is.
    let t = c.args.sums.now in
    let same = no_free_part forest c.args.free.now are c.args.arm part c.in_default.ensures is in
    let o : Offer = record { choice = offered_nothing; shape = leaf_shape; sum = 1 } in
    let items : c.push.new.self.items ≡ o ∷ [] = c.in_ok-push.ensures.items ∙ ap (λ (xs : List Offer). xs ++ o ∷ []) c.clear.ensures.items in
    subst (λ e. AreOffers t.costs t.w t.h e c.push.new.self.items) (sym same)
    (subst (λ xs. AreOffers t.costs t.w t.h End xs) (sym items) (one_offer t.costs t.w t.h o refl refl refl))

pub returns-in_ok-push-2 : goal.returns-in_ok-push-2
returns-in_ok-push-2 c = λ forest place part are before least is.
    let t = c.args.sums.now in
    let lt : c.in-Some.place < place = subst (ReadsBefore place) c.in-Some.ensures.0 before in
    free_part forest c.args.free.now are (λ e. AreOffers t.costs t.w t.h e c.push-in-Some-cut.new.self.items) c.args.arm c.in-Some.place part c.requires.there c.in-Some.ensures
    (λ pair l r at dl dr. let has = least c.in-Some.place pair l r lt at dl dr in
    subst (λ (xs : List Offer). AreOffers t.costs t.w t.h (Join (operator_of pair) l r) xs) (sym c.in_ok-push-2.ensures.items)
    (with_cut t c.in-Some.place c.kept_offers.new.offers.items c.in_ok-kept_offers.ensures (operator_of pair) l r has.0 has.1 c.in-Some-cut.sum (sym c.cut.ensures ∙ c.in-Some-cut.is) _ refl refl refl)) is

pub returns-in_default-cut : goal.returns-in_default-cut
returns-in_default-cut c = λ forest place part are before least is.
    let t = c.args.sums.now in
    let lt : c.in-Some.place < place = subst (ReadsBefore place) c.in-Some.ensures.0 before in
    free_part forest c.args.free.now are (λ e. AreOffers t.costs t.w t.h e c.kept_offers.new.offers.items) c.args.arm c.in-Some.place part c.requires.there c.in-Some.ensures
    (λ pair l r at dl dr. let has = least c.in-Some.place pair l r lt at dl dr in
    no_cut t c.in-Some.place c.kept_offers.new.offers.items c.in_ok-kept_offers.ensures (operator_of pair) l r has.0 has.1 (sym c.cut.ensures ∙ c.in_default-cut.is)) is
