use Rattle.std.specs.Prelude.{Some}
use Rattle.std.proofs.Common.{ap, arith, false, inl, inr, length, refl, ◌<◌, ◌∙◌}
use Rattle.std.proofs.lemmas.Option.{slice_get-get_or}
use Rattle.dom_base.proofs.Options.{if_ok-weaker}
use Rattle.deck_audit.specs.Audits.{leaf, loop}
use Rattle.audit_deck.proofs.LaterBreaks.{leaf_break}
use Rattle.audit_deck.proofs.index.Index.breaks_leaf_or_loop.Goals as goal

pub returns-then-circles-net-clause-yes : goal.returns-then-circles-net-clause-yes
returns-then-circles-net-clause-yes c = λ e.
    let low : c.args.net < length c.args.circles.now = omega (arith, c.requires.within, c.requires.circles.count) in
    let (dynamic, depends) = c.requires.circles.yes c.args.net (slice_get-get_or c.args.circles.now c.args.net false low ∙ ap Some c.if-circles-net.true) in
    loop dynamic depends

pub returns-clause-yes : goal.returns-clause-yes
returns-clause-yes c = if_ok-weaker c.has_other_leaf.result (λ has h e. let (dynamic, p, d, at, t, away) = h e in leaf p d dynamic at t away) c.has_other_leaf.ensures.yes

pub returns-clause-no : goal.returns-clause-no
returns-clause-no c =
    let low : c.args.net < length c.args.circles.now = omega (arith, c.requires.within, c.requires.circles.count) in
    if_ok-weaker c.has_other_leaf.result (λ has h e b.
    elim (leaf_break c.args.self.now.devices c.args.roles c.args.self.now.nets 6 c.args.net b refl) [
      | inl y ↦ h e y
      | inr y ↦ c.requires.circles.no c.args.net (slice_get-get_or c.args.circles.now c.args.net false low ∙ ap Some c.if-circles-net.false) y
    ])
    c.has_other_leaf.ensures.no
