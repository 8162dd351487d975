use Rattle.std.proofs.Common.{ap, subst, sym, ◌∙◌}
use Rattle.link_reduce.specs.Parts.{with_number}
use Rattle.audit_deck.specs.Indexes.{AddsWhere, HasEnd}
use Rattle.audit_deck.proofs.Listings.{adds_ends, adds_ends_once}
use Rattle.link_reduce.proofs.Options.{on_ok}
use Rattle.audit_deck.proofs.index.add_ends.Goals as goal

pub returns-then-device : goal.returns-then-device
returns-then-device c = on_ok c.add.result
    (λ e. subst (AddsWhere (HasEnd c.args.device) c.args.place c.args.lists.now) (sym e)
    (adds_ends_once c.args.lists.now c.args.device c.args.place c.requires.drain c.requires.source c.if-device.true))
    c.add.ensures

pub returns : goal.returns
returns c = on_ok c.add-3.result
    (λ e. subst (AddsWhere (HasEnd c.args.device) c.args.place c.args.lists.now) (sym (e ∙ ap (λ l. with_number l c.args.device.source c.args.place) c.in_ok-add.ensures))
    (adds_ends c.args.lists.now c.args.device c.args.place c.requires.drain c.requires.source c.if-device.false))
    c.add-3.ensures
