use Rattle.std.proofs.Common.{All, arith, length, subst, sym, ◌+◌}
use Rattle.link_reduce.proofs.Options.{none_is}
use Rattle.found_decks.specs.FoundDecks.{AreFound, FoundParts}
use Rattle.audit_deck.specs.Broken.{IsKept}
use Rattle.audit_deck.specs.DeckOrders.{DeckOrderData, IsDeckOrder}
use Rattle.audit_deck.specs.LeafOrders.{AreByPlace, IsOfLeaf}
use Rattle.audit_deck.specs.Loops.{IsCellOrder}
use Rattle.audit_deck.specs.Marks.{IsWithin}
use Rattle.audit_deck.proofs.AuditAnswers.{yes_of}
use Rattle.audit_deck.proofs.FoundMarks.{groups_within}
use Rattle.audit_deck.proofs.JoinedParts.{are_found, keeps_others}
use Rattle.audit_deck.proofs.index.Index.answer_by_cells.Goals as goal

pub in_order-requires-clause-within : goal.in_order-requires-clause-within
in_order-requires-clause-within c =
    subst (λ n. All (IsWithin n) c.args.latches.now) (sym ((c.requires.marked).complements).count)
    (groups_within c.args.self.now.devices c.args.roles c.args.latches.now c.requires.latches c.args.self.now.nets c.requires.in_range)

pub deck_order-requires-clause-found : goal.deck_order-requires-clause-found
deck_order-requires-clause-found c =
    let ds = c.args.self.now.devices in
    let marked = c.requires.marked in
    are_found ds c.args.roles c.nets-tops.result.now c.as_slice.result.now c.args.latches.now
    (subst (IsCellOrder ds c.args.roles) (sym c.nets-tops.ensures.nets) c.in_ok-cells.ensures) c.requires.keeps c.requires.latches
    c.args.self.now.nets c.requires.in_range c.args.marks.now.complements marked.complements
    (subst (AreByPlace (IsOfLeaf c.args.roles c.args.latches.now c.args.marks.now.complements) (c.args.roles.pins + length c.args.latches.now))
    (sym c.as_slice.ensures.value) c.in_ok-complements.ensures)

pub returns : goal.returns
returns c =
    let ds = c.args.self.now.devices in
    let roles = c.args.roles in
    let nets = c.args.self.now.nets in
    let table = c.args.marks.now.complements in
    let latches = c.args.latches.now in
    let tops = c.nets-tops.result.now in
    let outs = c.as_slice.result.now in
    let sixth = none_is c.in_ok-net.field-0 (IsKept ds roles nets 6) c.in_default.is c.in_ok-net.ensures.none in
    let parts : FoundParts = record { tops = tops; complements = outs; latches = latches } in
    let order : DeckOrderData = record { places = c.order.inside.places.items; width = c.order.inside.width; height = c.order.inside.height } in
    let found : AreFound ds roles parts = are_found ds roles tops outs latches
    (subst (IsCellOrder ds roles) (sym c.nets-tops.ensures.nets) c.in_ok-cells.ensures) c.requires.keeps c.requires.latches
    nets c.requires.in_range table (c.requires.marked).complements
    (subst (AreByPlace (IsOfLeaf roles latches table) (roles.pins + length latches)) (sym c.as_slice.ensures.value) c.in_ok-complements.ensures) in
    yes_of ds nets roles parts order (record {
      clocks = c.requires.clocks;
      sources = omega (arith, c.requires.ports);
      in_range = c.requires.in_range;
      others = keeps_others ds roles nets c.args.marks.now c.requires.marked parts found c.requires.in_range c.requires.keeps c.requires.uses
          (c.requires.kept 5 (omega arith)) sixth;
      found = found;
      order = subst (IsDeckOrder ds roles parts) (sym c.order.view_is) c.in_ok-order.ensures;
    })
