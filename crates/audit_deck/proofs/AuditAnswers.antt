-- The answers of an audit from what its passes tell: no by the first rule that is broken, and yes by the order that was put together.
use Rattle.std.proofs.Common.{List, length, subst, sym, ℕ, ◌<◌, ◌≡◌, ◌≤◌}
use Rattle.deck.specs.CircuitData.{CircuitData}
use Rattle.deck.specs.PortLayout.{source_count}
use Rattle.deck.specs.declared.device.Device.{Device}
use Rattle.deck.specs.declared.role.Roles.{Roles}
use Rattle.deck_audit.specs.Audits.{IsYes, No, Yes}
use Rattle.found_decks.specs.FoundDecks.{AreFound, FoundParts}
use Rattle.audit_deck.specs.Answers.{IsAuditOf}
use Rattle.audit_deck.specs.Broken.{IsKept, IsSmallest}
use Rattle.audit_deck.specs.DeckOrders.{DeckOrderData, IsDeckOrder}
use Rattle.audit_deck.specs.Indexes.{AreInRange}
use Rattle.audit_deck.proofs.DeckYes.{KeepsOthers, order_is_yes}

-- the rule is broken there first
pub record BreaksFirst (ds : List Device) (nets : ℕ) (roles : Roles) (rule net : ℕ) : Type 0 where
  pub smallest : IsSmallest ds roles nets rule net
  pub first : (r : ℕ) → r < rule → IsKept ds roles nets r

pub no_of : (ds : List Device) (nets : ℕ) (roles : Roles) (rule net : ℕ) → BreaksFirst ds nets roles rule net → IsAuditOf ds nets roles (No rule net)
no_of ds nets roles rule net b c same count =
    let x = subst (λ d. BreaksFirst d (length c.nets) roles rule net) (sym same) (subst (λ n. BreaksFirst ds n roles rule net) (sym count) b) in
    record { broken = (x.smallest).broken; smallest = (x.smallest).smallest; first = λ r m lt. x.first r lt m }

-- the devices are those of a deck with these parts in this order
pub record IsFoundDeck (ds : List Device) (nets : ℕ) (roles : Roles) (f : FoundParts) (o : DeckOrderData) : Type 0 where
  pub clocks : 1 ≤ roles.clocks
  pub sources : source_count roles ≤ nets
  pub in_range : AreInRange ds nets
  pub others : KeepsOthers ds roles nets
  pub found : AreFound ds roles f
  pub order : IsDeckOrder ds roles f o

pub yes_of : (ds : List Device) (nets : ℕ) (roles : Roles) (f : FoundParts) (o : DeckOrderData) → IsFoundDeck ds nets roles f o
    → IsAuditOf ds nets roles (Yes o.places (length f.tops) o.width o.height)
yes_of ds nets roles f o k c same count =
    let x = subst (λ d. IsFoundDeck d (length c.nets) roles f o) (sym same) (subst (λ n. IsFoundDeck ds n roles f o) (sym count) k) in
    let p = x.order in
    let yes = order_is_yes c roles f p.cells p.complements p.latches p.outputs o.places x.clocks x.sources
    (λ d place at. let r = x.in_range place d at in (r.drain, r.source))
    x.others x.found p.cells_are p.complements_are p.latches_are p.outputs_are p.data_are in
    subst (λ h. IsYes c roles o.places (length f.tops) o.width h) (sym p.height_is)
    (subst (λ w. IsYes c roles o.places (length f.tops) w (p.cells).height) (sym p.width_is) yes)
