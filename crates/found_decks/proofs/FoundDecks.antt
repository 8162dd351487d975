-- Where all rules hold, the places that an audit lists are the order of a yes.
use Rattle.std.proofs.Common.{length, refl, subst, ℕ, ◌≡◌}
use Rattle.deck_audit.specs.Audits.{HasMeasure, IsGreatest, IsOrder, IsYes}
use Rattle.deck_audit.proofs.Answers.{one_greatest}
use Rattle.deck_audit.proofs.OwnDecks.{keeper_decks_get_yes}
use Rattle.domino_law.specs.Spelled.{deck_devices}
use Rattle.sp_reduction.specs.Networks.{whole_height, whole_width}
use Rattle.found_decks.specs.FoundDecks.{FoundDecksGetYes}
use Rattle.found_decks.proofs.FoundGates.{dominoes}
use Rattle.found_decks.proofs.FoundNets.{Found, devices, net}
use Rattle.found_decks.proofs.FoundShapes.{shape}
use Rattle.found_decks.proofs.Owners.{exchanged}
use Rattle.found_decks.proofs.PlacesAll.{all_listed}
use Rattle.found_decks.proofs.PlacesAt.{cards_at}
use Rattle.found_decks.proofs.PlacesOnce.{places_once}

in_order : (w : Found) → IsOrder (devices w) w.order (deck_devices (net w) (shape w))
in_order w = record { once = places_once w; all = λ p d at. all_listed w p d at; cards_are = cards_at w }

-- a yes with these numbers is one with equal ones
with_numbers : (w : Found) {cells v h : ℕ} (count width height : ℕ) → cells ≡ count → v ≡ width → h ≡ height → IsYes w.circuit w.roles w.order cells v h
    → IsYes w.circuit w.roles w.order count width height
with_numbers w {cells} {v} {h} count width height c e f y =
    subst (λ k. IsYes w.circuit w.roles w.order k width height) c
    (subst (λ m. IsYes w.circuit w.roles w.order cells m height) e (subst (λ m. IsYes w.circuit w.roles w.order cells v m) f y))

yes : (w : Found) (width height : ℕ) → IsGreatest (HasMeasure (devices w) w.roles whole_width) width → IsGreatest (HasMeasure (devices w) w.roles whole_height) height
    → IsYes w.circuit w.roles w.order (length (w.parts).tops) width height
yes w width height g h =
    let y = keeper_decks_get_yes w.circuit w.roles (net w) (shape w) w.order refl (exchanged w).deck (in_order w) in
    with_numbers w (length (w.parts).tops) width height (dominoes w).count
    (one_greatest (HasMeasure (devices w) w.roles whole_width) _ width y.width_is g) (one_greatest (HasMeasure (devices w) w.roles whole_height) _ height y.height_is h) y

pub found_decks_get_yes : FoundDecksGetYes
found_decks_get_yes c roles f order w h some_clock few range rules found places width height =
    yes (record { circuit = c; roles = roles; parts = f; order = order; some_clock = some_clock; few = few; range = range; rules = rules; found = found; places = places }) w h width height
