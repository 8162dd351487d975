-- The groups of a deck's cards: one behind the other they are its cards, and no group ends behind the last card.
use Rattle.std.proofs.Common.{◌≡◌, ℕ, ◌+◌, ◌<◌, Bool, List, [], ◌∷◌, ◌++◌, map, length, zip, refl, ap, ap₂, ◌∙◌, arith, length-append}
use Rattle.std.specs.Prelude.{flat_map}
use Rattle.std.specs.List.{AllByRecursion, enumerate_from}
use Rattle.std.proofs.lemmas.List.Concat.{flat_map-append}
use Rattle.deck.specs.NamedDevices.{NamedDevice}
use Rattle.domino_cell.specs.declared.style.Style.{Style}
use Rattle.deck_form.specs.DeckGroups.{card_groups, ends_from}
use Rattle.deck_form.specs.DeckNets.{CellPlan, SinkEnd, named_cell, named_complement, named_devices, named_latch, named_sink, sink_nets}

flat_groups : {X Y : Type 0} (f : X → List Y) (xs : List X) → flat_map (λ group. group) (map f xs) ≡ flat_map f xs
flat_groups f [] = refl
flat_groups f (x ∷ xs) = ap (λ l. f x ++ l) (flat_groups f xs)

-- the groups, one behind the other, are the deck's cards
pub groups_are_cards : (style : Style) (pins outs : List (List ℕ)) (starts : List Bool) (cells : List CellPlan) (complements : List ℕ)
    (ends : List SinkEnd)
    → flat_map (λ group. group) (card_groups style pins outs starts cells complements ends)
    ≡ named_devices style pins outs starts cells complements ends
groups_are_cards style pins outs starts cells complements ends =
    let a = map (named_cell style pins (length pins + length starts)) (enumerate_from 0 cells) in
    let b = map (named_complement pins) complements in
    let c = map named_latch (enumerate_from 0 starts) in
    let d = map (named_sink pins) (zip (sink_nets outs starts) ends) in
    flat_map-append (λ (group : List (NamedDevice (List ℕ))). group) (a ++ b ++ c) d
    ∙ ap₂ (λ x y. x ++ y)
    (flat_map-append (λ (group : List (NamedDevice (List ℕ))). group) (a ++ b) c
    ∙ ap₂ (λ x y. x ++ y)
    (flat_map-append (λ (group : List (NamedDevice (List ℕ))). group) a b
    ∙ ap₂ (λ x y. x ++ y) (flat_groups (named_cell style pins (length pins + length starts)) (enumerate_from 0 cells))
    (flat_groups (named_complement pins) complements))
    (flat_groups named_latch (enumerate_from 0 starts)))
    (flat_groups (named_sink pins) (zip (sink_nets outs starts) ends))

-- no group ends behind all that they hold
pub ends_low : {X : Type 0} (start bound : ℕ) (groups : List (List X)) → start + length (flat_map (λ group. group) groups) < bound
    → AllByRecursion (λ place. place < bound) (ends_from start groups)
ends_low start bound [] low = tt
ends_low start bound (group ∷ groups) low =
    let all = length-append group (flat_map (λ g. g) groups) in
    (omega (arith, low, all), ends_low (start + length group) bound groups (omega (arith, low, all)))
