-- The texts of the groups of a planned deck.
use Rattle.std.proofs.Common.{◌≡◌, ℕ, ◌+◌, List, [], ◌++◌, length, map, refl, sym, ap, ◌∙◌}
use Rattle.deck_form.specs.ChosenDecks.{end_at_cell}
use Rattle.deck_form.proofs.DeckGroups.{groups_are_cards}
use Rattle.sp_network.specs.Tree.{Tree}
use Rattle.plan_text.specs.CalledTexts.{GroupTextData, bare_cell, calls_of_groups, no_groups, shapes_of_groups}
use Rattle.plan_text.specs.CardTexts.{CardTextData, named_cards, with_named_cards}
use Rattle.plan_text.specs.DeviceTexts.{with_groups}
use Rattle.plan_text.specs.PlannedDecks.{planned_cells, planned_devices, planned_groups}
use Rattle.plan_text.specs.declared.device_text.DeviceText.{DeviceText}
use Rattle.plan_text.specs.declared.device_text.DeviceText.TheVariants.{Cards, Groups}
use Rattle.plan_text.specs.declared.planned.PlannedDeck.{PlannedDeck}
use Rattle.plan_text.proofs.CalledTexts.{text_of_groups}
use Rattle.plan_text.proofs.DeviceTexts.{cards_of_groups}

-- the cards of a text of cards, and the groups of one of groups
abbrev own_cards : DeviceText → CardTextData
own_cards (Cards cards) = cards
own_cards (Groups groups) = record { text = []; next = 0 }

abbrev own_groups : DeviceText → GroupTextData
own_groups (Cards cards) = no_groups
own_groups (Groups groups) = groups

-- cards behind a text
pub planned_cards : (deck : PlannedDeck) (trees : List (Tree ℕ)) (text : List ℕ) (first : CardTextData) (new : DeviceText) → first ≡ record { text = text; next = 0 }
    → new ≡ with_groups (Cards first) (planned_groups deck trees) → new ≡ Cards (with_named_cards (record { text = text; next = 0 }) (planned_devices deck trees))
planned_cards deck trees text first new begin e =
    let same = groups_are_cards deck.style deck.cover.pins.now deck.outs.now deck.starts.now (planned_cells deck trees) deck.complements.now
    (map (end_at_cell deck.cover.kept.now) deck.cover.forest.now.ends) in
    e ∙ ap (λ (t : CardTextData). with_groups (Cards t) (planned_groups deck trees)) begin
    ∙ cards_of_groups (record { text = text; next = 0 }) (planned_groups deck trees)
    ∙ ap (λ l. Cards (with_named_cards (record { text = text; next = 0 }) l)) same

pub cards_text : (deck : PlannedDeck) (trees : List (Tree ℕ)) (text : List ℕ) (cards : CardTextData) (new : DeviceText)
    → new ≡ Cards (with_named_cards (record { text = text; next = 0 }) (planned_devices deck trees)) → new ≡ Cards cards
    → cards.text ≡ text ++ named_cards 0 (planned_devices deck trees)
cards_text deck trees text cards new is own = ap (λ t. (own_cards t).text) (sym own ∙ is)

-- the groups behind none
pub planned_calls : (deck : PlannedDeck) (trees : List (Tree ℕ)) (first : GroupTextData) (new : DeviceText) → first ≡ no_groups
    → new ≡ with_groups (Groups first) (planned_groups deck trees)
    → new ≡ Groups (record { cell = bare_cell; shapes = shapes_of_groups (planned_groups deck trees); calls = calls_of_groups (planned_groups deck trees); count = 0 + length (planned_groups deck trees) })
planned_calls deck trees first new begin e =
    e ∙ ap (λ (g : GroupTextData). with_groups (Groups g) (planned_groups deck trees)) begin ∙ text_of_groups (planned_groups deck trees)

pub calls_text : (deck : PlannedDeck) (trees : List (Tree ℕ)) (groups : GroupTextData) (new : DeviceText)
    → new ≡ Groups (record { cell = bare_cell; shapes = shapes_of_groups (planned_groups deck trees); calls = calls_of_groups (planned_groups deck trees); count = 0 + length (planned_groups deck trees) })
    → new ≡ Groups groups
    → (groups.shapes ≡ shapes_of_groups (planned_groups deck trees)) × (groups.calls ≡ calls_of_groups (planned_groups deck trees))
calls_text deck trees groups new is own =
    let same = sym own ∙ is in
    (ap (λ t. (own_groups t).shapes) same, ap (λ t. (own_groups t).calls) same)
