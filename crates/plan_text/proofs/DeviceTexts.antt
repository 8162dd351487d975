-- Devices that are put one after another, and groups that end one after another.
use Rattle.std.proofs.Common.{◌≡◌, ℕ, ◌+◌, ◌<◌, List, [], ◌∷◌, ◌++◌, length, take, map, get_or, refl, sym, ap, ◌∙◌}
use Rattle.std.specs.List.{flat_map}
use Rattle.std.proofs.lemmas.List.{take_more}
use Rattle.deck.specs.CircuitData.{CircuitData}
use Rattle.deck.specs.NamedDevices.{NamedDevice}
use Rattle.deck.proofs.CircuitGrowth.{with_devices-append}
use Rattle.dom_base.proofs.Lists.{map-push}
use Rattle.plan_text.specs.CalledTexts.{GroupTextData}
use Rattle.plan_text.specs.CardTexts.{CardTextData, with_named_cards}
use Rattle.plan_text.specs.DeviceTexts.{with_end, with_groups, with_put}
use Rattle.plan_text.specs.declared.device_text.DeviceText.{DeviceText}
use Rattle.plan_text.specs.declared.device_text.DeviceText.TheVariants.{Cards, Groups}
use Rattle.plan_text.proofs.CardTexts.{no_cards, with_named_cards-append}

-- devices that are put in two steps
pub with_put-append : (t : DeviceText) (xs ys : List (NamedDevice (List ℕ))) → with_put (with_put t xs) ys ≡ with_put t (xs ++ ys)
with_put-append (Cards t) xs ys = ap (λ (c : CardTextData). Cards c) (with_named_cards-append t xs ys)
with_put-append (Groups g) xs ys =
    ap (λ (c : CircuitData). Groups (record g { cell = c })) (sym (with_devices-append g.cell xs ys))

-- a text that grew in two steps
pub then_put : (a b c : DeviceText) (xs ys : List (NamedDevice (List ℕ))) → b ≡ with_put a xs → c ≡ with_put b ys → c ≡ with_put a (xs ++ ys)
then_put a b c xs ys e f = f ∙ ap (λ t. with_put t ys) e ∙ with_put-append a xs ys

-- no devices
pub none_put : (t : DeviceText) → t ≡ with_put t []
none_put (Cards t) = ap (λ (c : CardTextData). Cards c) (no_cards t)
none_put (Groups g) = refl

-- groups in two steps
pub with_groups-append : (t : DeviceText) (xs ys : List (List (NamedDevice (List ℕ)))) → with_groups (with_groups t xs) ys ≡ with_groups t (xs ++ ys)
with_groups-append t [] ys = refl
with_groups-append t (x ∷ xs) ys = with_groups-append (with_end (with_put t x)) xs ys

pub then_groups : (a b c : DeviceText) (xs ys : List (List (NamedDevice (List ℕ)))) → b ≡ with_groups a xs → c ≡ with_groups b ys → c ≡ with_groups a (xs ++ ys)
then_groups a b c xs ys e f = f ∙ ap (λ t. with_groups t ys) e ∙ with_groups-append a xs ys

-- one more group, by its devices and its end
pub one_group : (a b c : DeviceText) (group : List (NamedDevice (List ℕ))) → b ≡ with_put a group → c ≡ with_end b → c ≡ with_groups a (group ∷ [])
one_group a b c group e f = f ∙ ap with_end e

-- cards have no groups
pub cards_of_groups : (t : CardTextData) (groups : List (List (NamedDevice (List ℕ))))
    → with_groups (Cards t) groups ≡ Cards (with_named_cards t (flat_map (λ group. group) groups))
cards_of_groups t [] = ap (λ (c : CardTextData). Cards c) (no_cards t)
cards_of_groups t (group ∷ groups) =
    cards_of_groups (with_named_cards t group) groups
    ∙ ap (λ (c : CardTextData). Cards c) (with_named_cards-append t group (flat_map (λ g. g) groups))
