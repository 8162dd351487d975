-- Texts to which devices are put, as cards or in groups.
use Rattle.std.specs.Prelude.{ℕ, List, [], ◌∷◌}
use Rattle.deck.specs.NamedDevices.{NamedDevice}
use Rattle.plan_text.specs.CalledTexts.{with_group_devices, with_group_end}
use Rattle.plan_text.specs.CardTexts.{with_named_cards}
use Rattle.plan_text.specs.declared.device_text.DeviceText.{DeviceText}
use Rattle.plan_text.specs.declared.device_text.DeviceText.TheVariants.{Cards, Groups}

-- the text with these devices
abbrev pub with_put : DeviceText → List (NamedDevice (List ℕ)) → DeviceText
with_put (Cards cards) devices = Cards (with_named_cards cards devices)
with_put (Groups groups) devices = Groups (with_group_devices groups devices)

-- the text where a group has ended, which leaves cards as they are
abbrev pub with_end : DeviceText → DeviceText
with_end (Cards cards) = Cards cards
with_end (Groups groups) = Groups (with_group_end groups)

-- the text with these groups of devices
abbrev pub with_groups : DeviceText → List (List (NamedDevice (List ℕ))) → DeviceText
with_groups t [] = t
with_groups t (group ∷ groups) = with_groups (with_end (with_put t group)) groups
