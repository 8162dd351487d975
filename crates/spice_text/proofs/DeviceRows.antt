-- The rows of devices are plain, and they are the cards of the devices.
use Rattle.std.proofs.Common.{ℕ, ◌<◌, ◌≤◌, ◌+◌, ◌^◌, List, [], ◌∷◌, map, length, codes, refl, arith, inr, All}
use Rattle.std.specs.List.{AllByRecursion, AllZip, enumerate_from}
use Rattle.std.specs.Fmt.{decimal}
use Rattle.dom_base.proofs.Decimals.{decimal_is_net}
use Rattle.std.proofs.lemmas.List.Elements.{All-cons, All-get_or}
use Rattle.dom_base.specs.Names.{IsNetByte, IsNetName}
use Rattle.dom_base.specs.declared.kind.Kind.{Kind}
use Rattle.dom_base.specs.declared.kind.Kind.TheVariants.{N as nch, P as pch, Keep}
use Rattle.dom_base.proofs.Names.{IsNetName-from_test}
use Rattle.deck.specs.declared.device.Device.{Device}
use Rattle.deck.specs.DeckText.{model_word, IsDeviceCard}
use Rattle.spice_text.specs.Text.{bulk_of}
use Rattle.deck.specs.NamedDevices.{named_device}
use Rattle.deck.specs.Nets.{IsInRange, net_name}
use Rattle.spice_text.proofs.ReadRows.{IsPlainRow}
use Rattle.spice_text.proofs.WrittenRows.{card_row}

-- `m` and a number
device_name : (n : ℕ) → n < 2 ^ 64 → IsNetName (109 ∷ decimal n)
device_name n fits = record {
  some = λ e. cc;
  good = All-cons IsNetByte 109 (decimal n) (omega arith, omega arith, inr (omega arith)) (decimal_is_net n fits);
}

bulk_plain : (kind : Kind) → IsNetName (bulk_of kind)
bulk_plain nch = IsNetName-from_test (codes "vss") refl
bulk_plain pch = IsNetName-from_test (codes "vdd") refl
bulk_plain Keep = IsNetName-from_test (codes "vdd") refl

model_plain : (kind : Kind) → IsNetName (model_word kind)
model_plain nch = IsNetName-from_test (codes "nch") refl
model_plain pch = IsNetName-from_test (codes "pch") refl
model_plain Keep = IsNetName-from_test (codes "pkeep") refl

net_plain : (nets : List (List ℕ)) (e : ℕ) → All IsNetName nets → e < length nets → IsNetName (net_name nets e)
net_plain nets e h lt = All-get_or IsNetName nets e [] lt h

card_plain : (nets : List (List ℕ)) (n : ℕ) (d : Device) → All IsNetName nets → n < 2 ^ 64 → IsInRange (length nets) d → IsPlainRow (card_row nets (n, d))
card_plain nets n d h fits low = (
  device_name n fits,
  (
    net_plain nets d.drain h low.drain,
    (
      net_plain nets d.gate h low.gate,
      (
        net_plain nets d.source h low.source,
        (bulk_plain d.kind, (model_plain d.kind, tt)),
      ),
    ),
  ),
)

-- a fact of the row of each device
pub all_cards : (P : List (List ℕ) → Type 0) (nets : List (List ℕ)) → ((n : ℕ) (d : Device) → P (card_row nets (n, d)))
    → (n : ℕ) (ds : List Device) → AllByRecursion P (map (card_row nets) (enumerate_from n ds))
all_cards P nets f n [] = tt
all_cards P nets f n (d ∷ ds) = (f n d, all_cards P nets f (n + 1) ds)

-- the rows of devices are plain
pub cards_plain : (nets : List (List ℕ)) (n : ℕ) (ds : List Device) → All IsNetName nets → n + length ds ≤ 2 ^ 24 → AllByRecursion (IsInRange (length nets)) ds
    → AllByRecursion IsPlainRow (map (card_row nets) (enumerate_from n ds))
cards_plain nets n [] h few low = tt
cards_plain nets n (d ∷ ds) h few low = (card_plain nets n d h (omega arith) low.0, cards_plain nets (n + 1) ds h (omega arith) low.1)

card_is : (nets : List (List ℕ)) (n : ℕ) (d : Device) → IsDeviceCard (card_row nets (n, d)) (named_device nets d)
card_is nets n d = record {
  name = decimal n;
  bulk = bulk_of d.kind;
  more = [];
  words_are = refl;
}

-- the rows of devices are their cards
pub cards_are : (nets : List (List ℕ)) (n : ℕ) (ds : List Device) → AllZip IsDeviceCard (map (card_row nets) (enumerate_from n ds)) (map (named_device nets) ds)
cards_are nets n [] = tt
cards_are nets n (d ∷ ds) = (card_is nets n d, cards_are nets (n + 1) ds)
