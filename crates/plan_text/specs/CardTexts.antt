-- Texts to which the cards of devices are appended, where devices name their nets.
use Rattle.std.specs.Prelude.{ℕ, ◌+◌, List, [], ◌∷◌, ◌++◌, length, codes}
use Rattle.std.specs.List.{flat_map, enumerate_from}
use Rattle.std.specs.Fmt.{decimal}
use Rattle.deck.specs.DeckText.{model_word}
use Rattle.deck.specs.NamedDevices.{NamedDevice}
use Rattle.spice_text.specs.Text.{deck_line, bulk_of}

-- the card of a device by the names of its nets, with its number
abbrev pub named_card : ℕ × NamedDevice (List ℕ) → List ℕ
named_card p = deck_line (codes "m" ++ decimal p.0) (p.1.drain ∷ p.1.gate ∷ p.1.source ∷ bulk_of p.1.kind ∷ model_word p.1.kind ∷ [])

-- the cards of devices, the first of which has this number
abbrev pub named_cards : ℕ → List (NamedDevice (List ℕ)) → List ℕ
named_cards first devices = flat_map named_card (enumerate_from first devices)

-- a text, and the number of its next card
pub record CardTextData : Type 0 where
  pub text : List ℕ
  pub next : ℕ

-- the text with the cards of these devices behind it
abbrev pub with_named_cards : CardTextData → List (NamedDevice (List ℕ)) → CardTextData
with_named_cards t devices = record { text = t.text ++ named_cards t.next devices; next = t.next + length devices }
