-- Cards by their words.
use Rattle.std.proofs.Common.{◌≡◌, ℕ, zero, suc, ◌<◌, ◌-◌, List, [], ◌∷◌, length, take, Option, Some, None, refl, ap, sym, ◌∙◌, arith}
use Rattle.std.specs.Prelude.{IsSome, slice_get, slice_index_or}
use Rattle.std.proofs.lemmas.Bool.{true≢false}
use Rattle.std.proofs.lemmas.Option.{get_or_from_slice_get, slice_get-get_or}
use Rattle.blif_ast.specs.declared.latch.Edge2.{Edge2}
use Rattle.numbered_file.specs.declared.parts.PartKind.{PartKind}
use Rattle.numbered_file.specs.declared.parts.PartKind.TheVariants as at
use Rattle.numbered_file.specs.Numbered.{part_by}
use Rattle.card_places.specs.PartCards.{part_card}
use Rattle.network.proofs.IndexedLists.{take_get}
use Rattle.model_calls.specs.Expanded.{BodyCard, card_line}
use Rattle.part_numbers.specs.PartCards.{card_control, card_edge, card_inputs}

-- a word that is there
word_is : (words : List (List ℕ)) (index : ℕ) → (word : Option (List ℕ)) → slice_get words index ≡ word → IsSome word → word ≡ Some (slice_index_or words index [])
word_is words index None e some = absurd (true≢false (sym some))
word_is words index (Some w) e some = ap Some (sym (get_or_from_slice_get words index w [] e))

-- a word in a front of a list
pub front_is : (words : List (List ℕ)) (count index : ℕ) → index < length (take count words) → slice_get (take count words) index ≡ Some (slice_index_or words index [])
front_is words count index l =
    let w = slice_index_or (take count words) index [] in
    let there = slice_get-get_or (take count words) index [] l in
    there ∙ ap Some (sym (get_or_from_slice_get words index w [] (take_get words count index w there).1))

module _ (text : List ℕ) (line : ℕ) (words : List (List ℕ)) (rows : List ℕ) where
  abbrev pub card_by : PartKind → BodyCard
  card_by kind = part_card (part_by text kind line words rows)

  pub line_by : (kind : PartKind) → card_line (card_by kind) ≡ line
  line_by (at.Table on) = refl
  line_by (at.Latch edge init) = refl
  line_by at.Instance = refl

  one_input : (index : ℕ) (word : List ℕ) → index < 1 → slice_get (slice_index_or words 0 [] ∷ []) index ≡ Some (slice_index_or words index [])
  one_input zero word l = refl
  one_input (suc index) word l = absurd (omega (arith, l))

  pub input_by : (kind : PartKind) (index : ℕ) → index < length (card_inputs (card_by kind)) → slice_get (card_inputs (card_by kind)) index ≡ Some (slice_index_or words index [])
  input_by (at.Table on) index l = front_is words (length words - 1) index l
  input_by (at.Latch edge init) index l = one_input index [] l
  input_by at.Instance index l = absurd (omega (arith, l))

  pub control_by : (kind : PartKind) → IsSome (card_control (card_by kind)) → card_control (card_by kind) ≡ Some (slice_index_or words 2 [])
  control_by (at.Table on) some = absurd (true≢false (sym some))
  control_by (at.Latch None init) some = absurd (true≢false (sym some))
  control_by (at.Latch (Some edge) init) some = word_is words 2 (slice_get words 2) refl some
  control_by at.Instance some = absurd (true≢false (sym some))

  pub edge_by : (edge : Option Edge2) (init : ℕ) → card_edge (card_by (at.Latch edge init)) ≡ edge
  edge_by None init = refl
  edge_by (Some edge) init = refl
