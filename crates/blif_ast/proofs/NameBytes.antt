-- What holds of the bytes of a text, and of a blank, holds of those of its models' names and ports.
use Rattle.std.proofs.Common.{◌≡◌, ℕ, ◌+◌, ◌-◌, Bool, true, false, List, [], ◌∷◌, length, map, filter, drop, refl, sym, subst}
use Rattle.std.specs.Prelude.{if◌then◌else◌, slice_index_or}
use Rattle.std.specs.List.{AllByRecursion, flat_map, prefix_len, take_while}
use Rattle.dom_base.specs.Lines.{lines, without_comment}
use Rattle.dom_base.proofs.Lists.{AllByRecursion-append, AllByRecursion-kept, AllByRecursion-take}
use Rattle.dom_base.proofs.WordBytes.{lines_each, without_comment_each, words_each}
use Rattle.blif_ast.specs.LogicalLines.{LogicalLine, NumberedBytes, in_words, has_words, is_joined, but_last, with_blank, joined_lines, with_line, with_next, logical_lines}
use Rattle.blif_ast.specs.Cards.{begins, model_card, inputs_card, outputs_card}
use Rattle.blif_ast.specs.Models.{is_inside, blif_model, models_of, names_on}
use Rattle.blif_ast.specs.BlifModelData.{BlifModelData}

module _ (P : ℕ → Type 0) where
  abbrev EachByte : List (List ℕ) → Type 0
  EachByte all = AllByRecursion (AllByRecursion P) all

  abbrev EachNumbered : List NumberedBytes → Type 0
  EachNumbered all = AllByRecursion (λ line. AllByRecursion P line.bytes) all

  abbrev LineEach : LogicalLine → Type 0
  LineEach line = EachByte line.words

  next-each : (n : ℕ) (line : List ℕ) (next : List NumberedBytes) → AllByRecursion P line → EachNumbered next → EachNumbered (with_next n line next)
  next-each n line [] h k = (h, tt)
  next-each n line (next ∷ more) h k = (AllByRecursion-append P line next.bytes h k.0, k.1)

  line-each : (n : ℕ) (line : List ℕ) (next : List NumberedBytes) → P 32 → AllByRecursion P line → EachNumbered next → EachNumbered (with_line n line next)
  line-each n line next blank h k = by (is_joined line) refl
    where
      by : (b : Bool) → is_joined line ≡ b → EachNumbered (with_line n line next)
      by true e = rw e (next-each n (with_blank line) next (AllByRecursion-append P (but_last line) (32 ∷ []) (AllByRecursion-take P (length line - 1) line h) (blank, tt)) k)
      by false e = rw e (h, k)

  joined-each : (n : ℕ) (all : List (List ℕ)) → P 32 → EachByte all → EachNumbered (joined_lines n all)
  joined-each n [] blank h = tt
  joined-each n (line ∷ more) blank h = line-each n line (joined_lines (n + 1) more) blank h.0 (joined-each (n + 1) more blank h.1)

  numbered-each : (all : List NumberedBytes) → EachNumbered all → AllByRecursion LineEach (map in_words all)
  numbered-each [] h = tt
  numbered-each (line ∷ more) h = (words_each P line.bytes h.0, numbered-each more h.1)

  uncommented-each : (all : List (List ℕ)) → EachByte all → EachByte (map without_comment all)
  uncommented-each [] h = tt
  uncommented-each (line ∷ more) h = (without_comment_each P line h.0, uncommented-each more h.1)

  logical_lines-each : (text : List ℕ) → P 32 → AllByRecursion P text → AllByRecursion LineEach (logical_lines text)
  logical_lines-each text blank h =
      let all = joined_lines 1 (map without_comment (lines text)) in
      AllByRecursion-kept LineEach has_words (map in_words all)
      (numbered-each all (joined-each 1 (map without_comment (lines text)) blank (uncommented-each (lines text) (lines_each P text h))))

  rest-each : (all : List (List ℕ)) → EachByte all → EachByte (drop 1 all)
  rest-each [] h = tt
  rest-each (word ∷ all) h = h.1

  second-each : (all : List (List ℕ)) → EachByte all → AllByRecursion P (slice_index_or all 1 [])
  second-each [] h = tt
  second-each (word ∷ []) h = tt
  second-each (word ∷ next ∷ all) h = h.1.0

  names-each : (all : List LogicalLine) → AllByRecursion LineEach all → EachByte (flat_map (λ line. drop 1 line.words) all)
  names-each [] h = tt
  names-each (line ∷ more) h =
      AllByRecursion-append (AllByRecursion P) (drop 1 line.words) (flat_map (λ line. drop 1 line.words) more) (rest-each line.words h.0) (names-each more h.1)

  names_on-each : (card : List ℕ) (all : List LogicalLine) → AllByRecursion LineEach all → EachByte (names_on card all)
  names_on-each card all h = names-each (filter (begins card) all) (AllByRecursion-kept LineEach (begins card) all h)

  abbrev ModelEach : BlifModelData → Type 0
  ModelEach m = AllByRecursion P m.name × AllByRecursion (AllByRecursion P) m.inputs × AllByRecursion (AllByRecursion P) m.outputs

  models_of-each : (all : List LogicalLine) → AllByRecursion LineEach all → AllByRecursion ModelEach (models_of all)
  models_of-each [] h = tt
  models_of-each (line ∷ more) h = by (begins model_card line) refl (models_of-each more h.1)
    where
      inside : AllByRecursion LineEach (take_while is_inside more)
      inside = AllByRecursion-take LineEach (prefix_len is_inside more) more h.1

      by : (b : Bool) → begins model_card line ≡ b → AllByRecursion ModelEach (models_of more) → AllByRecursion ModelEach (models_of (line ∷ more))
      by true e rest =
          subst (λ b. AllByRecursion ModelEach (if b then blif_model line (take_while is_inside more) ∷ models_of more else models_of more)) (sym e) (
            (second-each line.words h.0, names_on-each inputs_card (take_while is_inside more) inside, names_on-each outputs_card (take_while is_inside more) inside),
            rest,
          )
      by false e rest = subst (λ b. AllByRecursion ModelEach (if b then blif_model line (take_while is_inside more) ∷ models_of more else models_of more)) (sym e) rest

  -- the names and the ports of the models of a text
  pub models-each : (text : List ℕ) → P 32 → AllByRecursion P text
      → AllByRecursion (λ m. AllByRecursion P m.name × AllByRecursion (AllByRecursion P) m.inputs × AllByRecursion (AllByRecursion P) m.outputs) (models_of (logical_lines text))
  models-each text blank h = models_of-each (logical_lines text) (logical_lines-each text blank h)
