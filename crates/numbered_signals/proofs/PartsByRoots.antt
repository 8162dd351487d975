-- Tables and latches by the numbers of the signals of their words are those of the file.
use Rattle.std.proofs.Common.{◌≡◌, ℕ, suc, zero, ◌<◌, ◌-◌, Bool, List, [], ◌∷◌, map, length, take, Option, Some, None, refl, ap, sym, ◌∙◌, subst, arith}
use Rattle.std.specs.Prelude.{◌≢◌, IsSome, option_and_then, slice_get, slice_index_or}
use Rattle.std.specs.List.{AllByRecursion}
use Rattle.std.specs.Option.{option_map}
use Rattle.std.proofs.lemmas.List.{get_or-map, length-map, take-map}
use Rattle.std.proofs.lemmas.Option.{slice_get-map, slice_get_within}
use Rattle.dom_base.proofs.Lists.{All-at}
use Rattle.blif_ast.specs.Cards.{last_word}
use Rattle.blif_ast.specs.Good.{IsGoodFile, IsGoodLatch, IsGoodModel, IsGoodTable}
use Rattle.blif_ast.specs.TableData.{TableData}
use Rattle.blif_ast.specs.declared.latch.Edge2.{Edge2}
use Rattle.blif_ast.specs.declared.latch.Latch.{Latch}
use Rattle.model_calls.specs.Expanded.{LatchCard, TableCard}
use Rattle.numbered_file.specs.declared.parts.PartAt.{PartAt}
use Rattle.numbered_file.specs.declared.parts.PartKind.TheVariants as at
use Rattle.numbered_file.specs.NumberedData.{NumberedData}
use Rattle.numbered_file.specs.Numbered.{LatchPart, TablePart, file_of, latch_by, models_in, named, table_by}
use Rattle.numbered_file.specs.Places.{of_part, rows_at, words_at}
use Rattle.card_places.specs.CardPlaces.{AreCardPlaces, CardPlacesData, places_at}
use Rattle.card_places.proofs.CardsAt.{latch_there, table_there}
use Rattle.local_names.specs.LocalNames.{AreLocalNames, LocalNamesData}
use Rattle.part_numbers.specs.NumberedFiles.{card_at, model_at}
use Rattle.part_numbers.specs.PartNumbers.{IsNumberedPart, card_by_numbers, control_name, latch_by_numbers, part_by_numbers, table_by_numbers}
use Rattle.part_numbers.specs.SignalNumbers.{HasSignalNumber, SignalNumbersData, signal_number}
use Rattle.part_numbers.specs.declared.numbered.PartCard.{PartCard}
use Rattle.part_numbers.specs.declared.numbered.PartCard.TheVariants.{Table, Latch as LatchIndex}
use Rattle.part_numbers.specs.declared.walk.ScopedPart.{ScopedPart}
use Rattle.numbered_signals.specs.PartRoots.{part_of_roots, card_place}
use Rattle.numbered_signals.specs.ScopeRoots.{HasRoot, ScopeRootsData, names_of_model, local_root, signals_with}
use Rattle.numbered_signals.proofs.CardWords.{IsLatchBy, IsPlaced, IsTableBy, latch_kind, model_there_at, placed, some_same, table_kind, words_stand}
use Rattle.numbered_signals.proofs.NamePlaces.{StandAt, all_have, all_rooted, roots_are}

-- what a table reads and drives, by the numbers of its words

pub front_roots : (g : ℕ → ℕ) (words : List ℕ) → map g (take (length words - 1) words) ≡ take (length (map g words) - 1) (map g words)
front_roots g words = sym (ap (λ k. take (k - 1) (map g words)) (length-map words g) ∙ take-map g (length words - 1) words)

pub last_root : (g : ℕ → ℕ) (words : List ℕ) → slice_index_or (map g words) (length words - 1) 0 ≡ slice_index_or (map g words) (length (map g words) - 1) 0
last_root g words = ap (λ k. slice_index_or (map g words) (k - 1) 0) (sym (length-map words g))

last_within : (words : List (List ℕ)) → last_word words ≢ [] → length words - 1 < length words
last_within [] some = absurd (some refl)
last_within (w ∷ words) some = omega arith

word_within : (words : List (List ℕ)) (k : ℕ) → slice_index_or words k [] ≢ [] → k < length words
word_within [] k some = absurd (some refl)
word_within (w ∷ words) zero some = omega arith
word_within (w ∷ words) (suc k) some = omega (arith, word_within words k some)

module _ (n : SignalNumbersData) (p : ScopedPart) where
  abbrev signals_of : List (List ℕ) → List ℕ
  signals_of words = map (signal_number n p.scope p.model) words

  table_same : (text : List ℕ) (on : Bool) (line : ℕ) (words : List (List ℕ)) (rows : List ℕ) → last_word words ≢ []
      → part_of_roots p (at.Table on) (signals_of words) ≡ table_by_numbers n p (table_by text on line words rows)
  table_same text on line words rows some = λ i. record { model = p.model; card = p.card; reads = reads i; drives = drives i; control = None }
    where
      reads : take (length (signals_of words) - 1) (signals_of words) ≡ signals_of (take (length words - 1) words)
      reads = ap (λ k. take (k - 1) (signals_of words)) (length-map words (signal_number n p.scope p.model)) ∙ take-map (signal_number n p.scope p.model) (length words - 1) words

      drives : slice_index_or (signals_of words) (length (signals_of words) - 1) 0 ≡ signal_number n p.scope p.model (last_word words)
      drives = ap (λ k. slice_index_or (signals_of words) (k - 1) 0) (length-map words (signal_number n p.scope p.model))
          ∙ get_or-map (signal_number n p.scope p.model) words (length words - 1) [] 0 (last_within words some)

  latch_same : (edge : Option Edge2) (init line : ℕ) (words : List (List ℕ)) → slice_index_or words 0 [] ≢ [] → slice_index_or words 1 [] ≢ []
      → part_of_roots p (at.Latch edge init) (signals_of words) ≡ latch_by_numbers n p (latch_by edge init line words)
  latch_same edge init line words first second = λ i. record { model = p.model; card = p.card; reads = input i ∷ []; drives = output i; control = control edge i }
    where
      input : slice_index_or (signals_of words) 0 0 ≡ signal_number n p.scope p.model (slice_index_or words 0 [])
      input = get_or-map (signal_number n p.scope p.model) words 0 [] 0 (word_within words 0 first)

      output : slice_index_or (signals_of words) 1 0 ≡ signal_number n p.scope p.model (slice_index_or words 1 [])
      output = get_or-map (signal_number n p.scope p.model) words 1 [] 0 (word_within words 1 second)

      control : (e : Option Edge2) → option_and_then (λ _. slice_get (signals_of words) 2) e ≡ option_map (signal_number n p.scope p.model) (control_name (latch_by e init line words))
      control None = refl
      control (Some e) = slice_get-map (signal_number n p.scope p.model) words 2

module _ (d : NumberedData) (c : CardPlacesData) (l : LocalNamesData) (r : ScopeRootsData) (places : AreCardPlaces d c) (names : AreLocalNames d l) (good : IsGoodFile (file_of d))
    (p : ScopedPart) (numbered : IsNumberedPart (file_of d) (signals_with d r) p) where
  -- what stands at the place of the part's card
  pub record IsRootedPart : Type 0 where
    pub place : ℕ
    pub place_is : card_place c p.model p.card ≡ Some place
    pub at : PartAt
    pub there : slice_get d.parts place ≡ Some at
    pub rooted : AllByRecursion (HasRoot r p.scope) (of_part d place l.words)
    pub is : part_of_roots p at.kind (map (local_root r p.scope) (of_part d place l.words)) ≡ part_by_numbers (file_of d) (signals_with d r) p

  good_model : IsGoodModel (model_at (file_of d) p.model)
  good_model = All-at IsGoodModel (models_in d) p.model (model_at (file_of d) p.model) good.models (model_there_at d p.model numbered.model_in)

  module _ (words : List (List ℕ)) (locals : List ℕ) (stand : StandAt (names_of_model d p.model) words locals) where
    have : AllByRecursion (HasSignalNumber (signals_with d r) p.scope p.model) words
    have = all_have d r p.scope p.model numbered.model_in numbered.numbered words locals stand

    rooted_words : AllByRecursion (HasRoot r p.scope) locals
    rooted_words = all_rooted d r p.scope p.model words locals have stand

    roots_same : map (local_root r p.scope) locals ≡ map (signal_number (signals_with d r) p.scope p.model) words
    roots_same = roots_are d r p.scope p.model words locals have stand

  table_rooted : (k : ℕ) (t : TableData) → p.card ≡ Table k → slice_get (model_at (file_of d) p.model).tables k ≡ Some t → IsRootedPart
  table_rooted k t card_is there = record {
    place = at_place.place;
    place_is = ap (card_place c p.model) card_is ∙ at_place.place_is;
    at = at_place.at;
    there = at_place.there;
    rooted = rooted_words words (of_part d at_place.place l.words) stand;
    is = (λ i. part_of_roots p (by.kind_is i) (roots_same words (of_part d at_place.place l.words) stand i))
        ∙ table_same (signals_with d r) p d.text by.on at_place.at.line words (rows_at d at_place.place)
        (λ none. (All-at IsGoodTable (model_at (file_of d) p.model).tables k t good_model.tables there).output.some (ap (λ (u : TableData). u.output) (sym by.is) ∙ none))
        ∙ ap (table_by_numbers (signals_with d r) p) by.is
        ∙ sym (ap (λ cd. card_by_numbers (signals_with d r) p (card_at (model_at (file_of d) p.model) cd)) card_is
        ∙ ap (λ o. card_by_numbers (signals_with d r) p (option_map TableCard o)) there);
  }
    where
      at_place : IsPlaced d p.model (places_at c.tables p.model) k (TablePart t)
      at_place = placed d p.model (places_at c.tables p.model) k (TablePart t) (table_there d p.model (model_at (file_of d) p.model)
          (places_at c.tables p.model) (places_at c.latches p.model) (places_at c.instances p.model)
          (places p.model (model_at (file_of d) p.model) (model_there_at d p.model numbered.model_in)) k t there)

      words : List (List ℕ)
      words = named d.names (words_at d at_place.place)

      by : IsTableBy d.text at_place.at.kind at_place.at.line words (rows_at d at_place.place) t
      by = table_kind d.text at_place.at.kind at_place.at.line words (rows_at d at_place.place) t at_place.is

      stand : StandAt (names_of_model d p.model) words (of_part d at_place.place l.words)
      stand = words_stand d c l places names p.model at_place.place at_place.at (at.Table by.on) numbered.model_in at_place.there at_place.inside by.kind_is refl refl

  latch_rooted : (k : ℕ) (t : Latch) → p.card ≡ LatchIndex k → slice_get (model_at (file_of d) p.model).latches k ≡ Some t → IsRootedPart
  latch_rooted k t card_is there = record {
    place = at_place.place;
    place_is = ap (card_place c p.model) card_is ∙ at_place.place_is;
    at = at_place.at;
    there = at_place.there;
    rooted = rooted_words words (of_part d at_place.place l.words) stand;
    is = (λ i. part_of_roots p (by.kind_is i) (roots_same words (of_part d at_place.place l.words) stand i))
        ∙ latch_same (signals_with d r) p by.edge by.init at_place.at.line words
        (λ none. good_latch.input.some (ap (λ (u : Latch). u.input) (sym by.is) ∙ none))
        (λ none. good_latch.output.some (ap (λ (u : Latch). u.output) (sym by.is) ∙ none))
        ∙ ap (latch_by_numbers (signals_with d r) p) by.is
        ∙ sym (ap (λ cd. card_by_numbers (signals_with d r) p (card_at (model_at (file_of d) p.model) cd)) card_is
        ∙ ap (λ o. card_by_numbers (signals_with d r) p (option_map LatchCard o)) there);
  }
    where
      at_place : IsPlaced d p.model (places_at c.latches p.model) k (LatchPart t)
      at_place = placed d p.model (places_at c.latches p.model) k (LatchPart t) (latch_there d p.model (model_at (file_of d) p.model)
          (places_at c.tables p.model) (places_at c.latches p.model) (places_at c.instances p.model)
          (places p.model (model_at (file_of d) p.model) (model_there_at d p.model numbered.model_in)) k t there)

      words : List (List ℕ)
      words = named d.names (words_at d at_place.place)

      by : IsLatchBy at_place.at.kind at_place.at.line words t
      by = latch_kind d.text at_place.at.kind at_place.at.line words (rows_at d at_place.place) t at_place.is

      stand : StandAt (names_of_model d p.model) words (of_part d at_place.place l.words)
      stand = words_stand d c l places names p.model at_place.place at_place.at (at.Latch by.edge by.init) numbered.model_in at_place.there at_place.inside by.kind_is refl refl

      good_latch : IsGoodLatch t
      good_latch = All-at IsGoodLatch (model_at (file_of d) p.model).latches k t good_model.latches there

  pub rooted_part : IsRootedPart
  rooted_part = by p.card refl
    where
      table : (k : ℕ) → p.card ≡ Table k → (found : Option TableData) → slice_get (model_at (file_of d) p.model).tables k ≡ found → option_map TableCard found ≡ Some numbered.card → IsRootedPart
      table k card_is None there e = absurd cc
      table k card_is (Some t) there e = table_rooted k t card_is there

      latch : (k : ℕ) → p.card ≡ LatchIndex k → (found : Option Latch) → slice_get (model_at (file_of d) p.model).latches k ≡ found → option_map LatchCard found ≡ Some numbered.card → IsRootedPart
      latch k card_is None there e = absurd cc
      latch k card_is (Some t) there e = latch_rooted k t card_is there

      by : (card : PartCard) → p.card ≡ card → IsRootedPart
      by (Table k) card_is = table k card_is (slice_get (model_at (file_of d) p.model).tables k) refl (ap (card_at (model_at (file_of d) p.model)) (sym card_is) ∙ numbered.card_is)
      by (LatchIndex k) card_is = latch k card_is (slice_get (model_at (file_of d) p.model).latches k) refl (ap (card_at (model_at (file_of d) p.model)) (sym card_is) ∙ numbered.card_is)

  -- the same at the place that is found
  module _ (place : ℕ) (place_is : card_place c p.model p.card ≡ Some place) where
    same_place : rooted_part.place ≡ place
    same_place = some_same (sym rooted_part.place_is ∙ place_is)

    pub part_within : place < length d.parts
    part_within = subst (λ k. k < length d.parts) same_place (slice_get_within d.parts rooted_part.place rooted_part.at rooted_part.there)

    pub rooted_words_at : AllByRecursion (HasRoot r p.scope) (of_part d place l.words)
    rooted_words_at = subst (λ k. AllByRecursion (HasRoot r p.scope) (of_part d k l.words)) same_place rooted_part.rooted

    pub same_part_at : (at : PartAt) → slice_get d.parts place ≡ Some at
        → part_of_roots p at.kind (map (local_root r p.scope) (of_part d place l.words)) ≡ part_by_numbers (file_of d) (signals_with d r) p
    same_part_at at there =
        let same_at : at ≡ rooted_part.at = some_same (sym there ∙ ap (slice_get d.parts) (sym same_place) ∙ rooted_part.there) in
        ap (λ (a : PartAt). part_of_roots p a.kind (map (local_root r p.scope) (of_part d place l.words))) same_at
        ∙ ap (λ k. part_of_roots p rooted_part.at.kind (map (local_root r p.scope) (of_part d k l.words))) (sym same_place) ∙ rooted_part.is

  pub some_place : IsSome (card_place c p.model p.card)
  some_place = subst IsSome (sym rooted_part.place_is) refl
