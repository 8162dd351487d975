-- The words of a card by their places among the names of its model.
use Rattle.std.proofs.Common.{◌≡◌, ℕ, ◌<◌, Bool, List, [], ◌∷◌, map, length, drop, Option, Some, refl, ap, sym, ◌∙◌, subst}
use Rattle.std.specs.Prelude.{slice_get, slice_index_or}
use Rattle.std.proofs.lemmas.Option.{slice_get-get_or}
use Rattle.network.proofs.Lists.{get_map}
use Rattle.blif_ast.specs.BlifModelData.{BlifModelData}
use Rattle.blif_ast.specs.InstanceData.{InstanceData}
use Rattle.blif_ast.specs.TableData.{TableData}
use Rattle.blif_ast.specs.declared.instance.Binding.{Binding}
use Rattle.blif_ast.specs.declared.latch.Edge2.{Edge2}
use Rattle.blif_ast.specs.declared.latch.Latch.{Latch}
use Rattle.model_calls.specs.CallNumbers.{names_of_models}
use Rattle.model_calls.specs.Occurrences.{first_model}
use Rattle.numbered_file.specs.declared.parts.PartAt.{PartAt}
use Rattle.numbered_file.specs.declared.parts.PartKind.{PartKind}
use Rattle.numbered_file.specs.declared.parts.PartKind.TheVariants as at
use Rattle.numbered_file.specs.NumberedData.{NumberedData}
use Rattle.numbered_file.specs.Numbered.{InstancePart, LatchPart, Part, TablePart, bindings_by, file_of, instance_by, latch_by, models_in, named, part_by, parts_of, table_by}
use Rattle.numbered_file.specs.Places.{IsPartOf, of_part, rows_at, words_at}
use Rattle.card_places.specs.CardPlaces.{AreCardPlaces, CardPlacesData, places_at}
use Rattle.card_places.proofs.CardsAt.{instance_there, part_at_place}
use Rattle.local_names.specs.LocalNames.{AreLocalNames, AreLocals, LocalNamesData, firsts, names_in, own_words, seconds}
use Rattle.local_names.proofs.FormalNames.{formals_named}
use Rattle.part_numbers.specs.NumberedFiles.{model_at}
use Rattle.numbered_signals.specs.ScopeBlocks.{ArePairs}
use Rattle.numbered_signals.specs.ScopeRoots.{names_of_model}
use Rattle.numbered_signals.proofs.NamePlaces.{StandAt, locals_stand}

pub some_same : {X : Type 0} {x y : X} → Some x ≡ Some y → x ≡ y
some_same e = cc

pub model_there_at : (d : NumberedData) (m : ℕ) → m < length (models_in d) → slice_get (models_in d) m ≡ Some (model_at (file_of d) m)
model_there_at d m within = slice_get-get_or (models_in d) m (first_model []) within

-- a part that stands at the place of a card
pub record IsPlaced (d : NumberedData) (m : ℕ) (places : List ℕ) (index : ℕ) (part : Part) : Type 0 where
  pub place : ℕ
  pub place_is : slice_get places index ≡ Some place
  pub at : PartAt
  pub there : slice_get d.parts place ≡ Some at
  pub inside : IsPartOf d m place
  pub is : part_by d.text at.kind at.line (named d.names (words_at d place)) (rows_at d place) ≡ part

pub placed : (d : NumberedData) (m : ℕ) (places : List ℕ) (index : ℕ) (part : Part)
    → (place : ℕ) × (slice_get places index ≡ Some place) × (slice_get (parts_of d) place ≡ Some part) × IsPartOf d m place → IsPlaced d m places index part
placed d m places index part found =
    let at = part_at_place d found.0 part found.2 in
    record { place = found.0; place_is = found.1; at = at.0; there = at.1; inside = found.3; is = at.2 }

-- the kind of a part

pub record IsTableBy (text : List ℕ) (kind : PartKind) (line : ℕ) (words : List (List ℕ)) (rows : List ℕ) (t : TableData) : Type 0 where
  pub on : Bool
  pub kind_is : kind ≡ at.Table on
  pub is : table_by text on line words rows ≡ t

pub table_kind : (text : List ℕ) (kind : PartKind) (line : ℕ) (words : List (List ℕ)) (rows : List ℕ) (t : TableData) → part_by text kind line words rows ≡ TablePart t
    → IsTableBy text kind line words rows t
table_kind text (at.Table on) line words rows t e = record { on = on; kind_is = refl; is = cc }
table_kind text (at.Latch edge init) line words rows t e = absurd cc
table_kind text at.Instance line words rows t e = absurd cc

pub record IsLatchBy (kind : PartKind) (line : ℕ) (words : List (List ℕ)) (l : Latch) : Type 0 where
  pub edge : Option Edge2
  pub init : ℕ
  pub kind_is : kind ≡ at.Latch edge init
  pub is : latch_by edge init line words ≡ l

pub latch_kind : (text : List ℕ) (kind : PartKind) (line : ℕ) (words : List (List ℕ)) (rows : List ℕ) (l : Latch) → part_by text kind line words rows ≡ LatchPart l
    → IsLatchBy kind line words l
latch_kind text (at.Table on) line words rows l e = absurd cc
latch_kind text (at.Latch edge init) line words rows l e = record { edge = edge; init = init; kind_is = refl; is = cc }
latch_kind text at.Instance line words rows l e = absurd cc

pub record IsInstanceBy (kind : PartKind) (line : ℕ) (words : List (List ℕ)) (i : InstanceData) : Type 0 where
  pub kind_is : kind ≡ at.Instance
  pub is : instance_by line words ≡ i

pub instance_kind : (text : List ℕ) (kind : PartKind) (line : ℕ) (words : List (List ℕ)) (rows : List ℕ) (i : InstanceData) → part_by text kind line words rows ≡ InstancePart i
    → IsInstanceBy kind line words i
instance_kind text (at.Table on) line words rows i e = absurd cc
instance_kind text (at.Latch edge init) line words rows i e = absurd cc
instance_kind text at.Instance line words rows i e = record { kind_is = refl; is = cc }

-- the words of an instance

bound_actuals : (names : List (List ℕ)) (words : List ℕ) → map (λ (b : Binding). b.actual) (bindings_by (named names words)) ≡ named names (seconds words)
bound_actuals names [] = refl
bound_actuals names (a ∷ []) = refl
bound_actuals names (a ∷ b ∷ words) = ap (λ l. slice_index_or names b [] ∷ l) (bound_actuals names words)

behind_first : (names : List (List ℕ)) (words : List ℕ) → drop 1 (named names words) ≡ named names (drop 1 words)
behind_first names [] = refl
behind_first names (w ∷ words) = refl

module _ (d : NumberedData) (c : CardPlacesData) (l : LocalNamesData) (places : AreCardPlaces d c) (names : AreLocalNames d l) where
  -- the words of a part that is no instance
  pub words_stand : (m place : ℕ) (part : PartAt) (kind : PartKind) → m < length (models_in d) → slice_get d.parts place ≡ Some part → IsPartOf d m place → part.kind ≡ kind
      → own_words kind (words_at d place) ≡ words_at d place → own_words kind (of_part d place l.words) ≡ of_part d place l.words
      → StandAt (names_of_model d m) (named d.names (words_at d place)) (of_part d place l.words)
  words_stand m place part kind within there inside kind_is words locals =
      locals_stand d l names m (words_at d place) (of_part d place l.words) within
      (subst (λ ws. AreLocals (names_in l m) ws (of_part d place l.words)) words
      (subst (AreLocals (names_in l m) (own_words kind (words_at d place))) locals
      (subst (λ k. AreLocals (names_in l m) (own_words k (words_at d place)) (own_words k (of_part d place l.words))) kind_is (names.words m place part inside there))))

  module _ (m unit index : ℕ) (i : InstanceData) (m_in : m < length (models_in d)) (unit_in : unit < length (models_in d))
      (instance_is : slice_get (model_at (file_of d) m).instances index ≡ Some i) (named_unit : (model_at (file_of d) unit).name ≡ i.unit) where
    pub instance_placed : IsPlaced d m (places_at c.instances m) index (InstancePart i)
    instance_placed =
        placed d m (places_at c.instances m) index (InstancePart i) (instance_there d m (model_at (file_of d) m) (places_at c.tables m) (places_at c.latches m) (places_at c.instances m)
        (places m (model_at (file_of d) m) (model_there_at d m m_in)) index i instance_is)

    pub pairs_are : (place : ℕ) → slice_get (places_at c.instances m) index ≡ Some place → ArePairs (names_of_model d unit) (names_of_model d m) i.bindings (drop 1 (of_part d place l.words))
    pairs_are place place_is = subst (λ k. ArePairs (names_of_model d unit) (names_of_model d m) i.bindings (drop 1 (of_part d k l.words))) (some_same (sym p.place_is ∙ place_is)) here
      where
        p : IsPlaced d m (places_at c.instances m) index (InstancePart i)
        p = instance_placed

        by : IsInstanceBy p.at.kind p.at.line (named d.names (words_at d p.place)) i
        by = instance_kind d.text p.at.kind p.at.line (named d.names (words_at d p.place)) (rows_at d p.place) i p.is

        unit_is : slice_get (names_of_models (models_in d)) unit ≡ Some (slice_index_or (named d.names (words_at d p.place)) 0 [])
        unit_is = get_map (λ (n : BlifModelData). n.name) (models_in d) unit (model_at (file_of d) unit) (model_there_at d unit unit_in)
            ∙ ap Some (named_unit ∙ sym (ap (λ (j : InstanceData). j.unit) by.is))

        bindings_are : bindings_by (named d.names (drop 1 (words_at d p.place))) ≡ i.bindings
        bindings_are = ap bindings_by (sym (behind_first d.names (words_at d p.place))) ∙ ap (λ (j : InstanceData). j.bindings) by.is

        here : ArePairs (names_of_model d unit) (names_of_model d m) i.bindings (drop 1 (of_part d p.place l.words))
        here = record {
          formals = locals_stand d l names unit (firsts (drop 1 (words_at d p.place))) (firsts (drop 1 (of_part d p.place l.words))) unit_in
              (names.formals p.place unit (record { part = p.at; there = p.there; kind_is = by.kind_is }) unit_is)
              ∙ ap (map Some) (sym (formals_named d.names (drop 1 (words_at d p.place))) ∙ ap (map (λ (b : Binding). b.formal)) bindings_are);
          actuals = locals_stand d l names m (seconds (drop 1 (words_at d p.place))) (seconds (drop 1 (of_part d p.place l.words))) m_in
              (subst (λ k. AreLocals (names_in l m) (own_words k (words_at d p.place)) (own_words k (of_part d p.place l.words))) by.kind_is (names.words m p.place p.at p.inside p.there))
              ∙ ap (map Some) (sym (bound_actuals d.names (drop 1 (words_at d p.place))) ∙ ap (map (λ (b : Binding). b.actual)) bindings_are);
        }
