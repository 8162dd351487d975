-- The places of the cards of one kind, as parts and models come one after the other.
use Rattle.std.proofs.Common.{◌≡◌, ℕ, zero, suc, append-nil, ◌≤◌, ◌<◌, ◌+◌, ◌-◌, ◌⊎◌, inl, inr, List, [], ◌∷◌, ◌++◌, length, map, take, drop, Option, Some, None, refl, sym, ap, ◌∙◌, subst, arith}
use Rattle.std.specs.Prelude.{All, slice_get, slice_index_or}
use Rattle.std.specs.List.{AllByRecursion, cons_option, filter_map}
use Rattle.std.proofs.lemmas.Bool.{cases_lt}
use Rattle.std.proofs.lemmas.List.{get_or_append_left, length-append, length-drop, length-take, take_all}
use Rattle.std.proofs.lemmas.List.Elements.{All-from_recursion, filter_map-append}
use Rattle.std.proofs.lemmas.Option.{slice_get_within}
use Rattle.dom_base.proofs.Lists.{AllByRecursion-append, AllByRecursion-weaker, map-push, slice_get-there, slice_index_or-push}
use Rattle.graph_order.proofs.Lists.{take_get}
use Rattle.graph_order.proofs.Placed.{in_front}
use Rattle.blif_ast.specs.BlifModelData.{BlifModelData}
use Rattle.numbered_file.specs.declared.parts.ModelAt.{ModelAt}
use Rattle.numbered_file.specs.declared.parts.PartAt.{PartAt}
use Rattle.numbered_file.specs.declared.parts.PartKind.{PartKind}
use Rattle.numbered_file.specs.declared.parts.PartKind.TheVariants as at
use Rattle.numbered_file.specs.NumberedData.{NumberedData}
use Rattle.numbered_file.specs.Numbered.{InstancePart, LatchPart, Part, TablePart, between, instance_in, latch_in, model_by, models_in, name_of, named, part_by, parts_of, table_in}
use Rattle.numbered_file.specs.Places.{IsPartOf, first_part, inputs_at, outputs_at, rows_at, words_at}
use Rattle.numbered_file.proofs.Places.{length-models_in, length-parts_of, model_there, part_there}
use Rattle.card_places.specs.CardPlaces.{AreCardPlaces, AreModelPlaces}
use Rattle.card_places.specs.KindPlaces.{AreKindPlaces, AreLists, AreModelKindPlaces, IsListAdded, parts_of_model, with_instance, with_latch, with_table}
use Rattle.card_places.specs.NumberLists.{NumberListsData, closed, no_number_lists, with_number}

-- what stands at a place of a part of a list

get-drop : {X : Type 0} (n : ℕ) (xs : List X) (i : ℕ) → slice_get (drop n xs) i ≡ slice_get xs (n + i)
get-drop zero xs i = let is : i ≡ 0 + i = omega arith in ap (slice_get xs) is
get-drop (suc n) [] i = refl
get-drop (suc n) (x ∷ xs) i = let is : suc (n + i) ≡ suc n + i = omega arith in get-drop n xs i ∙ ap (slice_get (x ∷ xs)) is

pub between-get : {X : Type 0} (start end : ℕ) (xs : List X) (i : ℕ) (x : X) → slice_get (between start end xs) i ≡ Some x
    → (start + i < end) × (slice_get xs (start + i) ≡ Some x)
between-get start end xs i x at = let h = take_get (drop start xs) (end - start) i x at in
    (omega (arith, h.0), sym (get-drop start xs i) ∙ h.1)

pub get-between : {X : Type 0} (start end : ℕ) (xs : List X) (i : ℕ) (x : X) → start + i < end → slice_get xs (start + i) ≡ Some x
    → slice_get (between start end xs) i ≡ Some x
get-between start end xs i x within at = in_front (drop start xs) (end - start) i x (omega (arith, within)) (get-drop start xs i ∙ at)

pub between-most : {X : Type 0} (start end : ℕ) (xs : List X) → length (between start end xs) ≤ end - start
between-most start end xs = omega (arith, length-take (end - start) (drop start xs))

between-alike : {X Y : Type 0} (start end : ℕ) (xs : List X) (ys : List Y) → length xs ≡ length ys
    → length (between start end xs) ≡ length (between start end ys)
between-alike start end xs ys alike =
    omega (
      arith,
      alike,
      length-take (end - start) (drop start xs),
      length-take (end - start) (drop start ys),
      length-drop start xs,
      length-drop start ys,
    )

-- so many parts are all that stand between two places
pub all-between : (d : NumberedData) (start end i : ℕ) (parts : List PartAt) → parts ≡ between start end d.parts → length parts ≤ i
    → take i (between start end (parts_of d)) ≡ between start end (parts_of d)
all-between d start end i parts are all =
    take_all i (between start end (parts_of d))
    (omega (arith, all, ap length are, between-alike start end (parts_of d) d.parts (length-parts_of d)))

-- a part of a file, as one of those between two places
pub part-between : (d : NumberedData) (start end i : ℕ) (part : PartAt) → slice_get (between start end d.parts) i ≡ Some part
    → slice_get (between start end (parts_of d)) i ≡ Some
    (part_by d.text part.kind part.line (named d.names (words_at d (start + i))) (rows_at d (start + i)))
part-between d start end i part at =
    let h = between-get start end d.parts i part at in
    get-between start end (parts_of d) i
    (part_by d.text part.kind part.line (named d.names (words_at d (start + i))) (rows_at d (start + i))) h.0
    (part_there d (start + i) part h.1)

module _ {Card : Type 0} (card_in : Part → Option Card) (part : Card → Part) (d : NumberedData) (start : ℕ) where
  pub kind-none : AreKindPlaces card_in part d start [] []
  kind-none = record { are = refl; within = tt }

  module _ (parts : List Part) (places : List ℕ) (p : Part) (h : AreKindPlaces card_in part d start parts places) where
    wider : AllByRecursion (λ k. (start ≤ k) × (k < start + length (parts ++ p ∷ []))) places
    wider = AllByRecursion-weaker (λ k. (start ≤ k) × (k < start + length parts))
        (λ k. (start ≤ k) × (k < start + length (parts ++ p ∷ [])))
        (λ k l. (l.0, omega (arith, l.1, length-append parts (p ∷ [])))) places h.within

    gathered : (o : Option Card) → card_in p ≡ o → filter_map card_in (parts ++ p ∷ []) ≡ filter_map card_in parts ++ cons_option o []
    gathered o is = filter_map-append card_in parts (p ∷ []) ∙ ap (λ c. filter_map card_in parts ++ cons_option c []) is

    -- one part more, which is of another kind or of this one
    pub kind-other : card_in p ≡ None → AreKindPlaces card_in part d start (parts ++ p ∷ []) places
    kind-other is = record {
      are = h.are ∙ ap (λ l. map Some (map part l)) (sym (gathered None is ∙ append-nil (filter_map card_in parts)));
      within = wider;
    }

    pub kind-same : (card : Card) → card_in p ≡ Some card → part card ≡ p → (k : ℕ) → k ≡ start + length parts
        → slice_get (parts_of d) k ≡ Some p
        → AreKindPlaces card_in part d start (parts ++ p ∷ []) (places ++ k ∷ [])
    kind-same card is same k at there = record {
      are = map-push (slice_get (parts_of d)) places k ∙ (λ i. h.are i ++ (there ∙ ap Some (sym same)) i ∷ [])
          ∙ sym (map-push Some (map part (filter_map card_in parts)) (part card))
          ∙ ap (map Some) (sym (map-push part (filter_map card_in parts) card) ∙ ap (map part) (sym (gathered (Some card) is)));
      within = AllByRecursion-append (λ k. (start ≤ k) × (k < start + length (parts ++ p ∷ []))) places (k ∷ []) wider
          ((omega (arith, at), omega (arith, at, length-append parts (p ∷ []))), tt);
    }

-- the places so far, and that earlier lists stay
pub record AreSoFar {Card : Type 0} (card_in : Part → Option Card) (part : Card → Part) (d : NumberedData) (start : ℕ) (parts : List Part)
    (first l : NumberListsData) : Type 0 where
  pub places : AreKindPlaces card_in part d start parts l.next
  pub lists : l.lists ≡ first.lists

module _ {Card : Type 0} (card_in : Part → Option Card) (part : Card → Part) (d : NumberedData) (start : ℕ) (parts : List Part)
    (first : NumberListsData) where
  pub none-so-far : parts ≡ [] → first.next ≡ [] → AreSoFar card_in part d start parts first first
  none-so-far empty none = record {
    places = subst (λ l. AreKindPlaces card_in part d start l first.next) (sym empty)
        (subst (AreKindPlaces card_in part d start []) (sym none) (kind-none card_in part d start));
    lists = refl;
  }

  module _ (l after : NumberListsData) (h : AreSoFar card_in part d start parts first l) where
    pub all-so-far : after ≡ closed l → IsListAdded (AreKindPlaces card_in part d start parts) first after
    all-so-far is = record {
      list = l.next;
      lists = ap (λ (x : NumberListsData). x.lists) is ∙ ap (λ ls. ls ++ l.next ∷ []) h.lists;
      next = ap (λ (x : NumberListsData). x.next) is;
      holds = h.places;
    }

    module _ (p : Part) where
      other-next : card_in p ≡ None → after ≡ l → AreSoFar card_in part d start (parts ++ p ∷ []) first after
      other-next none is = record {
        places = subst (AreKindPlaces card_in part d start (parts ++ p ∷ [])) (sym (ap (λ (x : NumberListsData). x.next) is))
            (kind-other card_in part d start parts l.next p h.places none);
        lists = ap (λ (x : NumberListsData). x.lists) is ∙ h.lists;
      }

      same-next : (card : Card) → card_in p ≡ Some card → part card ≡ p → (place : ℕ) → place ≡ start + length parts
          → slice_get (parts_of d) place ≡ Some p
          → after ≡ with_number l place → AreSoFar card_in part d start (parts ++ p ∷ []) first after
      same-next card some same place stands there is = record {
        places = subst (AreKindPlaces card_in part d start (parts ++ p ∷ [])) (sym (ap (λ (x : NumberListsData). x.next) is))
            (kind-same card_in part d start parts l.next p h.places card some same place stands there);
        lists = ap (λ (x : NumberListsData). x.lists) is ∙ h.lists;
      }

-- one part more of a file
module _ (d : NumberedData) (start : ℕ) (parts : List Part) (first l after : NumberListsData) (line : ℕ) (words : List (List ℕ))
    (rows : List ℕ) (place : ℕ) (stands : place ≡ start + length parts) where
  pub table-next : (kind : PartKind) → slice_get (parts_of d) place ≡ Some (part_by d.text kind line words rows)
      → AreSoFar table_in TablePart d start parts first l
      → after ≡ with_table l kind place
      → AreSoFar table_in TablePart d start (parts ++ part_by d.text kind line words rows ∷ []) first after
  table-next (at.Table on) there h is = same-next table_in TablePart d start parts first l after h
      (part_by d.text (at.Table on) line words rows) _ refl refl place stands there is
  table-next (at.Latch edge init) there h is = other-next table_in TablePart d start parts first l after h
      (part_by d.text (at.Latch edge init) line words rows) refl is
  table-next at.Instance there h is = other-next table_in TablePart d start parts first l after h
      (part_by d.text at.Instance line words rows) refl is

  pub latch-next : (kind : PartKind) → slice_get (parts_of d) place ≡ Some (part_by d.text kind line words rows)
      → AreSoFar latch_in LatchPart d start parts first l
      → after ≡ with_latch l kind place
      → AreSoFar latch_in LatchPart d start (parts ++ part_by d.text kind line words rows ∷ []) first after
  latch-next (at.Table on) there h is = other-next latch_in LatchPart d start parts first l after h
      (part_by d.text (at.Table on) line words rows) refl is
  latch-next (at.Latch edge init) there h is = same-next latch_in LatchPart d start parts first l after h
      (part_by d.text (at.Latch edge init) line words rows) _ refl refl place stands there is
  latch-next at.Instance there h is = other-next latch_in LatchPart d start parts first l after h
      (part_by d.text at.Instance line words rows) refl is

  pub instance-next : (kind : PartKind) → slice_get (parts_of d) place ≡ Some (part_by d.text kind line words rows)
      → AreSoFar instance_in InstancePart d start parts first l
      → after ≡ with_instance l kind place
      → AreSoFar instance_in InstancePart d start (parts ++ part_by d.text kind line words rows ∷ []) first after
  instance-next (at.Table on) there h is = other-next instance_in InstancePart d start parts first l after h
      (part_by d.text (at.Table on) line words rows) refl is
  instance-next (at.Latch edge init) there h is = other-next instance_in InstancePart d start parts first l after h
      (part_by d.text (at.Latch edge init) line words rows) refl is
  instance-next at.Instance there h is = same-next instance_in InstancePart d start parts first l after h
      (part_by d.text at.Instance line words rows) _ refl refl place stands there is

-- one list more
pub no-lists : (P : ℕ → List ℕ → Type 0) (l : NumberListsData) → l ≡ no_number_lists → AreLists P 0 l
no-lists P l is = record {
  next = ap (λ (x : NumberListsData). x.next) is;
  count_is = ap (λ (x : NumberListsData). length x.lists) is;
  holds = λ m below. absurd (omega (arith, below));
}

pub list-next : (P : ℕ → List ℕ → Type 0) (count : ℕ) (before after : NumberListsData) → AreLists P count before
    → IsListAdded (P count) before after → AreLists P (count + 1) after
list-next P count before after h added = record {
  next = added.next;
  count_is = ap length added.lists ∙ length-append before.lists (added.list ∷ []) ∙ ap (λ n. n + 1) h.count_is;
  holds = λ m below. subst (λ ls. P m (slice_index_or ls m [])) (sym added.lists) (by m (cases_lt m count) below);
}
  where
    by : (m : ℕ) → (m < count) ⊎ (count ≤ m) → m < count + 1 → P m (slice_index_or (before.lists ++ added.list ∷ []) m [])
    by m (inl earlier) below = subst (P m)
        (sym (get_or_append_left before.lists (added.list ∷ []) [] m (omega (arith, earlier, h.count_is)))) (h.holds m earlier)
    by m (inr last) below =
        let is : count ≡ m = omega (arith, last, below) in
        let there = ap (λ n. slice_index_or (before.lists ++ added.list ∷ []) n []) (sym is ∙ sym h.count_is)
        ∙ slice_index_or-push before.lists added.list [] in
        subst (P m) (sym there) (subst (λ n. P n added.list) is added.holds)

-- the places of all models
module _ (d : NumberedData) where
  within : (m : ℕ) (places : List ℕ)
      → AllByRecursion (λ k. (first_part d m ≤ k) × (k < first_part d m + length (parts_of_model d m))) places → All (IsPartOf d m) places
  within m places h = All-from_recursion (IsPartOf d m) places
      (AllByRecursion-weaker (λ k. (first_part d m ≤ k) × (k < first_part d m + length (parts_of_model d m))) (IsPartOf d m)
      (λ k l. (l.0, omega (arith, l.0, l.1, between-most (first_part d m) (first_part d (m + 1)) (parts_of d)))) places h)

  module _ (tables latches instances : NumberListsData) (count : ℕ) (all : length d.models ≤ count)
      (t : AreLists (AreModelKindPlaces table_in TablePart d) count tables)
      (l : AreLists (AreModelKindPlaces latch_in LatchPart d) count latches)
      (i : AreLists (AreModelKindPlaces instance_in InstancePart d) count instances) where
    of_model : (m : ℕ) (model : BlifModelData) (model_at : ModelAt) → slice_get (models_in d) m ≡ Some model
        → slice_get d.models m ≡ Some model_at → m < count
        → AreModelPlaces d m model (slice_index_or tables.lists m []) (slice_index_or latches.lists m [])
        (slice_index_or instances.lists m [])
    of_model m model model_at there known below =
        let e : Some model ≡ Some (model_by (name_of d.names model_at.name) model_at.line (named d.names (inputs_at d m))
        (named d.names (outputs_at d m)) (parts_of_model d m)) =
        sym there ∙ model_there d m model_at known in
        let is : model_by (name_of d.names model_at.name) model_at.line (named d.names (inputs_at d m)) (named d.names (outputs_at d m))
        (parts_of_model d m) ≡ model = cc in
        subst (λ x. AreModelPlaces d m x (slice_index_or tables.lists m []) (slice_index_or latches.lists m [])
        (slice_index_or instances.lists m [])) is
        (record {
          tables_are = (t.holds m below).are;
          latches_are = (l.holds m below).are;
          instances_are = (i.holds m below).are;
          tables_within = within m (slice_index_or tables.lists m []) (t.holds m below).within;
          latches_within = within m (slice_index_or latches.lists m []) (l.holds m below).within;
          instances_within = within m (slice_index_or instances.lists m []) (i.holds m below).within;
        })

    pub are-card-places : AreCardPlaces d (record { tables = tables.lists; latches = latches.lists; instances = instances.lists })
    are-card-places m model there =
        let below : m < length d.models = omega (arith, slice_get_within (models_in d) m model there, length-models_in d) in
        let known = slice_get-there d.models m below in
        of_model m model known.0 there known.1 (omega (arith, below, all))
