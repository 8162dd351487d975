-- The cards of a model by numbers, part by part.
use Rattle.std.proofs.Common.{◌≡◌, ℕ, zero, suc, ◌≤◌, ◌<◌, ◌+◌, ◌-◌, List, [], ◌∷◌, ◌++◌, length, length-take-le, map, take, drop, Option, Some, None, refl, sym, ap, ◌∙◌, subst, arith}
use Rattle.std.specs.Prelude.{slice_get}
use Rattle.std.specs.List.{cons_option, filter_map}
use Rattle.std.proofs.lemmas.List.{drop-map, length-append, take-map}
use Rattle.std.proofs.lemmas.List.Elements.{filter_map-append}
use Rattle.std.proofs.lemmas.Option.{slice_get-get_or, slice_get_within}
use Rattle.dom_base.proofs.Lists.{map-push, drop_next}
use Rattle.graph_order.proofs.Lists.{take_next}
use Rattle.blif_ast.specs.BlifModelData.{BlifModelData}
use Rattle.numbered_file.specs.declared.parts.ModelAt.{ModelAt}
use Rattle.numbered_file.specs.declared.parts.PartAt.{PartAt}
use Rattle.numbered_file.specs.declared.parts.PartKind.{PartKind}
use Rattle.numbered_file.specs.declared.parts.PartKind.TheVariants as at
use Rattle.numbered_file.specs.NumberedData.{NumberedData}
use Rattle.numbered_file.specs.Numbered.{Part, between, instance_in, latch_in, model_by, name_of, named, part_by, parts_from, parts_of, table_in}
use Rattle.numbered_file.specs.Places.{first_part, inputs_at, outputs_at}
use Rattle.card_places.specs.declared.model_plans.Counts.{Counts}
use Rattle.card_places.specs.PartCards.{HasModelParts, RisesFrom, card_by, part_card, counted, part_line}
use Rattle.card_places.proofs.PartOrder.{parts-ordered}
use Rattle.model_calls.specs.declared.plan.CardAt.{CardAt}
use Rattle.model_calls.specs.Expanded.{BodyCard, ordered_cards}
use Rattle.model_calls.specs.LinedCards.{AreNumberedCards, IsNumberedCard}

-- a part of a kind stands among those of its kind behind as many as stand before it
module _ {Card : Type 0} (card_in : Part → Option Card) where
  pub place-of : (parts : List Part) (i : ℕ) (p : Part) (card : Card) → slice_get parts i ≡ Some p → card_in p ≡ Some card
      → slice_get (filter_map card_in parts) (length (filter_map card_in (take i parts))) ≡ Some card
  place-of [] i p card there some = absurd cc
  place-of (q ∷ parts) zero p card there some =
      let is : q ≡ p = cc in ap (λ o. slice_get (cons_option o (filter_map card_in parts)) 0) (ap card_in is ∙ some)
  place-of (q ∷ parts) (suc i) p card there some = by (card_in q) (place-of parts i p card there some)
    where
      by : (o : Option Card) → slice_get (filter_map card_in parts) (length (filter_map card_in (take i parts))) ≡ Some card
          → slice_get (cons_option o (filter_map card_in parts)) (length (cons_option o (filter_map card_in (take i parts)))) ≡ Some card
      by None rest = rest
      by (Some c) rest = rest

  count-next : (parts : List Part) (p : Part) (o : Option Card) → card_in p ≡ o
      → length (filter_map card_in (parts ++ p ∷ [])) ≡ length (filter_map card_in parts) + length (cons_option o [])
  count-next parts p o is = ap length (filter_map-append card_in parts (p ∷ []) ∙ ap (λ c. filter_map card_in parts ++ cons_option c []) is)
      ∙ length-append (filter_map card_in parts) (cons_option o [])

  pub count-most : (parts : List Part) → length (filter_map card_in parts) ≤ length parts
  count-most [] = omega arith
  count-most (p ∷ parts) = by (card_in p) (count-most parts)
    where
      by : (o : Option Card) → length (filter_map card_in parts) ≤ length parts
          → length (cons_option o (filter_map card_in parts)) ≤ length (p ∷ parts)
      by None rest = omega (arith, rest)
      by (Some c) rest = omega (arith, rest)

-- so many cards of each kind are among these parts
pub record AreCounts (counts : Counts) (parts : List Part) : Type 0 where
  pub tables : counts.tables ≡ length (filter_map table_in parts)
  pub latches : counts.latches ≡ length (filter_map latch_in parts)
  pub instances : counts.instances ≡ length (filter_map instance_in parts)

pub no-counts : (parts : List Part) (counts : Counts) → parts ≡ [] → counts ≡ record { tables = 0; latches = 0; instances = 0 }
    → AreCounts counts parts
no-counts parts counts none zeros = subst (AreCounts counts) (sym none)
    (subst (λ c. AreCounts c []) (sym zeros) (record { tables = refl; latches = refl; instances = refl }))

numbered_push : (m : BlifModelData) (callees : List ℕ) (ats : List CardAt) (cs : List BodyCard) (a : CardAt) (c : BodyCard)
    → AreNumberedCards m callees ats cs → IsNumberedCard m callees a c → AreNumberedCards m callees (ats ++ a ∷ []) (cs ++ c ∷ [])
numbered_push m callees [] [] a c are is = (is, tt)
numbered_push m callees [] (d ∷ cs) a c are is = absurd are
numbered_push m callees (b ∷ ats) [] a c are is = absurd are
numbered_push m callees (b ∷ ats) (d ∷ cs) a c are is = (are.0, numbered_push m callees ats cs a c are.1 is)

module _ (text : List ℕ) (line : ℕ) (words : List (List ℕ)) (rows : List ℕ) where
  counts-next : (kind : PartKind) (before : Counts) (parts : List Part) → AreCounts before parts
      → AreCounts (counted kind before) (parts ++ part_by text kind line words rows ∷ [])
  counts-next (at.Table on) before parts h =
      let p = part_by text (at.Table on) line words rows in
      record {
        tables = omega (arith, h.tables, count-next table_in parts p _ refl);
        latches = omega (arith, h.latches, count-next latch_in parts p None refl);
        instances = omega (arith, h.instances, count-next instance_in parts p None refl);
      }
  counts-next (at.Latch edge init) before parts h =
      let p = part_by text (at.Latch edge init) line words rows in
      record {
        tables = omega (arith, h.tables, count-next table_in parts p None refl);
        latches = omega (arith, h.latches, count-next latch_in parts p _ refl);
        instances = omega (arith, h.instances, count-next instance_in parts p None refl);
      }
  counts-next at.Instance before parts h =
      let p = part_by text at.Instance line words rows in
      record {
        tables = omega (arith, h.tables, count-next table_in parts p None refl);
        latches = omega (arith, h.latches, count-next latch_in parts p None refl);
        instances = omega (arith, h.instances, count-next instance_in parts p _ refl);
      }

  card-next : (kind : PartKind) (before : Counts) (m : BlifModelData) (callees : List ℕ) (parts : List Part) (i : ℕ) → HasModelParts m parts
      → length callees ≡ length m.instances
      → slice_get parts i ≡ Some (part_by text kind line words rows) → AreCounts before (take i parts)
      → IsNumberedCard m callees (card_by kind before callees) (part_card (part_by text kind line words rows))
  card-next (at.Table on) before m callees parts i h few there c =
      (λ k. slice_get (h.tables k) (c.tables k)) ∙ place-of table_in parts i (part_by text (at.Table on) line words rows) _ there refl
  card-next (at.Latch edge init) before m callees parts i h few there c =
      (λ k. slice_get (h.latches k) (c.latches k))
      ∙ place-of latch_in parts i (part_by text (at.Latch edge init) line words rows) _ there refl
  card-next at.Instance before m callees parts i h few there c =
      let stands = (λ k. slice_get (h.instances k) (c.instances k))
      ∙ place-of instance_in parts i (part_by text at.Instance line words rows) _ there refl in
      (stands, slice_get-get_or callees before.instances 0 (omega (arith, few, slice_get_within m.instances before.instances _ stands)))

-- the plan of the parts so far
pub record IsPlanSoFar (parts : List Part) (callees : List ℕ) (i : ℕ) (cards : List CardAt) (counts : Counts) : Type 0 where
  pub counts_are : AreCounts counts (take i parts)
  pub cards_are : (m : BlifModelData) → HasModelParts m parts → length callees ≡ length m.instances
      → AreNumberedCards m callees cards (map part_card (take i parts))

pub plan-next : (parts : List Part) (callees : List ℕ) (i : ℕ) (cards after : List CardAt) (before counts : Counts) (text : List ℕ)
    (kind : PartKind) (line : ℕ) (words : List (List ℕ)) (rows : List ℕ)
    → IsPlanSoFar parts callees i cards before → slice_get parts i ≡ Some (part_by text kind line words rows)
    → after ≡ cards ++ card_by kind before callees ∷ [] → counts ≡ counted kind before
    → IsPlanSoFar parts callees (i + 1) after counts
plan-next parts callees i cards after before counts text kind line words rows h there pushed is =
    let p = part_by text kind line words rows in
    let more = take_next parts i p there in
    record {
      counts_are = subst (λ l. AreCounts counts l) (sym more)
          (subst (λ n. AreCounts n (take i parts ++ p ∷ [])) (sym is)
          (counts-next text line words rows kind before (take i parts) h.counts_are));
      cards_are = λ m has few. subst (λ l. AreNumberedCards m callees l (map part_card (take (i + 1) parts))) (sym pushed)
          (subst (AreNumberedCards m callees (cards ++ card_by kind before callees ∷ []))
          (sym (ap (map part_card) more ∙ map-push part_card (take i parts) p))
          (numbered_push m callees cards (map part_card (take i parts)) (card_by kind before callees) (part_card p) (h.cards_are m has few)
          (card-next text line words rows kind before m callees parts i has few there h.counts_are)));
    }

pub plan-all : (parts : List Part) (callees : List ℕ) (i : ℕ) (cards : List CardAt) (counts : Counts)
    → IsPlanSoFar parts callees i cards counts → take i parts ≡ parts
    → (m : BlifModelData) → HasModelParts m parts → length callees ≡ length m.instances
    → AreNumberedCards m callees cards (map part_card parts)
plan-all parts callees i cards counts h all m has few = subst (λ l. AreNumberedCards m callees cards (map part_card l)) all
    (h.cards_are m has few)

-- there is room for one card more
pub counts-few : (counts : Counts) (parts : List Part) (i most : ℕ) → AreCounts counts (take i parts) → i < length parts
    → length parts ≤ most
    → (counts.tables + 1 ≤ most) × (counts.latches + 1 ≤ most) × (counts.instances + 1 ≤ most)
counts-few counts parts i most h below few =
    let l = length-take-le i parts (omega (arith, below)) in (
      omega (arith, h.tables, count-most table_in (take i parts), l, below, few),
      omega (arith, h.latches, count-most latch_in (take i parts), l, below, few),
      omega (arith, h.instances, count-most instance_in (take i parts), l, below, few),
    )

-- the lines of parts
line-of : (text : List ℕ) (kind : PartKind) (line : ℕ) (words : List (List ℕ)) (rows : List ℕ)
    → part_line (part_by text kind line words rows) ≡ line
line-of text (at.Table on) line words rows = refl
line-of text (at.Latch edge init) line words rows = refl
line-of text at.Instance line words rows = refl

lines-from : (text : List ℕ) (words : List (List ℕ)) (rows : List ℕ) (word row : ℕ) (parts : List PartAt)
    → map part_line (parts_from text words rows word row parts) ≡ map (λ (p : PartAt). p.line) parts
lines-from text words rows word row [] = refl
lines-from text words rows word row (p ∷ parts) =
    λ i. line-of text p.kind p.line (between word p.words_end words) (between row p.rows_end rows) i ∷ lines-from text words rows
    p.words_end p.rows_end parts i

between-map : {X Y : Type 0} (f : X → Y) (start end : ℕ) (xs : List X) → map f (between start end xs) ≡ between start end (map f xs)
between-map f start end xs = sym (take-map f (end - start) (drop start xs)) ∙ ap (take (end - start)) (sym (drop-map f start xs))

pub lines-between : (d : NumberedData) (start end : ℕ)
    → map part_line (between start end (parts_of d)) ≡ map (λ (p : PartAt). p.line) (between start end d.parts)
lines-between d start end =
    between-map part_line start end (parts_of d) ∙ ap (between start end) (lines-from d.text (named d.names d.words) d.rows 0 0 d.parts)
    ∙ sym (between-map (λ (p : PartAt). p.line) start end d.parts)

-- what is left of parts whose lines rise
pub rises-next : (parts : List PartAt) (i low : ℕ) (part : PartAt) → slice_get parts i ≡ Some part → low ≤ part.line
    → RisesFrom (part.line + 1) (map (λ (p : PartAt). p.line) (drop (i + 1) parts))
    → RisesFrom low (map (λ (p : PartAt). p.line) (drop i parts))
rises-next parts i low part there l h = subst (λ ps. RisesFrom low (map (λ (p : PartAt). p.line) ps)) (sym (drop_next parts i part there))
    (l, h)

-- the plan of a model of a file, where the lines of its parts rise
module _ (d : NumberedData) (i start end : ℕ) (model : ModelAt) (there : slice_get d.models i ≡ Some model)
    (starts : start ≡ first_part d i) (ends : end ≡ first_part d (i + 1)) where
  abbrev pub the_model : BlifModelData
  the_model = model_by (name_of d.names model.name) model.line (named d.names (inputs_at d i)) (named d.names (outputs_at d i))
      (between (first_part d i) (first_part d (i + 1)) (parts_of d))

  has : HasModelParts the_model (between start end (parts_of d))
  has = record {
    tables = λ k. filter_map table_in (between (sym starts k) (sym ends k) (parts_of d));
    latches = λ k. filter_map latch_in (between (sym starts k) (sym ends k) (parts_of d));
    instances = λ k. filter_map instance_in (between (sym starts k) (sym ends k) (parts_of d));
  }

  pub planned : (parts : List PartAt) (callees : List ℕ) (plan : List CardAt) → parts ≡ between start end d.parts
      → RisesFrom 0 (map (λ (p : PartAt). p.line) parts)
      → ((m : BlifModelData) → HasModelParts m (between start end (parts_of d)) → length callees ≡ length m.instances
      → AreNumberedCards m callees plan (map part_card (between start end (parts_of d))))
      → length callees ≡ length the_model.instances → AreNumberedCards the_model callees plan (ordered_cards the_model)
  planned parts callees plan are rises cards few =
      let lines = ap (map (λ (p : PartAt). p.line)) are ∙ sym (lines-between d start end) in
      subst (AreNumberedCards the_model callees plan)
      (sym (parts-ordered the_model (between start end (parts_of d)) has (subst (RisesFrom 0) lines rises)))
      (cards the_model has few)
