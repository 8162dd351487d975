-- Where the lines of a model's parts rise, its cards in order of lines are the parts in their order.
use Rattle.std.proofs.Common.{◌≡◌, ℕ, ◌≤◌, ◌<◌, ◌+◌, List, [], ◌∷◌, ◌++◌, map, refl, sym, ap, ◌∙◌, arith, append_assoc}
use Rattle.std.specs.Prelude.{if◌then◌else◌}
use Rattle.std.specs.List.{AllByRecursion, filter_map}
use Rattle.std.proofs.lemmas.Bool.{le-ltb, lt-ltb}
use Rattle.dom_base.proofs.Lists.{AllByRecursion-append, AllByRecursion-unmap, AllByRecursion-weaker}
use Rattle.blif_ast.specs.BlifModelData.{BlifModelData}
use Rattle.numbered_file.specs.Numbered.{InstancePart, LatchPart, Part, TablePart, instance_in, latch_in, table_in}
use Rattle.card_places.specs.PartCards.{HasModelParts, RisesFrom, part_card, part_line}
use Rattle.model_calls.specs.Expanded.{BodyCard, InstanceCard, LatchCard, TableCard, card_line, ordered_cards}
use Rattle.model_calls.specs.Ordered.{in_order, with_element}
use Rattle.model_calls.proofs.Apart.{each_in_order}

module _ {X : Type 0} (line : X → ℕ) where
  first-with : (e : X) (xs : List X) → AllByRecursion (λ x. line e ≤ line x) xs → with_element line e xs ≡ e ∷ xs
  first-with e [] h = refl
  first-with e (x ∷ xs) h = ap (λ b. if b then x ∷ with_element line e xs else e ∷ x ∷ xs) (le-ltb (line x) (line e) h.0)

  -- the element of the smallest number comes first, wherever it stands
  pub earliest : (front back : List X) (e : X) → AllByRecursion (λ x. line e < line x) front → AllByRecursion (λ x. line e < line x) back
      → in_order line (front ++ e ∷ back) ≡ e ∷ in_order line (front ++ back)
  earliest [] back e f b = first-with e (in_order line back)
      (each_in_order line (λ x. line e ≤ line x) back
      (AllByRecursion-weaker (λ x. line e < line x) (λ x. line e ≤ line x) (λ x l. omega (arith, l)) back b))
  earliest (x ∷ front) back e f b =
      ap (with_element line x) (earliest front back e f.1 b)
      ∙ ap (λ t. if t then e ∷ with_element line x (in_order line (front ++ back)) else x ∷ e ∷ in_order line (front ++ back))
      (lt-ltb (line e) (line x) f.0)

rises-above : (low : ℕ) (ns : List ℕ) → RisesFrom low ns → AllByRecursion (λ n. low ≤ n) ns
rises-above low [] h = tt
rises-above low (n ∷ ns) h = (
  h.0,
  AllByRecursion-weaker (λ k. n + 1 ≤ k) (λ k. low ≤ k) (λ k l. omega (arith, l, h.0)) ns
      (rises-above (n + 1) ns h.1),
)

-- what holds of each part as a card holds of the cards of each kind
module _ (Q : BodyCard → Type 0) where
  tables-each : (ps : List Part) → AllByRecursion (λ p. Q (part_card p)) ps → AllByRecursion Q (map TableCard (filter_map table_in ps))
  tables-each [] h = tt
  tables-each (TablePart table ∷ ps) h = (h.0, tables-each ps h.1)
  tables-each (LatchPart latch ∷ ps) h = tables-each ps h.1
  tables-each (InstancePart instance ∷ ps) h = tables-each ps h.1

  latches-each : (ps : List Part) → AllByRecursion (λ p. Q (part_card p)) ps → AllByRecursion Q (map LatchCard (filter_map latch_in ps))
  latches-each [] h = tt
  latches-each (TablePart table ∷ ps) h = latches-each ps h.1
  latches-each (LatchPart latch ∷ ps) h = (h.0, latches-each ps h.1)
  latches-each (InstancePart instance ∷ ps) h = latches-each ps h.1

  instances-each : (ps : List Part) → AllByRecursion (λ p. Q (part_card p)) ps
      → AllByRecursion Q (map InstanceCard (filter_map instance_in ps))
  instances-each [] h = tt
  instances-each (TablePart table ∷ ps) h = instances-each ps h.1
  instances-each (LatchPart latch ∷ ps) h = instances-each ps h.1
  instances-each (InstancePart instance ∷ ps) h = (h.0, instances-each ps h.1)

abbrev tables_of : List Part → List BodyCard
tables_of ps = map TableCard (filter_map table_in ps)

abbrev latches_of : List Part → List BodyCard
latches_of ps = map LatchCard (filter_map latch_in ps)

abbrev instances_of : List Part → List BodyCard
instances_of ps = map InstanceCard (filter_map instance_in ps)

behind : (p : Part) (ps : List Part) → RisesFrom (part_line p + 1) (map part_line ps) → AllByRecursion (λ q. part_line p < part_line q) ps
behind p ps h = AllByRecursion-weaker (λ q. part_line p + 1 ≤ part_line q) (λ q. part_line p < part_line q) (λ q l. omega (arith, l)) ps
    (AllByRecursion-unmap (λ n. part_line p + 1 ≤ n) part_line ps (rises-above (part_line p + 1) (map part_line ps) h))

by_kinds : (low : ℕ) (ps : List Part) → RisesFrom low (map part_line ps)
    → in_order card_line (tables_of ps ++ latches_of ps ++ instances_of ps) ≡ map part_card ps
by_kinds low [] h = refl
by_kinds low (TablePart t ∷ ps) h =
    let each = behind (TablePart t) ps h.1 in
    let Q = λ (c : BodyCard). t.line < card_line c in
    earliest card_line [] (tables_of ps ++ latches_of ps ++ instances_of ps) (TableCard t) tt
    (AllByRecursion-append Q (tables_of ps ++ latches_of ps) (instances_of ps)
    (AllByRecursion-append Q (tables_of ps) (latches_of ps) (tables-each Q ps each) (latches-each Q ps each)) (instances-each Q ps each))
    ∙ ap (λ l. TableCard t ∷ l) (by_kinds (t.line + 1) ps h.1)
by_kinds low (LatchPart l ∷ ps) h =
    let each = behind (LatchPart l) ps h.1 in
    let Q = λ (c : BodyCard). l.line < card_line c in
    ap (in_order card_line) (append_assoc (tables_of ps) (LatchCard l ∷ latches_of ps) (instances_of ps))
    ∙ earliest card_line (tables_of ps) (latches_of ps ++ instances_of ps) (LatchCard l) (tables-each Q ps each)
    (AllByRecursion-append Q (latches_of ps) (instances_of ps) (latches-each Q ps each) (instances-each Q ps each))
    ∙ ap (λ k. LatchCard l ∷ in_order card_line k) (sym (append_assoc (tables_of ps) (latches_of ps) (instances_of ps)))
    ∙ ap (λ k. LatchCard l ∷ k) (by_kinds (l.line + 1) ps h.1)
by_kinds low (InstancePart i ∷ ps) h =
    let each = behind (InstancePart i) ps h.1 in
    let Q = λ (c : BodyCard). i.line < card_line c in
    earliest card_line (tables_of ps ++ latches_of ps) (instances_of ps) (InstanceCard i)
    (AllByRecursion-append Q (tables_of ps) (latches_of ps) (tables-each Q ps each) (latches-each Q ps each)) (instances-each Q ps each)
    ∙ ap (λ k. InstanceCard i ∷ k) (by_kinds (i.line + 1) ps h.1)

pub parts-ordered : (m : BlifModelData) (ps : List Part) → HasModelParts m ps → RisesFrom 0 (map part_line ps)
    → ordered_cards m ≡ map part_card ps
parts-ordered m ps h rises =
    (λ k. in_order card_line (map TableCard (h.tables k) ++ map LatchCard (h.latches k) ++ map InstanceCard (h.instances k)))
    ∙ by_kinds 0 ps rises
