-- The places of parts one after another, and the greatest measure of the trees of cells.
use Rattle.std.specs.Option.{IsSome}
use Rattle.std.specs.Prelude.{IfNone, Option, Some, max, slice_get, ◌⊎◌}
use Rattle.std.proofs.Common.{List, [], ap, arith, inl, inr, length, refl, subst, suc, sym, zero, ℕ, ◌++◌, ◌+◌, ◌∙◌, ◌∷◌, ◌≡◌, ◌≤◌}
use Rattle.std.proofs.lemmas.List.{append_assoc, append-nil, length-append}
use Rattle.std.proofs.lemmas.Option.{slice_get_within}
use Rattle.dom_base.proofs.Decided.{lt_or_ge}
use Rattle.dom_base.proofs.Lists.{slice_get-push_cases}
use Rattle.deck.specs.declared.device.Device.{Device}
use Rattle.deck.specs.declared.role.Roles.{Roles}
use Rattle.sp_network.specs.Tree.{Tree}
use Rattle.sp_reduction.specs.Networks.{Link, whole_height, whole_width}
use Rattle.deck_audit.specs.Audits.{HasMeasure, IsGreatest}
use Rattle.deck_audit.specs.Rules.{HasFront, HasTree}
use Rattle.deck_audit.specs.Words.{IsDynamic, IsInverterOutput}
use Rattle.deck_audit.proofs.CellShapes.{cells_have_one_shape}
use Rattle.found_decks.specs.FoundDecks.{AreBlocks, AreCellPlaces, numbers_from, whole}
use Rattle.link_reduce.proofs.Options.{none_weaker, some_of}
use Rattle.link_reduce.specs.Parts.{numbers_of}
use Rattle.audit_deck.specs.CellTrees.{CellTreeData, IsTreeAt}
use Rattle.audit_deck.specs.Fronts.{IsFrontAt, IsInverterAt, IsOutputAt}
use Rattle.audit_deck.specs.declared.fronts.Front.{Front}
use Rattle.audit_deck.specs.declared.fronts.Inverter.{Inverter}
use Rattle.audit_deck.specs.DeckOrders.{AddsBlock, AddsBlocks, AddsCell, AddsCells, DeckOrderData, IsGreatestOf}
use Rattle.audit_deck.proofs.Breaks.{one_front}

whole-push : (bs : List (List ℕ)) (b : List ℕ) → whole (bs ++ b ∷ []) ≡ whole bs ++ b
whole-push [] b = append-nil b
whole-push (c ∷ bs) b = ap (λ xs. c ++ xs) (whole-push bs b) ∙ sym (append_assoc c (whole bs) b)

module _ {X : Type 0} (P : X → List ℕ → Type 0) where
  blocks_more : (xs : List X) (bs : List (List ℕ)) (x : X) (b : List ℕ) → AreBlocks P xs bs → P x b → AreBlocks P (xs ++ x ∷ []) (bs ++ b ∷ [])
  blocks_more xs bs x b are has = record {
    count = omega (arith, length-append bs (b ∷ []), length-append xs (x ∷ []), are.count);
    each = λ i y d e f. by i y d (slice_get-push_cases xs x i y e) (slice_get-push_cases bs b i d f);
  }
    where
      by : (i : ℕ) (y : X) (d : List ℕ) → (slice_get xs i ≡ Some y) ⊎ ((i ≡ length xs) × (x ≡ y)) → (slice_get bs i ≡ Some d) ⊎ ((i ≡ length bs) × (b ≡ d)) → P y d
      by i y d (inl e) (inl f) = are.each i y d e f
      by i y d (inr e) (inr f) = subst (λ z. P z d) e.1 (subst (P x) f.1 has)
      by i y d (inl e) (inr f) = absurd (omega (arith, slice_get_within xs i y e, f.0, are.count))
      by i y d (inr e) (inl f) = absurd (omega (arith, slice_get_within bs i d f, e.0, are.count))

  pub none_added : (before : List ℕ) → AddsBlocks P [] before before
  none_added before = ([], record { count = refl; each = λ i x b e f. absurd (cc) }, sym (append-nil before))

  pub block_added : (xs : List X) (x : X) (a b c : List ℕ) → AddsBlocks P xs a b → AddsBlock (P x) b c → AddsBlocks P (xs ++ x ∷ []) a c
  block_added xs x a b c (bs, are, e) (block, has, f) = (
    bs ++ block ∷ [],
    blocks_more xs bs x block are has,
    f ∙ ap (λ l. l ++ block) e ∙ append_assoc a (whole bs) block ∙ ap (λ l. a ++ l) (sym (whole-push bs block)),
  )

module _ (ds : List Device) (roles : Roles) (nets : ℕ) where
  -- the trees of a cell have one measure
  abbrev pub HasOneMeasure : (Tree Link → ℕ) → Type 0
  HasOneMeasure measure =
      (x clock output bottom clock' output' bottom' : ℕ) (t u : Tree Link) → IsDynamic ds roles x → HasFront ds roles x clock output → HasTree ds roles x clock bottom t
      → HasFront ds roles x clock' output' → HasTree ds roles x clock' bottom' u → measure t ≡ measure u

  pub one_width : HasOneMeasure whole_width
  one_width x clock output bottom clock' output' bottom' t u d f h g k =
      let same = one_front ds roles nets x clock output clock' output' f g in
      (cells_have_one_shape ds roles x clock bottom bottom' t u d.0 h (subst (λ m. HasTree ds roles x m bottom' u) (sym same.0) k)).1

  pub one_height : HasOneMeasure whole_height
  one_height x clock output bottom clock' output' bottom' t u d f h g k =
      let same = one_front ds roles nets x clock output clock' output' f g in
      (cells_have_one_shape ds roles x clock bottom bottom' t u d.0 h (subst (λ m. HasTree ds roles x m bottom' u) (sym same.0) k)).2

  module _ (measure : Tree Link → ℕ) (one : HasOneMeasure measure) where
    none_greatest : (a : ℕ) → IsGreatestOf ds roles measure [] a a
    none_greatest a = record { rises = omega arith; bound = λ k x clock output bottom t e f h. absurd (cc); had = inl refl }

    greatest_more : (tops : List ℕ) (x a b c clock output bottom : ℕ) (t : Tree Link) → IsGreatestOf ds roles measure tops a b → IsDynamic ds roles x → HasFront ds roles x clock output
        → HasTree ds roles x clock bottom t → c ≡ max b (measure t) → IsGreatestOf ds roles measure (tops ++ x ∷ []) a c
    greatest_more tops x a b c clock output bottom t g d f h e = record {
      rises = omega (arith, g.rises, e);
      bound = λ k y clock' output' bottom' u at f' h'. by k y clock' output' bottom' u (slice_get-push_cases tops x k y at) f' h';
      had = elim (lt_or_ge b (measure t)) [
        | inl l ↦ inr (x, clock, output, bottom, t, d, f, h, omega (arith, l, e))
        | inr l ↦ let same : c ≡ b = omega (arith, l, e) in elim g.had [
          | inl z ↦ inl (same ∙ z)
          | inr z ↦ inr (subst (HasMeasure ds roles measure) (sym same) z)
        ]
      ];
    }
      where
        by : (k y clock' output' bottom' : ℕ) (u : Tree Link) → (slice_get tops k ≡ Some y) ⊎ ((k ≡ length tops) × (x ≡ y)) → HasFront ds roles y clock' output' → HasTree ds roles y clock' bottom' u → measure u ≤ c
        by k y clock' output' bottom' u (inl at) f' h' = omega (arith, g.bound k y clock' output' bottom' u at f' h', e)
        by k y clock' output' bottom' u (inr z) f' h' =
            let same = one x clock output bottom clock' output' bottom' t u d f h (subst (λ m. HasFront ds roles m clock' output') (sym z.1) f') (subst (λ m. HasTree ds roles m clock' bottom' u) (sym z.1) h') in
            omega (arith, same, e)

    -- where these are all dynamic nets the number is the greatest measure
    pub all_greatest : (tops : List ℕ) (w : ℕ) → ((x : ℕ) → IsDynamic ds roles x → (k : ℕ) × (slice_get tops k ≡ Some x)) → IsGreatestOf ds roles measure tops 0 w → IsGreatest (HasMeasure ds roles measure) w
    all_greatest tops w full g = record {
      bound = λ v h. let k = full h.0 h.5 in omega (arith, g.bound k.0 h.0 h.1 h.2 h.3 h.4 k.1 h.6 h.7, h.8);
      had = g.had;
    }

  pub no_cells : (a : DeckOrderData) → AddsCells ds roles [] a a
  no_cells a = record { blocks = none_added (AreCellPlaces ds roles) a.places; width_is = none_greatest whole_width one_width a.width; height_is = none_greatest whole_height one_height a.height }

  pub cell_added : (tops : List ℕ) (x : ℕ) (a b c : DeckOrderData) → IsDynamic ds roles x → AddsCells ds roles tops a b → AddsCell ds roles x b c → AddsCells ds roles (tops ++ x ∷ []) a c
  cell_added tops x a b c d h k = record {
    blocks = block_added (AreCellPlaces ds roles) tops x a.places b.places c.places h.blocks (k.block, (k.clock, k.output, k.bottom, k.tree, k.is), k.places_are);
    width_is = greatest_more whole_width one_width tops x a.width b.width c.width k.clock k.output k.bottom k.tree h.width_is d (k.is).front (k.is).has_tree k.width_is;
    height_is = greatest_more whole_height one_height tops x a.height b.height c.height k.clock k.output k.bottom k.tree h.height_is d (k.is).front (k.is).has_tree k.height_is;
  }

-- one number more
numbers_more : (a k : ℕ) → numbers_from a (suc k) ≡ numbers_from a k ++ (a + k) ∷ []
numbers_more a zero = ap (λ n. n ∷ []) (plus a)
  where
    plus : (a : ℕ) → a ≡ a + 0
    plus a = omega arith
numbers_more a (suc k) = ap (λ l. a ∷ l) (numbers_more (a + 1) k ∙ ap (λ n. numbers_from (a + 1) k ++ n ∷ []) (shift a k))
  where
    shift : (a k : ℕ) → a + 1 + k ≡ a + suc k
    shift a k = omega arith

pub port_added : (P : ℕ → List ℕ → Type 0) (first from port : ℕ) (a b c : List ℕ) → from ≡ first → AddsBlocks P (numbers_from first port) a b → AddsBlock (P (from + port)) b c
    → AddsBlocks P (numbers_from first (port + 1)) a c
port_added P first from port a b c e h k =
    subst (λ n. AddsBlocks P (numbers_from first n) a c) (next port)
    (subst (λ ns. AddsBlocks P ns a c) (sym (numbers_more first port))
    (block_added P (numbers_from first port) (first + port) a b c h (subst (λ n. AddsBlock (P (n + port)) b c) e k)))
  where
    next : (n : ℕ) → suc n ≡ n + 1
    next n = omega arith

-- where what is told of no answer can't be, there is one
pub some_unless : {X : Type 0} (o : Option X) (Q : Type 0) → IfNone o Q → (Q → ⊥) → IsSome o
some_unless o Q none away = some_of o (Q → ⊥) (none_weaker o Q ((Q → ⊥) → ⊥) (λ q f. f q) none) away

-- the two devices of an inverter, put behind
pub two_pushed : (a b c : List ℕ) (u d u' d' : ℕ) → b ≡ a ++ u ∷ [] → c ≡ b ++ d ∷ [] → u' ≡ u → d' ≡ d → c ≡ a ++ u' ∷ d' ∷ []
two_pushed a b c u d u' d' e f p q = f ∙ ap (λ l. l ++ d ∷ []) e ∙ append_assoc a (u ∷ []) (d ∷ []) ∙ (λ i. a ++ sym p i ∷ sym q i ∷ [])

-- an inverter whose input is known
inverter_of : (ds : List Device) (output x : ℕ) (i : Inverter) → IsInverterAt ds output i → i.input ≡ x → (v : IsInverterOutput ds output x) × (v.up ≡ i.up) × (v.down ≡ i.down)
inverter_of ds output x i v e =
    let r = v.inverts in (
      record {
        up = r.up;
        down = r.down;
        pull_up = r.pull_up;
        pull_down = r.pull_down;
        up_there = r.up_there;
        up_is = ((r.up_is).0, (r.up_is).1 ∙ e, (r.up_is).2);
        down_there = r.down_there;
        down_is = ((r.down_is).0, (r.down_is).1 ∙ e, (r.down_is).2);
        only = r.only;
      },
      v.up_is,
      v.down_is,
    )

-- the devices of a cell, put behind one after another
all_pushed : (b o : List ℕ) (p k f u d : ℕ) → (((((b ++ p ∷ []) ++ k ∷ []) ++ o) ++ f ∷ []) ++ u ∷ []) ++ d ∷ [] ≡ b ++ (p ∷ k ∷ ((o ++ f ∷ []) ++ u ∷ d ∷ []))
all_pushed [] o p k f u d = ap (λ l. p ∷ k ∷ l) (append_assoc (o ++ f ∷ []) (u ∷ []) (d ∷ []))
all_pushed (x ∷ b) o p k f u d = ap (λ l. x ∷ l) (all_pushed b o p k f u d)

-- what a cell's devices are put behind, step by step
pub record Pushes (before : DeckOrderData) (f : Front) (i : Inverter) (order : List ℕ) (foot : ℕ) (places : List ℕ) : Type 0 where
  pub start : List ℕ
  pub one : List ℕ
  pub two : List ℕ
  pub three : List ℕ
  pub four : List ℕ
  pub five : List ℕ
  pub start_is : start ≡ before.places
  pub one_is : one ≡ start ++ f.precharge ∷ []
  pub two_is : two ≡ one ++ f.keeper ∷ []
  pub three_is : three ≡ two ++ order
  pub four_is : four ≡ three ++ foot ∷ []
  pub five_is : five ≡ four ++ i.up ∷ []
  pub places_are : places ≡ five ++ i.down ∷ []

pub cell_pushed : (ds : List Device) (roles : Roles) (x : ℕ) (f : Front) (i : Inverter) (t : CellTreeData) (before : DeckOrderData) (order places : List ℕ) (foot w h width height : ℕ)
    → IsFrontAt ds roles x f → IsOutputAt ds roles x f.output i → IsTreeAt ds roles x f.clock t → order ≡ t.order → foot ≡ t.foot → w ≡ t.width → h ≡ t.height
    → Pushes before f i order foot places → width ≡ max before.width w → height ≡ max before.height h
    → AddsCell ds roles x before (record { places = places; width = width; height = height })
cell_pushed ds roles x f i t before order places foot w h width height fa oa ta eo ef ew eh s wide high =
    let v = inverter_of ds f.output x i oa.inverter oa.input_is in
    let b = before.places in
    let steps : places ≡ (((((b ++ f.precharge ∷ []) ++ f.keeper ∷ []) ++ order) ++ foot ∷ []) ++ i.up ∷ []) ++ i.down ∷ [] =
    s.places_are ∙ ap (λ l. l ++ i.down ∷ []) (s.five_is ∙ ap (λ l. l ++ i.up ∷ []) (s.four_is ∙ ap (λ l. l ++ foot ∷ []) (s.three_is ∙ ap (λ l. l ++ order) (s.two_is
    ∙ ap (λ l. l ++ f.keeper ∷ []) (s.one_is ∙ ap (λ l. l ++ f.precharge ∷ []) s.start_is))))) in
    let order_same : order ≡ numbers_of ta.tree = eo ∙ sym ta.order_is in
    let foot_same : foot ≡ (ta.has_tree).foot = ef ∙ sym ta.foot_is in
    record {
      clock = f.clock;
      output = f.output;
      bottom = t.bottom;
      tree = ta.tree;
      block = (fa.front).precharge ∷ (fa.front).keeper ∷ ((numbers_of ta.tree ++ (ta.has_tree).foot ∷ []) ++ (v.0).up ∷ (v.0).down ∷ []);
      is = record { front = fa.front; has_tree = ta.has_tree; no_port = oa.inner; inverter = v.0; places_are = refl };
      places_are = steps ∙ all_pushed b order f.precharge f.keeper foot i.up i.down
          ∙ (λ j. b ++ (sym fa.precharge_is j ∷ sym fa.keeper_is j ∷ ((order_same j ++ foot_same j ∷ []) ++ sym v.1 j ∷ sym v.2 j ∷ [])));
      width_is = wide ∙ ap (λ n. max before.width n) (ew ∙ sym ta.width_is);
      height_is = high ∙ ap (λ n. max before.height n) (eh ∙ sym ta.height_is);
    }
