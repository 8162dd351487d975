-- A deck with keepers gets a yes.
use Rattle.std.specs.Prelude.{Some, slice_get, ◌≢◌, ◌⊎◌}
use Rattle.std.proofs.Common.{List, [], ap, arith, inl, inr, length, refl, subst, suc, sym, zero, ℕ, ◌+◌, ◌<◌, ◌∙◌, ◌∷◌, ◌≡◌, ◌≤◌}
use Rattle.std.proofs.lemmas.Option.{slice_get_cases, slice_get_within}
use Rattle.dom_base.proofs.Decided.{dec_nat, lt_or_ge}
use Rattle.deck.specs.CircuitData.{CircuitData}
use Rattle.deck.specs.declared.device.Device.{Device}
use Rattle.sp_network.specs.Tree.{Leaf, Parallel, Series, Tree, height, leaves, map_tree, width}
use Rattle.domino_cell.specs.Stage.{Inside, Top}
use Rattle.domino_law.proofs.Statics.{left_is}
use Rattle.domino_law.specs.Nets.{At, Clock, Dynamic, Output, gate_net, left_side, CellSide}
use Rattle.domino_law.specs.Shape.{DominoCell, IsCellAt, left_stage}
use Rattle.sp_reduction.specs.Networks.{Link, whole_height, whole_width}
use Rattle.deck_audit.specs.Audits.{HasMeasure, IsCount, IsGreatest, IsYes}
use Rattle.deck_audit.specs.OwnDecks.{KeeperDecksGetYes, greatest_of}
use Rattle.deck_audit.specs.Rules.{HasFront, HasTree}
use Rattle.deck_audit.specs.Words.{IsDynamic}
use Rattle.deck_audit.proofs.CellShapes.{cells_have_one_shape}
use Rattle.deck_audit.proofs.LinkTrees.{link_tree}
use Rattle.deck_audit.proofs.OwnCards.{OwnDeck}
use Rattle.deck_audit.proofs.OwnCells.{front}
use Rattle.deck_audit.proofs.OwnRules.{front_one, keeps_rules, numbered_deck}
use Rattle.deck_audit.proofs.OwnSignals.{dynamic_is, top_dynamic}
use Rattle.deck_audit.proofs.OwnTrees.{links, tree}
use Rattle.sp_network.proofs.TreeImages.{height-map_tree, width-map_tree}

-- counts: one number more
count_same : (P Q : ℕ → Type 0) (m : ℕ) → ((n : ℕ) → Q n → P n) → ((n : ℕ) → P n → Q n ⊎ (n ≡ m)) → (N j : ℕ) → N ≤ m → IsCount Q N j → IsCount P N j
count_same P Q m f h zero j le c = c
count_same P Q m f h (suc N) j le (inl c) = inl (f N c.0, c.1, count_same P Q m f h N c.1 (omega (arith, le)) c.2, c.3)
count_same P Q m f h (suc N) j le (inr c) = inr ((λ p. elim (h N p) [ inl q ↦ c.0 q | inr e ↦ omega (arith, e, le) ]), count_same P Q m f h N j (omega (arith, le)) c.1)

count_more : (P Q : ℕ → Type 0) (m : ℕ) → ((n : ℕ) → Q n → P n) → P m → (Q m → ⊥) → ((n : ℕ) → P n → Q n ⊎ (n ≡ m)) → (N j : ℕ) → m < N → IsCount Q N j → IsCount P N (suc j)
count_more P Q m f p q h zero j lt c = absurd (omega (arith, lt))
count_more P Q m f p q h (suc N) j lt c = elim (dec_nat m N) [
  | inl e ↦ elim c [
    | inl x ↦ absurd (q (rw e x.0))
    | inr x ↦ inl (subst P e p, j, count_same P Q m f h N j (omega (arith, e)) x.1, refl)
  ]
  | inr ne ↦ elim c [
    | inl x ↦ inl (f N x.0, suc x.1, count_more P Q m f p q h N x.1 (less ne) x.2, ap (λ z. suc z) x.3)
    | inr x ↦ inr ((λ y. elim (h N y) [ inl z ↦ x.0 z | inr e ↦ ne (sym e) ]), count_more P Q m f p q h N j (less ne) x.1)
  ]
]
  where
    less : m ≢ N → m < N
    less ne = elim (lt_or_ge m N) [ inl l ↦ l | inr g ↦ absurd (ne (omega (arith, g, lt))) ]

no_count : (P : ℕ → Type 0) (n : ℕ) → ((m : ℕ) → P m → ⊥) → IsCount P n 0
no_count P zero h = refl
no_count P (suc n) h = inr (h n, no_count P n h)

equal_count : (P Q : ℕ → Type 0) → ((n : ℕ) → Q n → P n) → ((n : ℕ) → P n → Q n) → (N j : ℕ) → IsCount Q N j → IsCount P N j
equal_count P Q f g zero j c = c
equal_count P Q f g (suc N) j (inl c) = inl (f N c.0, c.1, equal_count P Q f g N c.1 c.2, c.3)
equal_count P Q f g (suc N) j (inr c) = inr ((λ p. c.0 (g N p)), equal_count P Q f g N j c.1)

-- as many as different numbers are listed
count_listed : (f : ℕ → ℕ) (K N : ℕ) → ((k : ℕ) → k < K → f k < N) → ((i j : ℕ) → i < K → j < K → f i ≡ f j → i ≡ j) → IsCount (λ n. (k : ℕ) × (k < K) × (n ≡ f k)) N K
count_listed f zero N low one = no_count (λ n. (k : ℕ) × (k < 0) × (n ≡ f k)) N (λ m z. omega (arith, z.1))
count_listed f (suc K) N low one =
    count_more (λ n. (k : ℕ) × (k < suc K) × (n ≡ f k)) (λ n. (k : ℕ) × (k < K) × (n ≡ f k)) (f K) (λ n z. (z.0, omega (arith, z.1), z.2)) (K, omega arith, refl)
    (λ z. let e = one K z.0 (omega arith) (omega (arith, z.1)) z.2 in omega (arith, e, z.1)) (λ n z. last n z.0 z.1 z.2) N K (low K (omega arith))
    (count_listed f K N (λ k l. low k (omega (arith, l))) (λ i j a b e. one i j (omega (arith, a)) (omega (arith, b)) e))
  where
    last : (n k : ℕ) → k < suc K → n ≡ f k → ((k : ℕ) × (k < K) × (n ≡ f k)) ⊎ (n ≡ f K)
    last n k l e = elim (lt_or_ge k K) [ inl a ↦ inl (k, a, e) | inr a ↦ let same : k ≡ K = omega (arith, a, l) in inr (e ∙ ap f same) ]

-- the greatest of a measure
bound : (measure : DominoCell → ℕ) (cs : List DominoCell) (k : ℕ) (cell : DominoCell) → slice_get cs k ≡ Some cell → measure cell ≤ greatest_of measure cs
bound measure [] k cell e = absurd (cc)
bound measure (d ∷ cs) zero cell e = let same : d ≡ cell = cc in omega (arith, ap measure same)
bound measure (d ∷ cs) (suc k) cell e = omega (arith, bound measure cs k cell e)

had : (measure : DominoCell → ℕ) (cs : List DominoCell) → (greatest_of measure cs ≡ 0) ⊎ ((k : ℕ) × (cell : DominoCell) × (slice_get cs k ≡ Some cell) × (measure cell ≡ greatest_of measure cs))
had measure [] = inl refl
had measure (d ∷ cs) = elim (lt_or_ge (greatest_of measure cs) (measure d)) [
  | inl l ↦ inr (0, d, refl, omega (arith, l))
  | inr g ↦ elim (had measure cs) [
    | inl z ↦ inl (omega (arith, z, g))
    | inr z ↦ inr (suc z.0, z.1, z.2, omega (arith, z.3, g))
  ]
]

width_of_links : {Net : Type 0} (pl : ℕ → ℕ) (dv : ℕ → Device) (t : Tree Net) (b : ℕ) → whole_width (link_tree pl dv t b) ≡ width t
unfolding link_tree
width_of_links pl dv (Leaf g) b = refl
width_of_links pl dv (Series l r) b = omega (arith, width_of_links pl dv l b, width_of_links pl dv r (b + leaves l))
width_of_links pl dv (Parallel l r) b = omega (arith, width_of_links pl dv l b, width_of_links pl dv r (b + leaves l))

height_of_links : {Net : Type 0} (pl : ℕ → ℕ) (dv : ℕ → Device) (t : Tree Net) (b : ℕ) → whole_height (link_tree pl dv t b) ≡ height t
unfolding link_tree
height_of_links pl dv (Leaf g) b = refl
height_of_links pl dv (Series l r) b = omega (arith, height_of_links pl dv l b, height_of_links pl dv r (b + leaves l))
height_of_links pl dv (Parallel l r) b = omega (arith, height_of_links pl dv l b, height_of_links pl dv r (b + leaves l))

module _ (w : OwnDeck) where
  abbrev c : CircuitData
  c = w.circuit

  abbrev cells : List DominoCell
  cells = (w.shape).cells

  cell_there : (k : ℕ) → k < length cells → (cell : DominoCell) × (slice_get cells k ≡ Some cell)
  cell_there k l =
      elim (slice_get_cases cells k).1 [
        | inl z ↦ (z.0, z.2)
        | inr z ↦ absurd (omega (arith, l, z.0))
      ]

  abbrev the_links : (k : ℕ) (cell : DominoCell) → IsCellAt w.shape k cell → Tree Link
  the_links k cell i = links w k cell i

  count : IsCount (IsDynamic c.devices w.roles) (length c.nets) (length cells)
  count =
      equal_count (IsDynamic c.devices w.roles) (λ n. (k : ℕ) × (k < length cells) × (n ≡ w.net (At (Dynamic (left_side k)) Top)))
      (λ n z. let d = cell_there z.0 z.1 in subst (IsDynamic c.devices w.roles) (sym z.2) (top_dynamic w z.0 d.0 d.1))
      (λ n h. let k = dynamic_is w n h in (k.0, slice_get_within cells k.0 k.1 k.2, k.3))
      (length c.nets) (length cells)
      (count_listed (λ k. w.net (At (Dynamic (left_side k)) Top)) (length cells) (length c.nets)
      (λ k l. let d = cell_there k l in (((w.deck).spelled).others (Dynamic (left_side k)) Top (left_stage d.0, left_is w.shape k d.0 d.1)).1)
      (λ i j a b e. let x = cell_there i a in let y = cell_there j b in same i j (((w.deck).spelled).apart (At (Dynamic (left_side i)) Top) (At (Dynamic (left_side j)) Top) (left_stage x.0, left_is w.shape i x.0 x.1) (left_stage y.0, left_is w.shape j y.0 y.1) e)))
    where
      same : (i j : ℕ) → At (Dynamic (left_side i)) Top ≡ At (Dynamic (left_side j)) Top → i ≡ j
      same i j e = let z : left_side i ≡ left_side j = cc in ap (λ (q : CellSide). q.cell) z

  -- the measures of a tree of a dynamic net are those of its cell
  of_cell : (x clock out bottom : ℕ) (t : Tree Link) → IsDynamic c.devices w.roles x → HasFront c.devices w.roles x clock out → HasTree c.devices w.roles x clock bottom t
      → (k : ℕ) × (cell : DominoCell) × (i : IsCellAt w.shape k cell) × (whole_width t ≡ whole_width (the_links k cell i)) × (whole_height t ≡ whole_height (the_links k cell i))
  of_cell x clock out bottom t h f tr =
      let k = dynamic_is w x h in
      let e = front_one w k.0 k.1 k.2 clock out (subst (λ m. HasFront c.devices w.roles m clock out) k.3 f) in
      let tr' : HasTree c.devices w.roles (w.net (At (Dynamic (left_side k.0)) Top)) (w.net (Clock (k.1).clock)) bottom t =
      subst (λ m. HasTree c.devices w.roles (w.net (At (Dynamic (left_side k.0)) Top)) m bottom t) e.0 (subst (λ m. HasTree c.devices w.roles m clock bottom t) k.3 tr) in
      let z = cells_have_one_shape c.devices w.roles (w.net (At (Dynamic (left_side k.0)) Top)) (w.net (Clock (k.1).clock)) bottom (w.net (At (Dynamic (left_side k.0)) (Inside 0 0))) t (the_links k.0 k.1 k.2)
      (top_dynamic w k.0 k.1 k.2).0 tr' (tree w k.0 k.1 k.2) in
      (k.0, k.1, k.2, z.1, z.2)

  width_is : (k : ℕ) (cell : DominoCell) (i : IsCellAt w.shape k cell) → whole_width (the_links k cell i) ≡ width cell.tree
  unfolding links
  width_is k cell i = width_of_links _ _ (map_tree gate_net cell.tree) 0 ∙ width-map_tree gate_net cell.tree

  height_is : (k : ℕ) (cell : DominoCell) (i : IsCellAt w.shape k cell) → whole_height (the_links k cell i) ≡ height cell.tree
  unfolding links
  height_is k cell i = height_of_links _ _ (map_tree gate_net cell.tree) 0 ∙ height-map_tree gate_net cell.tree

  greatest : (measure : Tree Link → ℕ) (of : DominoCell → ℕ) → ((k : ℕ) (cell : DominoCell) (i : IsCellAt w.shape k cell) → measure (the_links k cell i) ≡ of cell)
      → ((x clock out bottom : ℕ) (t : Tree Link) → IsDynamic c.devices w.roles x → HasFront c.devices w.roles x clock out → HasTree c.devices w.roles x clock bottom t → (k : ℕ) × (cell : DominoCell) × (i : IsCellAt w.shape k cell) × (measure t ≡ measure (the_links k cell i)))
      → IsGreatest (HasMeasure c.devices w.roles measure) (greatest_of of cells)
  greatest measure of is same = record {
    bound = λ v h. let z = same h.0 h.1 h.2 h.3 h.4 h.5 h.6 h.7 in omega (arith, sym h.8 ∙ z.3 ∙ is z.0 z.1 z.2, bound of cells z.0 z.1 z.2);
    had = elim (had of cells) [
      | inl z ↦ inl z
      | inr z ↦ inr (
        w.net (At (Dynamic (left_side z.0)) Top),
        w.net (Clock (z.1).clock),
        w.net (At (Output z.0) Top),
        w.net (At (Dynamic (left_side z.0)) (Inside 0 0)),
        the_links z.0 z.1 z.2,
        top_dynamic w z.0 z.1 z.2,
        front w z.0 z.1 z.2,
        tree w z.0 z.1 z.2,
        is z.0 z.1 z.2 ∙ z.3,
      )
    ];
  }

  pub gets_yes : IsYes c w.roles w.order (length cells) (greatest_of (λ cell. width cell.tree) cells) (greatest_of (λ cell. height cell.tree) cells)
  gets_yes = record {
    rules = keeps_rules w;
    net = w.net;
    shape = w.shape;
    numbered = numbered_deck w;
    in_order = w.in_order;
    cells_are = count;
    width_is = greatest whole_width (λ cell. width cell.tree) width_is (λ x clock out bottom t h f tr. let z = of_cell x clock out bottom t h f tr in (z.0, z.1, z.2, z.3));
    height_is = greatest whole_height (λ cell. height cell.tree) height_is (λ x clock out bottom t h f tr. let z = of_cell x clock out bottom t h f tr in (z.0, z.1, z.2, z.4));
  }

pub keeper_decks_get_yes : KeeperDecksGetYes
keeper_decks_get_yes c roles net s order keepers deck o = gets_yes (record { circuit = c; roles = roles; net = net; shape = s; order = order; keepers = keepers; deck = deck; in_order = o })
