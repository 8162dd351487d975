-- At the places that an audit lists stand the cards of the deck that it finds.
use Rattle.std.specs.Prelude.{Bool, Some, false, slice_get, true, ◌⊎◌}
use Rattle.std.proofs.Common.{List, None, [], ap, arith, inl, inr, length, map, refl, subst, suc, sym, ℕ, ◌++◌, ◌+◌, ◌∙◌, ◌∷◌, ◌≡◌}
use Rattle.std.proofs.lemmas.List.{map-append}
use Rattle.std.proofs.lemmas.Option.{same_Some}
use Rattle.dom_base.proofs.Lists.{Contains-slice_get}
use Rattle.dom_base.specs.declared.kind.Kind.TheVariants.{N as nch, P as pch}
use Rattle.deck.specs.NamedDevices.{NamedDevice, device_of, map_device}
use Rattle.deck.specs.Paths.{Ends}
use Rattle.deck.specs.PortLayout.{first_output, master_pair, slave_pair}
use Rattle.deck.specs.declared.device.Device.{Device}
use Rattle.sp_network.specs.Tree.{Leaf, Parallel, Series, Tree, inner_count, map_tree}
use Rattle.sp_network.proofs.TreeImages.{inner_count-map_tree}
use Rattle.domino_cell.specs.Cell.{inverter as inverter_cards}
use Rattle.domino_cell.specs.Spelling.{spell}
use Rattle.domino_cell.specs.Stage.{Inside, Top}
use Rattle.port_runs.specs.Periods.{vdd_port, vss_port}
use Rattle.circuit_law.specs.Exchanged.{exchange}
use Rattle.domino_law.specs.Branches.{numbered}
use Rattle.domino_law.specs.Nets.{At, Complement, DeckSignal, Dynamic, Gate, Net, Next, Output, Sink, Vdd, Vss, gate_net, left_side, own}
use Rattle.domino_law.specs.Shape.{DominoCell, IsCellAt, IsLatchAt, IsOutputAt, Latch}
use Rattle.domino_law.specs.Spelled.{complement_cards, deck_devices, reset_card}
use Rattle.link_reduce.specs.Parts.{numbers_of}
use Rattle.sp_reduction.specs.Networks.{Between, Joins, Link, mids}
use Rattle.deck_audit.specs.Numbered.{Spells, group_of}
use Rattle.deck_audit.specs.Rules.{HasTree}
use Rattle.deck_audit.specs.Words.{AreAt, Group, IsDevice, IsInverterOutput, StandsAt, group_cards, link_at, reset_of}
use Rattle.deck_audit.proofs.Blocks.{blocks}
use Rattle.deck_audit.proofs.CellTrees.{FromDevices, Inners, card_of, inner_same, inners_back, inners_front, one_device}
use Rattle.deck_audit.proofs.OwnBlocks.{cards_are, cell_block, complement_block, down_card, foot_card, keeper_card, keeper_cards, latch_block, next_block, precharge_card, sink_block, tree_list, up_card}
use Rattle.deck_audit.proofs.OwnCards.{dev_of, devices_of}
use Rattle.deck_audit.proofs.RuleFacts.{one_input}
use Rattle.found_decks.specs.FoundDecks.{AreInverterPlaces, FoundLatch, whole}
use Rattle.found_decks.proofs.FoundGates.{dominoes, latches, numbers_at, outputs}
use Rattle.found_decks.proofs.FoundNets.{Found, cell_at, cell_is, complement_at, devices, group_at, latch_is, net, signals}
use Rattle.found_decks.proofs.FoundShapes.{cell_from, cells_simple, complement_as, group_same, inner_at, latch_from, output_from, shape, signal_from}

are_append : (ds : List Device) (ps qs : List ℕ) (es fs : List Device) → AreAt ds ps es → AreAt ds qs fs → AreAt ds (ps ++ qs) (es ++ fs)
are_append ds [] qs [] fs h k = k
are_append ds (p ∷ ps) qs (e ∷ es) fs h k = (h.0, are_append ds ps qs es fs h.1 k)
are_append ds [] qs (e ∷ es) fs h k = absurd h
are_append ds (p ∷ ps) qs [] fs h k = absurd h

devices_append : (net : Net → ℕ) (xs ys : List (NamedDevice Net)) → devices_of net (xs ++ ys) ≡ devices_of net xs ++ devices_of net ys
devices_append net xs ys =
    ap (map device_of) (map-append (map_device net) xs ys) ∙ map-append device_of (map (map_device net) xs) (map (map_device net) ys)

are_both : (ds : List Device) (net : Net → ℕ) (ps qs : List ℕ) (xs ys : List (NamedDevice Net)) → AreAt ds ps (devices_of net xs) → AreAt ds qs (devices_of net ys)
    → AreAt ds (ps ++ qs) (devices_of net (xs ++ ys))
are_both ds net ps qs xs ys h k =
    subst (AreAt ds (ps ++ qs)) (sym (devices_append net xs ys)) (are_append ds ps qs (devices_of net xs) (devices_of net ys) h k)

are_blocks : {Y : Type 0} (ds : List Device) (net : Net → ℕ) (g : ℕ → Y → List (NamedDevice Net)) (o : ℕ) (bs : List (List ℕ)) (ys : List Y) → length bs ≡ length ys
    → ((i : ℕ) (b : List ℕ) (y : Y) → slice_get bs i ≡ Some b → slice_get ys i ≡ Some y → AreAt ds b (devices_of net (g (o + i) y))) → AreAt ds (whole bs) (devices_of net (blocks g o ys))
are_blocks ds net g o [] [] c h = tt
are_blocks ds net g o (b ∷ bs) (y ∷ ys) c h =
    are_both ds net b (whole bs) (g o y) (blocks g (o + 1) ys) (subst (λ k. AreAt ds b (devices_of net (g k y))) (plus o) (h 0 b y refl refl))
    (are_blocks ds net g (o + 1) bs ys (omega (arith, c)) (λ i d z e f. subst (λ k. AreAt ds d (devices_of net (g k z))) (shift o i) (h (suc i) d z e f)))
  where
    plus : (o : ℕ) → o + 0 ≡ o
    plus o = omega arith

    shift : (o i : ℕ) → o + suc i ≡ o + 1 + i
    shift o i = omega arith
are_blocks ds net g o [] (y ∷ ys) c h = absurd (cc)
are_blocks ds net g o (b ∷ bs) [] c h = absurd (cc)

pub complements_same : (o : ℕ) (ls : List DeckSignal) → complement_cards ls ≡ blocks (λ k l. complement_block l) o ls
complements_same o [] = refl
complements_same o (l ∷ ls) = ap (λ xs. complement_block l ++ xs) (complements_same (o + 1) ls)

inners_head : (x : ℕ) (ms : List ℕ) (inner : ℕ → ℕ) (k n : ℕ) → Inners (x ∷ ms) inner k (1 + n) → inner k ≡ x
inners_head x ms inner k n h = sym (same_Some _ _ (h 0 (omega arith)) ∙ ap inner (plus k))
  where
    plus : (k : ℕ) → k + 0 ≡ k
    plus k = omega arith

inners_tail : (x : ℕ) (ms : List ℕ) (inner : ℕ → ℕ) (k n : ℕ) → Inners (x ∷ ms) inner k (1 + n) → Inners ms inner (k + 1) n
inners_tail x ms inner k n h j lt = h (suc j) (omega (arith, lt)) ∙ ap (λ i. Some (inner i)) (shift k j)
  where
    shift : (k j : ℕ) → k + suc j ≡ k + 1 + j
    shift k j = omega arith

-- the device of a link is its card
link_card : (ds : List Device) (e : Link) (n a b : ℕ) → Joins e a b → (d : Device) → StandsAt ds e.number d → d.gate ≡ n → FromDevices ds (Leaf e)
    → (d ≡ record { kind = nch; drain = a; gate = n; source = b }) ⊎ (d ≡ exchange (record { kind = nch; drain = a; gate = n; source = b }))
link_card ds e n a b j d at g from =
    let f = from e refl in
    let same : f.0 ≡ d = one_device ds e.number f.0 d f.1 at in
    let drain : d.drain ≡ e.from = sym (ap (λ (x : Device). x.drain) same) ∙ sym (ap (λ (x : Link). x.from) f.3) in
    let source : d.source ≡ e.to = sym (ap (λ (x : Device). x.source) same) ∙ sym (ap (λ (x : Link). x.to) f.3) in
    card_of d (record { kind = nch; drain = a; gate = n; source = b }) (sym (ap (λ (x : Device). x.kind) same) ∙ f.2) g
    (elim j [
      | inl y ↦ inl (drain ∙ y.0, source ∙ y.1)
      | inr y ↦ inr (source ∙ y.0, drain ∙ y.1)
    ])

module _ (ds : List Device) (net : Net → ℕ) (inner : ℕ → Net) where
  abbrev numbers : ℕ → ℕ
  numbers j = net (inner j)

  abbrev size : Tree Gate → ℕ
  size g = inner_count (map_tree gate_net g)

  size_is : (t : Tree Link) (g : Tree Gate) (x y : ℕ) (h : Between t x y) → Spells ds t (numbered net g) → length (mids t x y h) ≡ size g
  size_is t g x y h s = inner_same ds t (numbered net g) x y h s ∙ inner_count-map_tree (λ a. net (gate_net a)) g ∙ sym (inner_count-map_tree gate_net g)

  pub tree_at : (t : Tree Link) (g : Tree Gate) (a b : Net) (x y k : ℕ) → net a ≡ x → net b ≡ y → (h : Between t x y) → Spells ds t (numbered net g) → FromDevices ds t
      → Inners (mids t x y h) numbers k (size g) → AreAt ds (numbers_of t) (devices_of net (spell nch inner (map_tree gate_net g) a b k))
  tree_at (Leaf e) (Leaf g) a b x y k ea eb h s from i =
      ((s.0, s.1, link_card ds e (net (gate_net g)) (net a) (net b) (subst (λ n. Joins e n (net b)) (sym ea) (subst (λ n. Joins e x n) (sym eb) h.0)) s.0 s.1 s.2 from), tt)
  tree_at (Series l r) (Series m n) a b x y k ea eb (z, p, q, u, o) s from i =
      let c = size_is l m x z p s.0 in
      let head = inners_head z (mids l x z p ++ mids r z y q) numbers k (size m + size n) i in
      let tail = inners_tail z (mids l x z p ++ mids r z y q) numbers k (size m + size n) i in
      are_both ds net (numbers_of l) (numbers_of r) (spell nch inner (map_tree gate_net m) a (inner k) (k + 1)) (spell nch inner (map_tree gate_net n) (inner k) b (k + 1 + size m))
      (tree_at l m a (inner k) x z (k + 1) ea head p s.0 (λ e w. from e (inl w)) (inners_front (mids l x z p) (mids r z y q) numbers (k + 1) (size m) (size n) c tail))
      (tree_at r n (inner k) b z y (k + 1 + size m) head eb q s.1 (λ e w. from e (inr w)) (inners_back (mids l x z p) (mids r z y q) numbers (k + 1) (size m) (size n) c tail))
  tree_at (Parallel l r) (Parallel m n) a b x y k ea eb (p, q, u, o) s from i =
      let c = size_is l m x y p s.0 in
      are_both ds net (numbers_of l) (numbers_of r) (spell nch inner (map_tree gate_net m) a b k) (spell nch inner (map_tree gate_net n) a b (k + size m))
      (tree_at l m a b x y k ea eb p s.0 (λ e w. from e (inl w)) (inners_front (mids l x y p) (mids r x y q) numbers k (size m) (size n) c i))
      (tree_at r n a b x y (k + size m) ea eb q s.1 (λ e w. from e (inr w)) (inners_back (mids l x y p) (mids r x y q) numbers k (size m) (size n) c i))
  tree_at (Leaf e) (Series m n) a b x y k ea eb h s from i = absurd s
  tree_at (Leaf e) (Parallel m n) a b x y k ea eb h s from i = absurd s
  tree_at (Series l r) (Leaf n) a b x y k ea eb h s from i = absurd s
  tree_at (Series l r) (Parallel m n) a b x y k ea eb h s from i = absurd s
  tree_at (Parallel l r) (Leaf n) a b x y k ea eb h s from i = absurd s
  tree_at (Parallel l r) (Series m n) a b x y k ea eb h s from i = absurd s

-- the device of a card at a place
abbrev OneAt : List Device → ℕ → Device → Type 0
OneAt ds p e = (d : Device) × StandsAt ds p d × ((d ≡ e) ⊎ (d ≡ exchange e))

one_at : (ds : List Device) (p : ℕ) (d e : Device) → StandsAt ds p d → IsDevice d e.kind e.gate e.drain e.source → OneAt ds p e
one_at ds p d e at i = (d, at, card_of d e i.0 i.1 i.2)

-- the cards of a latch, by the numbers of its clocks
abbrev gated : Group → ℕ → ℕ → ℕ → ℕ → Device → List Device
gated g lmb lm lsb ls reset =
    record { kind = pch; drain = g.master; gate = lmb; source = g.master_up }
    ∷ record { kind = pch; drain = g.master_up; gate = g.data_net; source = vdd_port }
    ∷ record { kind = nch; drain = g.master; gate = lm; source = g.master_down }
    ∷ record { kind = nch; drain = g.master_down; gate = g.data_net; source = vss_port }
    ∷ record { kind = pch; drain = g.output; gate = lsb; source = g.output_up }
    ∷ record { kind = pch; drain = g.output_up; gate = g.master; source = vdd_port }
    ∷ record { kind = nch; drain = g.output; gate = ls; source = g.output_down }
    ∷ record { kind = nch; drain = g.output_down; gate = g.master; source = vss_port }
    ∷ reset
    ∷ []

module _ (w : Found) where
  abbrev ds : List Device
  ds = devices w

  pair_at : (out gate : Net) (n i : ℕ) (v : IsInverterOutput ds n i) → net w out ≡ n → net w gate ≡ i → AreAt ds (v.up ∷ v.down ∷ []) (devices_of (net w) (inverter_cards Vdd Vss gate out))
  pair_at out gate n i v eo eg = (
    one_at ds v.up v.pull_up (dev_of (net w) (record { kind = pch; drain = out; gate = gate; source = Vdd })) v.up_there ((v.up_is).0, (v.up_is).1 ∙ sym eg, subst (λ m. Ends v.pull_up m (net w Vdd)) (sym eo) (v.up_is).2),
    (one_at ds v.down v.pull_down (dev_of (net w) (record { kind = nch; drain = out; gate = gate; source = Vss })) v.down_there ((v.down_is).0, (v.down_is).1 ∙ sym eg, subst (λ m. Ends v.pull_down m (net w Vss)) (sym eo) (v.down_is).2), tt),
  )

  -- the places of a cell
  cell_places : (k : ℕ) (cell : DominoCell) → IsCellAt (shape w) k cell → AreAt ds (cell_at w k).places (devices_of (net w) (cell_block k cell))
  cell_places k cell i =
      let z = cell_from w k cell i in
      let c = (cell_is w k z.0 z.1).0 in
      let f = (c.cell).front in
      let t = (c.cell).has_tree in
      let v = (c.cell).inverter in
      let x : DominoCell = record { clock = (cell_at w k).clock; tree = z.2.0; right = None } in
      let tree = tree_at ds (net w) (λ j. At (Dynamic (left_side k)) (Inside 0 (1 + j))) (cell_at w k).tree z.2.0 (At (Dynamic (left_side k)) Top) (At (Dynamic (left_side k)) (Inside 0 0))
      (cell_at w k).top (cell_at w k).bottom 0 refl refl t.between z.2.3 (from_devices t) (inners z.0 z.1 z.2.0 z.2.3) in
      subst (λ ps. AreAt ds ps (devices_of (net w) (cell_block k cell))) (sym (c.cell).places_are)
      (subst (λ (y : DominoCell). AreAt ds (f.precharge ∷ f.keeper ∷ ((numbers_of (cell_at w k).tree ++ t.foot ∷ []) ++ v.up ∷ v.down ∷ [])) (devices_of (net w) (cell_block k y))) (sym z.2.1) (
        one_at ds f.precharge f.precharge_device (dev_of (net w) (precharge_card k x)) f.precharge_there f.precharge_is,
        (
          one_at ds f.keeper f.keeper_device (dev_of (net w) (keeper_card k)) f.keeper_there f.keeper_is,
          are_both ds (net w) (numbers_of (cell_at w k).tree ++ t.foot ∷ []) (v.up ∷ v.down ∷ []) (tree_list k x ++ foot_card k x ∷ []) (up_card k ∷ down_card k ∷ [])
              (are_both ds (net w) (numbers_of (cell_at w k).tree) (t.foot ∷ []) (tree_list k x) (foot_card k x ∷ []) tree
              (one_at ds t.foot t.foot_device (dev_of (net w) (foot_card k x)) t.foot_there t.foot_is, tt))
              (pair_at (At (Output k) Top) (At (Dynamic (left_side k)) Top) (cell_at w k).output (cell_at w k).top v refl refl),
        ),
      ))
    where
      from_devices : {x clock bottom : ℕ} {t : Tree Link} → HasTree ds w.roles x clock bottom t → FromDevices ds t
      from_devices h e m =
          let l = (h.links_are e).0 m in
          let number : e.number ≡ l.0 = ap (λ (y : Link). y.number) l.5 in
          (l.1, subst (λ p. StandsAt ds p l.1) (sym number) l.2, l.3.0, l.5 ∙ ap (λ p. link_at p l.1) (sym number))

      inners : (x : ℕ) (e : slice_get (w.parts).tops k ≡ Some x) (g : Tree Gate) → Spells ds (cell_at w k).tree (numbered (net w) g)
          → Inners (mids (cell_at w k).tree (cell_at w k).top (cell_at w k).bottom ((((cell_is w k x e).0).cell).has_tree).between)
          (λ j. net w (At (Dynamic (left_side k)) (Inside 0 (1 + j)))) 0 (inner_count (map_tree gate_net g))
      inners x e g s j l =
          inner_at w k x e g s j (omega (arith, l, inner_count-map_tree gate_net g))
          ∙ ap (λ m. Some (net w (At (Dynamic (left_side k)) (Inside 0 m)))) (one_more j)
        where
          one_more : (j : ℕ) → suc j ≡ 1 + (0 + j)
          one_more j = omega arith

  -- the places of an inverter that is no cell's
  inverter_places : (n i : ℕ) (block : List ℕ) (out gate : Net) → AreInverterPlaces ds n block → net w out ≡ n → net w gate ≡ i → IsInverterOutput ds n i
      → AreAt ds block (devices_of (net w) (inverter_cards Vdd Vss gate out))
  inverter_places n i block out gate b eo eg v =
      let same = one_input ds w.roles _ w.rules n i b.input v b.inverter in
      subst (λ ps. AreAt ds ps (devices_of (net w) (inverter_cards Vdd Vss gate out))) (sym b.places_are) (pair_at out gate n b.input b.inverter eo (eg ∙ same))

  -- each block of places is that of its part
  pub cell_block_at : (k : ℕ) (b : List ℕ) (cell : DominoCell) → slice_get (w.places).cells k ≡ Some b → IsCellAt (shape w) k cell → AreAt ds b (devices_of (net w) (cell_block k cell))
  cell_block_at k b cell e f =
      let z = cell_from w k cell f in
      subst (λ ps. AreAt ds ps (devices_of (net w) (cell_block k cell))) (same_Some _ _ (sym (cell_is w k z.0 z.1).1 ∙ e)) (cell_places k cell f)

  pub complement_block_at : (k : ℕ) (b : List ℕ) (l : DeckSignal) → slice_get (w.places).complements k ≡ Some b → slice_get (signals w).list k ≡ Some l → AreAt ds b (devices_of (net w) (complement_block l))
  complement_block_at k b l e f =
      let z = signal_from w k l f in
      let n = complement_at w k z.0 l z.1 f in
      let v = (complement_as w l (Contains-slice_get (signals w).list k l f)).0.inverts in
      inverter_places z.0 (net w (own l)) b (At (Complement l) Top) (own l) (((w.places).complements_are).each k z.0 b z.1 e) n refl (subst (λ m. IsInverterOutput ds m (net w (own l))) n v)

  pub latch_block_at : (j : ℕ) (b : List ℕ) (x : Latch) → slice_get (w.places).latches j ≡ Some b → IsLatchAt (shape w) j x → AreAt ds b (devices_of (net w) (latch_block j x))
  latch_block_at j b x e f =
      let z = latch_from w j x f in
      subst (λ ps. AreAt ds ps (devices_of (net w) (latch_block j x))) (sym (((w.places).latches_are).each j z.0 b z.1 e))
      (subst (AreAt ds (z.0).places) (sym block_same)
      (subst (λ g. AreAt ds (z.0).places (group_cards w.roles g)) (sym (group_same w j x z.0 z.1 z.2.0)) ((w.found).latches_sound j z.0 z.1).cards))
    where
      up : (n : ℕ) → n + 3 ≡ n + 2 + 1
      up n = omega arith

      slave_up : (n : ℕ) → n + 5 ≡ n + 4 + 1
      slave_up n = omega arith

      reset_up : (n : ℕ) → n + 7 ≡ n + 6 + 1
      reset_up n = omega arith

      reset_same : (v : Bool) → dev_of (net w) (reset_card j v) ≡ reset_of w.roles (group_of (net w) j x) v
      reset_same false = refl
      reset_same true = λ i. record { kind = pch; drain = (group_at w.parts j).output; gate = reset_up w.roles.clocks i; source = 0 }

      block_same : devices_of (net w) (latch_block j x) ≡ group_cards w.roles (group_of (net w) j x)
      block_same = λ i. gated (group_of (net w) j x) (up w.roles.clocks i) (master_pair w.roles) (slave_up w.roles.clocks i) (slave_pair w.roles) (reset_same x.init i)

  pub output_block_at : (i : ℕ) (b : List ℕ) (g : Gate) → slice_get (w.places).outputs i ≡ Some b → IsOutputAt (shape w) i g → AreAt ds b (devices_of (net w) (sink_block i g))
  output_block_at i b g e f =
      let z = output_from w i g f in
      inverter_places z.0 (net w (gate_net g)) b (At (Sink i) Top) (gate_net g) (((w.places).outputs_are).each i z.0 b z.1 e) (sym (numbers_at (first_output w.roles) w.roles.outs i z.0 z.1).1) refl z.2.1

  pub next_block_at : (j : ℕ) (b : List ℕ) (x : Latch) → slice_get (w.places).nexts j ≡ Some b → IsLatchAt (shape w) j x → AreAt ds b (devices_of (net w) (next_block j x))
  next_block_at j b x e f =
      let z = latch_from w j x f in
      inverter_places ((z.0).group).data_net (net w (gate_net x.next)) b (At (Next j) Top) (gate_net x.next) (((w.places).nexts_are).each j z.0 b z.1 e)
      (ap (λ (l : FoundLatch). (l.group).data_net) (latch_is w j z.0 z.1)) refl z.2.2

  -- and so are all blocks of a list
  all_blocks : {Y : Type 0} (g : ℕ → Y → List (NamedDevice Net)) (bs : List (List ℕ)) (ys : List Y) → length bs ≡ length ys
      → ((i : ℕ) (b : List ℕ) (y : Y) → slice_get bs i ≡ Some b → slice_get ys i ≡ Some y → AreAt ds b (devices_of (net w) (g i y))) → AreAt ds (whole bs) (devices_of (net w) (blocks g 0 ys))
  all_blocks g bs ys c h = are_blocks ds (net w) g 0 bs ys c (λ i b y e f. subst (λ k. AreAt ds b (devices_of (net w) (g k y))) (plus i) (h i b y e f))
    where
      plus : (k : ℕ) → k ≡ 0 + k
      plus k = omega arith

  cells_at : AreAt ds (whole (w.places).cells) (devices_of (net w) (blocks cell_block 0 (shape w).cells))
  cells_at = all_blocks cell_block (w.places).cells (shape w).cells (((w.places).cells_are).count ∙ sym (dominoes w).count) cell_block_at

  complements_at : AreAt ds (whole (w.places).complements) (devices_of (net w) (complement_cards (shape w).complements))
  complements_at =
      subst (λ xs. AreAt ds (whole (w.places).complements) (devices_of (net w) xs)) (sym (complements_same 0 (shape w).complements))
      (all_blocks (λ k l. complement_block l) (w.places).complements (shape w).complements (((w.places).complements_are).count ∙ sym (signals w).count) complement_block_at)

  latches_at : AreAt ds (whole (w.places).latches) (devices_of (net w) (blocks latch_block 0 (shape w).latches))
  latches_at = all_blocks latch_block (w.places).latches (shape w).latches (((w.places).latches_are).count ∙ sym (latches w).count) latch_block_at

  outputs_at : AreAt ds (whole (w.places).outputs) (devices_of (net w) (blocks sink_block 0 (shape w).outputs))
  outputs_at = all_blocks sink_block (w.places).outputs (shape w).outputs (((w.places).outputs_are).count ∙ sym (outputs w).count) output_block_at

  nexts_at : AreAt ds (whole (w.places).nexts) (devices_of (net w) (blocks next_block 0 (shape w).latches))
  nexts_at = all_blocks next_block (w.places).nexts (shape w).latches (((w.places).nexts_are).count ∙ sym (latches w).count) next_block_at

  pub cards_at : AreAt ds w.order (deck_devices (net w) (shape w))
  cards_at =
      let p = w.places in
      let s = shape w in
      subst (λ xs. AreAt ds w.order (devices_of (net w) xs)) (sym (cards_are s refl (cells_simple w)))
      (subst (λ ps. AreAt ds ps (devices_of (net w) (keeper_cards s))) (sym p.order_is)
      (are_both ds (net w) (whole p.cells) (whole p.complements ++ (whole p.latches ++ (whole p.outputs ++ whole p.nexts))) (blocks cell_block 0 s.cells) (complement_cards s.complements ++ (blocks latch_block 0 s.latches ++ (blocks sink_block 0 s.outputs ++ blocks next_block 0 s.latches))) cells_at
      (are_both ds (net w) (whole p.complements) (whole p.latches ++ (whole p.outputs ++ whole p.nexts)) (complement_cards s.complements) (blocks latch_block 0 s.latches ++ (blocks sink_block 0 s.outputs ++ blocks next_block 0 s.latches)) complements_at
      (are_both ds (net w) (whole p.latches) (whole p.outputs ++ whole p.nexts) (blocks latch_block 0 s.latches) (blocks sink_block 0 s.outputs ++ blocks next_block 0 s.latches) latches_at
      (are_both ds (net w) (whole p.outputs) (whole p.nexts) (blocks sink_block 0 s.outputs) (blocks next_block 0 s.latches) outputs_at nexts_at)))))
