-- No device stands twice in the list of places that an audit makes.
use Rattle.found_decks.proofs.Owners.{EndsOf, Nobody, OneCell, OneComplement, OneLatch, OneNext, OneSink, Owned, Owner, cell_owner, from_zero, latch_owner, one_owner, own_deck, owned, owner}
use Rattle.found_decks.proofs.StagesOnce.{cell_distinct, distinct_append, inverter_distinct}
use Rattle.std.specs.List.{AllByRecursion}
use Rattle.std.specs.Prelude.{Some, slice_get, ◌⊎◌}
use Rattle.std.proofs.Common.{List, [], ap, arith, get_or, inl, inr, length, refl, subst, suc, sym, zero, ℕ, ◌++◌, ◌+◌, ◌<◌, ◌∙◌, ◌∷◌, ◌≡◌}
use Rattle.std.proofs.lemmas.Option.{same_Some, slice_get-get_or, slice_get_within}
use Rattle.dom_base.proofs.Lists.{AllByRecursion-append, AllByRecursion-from_places, AllByRecursion-left, AllByRecursion-right, AllByRecursion-weaker, slice_get-there}
use Rattle.deck.specs.NamedDevices.{NamedDevice}
use Rattle.deck.specs.declared.device.Device.{Device}
use Rattle.circuit_law.specs.Counts.{Distinct}
use Rattle.domino_law.proofs.Complements.{complement_once}
use Rattle.domino_law.specs.LooseDeck.{IsNet}
use Rattle.domino_law.specs.Nets.{DeckSignal, FromPin, Net}
use Rattle.domino_law.specs.Spelled.{complement_cards}
use Rattle.deck_audit.specs.Words.{AreAt}
use Rattle.deck_audit.proofs.Blocks.{blocks}
use Rattle.deck_audit.proofs.OwnBlocks.{OfCell, OfLatch, cell_block, cell_own, complement_block, keeper_cards, latch_block, latch_own, next_block, sink_block}
use Rattle.deck_audit.proofs.OwnCards.{devices_of}
use Rattle.deck_audit.proofs.OwnFacts.{facts}
use Rattle.found_decks.specs.FoundDecks.{whole}
use Rattle.found_decks.proofs.FoundGates.{dominoes, latches, out_ports, outputs}
use Rattle.found_decks.proofs.FoundNets.{Found, devices, net, signals}
use Rattle.found_decks.proofs.FoundShapes.{is_shape, shape}
use Rattle.found_decks.proofs.PlacesAt.{cell_block_at, complement_block_at, complements_same, latch_block_at, next_block_at, output_block_at}

all_of_block : {X Card : Type 0} (block : ℕ → X → List Card) (P : Card → Type 0) (o : ℕ) (xs : List X) → AllByRecursion P (blocks block o xs)
    → (i : ℕ) (x : X) → slice_get xs i ≡ Some x → AllByRecursion P (block (o + i) x)
all_of_block block P o [] h i x e = absurd (cc)
all_of_block block P o (y ∷ ys) h zero x e =
    subst (λ k. AllByRecursion P (block k x)) (plus o) (subst (λ z. AllByRecursion P (block o z)) (same_Some _ _ e) (AllByRecursion-left P (block o y) (blocks block (o + 1) ys) h))
  where
    plus : (o : ℕ) → o ≡ o + 0
    plus o = omega arith
all_of_block block P o (y ∷ ys) h (suc i) x e =
    subst (λ k. AllByRecursion P (block k x)) (shift o i) (all_of_block block P (o + 1) ys (AllByRecursion-right P (block o y) (blocks block (o + 1) ys) h) i x e)
  where
    shift : (o i : ℕ) → o + 1 + i ≡ o + suc i
    shift o i = omega arith

module _ (w : Found) where
  abbrev ds : List Device
  ds = devices w

  -- blocks of different parts
  abbrev InBlocks : (ℕ → Owner) → ℕ → ℕ → Type 0
  InBlocks tag n p = (i : ℕ) × (i < n) × EndsOf w (tag i) p

  once_blocks : (tag : ℕ → Owner) (bs : List (List ℕ)) → ((i : ℕ) → tag i ≡ Nobody → ⊥) → ((i j : ℕ) → i < length bs → j < length bs → tag i ≡ tag j → i ≡ j)
      → ((i : ℕ) (b : List ℕ) → slice_get bs i ≡ Some b → Distinct b × AllByRecursion (EndsOf w (tag i)) b)
      → Distinct (whole bs) × AllByRecursion (InBlocks tag (length bs)) (whole bs)
  once_blocks tag [] some one h = (tt, tt)
  once_blocks tag (b ∷ bs) some one h =
      let first = h 0 b refl in
      let rest = once_blocks (λ i. tag (suc i)) bs (λ i. some (suc i)) (λ i j l m e. less i j (one (suc i) (suc j) (more i l) (more j m) e)) (λ i d e. h (suc i) d e) in (
        distinct_append (EndsOf w (tag 0)) (InBlocks (λ i. tag (suc i)) (length bs))
            (λ p x y. apart_first y.0 (one 0 (suc y.0) (omega arith) (more y.0 y.1) (one_owner w (tag 0) (tag (suc y.0)) p x y.2 (some 0) (some (suc y.0))))) b (whole bs) first.1 rest.1 first.0 rest.0,
        AllByRecursion-append (InBlocks tag (length (b ∷ bs))) b (whole bs)
            (AllByRecursion-weaker (EndsOf w (tag 0)) (InBlocks tag (length (b ∷ bs))) (λ p x. (0, omega arith, x)) b first.1)
            (AllByRecursion-weaker (InBlocks (λ i. tag (suc i)) (length bs)) (InBlocks tag (length (b ∷ bs))) (λ p x. (suc x.0, more x.0 x.1, x.2)) (whole bs) rest.1),
      )
    where
      more : (i : ℕ) → i < length bs → suc i < length (b ∷ bs)
      more i l = omega (arith, l)

      less : (i j : ℕ) → suc i ≡ suc j → i ≡ j
      less i j e = omega (arith, e)

      apart_first : (i : ℕ) → 0 ≡ suc i → ⊥
      apart_first i e = omega (arith, e)

  -- the drains of all cards are nets of the deck
  abbrev OfDeck : NamedDevice Net → Type 0
  OfDeck x = IsNet (shape w) x.drain

  drains : AllByRecursion OfDeck (keeper_cards (shape w))
  drains = AllByRecursion-from_places OfDeck (keeper_cards (shape w)) (λ i x e. (facts (own_deck w) i x e).drain_is)

  with_owner : (o : Owner) (xs : List (NamedDevice Net)) → AllByRecursion OfDeck xs → AllByRecursion (λ x. owner x.drain ≡ o) xs → AllByRecursion (Owned w o) xs
  with_owner o [] h k = tt
  with_owner o (x ∷ xs) h k = ((h.0, k.0), with_owner o xs h.1 k.1)

  -- a block with an owner, at its places
  block_owned : (o : Owner) (ps : List ℕ) (xs : List (NamedDevice Net)) → AreAt ds ps (devices_of (net w) xs) → AllByRecursion OfDeck xs → AllByRecursion (λ x. owner x.drain ≡ o) xs
      → AllByRecursion (EndsOf w o) ps
  block_owned o ps xs h k m = owned w o ps xs h (with_owner o xs k m)

  numbered_block : {Y : Type 0} (g : ℕ → Y → List (NamedDevice Net)) (ys : List Y) → AllByRecursion OfDeck (blocks g 0 ys) → (i : ℕ) (y : Y) → slice_get ys i ≡ Some y → AllByRecursion OfDeck (g i y)
  numbered_block g ys h i y e = subst (λ k. AllByRecursion OfDeck (g k y)) (sym (from_zero i)) (all_of_block g OfDeck 0 ys h i y e)

  -- the five lists of cards
  abbrev cell_list : List (NamedDevice Net)
  cell_list = blocks cell_block 0 (shape w).cells

  abbrev complement_list : List (NamedDevice Net)
  complement_list = complement_cards (shape w).complements

  abbrev latch_list : List (NamedDevice Net)
  latch_list = blocks latch_block 0 (shape w).latches

  abbrev output_list : List (NamedDevice Net)
  output_list = blocks sink_block 0 (shape w).outputs

  abbrev next_list : List (NamedDevice Net)
  next_list = blocks next_block 0 (shape w).latches

  behind_1 : AllByRecursion OfDeck (complement_list ++ (latch_list ++ (output_list ++ next_list)))
  behind_1 = AllByRecursion-right OfDeck cell_list (complement_list ++ (latch_list ++ (output_list ++ next_list))) drains

  behind_2 : AllByRecursion OfDeck (latch_list ++ (output_list ++ next_list))
  behind_2 = AllByRecursion-right OfDeck complement_list (latch_list ++ (output_list ++ next_list)) behind_1

  behind_3 : AllByRecursion OfDeck (output_list ++ next_list)
  behind_3 = AllByRecursion-right OfDeck latch_list (output_list ++ next_list) behind_2

  -- the five lists of places
  same_cell : (i j : ℕ) → OneCell i ≡ OneCell j → i ≡ j
  same_cell i j e = cc

  same_complement : (l m : DeckSignal) → OneComplement l ≡ OneComplement m → l ≡ m
  same_complement l m e = cc

  same_latch : (i j : ℕ) → OneLatch i ≡ OneLatch j → i ≡ j
  same_latch i j e = cc

  same_sink : (i j : ℕ) → OneSink i ≡ OneSink j → i ≡ j
  same_sink i j e = cc

  same_next : (i j : ℕ) → OneNext i ≡ OneNext j → i ≡ j
  same_next i j e = cc

  abbrev signal_at : ℕ → DeckSignal
  signal_at i = get_or (signals w).list i (FromPin 0)

  cells_once : Distinct (whole (w.places).cells) × AllByRecursion (InBlocks (λ k. OneCell k) (length (w.places).cells)) (whole (w.places).cells)
  cells_once = once_blocks (λ k. OneCell k) (w.places).cells (λ i e. cc) (λ i j l m e. same_cell i j e) each
    where
      each : (k : ℕ) (b : List ℕ) → slice_get (w.places).cells k ≡ Some b → Distinct b × AllByRecursion (EndsOf w (OneCell k)) b
      each k b e =
          let x = slice_get-there (w.parts).tops k (omega (arith, slice_get_within (w.places).cells k b e, ((w.places).cells_are).count)) in
          let q = ((w.places).cells_are).each k x.0 b x.1 e in
          let z = (dominoes w).at k x.0 x.1 in (
            cell_distinct w x.0 q.0 q.1 q.2 q.3 b ((w.found).tops_sound k x.0 x.1) q.4,
            block_owned (OneCell k) b (cell_block k z.0) (cell_block_at w k b z.0 e z.1)
                (numbered_block cell_block (shape w).cells (AllByRecursion-left OfDeck cell_list (complement_list ++ (latch_list ++ (output_list ++ next_list))) drains) k z.0 z.1)
                (AllByRecursion-weaker (λ y. OfCell k y.drain) (λ y. owner y.drain ≡ OneCell k) (λ y h. cell_owner k y.drain h) (cell_block k z.0) (cell_own k z.0)),
          )

  complements_once : Distinct (whole (w.places).complements) × AllByRecursion (InBlocks (λ k. OneComplement (signal_at k)) (length (w.places).complements)) (whole (w.places).complements)
  complements_once = once_blocks (λ k. OneComplement (signal_at k)) (w.places).complements (λ i e. cc) one each
    where
      known : (i : ℕ) → i < length (w.places).complements → slice_get (signals w).list i ≡ Some (signal_at i)
      known i l = slice_get-get_or (signals w).list i (FromPin 0) (omega (arith, l, (signals w).count, ((w.places).complements_are).count))

      one : (i j : ℕ) → i < length (w.places).complements → j < length (w.places).complements → OneComplement (signal_at i) ≡ OneComplement (signal_at j) → i ≡ j
      one i j l m e = complement_once (shape w) (is_shape w) i j (signal_at j) (known i l ∙ ap (λ x. Some x) (same_complement (signal_at i) (signal_at j) e)) (known j m)

      each : (k : ℕ) (b : List ℕ) → slice_get (w.places).complements k ≡ Some b → Distinct b × AllByRecursion (EndsOf w (OneComplement (signal_at k))) b
      each k b e =
          let within = slice_get_within (w.places).complements k b e in
          let n = slice_get-there (w.parts).complements k (omega (arith, within, ((w.places).complements_are).count)) in
          let q = ((w.places).complements_are).each k n.0 b n.1 e in (
            inverter_distinct w n.0 b q,
            block_owned (OneComplement (signal_at k)) b (complement_block (signal_at k)) (complement_block_at w k b (signal_at k) e (known k within))
                (numbered_block (λ i l. complement_block l) (shape w).complements (subst (AllByRecursion OfDeck) (complements_same 0 (shape w).complements) (AllByRecursion-left OfDeck complement_list (latch_list ++ (output_list ++ next_list)) behind_1)) k (signal_at k) (known k within))
                (refl, (refl, tt)),
          )

  latches_once : Distinct (whole (w.places).latches) × AllByRecursion (InBlocks (λ k. OneLatch k) (length (w.places).latches)) (whole (w.places).latches)
  latches_once = once_blocks (λ k. OneLatch k) (w.places).latches (λ i e. cc) (λ i j l m e. same_latch i j e) each
    where
      each : (k : ℕ) (b : List ℕ) → slice_get (w.places).latches k ≡ Some b → Distinct b × AllByRecursion (EndsOf w (OneLatch k)) b
      each k b e =
          let l = slice_get-there (w.parts).latches k (omega (arith, slice_get_within (w.places).latches k b e, ((w.places).latches_are).count)) in
          let q = ((w.places).latches_are).each k l.0 b l.1 e in
          let z = (latches w).at k l.0 l.1 in (
            subst Distinct (sym q) ((w.found).latches_sound k l.0 l.1).once,
            block_owned (OneLatch k) b (latch_block k z.0) (latch_block_at w k b z.0 e z.1)
                (numbered_block latch_block (shape w).latches (AllByRecursion-left OfDeck latch_list (output_list ++ next_list) behind_2) k z.0 z.1)
                (AllByRecursion-weaker (λ y. OfLatch k y.drain) (λ y. owner y.drain ≡ OneLatch k) (λ y h. latch_owner k y.drain h) (latch_block k z.0) (latch_own k z.0)),
          )

  outputs_once : Distinct (whole (w.places).outputs) × AllByRecursion (InBlocks (λ k. OneSink k) (length (w.places).outputs)) (whole (w.places).outputs)
  outputs_once = once_blocks (λ k. OneSink k) (w.places).outputs (λ i e. cc) (λ i j l m e. same_sink i j e) each
    where
      each : (k : ℕ) (b : List ℕ) → slice_get (w.places).outputs k ≡ Some b → Distinct b × AllByRecursion (EndsOf w (OneSink k)) b
      each k b e =
          let n = slice_get-there (out_ports w) k (omega (arith, slice_get_within (w.places).outputs k b e, ((w.places).outputs_are).count)) in
          let q = ((w.places).outputs_are).each k n.0 b n.1 e in
          let z = (outputs w).at k n.0 n.1 in (
            inverter_distinct w n.0 b q,
            block_owned (OneSink k) b (sink_block k z.0) (output_block_at w k b z.0 e z.1)
                (numbered_block sink_block (shape w).outputs (AllByRecursion-left OfDeck output_list next_list behind_3) k z.0 z.1) (refl, (refl, tt)),
          )

  nexts_once : Distinct (whole (w.places).nexts) × AllByRecursion (InBlocks (λ k. OneNext k) (length (w.places).nexts)) (whole (w.places).nexts)
  nexts_once = once_blocks (λ k. OneNext k) (w.places).nexts (λ i e. cc) (λ i j l m e. same_next i j e) each
    where
      each : (k : ℕ) (b : List ℕ) → slice_get (w.places).nexts k ≡ Some b → Distinct b × AllByRecursion (EndsOf w (OneNext k)) b
      each k b e =
          let l = slice_get-there (w.parts).latches k (omega (arith, slice_get_within (w.places).nexts k b e, ((w.places).nexts_are).count)) in
          let q = ((w.places).nexts_are).each k l.0 b l.1 e in
          let z = (latches w).at k l.0 l.1 in (
            inverter_distinct w ((l.0).group).data_net b q,
            block_owned (OneNext k) b (next_block k z.0) (next_block_at w k b z.0 e z.1)
                (numbered_block next_block (shape w).latches (AllByRecursion-right OfDeck output_list next_list behind_3) k z.0 z.1) (refl, (refl, tt)),
          )

  -- lists of different sorts of parts share no place
  abbrev Sorted : (ℕ → Owner) → ℕ → Type 0
  Sorted tag p = (i : ℕ) × EndsOf w (tag i) p

  sorted : (tag : ℕ → Owner) (n : ℕ) (ps : List ℕ) → AllByRecursion (InBlocks tag n) ps → AllByRecursion (Sorted tag) ps
  sorted tag n ps h = AllByRecursion-weaker (InBlocks tag n) (Sorted tag) (λ p x. (x.0, x.2)) ps h

  clash : (tag more : ℕ → Owner) → ((i : ℕ) → tag i ≡ Nobody → ⊥) → ((i : ℕ) → more i ≡ Nobody → ⊥) → ((i j : ℕ) → tag i ≡ more j → ⊥) → (p : ℕ) → Sorted tag p → Sorted more p → ⊥
  clash tag more a b c p x y = c x.0 y.0 (one_owner w (tag x.0) (more y.0) p x.1 y.1 (a x.0) (b y.0))

  abbrev cell_tag : ℕ → Owner
  cell_tag k = OneCell k

  abbrev complement_tag : ℕ → Owner
  complement_tag k = OneComplement (signal_at k)

  abbrev latch_tag : ℕ → Owner
  latch_tag k = OneLatch k

  abbrev sink_tag : ℕ → Owner
  sink_tag k = OneSink k

  abbrev next_tag : ℕ → Owner
  next_tag k = OneNext k

  -- a place of one of the lists behind
  abbrev Behind4 : ℕ → Type 0
  Behind4 p = Sorted sink_tag p ⊎ Sorted next_tag p

  abbrev Behind3 : ℕ → Type 0
  Behind3 p = Sorted latch_tag p ⊎ Behind4 p

  abbrev Behind2 : ℕ → Type 0
  Behind2 p = Sorted complement_tag p ⊎ Behind3 p

  two_lists : (P Q : ℕ → Type 0) (xs ys : List ℕ) → AllByRecursion P xs → AllByRecursion Q ys → AllByRecursion (λ p. P p ⊎ Q p) (xs ++ ys)
  two_lists P Q xs ys h k =
      AllByRecursion-append (λ p. P p ⊎ Q p) xs ys (AllByRecursion-weaker P (λ p. P p ⊎ Q p) (λ p x. inl x) xs h) (AllByRecursion-weaker Q (λ p. P p ⊎ Q p) (λ p x. inr x) ys k)

  pub places_once : Distinct w.order
  places_once =
      let p = w.places in
      let cs = sorted cell_tag (length p.cells) (whole p.cells) cells_once.1 in
      let ks = sorted complement_tag (length p.complements) (whole p.complements) complements_once.1 in
      let ls = sorted latch_tag (length p.latches) (whole p.latches) latches_once.1 in
      let os = sorted sink_tag (length p.outputs) (whole p.outputs) outputs_once.1 in
      let ns = sorted next_tag (length p.nexts) (whole p.nexts) nexts_once.1 in
      let last = distinct_append (Sorted sink_tag) (Sorted next_tag) (clash sink_tag next_tag (λ i e. cc) (λ i e. cc) (λ i j e. cc)) (whole p.outputs) (whole p.nexts) os ns outputs_once.0 nexts_once.0 in
      let last_in = two_lists (Sorted sink_tag) (Sorted next_tag) (whole p.outputs) (whole p.nexts) os ns in
      let third = distinct_append (Sorted latch_tag) Behind4 after_latches (whole p.latches) (whole p.outputs ++ whole p.nexts) ls last_in latches_once.0 last in
      let third_in = two_lists (Sorted latch_tag) Behind4 (whole p.latches) (whole p.outputs ++ whole p.nexts) ls last_in in
      let second = distinct_append (Sorted complement_tag) Behind3 after_complements (whole p.complements) (whole p.latches ++ (whole p.outputs ++ whole p.nexts)) ks third_in complements_once.0 third in
      let second_in = two_lists (Sorted complement_tag) Behind3 (whole p.complements) (whole p.latches ++ (whole p.outputs ++ whole p.nexts)) ks third_in in
      subst Distinct (sym p.order_is)
      (distinct_append (Sorted cell_tag) Behind2 after_cells (whole p.cells) (whole p.complements ++ (whole p.latches ++ (whole p.outputs ++ whole p.nexts))) cs second_in cells_once.0 second)
    where
      after_latches : (p : ℕ) → Sorted latch_tag p → Behind4 p → ⊥
      after_latches p x (inl y) = clash latch_tag sink_tag (λ i e. cc) (λ i e. cc) (λ i j e. cc) p x y
      after_latches p x (inr y) = clash latch_tag next_tag (λ i e. cc) (λ i e. cc) (λ i j e. cc) p x y

      after_complements : (p : ℕ) → Sorted complement_tag p → Behind3 p → ⊥
      after_complements p x (inl y) = clash complement_tag latch_tag (λ i e. cc) (λ i e. cc) (λ i j e. cc) p x y
      after_complements p x (inr (inl y)) = clash complement_tag sink_tag (λ i e. cc) (λ i e. cc) (λ i j e. cc) p x y
      after_complements p x (inr (inr y)) = clash complement_tag next_tag (λ i e. cc) (λ i e. cc) (λ i j e. cc) p x y

      after_cells : (p : ℕ) → Sorted cell_tag p → Behind2 p → ⊥
      after_cells p x (inl y) = clash cell_tag complement_tag (λ i e. cc) (λ i e. cc) (λ i j e. cc) p x y
      after_cells p x (inr (inl y)) = clash cell_tag latch_tag (λ i e. cc) (λ i e. cc) (λ i j e. cc) p x y
      after_cells p x (inr (inr (inl y))) = clash cell_tag sink_tag (λ i e. cc) (λ i e. cc) (λ i j e. cc) p x y
      after_cells p x (inr (inr (inr y))) = clash cell_tag next_tag (λ i e. cc) (λ i e. cc) (λ i j e. cc) p x y
