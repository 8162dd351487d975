-- A circuit whose devices are spelled in order is a loose domino deck.
use Rattle.std.specs.List.{AllByRecursion}
use Rattle.std.specs.Prelude.{Contains, None, Option, Some, slice_get}
use Rattle.std.proofs.Common.{List, [], add-zero, arith, refl, subst, suc, sym, zero, zero-add, ℕ, ◌++◌, ◌+◌, ◌∷◌, ◌≡◌}
use Rattle.std.proofs.lemmas.List.Elements.{All-contains_itself, Contains-append_left, Contains-append_right, recursion_from_All}
use Rattle.dom_base.proofs.Lists.{AllByRecursion-append, AllByRecursion-contains, AllByRecursion-weaker, Contains-first, Contains-later}
use Rattle.sp_network.specs.Tree.{Leaf}
use Rattle.domino_cell.specs.Stage.{Branch}
use Rattle.domino_cell.specs.Tapped.{Tap}
use Rattle.domino_law.specs.Branches.{HasBranches, master, slave}
use Rattle.domino_law.specs.Nets.{Complement, Dynamic, Gate, Master, Net, Next, Output, Part, DeckSignal, Sink, Slave, own, Left, Right, Side, left_side, right_side}
use Rattle.domino_law.specs.Shape.{DominoCell, DynamicStage, HasComplement, IsCellAt, IsLatchAt, IsOutputAt, Latch, Shape, dynamic_nets, gate_tree, left_stage, side_of}
use Rattle.domino_cell.specs.declared.style.Style.{Style}
use Rattle.domino_law.proofs.DeckLists.{StagePart, cell_parts, complement_parts, deck_parts, group_parts, latch_parts, next_parts, output_parts, right_parts, side_part, static_part}
use Rattle.domino_law.proofs.Statics.{left_is}

-- the parts that are listed are those of the deck
abbrev pub Named : Shape → (Net → ℕ) → StagePart → Type 0
Named s net p = HasBranches s net p.part p.branches p.taps

named_right : (s : Shape) (net : Net → ℕ) (k : ℕ) (c : DominoCell) → IsCellAt s k c → (o : Option DynamicStage) → side_of c Right ≡ o → AllByRecursion (Named s net) (right_parts s.style net k o)
named_right s net k c e None z = tt
named_right s net k c e (Some d) z = ((d, (c, e, z), refl, refl), tt)

named_cells : (s : Shape) (net : Net → ℕ) (k : ℕ) (cs : List DominoCell) → ((i : ℕ) (c : DominoCell) → slice_get cs i ≡ Some c → IsCellAt s (k + i) c)
    → AllByRecursion (Named s net) (cell_parts s.style net k cs)
named_cells s net k [] at = tt
named_cells s net k (c ∷ cs) at =
    let e : IsCellAt s k c = rw add-zero at (at 0 c refl) in
    AllByRecursion-append _ (group_parts s.style net k c) _
    ((left_stage c, left_is s k c e, refl, refl), AllByRecursion-append _ (right_parts s.style net k (side_of c Right)) _ (named_right s net k c e (side_of c Right) refl) ((c, e, refl, refl), tt))
    (named_cells s net (k + 1) cs (λ i d f. rw (shift k i) (at (suc i) d f)))
  where
    shift : (k i : ℕ) → k + 1 + i ≡ k + suc i
    shift k i = omega arith

named_complements : (s : Shape) (net : Net → ℕ) (ls : List DeckSignal) → AllByRecursion (HasComplement s) ls → AllByRecursion (Named s net) (complement_parts net ls)
named_complements s net [] h = tt
named_complements s net (l ∷ ls) h = ((h.0, refl, refl), named_complements s net ls h.1)

named_latches : (s : Shape) (net : Net → ℕ) (j : ℕ) (bs : List Latch) → ((i : ℕ) (b : Latch) → slice_get bs i ≡ Some b → IsLatchAt s (j + i) b)
    → AllByRecursion (Named s net) (latch_parts net j bs)
named_latches s net j [] at = tt
named_latches s net j (b ∷ bs) at =
    let e : IsLatchAt s j b = rw add-zero at (at 0 b refl) in
    ((b, e, refl, refl), ((b, e, refl, refl), named_latches s net (j + 1) bs (λ i d f. rw (shift j i) (at (suc i) d f))))
  where
    shift : (k i : ℕ) → k + 1 + i ≡ k + suc i
    shift k i = omega arith

named_outputs : (s : Shape) (net : Net → ℕ) (j : ℕ) (gs : List Gate) → ((i : ℕ) (g : Gate) → slice_get gs i ≡ Some g → IsOutputAt s (j + i) g)
    → AllByRecursion (Named s net) (output_parts net s j gs)
named_outputs s net j [] at = tt
named_outputs s net j (g ∷ gs) at =
    let e : IsOutputAt s j g = rw add-zero at (at 0 g refl) in
    ((g, e, refl, refl), named_outputs s net (j + 1) gs (λ i d f. rw (shift j i) (at (suc i) d f)))
  where
    shift : (k i : ℕ) → k + 1 + i ≡ k + suc i
    shift k i = omega arith

named_nexts : (s : Shape) (net : Net → ℕ) (j : ℕ) (bs : List Latch) → ((i : ℕ) (b : Latch) → slice_get bs i ≡ Some b → IsLatchAt s (j + i) b)
    → AllByRecursion (Named s net) (next_parts net s j bs)
named_nexts s net j [] at = tt
named_nexts s net j (b ∷ bs) at =
    let e : IsLatchAt s j b = rw add-zero at (at 0 b refl) in
    ((b, e, refl, refl), named_nexts s net (j + 1) bs (λ i d f. rw (shift j i) (at (suc i) d f)))
  where
    shift : (k i : ℕ) → k + 1 + i ≡ k + suc i
    shift k i = omega arith

pub named_all : (s : Shape) (net : Net → ℕ) → AllByRecursion (Named s net) (deck_parts net s)
named_all s net =
    AllByRecursion-append _ _ _ (named_cells s net 0 s.cells (λ i c e. rw zero-add e))
    (AllByRecursion-append _ _ _ (named_complements s net s.complements (recursion_from_All (HasComplement s) s.complements (λ i l e. All-contains_itself s.complements i l e)))
    (AllByRecursion-append _ _ _ (named_latches s net 0 s.latches (λ i c e. rw zero-add e))
    (AllByRecursion-append _ _ _ (named_outputs s net 0 s.outputs (λ i c e. rw zero-add e)) (named_nexts s net 0 s.latches (λ i c e. rw zero-add e)))))

-- and those of the deck are listed
listed_cells : (style : Style) (net : Net → ℕ) (k i : ℕ) (xs : List DominoCell) (x : DominoCell) → slice_get xs i ≡ Some x
    → (p : StagePart) → Contains (group_parts style net (k + i) x) p → Contains (cell_parts style net k xs) p
listed_cells style net k i [] x e p c = absurd (cc)
listed_cells style net k zero (d ∷ xs) x e p c =
    let z : d ≡ x = cc in
    Contains-append_left (group_parts style net k d) (cell_parts style net (k + 1) xs) p (subst (λ y. Contains (group_parts style net k y) p) (sym z) (subst (λ m. Contains (group_parts style net m x) p) (no_more k) c))
  where
    no_more : (k : ℕ) → k + zero ≡ k
    no_more k = omega arith
listed_cells style net k (suc i) (d ∷ xs) x e p c =
    Contains-append_right (group_parts style net k d) (cell_parts style net (k + 1) xs) p (listed_cells style net (k + 1) i xs x e p (subst (λ m. Contains (group_parts style net m x) p) (sym (shift k i)) c))
  where
    shift : (k i : ℕ) → k + 1 + i ≡ k + suc i
    shift k i = omega arith

-- a side is one of its cell's group, and so is the static gate
listed_side : (style : Style) (net : Net → ℕ) (k : ℕ) (x : DominoCell) (side : Side) (c : DynamicStage) → side_of x side ≡ Some c
    → Contains (group_parts style net k x) (side_part style net (record { cell = k; side = side }) c)
listed_side style net k x Left c z =
    let y : left_stage x ≡ c = cc in
    rw (← y) (Contains-first (side_part style net (left_side k) (left_stage x)) (right_parts style net k (side_of x Right) ++ static_part net (Output k) (dynamic_nets k x.right) ∷ []))
listed_side style net k x Right c z =
    Contains-later (side_part style net (left_side k) (left_stage x)) (right_parts style net k (side_of x Right) ++ static_part net (Output k) (dynamic_nets k x.right) ∷ []) (side_part style net (right_side k) c)
    (Contains-append_left (right_parts style net k (side_of x Right)) (static_part net (Output k) (dynamic_nets k x.right) ∷ []) (side_part style net (right_side k) c)
    (subst (λ o. Contains (right_parts style net k o) (side_part style net (right_side k) c)) (sym z) (Contains-first (side_part style net (right_side k) c) [])))

listed_output : (style : Style) (net : Net → ℕ) (k : ℕ) (x : DominoCell) → Contains (group_parts style net k x) (static_part net (Output k) (dynamic_nets k x.right))
listed_output style net k x =
    Contains-later (side_part style net (left_side k) (left_stage x)) (right_parts style net k (side_of x Right) ++ static_part net (Output k) (dynamic_nets k x.right) ∷ []) (static_part net (Output k) (dynamic_nets k x.right))
    (Contains-append_right (right_parts style net k (side_of x Right)) (static_part net (Output k) (dynamic_nets k x.right) ∷ []) (static_part net (Output k) (dynamic_nets k x.right))
    (Contains-first (static_part net (Output k) (dynamic_nets k x.right)) []))

listed_complements : (net : Net → ℕ) (ls : List DeckSignal) → AllByRecursion (λ l. Contains (complement_parts net ls) (static_part net (Complement l) (Leaf (own l)))) ls
listed_complements net [] = tt
listed_complements net (l ∷ ls) = (
  Contains-first (static_part net (Complement l) (Leaf (own l))) (complement_parts net ls),
  AllByRecursion-weaker _ (λ m. Contains (complement_parts net (l ∷ ls)) (static_part net (Complement m) (Leaf (own m))))
      (λ m c. Contains-later (static_part net (Complement l) (Leaf (own l))) (complement_parts net ls) (static_part net (Complement m) (Leaf (own m))) c) ls (listed_complements net ls),
)

listed_latches : (net : Net → ℕ) (k i : ℕ) (xs : List Latch) (x : Latch) → slice_get xs i ≡ Some x
    → Contains (latch_parts net k xs) (record { part = Master (k + i); branches = master net (k + i); taps = [] }) × Contains (latch_parts net k xs) (record { part = Slave (k + i); branches = slave net (k + i) x; taps = [] })
listed_latches net k i [] x e = absurd (cc)
listed_latches net k zero (d ∷ xs) x e =
    let z : d ≡ x = cc in
    rw (add-zero, ← z) (
      Contains-first (record { part = Master k; branches = master net k; taps = [] }) ((record { part = Slave k; branches = slave net k d; taps = [] }) ∷ latch_parts net (k + 1) xs),
      Contains-later (record { part = Master k; branches = master net k; taps = [] }) ((record { part = Slave k; branches = slave net k d; taps = [] }) ∷ latch_parts net (k + 1) xs) (record { part = Slave k; branches = slave net k d; taps = [] }) (Contains-first (record { part = Slave k; branches = slave net k d; taps = [] }) (latch_parts net (k + 1) xs)),
    )
listed_latches net k (suc i) (d ∷ xs) x e =
    let r = listed_latches net (k + 1) i xs x e in (
      later (record { part = Master (k + suc i); branches = master net (k + suc i); taps = [] }) (rw (shift k i) at r.0),
      later (record { part = Slave (k + suc i); branches = slave net (k + suc i) x; taps = [] }) (rw (shift k i) at r.1),
    )
  where
    shift : (k i : ℕ) → k + 1 + i ≡ k + suc i
    shift k i = omega arith

    later : (p : StagePart) → Contains (latch_parts net (k + 1) xs) p → Contains (latch_parts net k (d ∷ xs)) p
    later p c = Contains-later (record { part = Master k; branches = master net k; taps = [] }) ((record { part = Slave k; branches = slave net k d; taps = [] }) ∷ latch_parts net (k + 1) xs) p (Contains-later (record { part = Slave k; branches = slave net k d; taps = [] }) (latch_parts net (k + 1) xs) p c)

listed_outputs : (net : Net → ℕ) (s : Shape) (k i : ℕ) (xs : List Gate) (x : Gate) → slice_get xs i ≡ Some x → Contains (output_parts net s k xs) (static_part net (Sink (k + i)) (gate_tree s x))
listed_outputs net s k i [] x e = absurd (cc)
listed_outputs net s k zero (d ∷ xs) x e = let z : d ≡ x = cc in rw (add-zero, ← z) (Contains-first (static_part net (Sink k) (gate_tree s d)) (output_parts net s (k + 1) xs))
listed_outputs net s k (suc i) (d ∷ xs) x e = Contains-later (static_part net (Sink k) (gate_tree s d)) (output_parts net s (k + 1) xs) (static_part net (Sink (k + suc i)) (gate_tree s x)) (rw (shift k i) at (listed_outputs net s (k + 1) i xs x e))
  where
    shift : (k i : ℕ) → k + 1 + i ≡ k + suc i
    shift k i = omega arith

listed_nexts : (net : Net → ℕ) (s : Shape) (k i : ℕ) (xs : List Latch) (x : Latch) → slice_get xs i ≡ Some x → Contains (next_parts net s k xs) (static_part net (Next (k + i)) (gate_tree s x.next))
listed_nexts net s k i [] x e = absurd (cc)
listed_nexts net s k zero (d ∷ xs) x e = let z : d ≡ x = cc in rw (add-zero, ← z) (Contains-first (static_part net (Next k) (gate_tree s d.next)) (next_parts net s (k + 1) xs))
listed_nexts net s k (suc i) (d ∷ xs) x e = Contains-later (static_part net (Next k) (gate_tree s d.next)) (next_parts net s (k + 1) xs) (static_part net (Next (k + suc i)) (gate_tree s x.next)) (rw (shift k i) at (listed_nexts net s (k + 1) i xs x e))
  where
    shift : (k i : ℕ) → k + 1 + i ≡ k + suc i
    shift k i = omega arith

module _ (net : Net → ℕ) (s : Shape) where
  abbrev pub Listed : Part → List Branch → List Tap → Type 0
  Listed part bs taps = Contains (deck_parts net s) (record { part = part; branches = bs; taps = taps })

  sinks : List StagePart
  sinks = output_parts net s 0 s.outputs ++ next_parts net s 0 s.latches

  after_complements : List StagePart
  after_complements = latch_parts net 0 s.latches ++ (output_parts net s 0 s.outputs ++ next_parts net s 0 s.latches)

  after_cells : List StagePart
  after_cells = complement_parts net s.complements ++ (latch_parts net 0 s.latches ++ (output_parts net s 0 s.outputs ++ next_parts net s 0 s.latches))

  in_cells : (p : StagePart) → Contains (cell_parts s.style net 0 s.cells) p → Contains (deck_parts net s) p
  unfolding after_cells
  in_cells p c = Contains-append_left (cell_parts s.style net 0 s.cells) after_cells p c

  in_complements : (p : StagePart) → Contains (complement_parts net s.complements) p → Contains (deck_parts net s) p
  unfolding after_cells after_complements
  in_complements p c = Contains-append_right (cell_parts s.style net 0 s.cells) after_cells p (Contains-append_left (complement_parts net s.complements) after_complements p c)

  in_latches : (p : StagePart) → Contains (latch_parts net 0 s.latches) p → Contains (deck_parts net s) p
  unfolding after_cells after_complements sinks
  in_latches p c =
      Contains-append_right (cell_parts s.style net 0 s.cells) after_cells p (Contains-append_right (complement_parts net s.complements) after_complements p (Contains-append_left (latch_parts net 0 s.latches) sinks p c))

  in_sinks : (p : StagePart) → Contains (output_parts net s 0 s.outputs ++ next_parts net s 0 s.latches) p → Contains (deck_parts net s) p
  unfolding after_cells after_complements sinks
  in_sinks p c =
      Contains-append_right (cell_parts s.style net 0 s.cells) after_cells p (Contains-append_right (complement_parts net s.complements) after_complements p (Contains-append_right (latch_parts net 0 s.latches) sinks p c))

  from_zero : (k : ℕ) → k ≡ 0 + k
  from_zero k = omega arith

  pub listed : (part : Part) (bs : List Branch) (taps : List Tap) → HasBranches s net part bs taps → Listed part bs taps
  listed (Dynamic k) bs taps (c, e, z, y) =
      rw (z, y) (in_cells (side_part s.style net k c) (listed_cells s.style net 0 k.cell s.cells e.0 e.1 (side_part s.style net k c)
      (subst (λ m. Contains (group_parts s.style net m e.0) (side_part s.style net k c)) (from_zero k.cell) (listed_side s.style net k.cell e.0 k.side c e.2))))
  listed (Output k) bs taps (c, e, z, y) =
      rw (z, y) (in_cells (static_part net (Output k) (dynamic_nets k c.right)) (listed_cells s.style net 0 k s.cells c e (static_part net (Output k) (dynamic_nets k c.right))
      (subst (λ m. Contains (group_parts s.style net m c) (static_part net (Output k) (dynamic_nets k c.right))) (from_zero k) (listed_output s.style net k c))))
  listed (Complement l) bs taps (e, z, y) =
      rw (z, y) (in_complements (static_part net (Complement l) (Leaf (own l)))
      (AllByRecursion-contains (λ l. Contains (complement_parts net s.complements) (static_part net (Complement l) (Leaf (own l)))) s.complements l (listed_complements net s.complements) e))
  listed (Master j) bs taps (b, e, z, y) = rw (z, y) (in_latches (record { part = Master j; branches = master net j; taps = [] }) (rw zero-add at ((listed_latches net 0 j s.latches b e).0)))
  listed (Slave j) bs taps (b, e, z, y) = rw (z, y) (in_latches (record { part = Slave j; branches = slave net j b; taps = [] }) (rw zero-add at ((listed_latches net 0 j s.latches b e).1)))
  listed (Next j) bs taps (b, e, z, y) =
      rw (z, y) (in_sinks (static_part net (Next j) (gate_tree s b.next))
      (Contains-append_right (output_parts net s 0 s.outputs) (next_parts net s 0 s.latches) (static_part net (Next j) (gate_tree s b.next)) (rw zero-add at (listed_nexts net s 0 j s.latches b e))))
  listed (Sink i) bs taps (g, e, z, y) =
      rw (z, y) (in_sinks (static_part net (Sink i) (gate_tree s g))
      (Contains-append_left (output_parts net s 0 s.outputs) (next_parts net s 0 s.latches) (static_part net (Sink i) (gate_tree s g)) (rw zero-add at (listed_outputs net s 0 i s.outputs g e))))
