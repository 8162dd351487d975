-- The complements that the table of an audit has, by the leaves of their signals, are those of the circuit in order.
use Rattle.std.specs.Prelude.{Contains, None, Option, Some, slice_get}
use Rattle.std.proofs.Common.{List, ap, arith, get_or, length, refl, subst, sym, ℕ, ◌+◌, ◌<◌, ◌∙◌, ◌≡◌}
use Rattle.std.proofs.lemmas.Option.{slice_get-get_or, slice_get_within}
use Rattle.deck.specs.PortLayout.{source_count}
use Rattle.deck.specs.declared.device.Device.{Device}
use Rattle.deck.specs.declared.role.Roles.{Roles}
use Rattle.domino_law.specs.Nets.{DeckSignal, FromLatch, FromPin, leaf_of}
use Rattle.deck_audit.specs.Words.{Group, IsComplement, IsGroup, own_nets}
use Rattle.found_decks.specs.FoundDecks.{FoundLatch, IsSignalNet, IsOfSignal}
use Rattle.found_decks.proofs.Signals.{signal_at}
use Rattle.audit_deck.specs.Groups.{AreAllGroups, KeepsLatches}
use Rattle.audit_deck.specs.Indexes.{AreInRange}
use Rattle.audit_deck.specs.LeafOrders.{AreByPlace, IsOfLeaf}
use Rattle.audit_deck.specs.Marks.{AreComplements}
use Rattle.audit_deck.proofs.FirstComplements.{input_low, one_complement, same_input}
use Rattle.audit_deck.proofs.LatchLists.{kept_alone, one_alone, own_output}

-- where these are all latches
module _ (ds : List Device) (roles : Roles) (keeps : KeepsLatches ds roles) (latches : List FoundLatch)
    (groups : AreAllGroups ds roles latches) where
  pub latches_there : (g : Group) (places : List ℕ) → IsGroup ds roles g places
      → (j : ℕ) × (l : FoundLatch) × (slice_get latches j ≡ Some l) × (l.group ≡ g)
  latches_there g places is = let z = groups.full g places is in (z.0, record { group = g; places = places }, z.1, refl)

  -- a net is the output of one of them at most
  pub latch_once : (i j : ℕ) (l m : FoundLatch) → slice_get latches i ≡ Some l → slice_get latches j ≡ Some m
      → (l.group).output ≡ (m.group).output → i ≡ j
  latch_once i j l m at there same =
      let k = kept_alone ds roles keeps l.group l.places (groups.sound i l at) in
      let z = one_alone ds roles l.group m.group l.places m.places k (groups.sound j m there) (m.group).output
      (subst (Contains (own_nets l.group)) same (own_output ds roles l.group)) (own_output ds roles m.group) in
      let e : l ≡ m = λ t. record { group = sym z.0 t; places = sym z.1 t } in
      groups.once i j l at (subst (λ x. slice_get latches j ≡ Some x) (sym e) there)

  -- no output of a latch is a pin
  latch_no_pin : (p j : ℕ) (l : FoundLatch) → slice_get latches j ≡ Some l → p < source_count roles → (l.group).output ≡ p → ⊥
  latch_no_pin p j l at low e = let free = (groups.sound j l at).free in omega (arith, free.1.1.0, low, e)

  -- a net is that of one signal at most
  one_signal : (a b : DeckSignal) (i : ℕ) → IsSignalNet roles latches a i → IsSignalNet roles latches b i → a ≡ b
  one_signal (FromPin p) (FromPin q) i h k = let e : p ≡ q = omega (arith, h.1, k.1) in ap FromPin e
  one_signal (FromPin p) (FromLatch j) i h k = absurd (latch_no_pin i j k.0 k.1 (omega (arith, h.0, h.1)) k.2)
  one_signal (FromLatch j) (FromPin p) i h k = absurd (latch_no_pin i j h.0 h.1 (omega (arith, k.0, k.1)) h.2)
  one_signal (FromLatch j) (FromLatch k) i h g = ap FromLatch (latch_once j k h.0 g.0 h.1 g.1 (h.2 ∙ sym g.2))

  leaf_low : (l : DeckSignal) (i : ℕ) → IsSignalNet roles latches l i → leaf_of roles.pins l < roles.pins + length latches
  leaf_low (FromPin p) i h = omega (arith, h.0)
  leaf_low (FromLatch j) i h = omega (arith, slice_get_within latches j h.0 h.1)

  module _ (nets : ℕ) (in_range : AreInRange ds nets) (table : List (Option ℕ)) (are : AreComplements ds roles nets table) (complements : List ℕ)
      (placed : AreByPlace (IsOfLeaf roles latches table) (roles.pins + length latches) complements) where
    -- the table has each complement
    entry_of : (n i : ℕ) → IsComplement ds roles n i → slice_get table i ≡ Some (Some n)
    entry_of n i c =
        let low = input_low ds roles nets in_range n i c.0.inverts in
        by (get_or table i None) (slice_get-get_or table i None (omega (arith, low, are.count)))
      where
        by : (o : Option ℕ) → slice_get table i ≡ Some o → slice_get table i ≡ Some (Some n)
        by None e = absurd (are.each i None e n c)
        by (Some m) e = e ∙ ap (λ x. Some (Some x)) (one_complement ds roles m n i (are.each i (Some m) e) c)

    is_of : (q n : ℕ) (h : IsOfLeaf roles latches table q n) → IsComplement ds roles n h.input
    is_of q n h = are.each h.input (Some n) h.entry

    pub placed_sound : (k n : ℕ) → slice_get complements k ≡ Some n → (i : ℕ) × IsComplement ds roles n i
    placed_sound k n e = let z = placed.sound k n e in ((z.2).input, is_of z.0 n z.2)

    pub placed_full : (n i : ℕ) → IsComplement ds roles n i → (k : ℕ) × (slice_get complements k ≡ Some n)
    placed_full n i c =
        let l = signal_at ds roles latches latches_there i c.0.of_signal in
        placed.full (leaf_of roles.pins l.0) n (leaf_low l.0 i l.1) (record { signal = l.0; input = i; leaf_is = refl; net_is = l.1; entry = entry_of n i c })

    leaf_at : (n q : ℕ) (a : DeckSignal) → IsOfLeaf roles latches table q n → IsOfSignal ds roles latches n a → leaf_of roles.pins a ≡ q
    leaf_at n q a h x =
        let c = is_of q n h in
        let e : x.0 ≡ h.input = same_input ds n x.0 h.input (x.2).0.inverts c.0.inverts in
        ap (leaf_of roles.pins) (one_signal a h.signal h.input (subst (IsSignalNet roles latches a) e x.1) h.net_is) ∙ h.leaf_is

    pub placed_ordered : (i j m n : ℕ) (a b : DeckSignal) → i < j → slice_get complements i ≡ Some m → slice_get complements j ≡ Some n
        → IsOfSignal ds roles latches m a → IsOfSignal ds roles latches n b → leaf_of roles.pins a < leaf_of roles.pins b
    placed_ordered i j m n a b lt e f x y =
        let z = placed.rising i j m n lt e f in
        omega (arith, z.2, leaf_at m z.0 a z.3 x, leaf_at n z.1 b z.4 y)
