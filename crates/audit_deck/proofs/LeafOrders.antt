-- The complements of pins and of outputs of latches, put in order one after another.
use Rattle.std.specs.Prelude.{None, Option, Some, slice_get, ◌⊎◌}
use Rattle.std.proofs.Common.{List, [], ap, arith, inl, inr, length, refl, subst, sym, ℕ, ◌++◌, ◌+◌, ◌<◌, ◌∙◌, ◌∷◌, ◌≡◌}
use Rattle.std.proofs.lemmas.Option.{same_Some, slice_get_within}
use Rattle.dom_base.proofs.Decided.{lt_or_ge}
use Rattle.dom_base.proofs.Lists.{slice_get-append, slice_get-push, slice_get-push_cases}
use Rattle.deck.specs.PortLayout.{first_pin}
use Rattle.deck.specs.declared.role.Roles.{Roles}
use Rattle.domino_law.specs.Nets.{DeckSignal, FromLatch, FromPin, leaf_of}
use Rattle.found_decks.specs.FoundDecks.{FoundLatch, IsSignalNet}
use Rattle.audit_deck.specs.LeafOrders.{AreByPlace, IsOfLeaf, with_option}

pub none_placed : (P : ℕ → ℕ → Type 0) → AreByPlace P 0 []
none_placed P = record {
  sound = λ k n at. absurd (cc);
  full = λ q n lt is. absurd (omega (arith, lt));
  rising = λ i j m n lt e f. absurd (cc);
}

module _ (P : ℕ → ℕ → Type 0) (bound : ℕ) (numbers : List ℕ) (h : AreByPlace P bound numbers) where
  -- the next place has this number
  place_more : (n : ℕ) → P bound n → ((m : ℕ) → P bound m → m ≡ n) → AreByPlace P (bound + 1) (numbers ++ n ∷ [])
  place_more n has only = record {
    sound = λ k m at. elim (slice_get-push_cases numbers n k m at) [
      | inl y ↦ let z = h.sound k m y in (z.0, omega (arith, z.1), z.2)
      | inr y ↦ (bound, omega arith, subst (P bound) y.1 has)
    ];
    full = λ q m lt is. elim (lt_or_ge q bound) [
      | inl low ↦ let z = h.full q m low is in (z.0, slice_get-append numbers (n ∷ []) z.0 m z.1)
      | inr high ↦
          let e : q ≡ bound = omega (arith, high, lt) in
          (length numbers, slice_get-push numbers n ∙ ap Some (sym (only m (subst (λ x. P x m) e is))))
    ];
    rising = λ i j a b lt e f. both i j a b lt (slice_get-push_cases numbers n i a e) (slice_get-push_cases numbers n j b f);
  }
    where
      both : (i j a b : ℕ) → i < j → (slice_get numbers i ≡ Some a) ⊎ ((i ≡ length numbers) × (n ≡ a))
          → (slice_get numbers j ≡ Some b) ⊎ ((j ≡ length numbers) × (n ≡ b)) → (p : ℕ) × (q : ℕ) × (p < q) × P p a × P q b
      both i j a b lt (inl y) (inl z) = h.rising i j a b lt y z
      both i j a b lt (inl y) (inr z) = let x = h.sound i a y in (x.0, bound, x.1, x.2, subst (P bound) z.1 has)
      both i j a b lt (inr y) (inl z) = absurd (omega (arith, lt, y.0, slice_get_within numbers j b z))
      both i j a b lt (inr y) (inr z) = absurd (omega (arith, lt, y.0, z.0))

  -- it has none
  place_past : ((n : ℕ) → P bound n → ⊥) → AreByPlace P (bound + 1) numbers
  place_past none = record {
    sound = λ k m at. let z = h.sound k m at in (z.0, omega (arith, z.1), z.2);
    full = λ q m lt is. elim (lt_or_ge q bound) [
      | inl low ↦ h.full q m low is
      | inr high ↦ let e : q ≡ bound = omega (arith, high, lt) in absurd (none m (subst (λ x. P x m) e is))
    ];
    rising = h.rising;
  }

  place_next : (o : Option ℕ) → ((n : ℕ) → P bound n → o ≡ Some n) → ((n : ℕ) → o ≡ Some n → P bound n)
      → AreByPlace P (bound + 1) (with_option numbers o)
  place_next None to from = place_past (λ n is. let z : None ≡ Some n = to n is in cc)
  place_next (Some n) to from = place_more n (from n refl) (λ m is. sym (same_Some n m (to m is)))

module _ (roles : Roles) (latches : List FoundLatch) (table : List (Option ℕ)) where
  abbrev Leaf : ℕ → ℕ → Type 0
  Leaf = IsOfLeaf roles latches table

  -- what the table has for a net
  entry_there : (a b : ℕ) (o : Option ℕ) (n : ℕ) → a ≡ b → slice_get table a ≡ Some o → slice_get table b ≡ Some (Some n) → o ≡ Some n
  entry_there a b o n e f g = same_Some o (Some n) (sym f ∙ ap (slice_get table) e ∙ g)

  -- after a pin was looked up
  pub pin_next : (p : ℕ) (numbers : List ℕ) (o : Option ℕ) → p < roles.pins → slice_get table (first_pin roles + p) ≡ Some o
      → AreByPlace Leaf p numbers → AreByPlace Leaf (p + 1) (with_option numbers o)
  pin_next p numbers o lt at h = place_next Leaf p numbers h o to from
    where
      by : (n : ℕ) (l : DeckSignal) (i : ℕ) → leaf_of roles.pins l ≡ p → IsSignalNet roles latches l i
          → slice_get table i ≡ Some (Some n) → o ≡ Some n
      by n (FromPin q) i e net has = entry_there (first_pin roles + p) i o n (ap (λ x. first_pin roles + x) (sym e) ∙ net.1) at has
      by n (FromLatch j) i e net has = absurd (omega (arith, lt, e))

      to : (n : ℕ) → Leaf p n → o ≡ Some n
      to n is = by n is.signal is.input is.leaf_is is.net_is is.entry

      from : (n : ℕ) → o ≡ Some n → Leaf p n
      from n e = record { signal = FromPin p; input = first_pin roles + p; leaf_is = refl; net_is = (lt, refl); entry = at ∙ ap Some e }

  -- after the output of a latch was looked up
  pub latch_next : (j : ℕ) (l : FoundLatch) (numbers : List ℕ) (o : Option ℕ) → slice_get latches j ≡ Some l
      → slice_get table (l.group).output ≡ Some o
      → AreByPlace Leaf (roles.pins + j) numbers → AreByPlace Leaf (roles.pins + (j + 1)) (with_option numbers o)
  latch_next j l numbers o there at h =
      subst (λ n. AreByPlace Leaf n (with_option numbers o)) (shift roles.pins j) (place_next Leaf (roles.pins + j) numbers h o to from)
    where
      shift : (a b : ℕ) → a + b + 1 ≡ a + (b + 1)
      shift a b = omega arith

      by : (n : ℕ) (s : DeckSignal) (i : ℕ) → leaf_of roles.pins s ≡ roles.pins + j → IsSignalNet roles latches s i
          → slice_get table i ≡ Some (Some n) → o ≡ Some n
      by n (FromPin q) i e net has = absurd (omega (arith, e, net.0))
      by n (FromLatch k) i e net has =
          let same : k ≡ j = omega (arith, e) in
          let x : net.0 ≡ l = same_Some net.0 l (sym net.1 ∙ ap (slice_get latches) same ∙ there) in
          entry_there (l.group).output i o n (ap (λ (f : FoundLatch). (f.group).output) (sym x) ∙ net.2) at has

      to : (n : ℕ) → Leaf (roles.pins + j) n → o ≡ Some n
      to n is = by n is.signal is.input is.leaf_is is.net_is is.entry

      from : (n : ℕ) → o ≡ Some n → Leaf (roles.pins + j) n
      from n e = record { signal = FromLatch j; input = (l.group).output; leaf_is = refl; net_is = (l, there, refl); entry = at ∙ ap Some e }
