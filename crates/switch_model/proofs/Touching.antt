-- The components that a net touches, by number, and the places of their devices.
use Rattle.std.proofs.Common.{◌≡◌, ℕ, zero, suc, ◌+◌, ◌<◌, ◌≤◌, Bool, true, false, ◌||◌, List, [], ◌∷◌, length, length-append, refl, sym, ap, subst, ◌∙◌, inl, inr, arith}
use Rattle.std.specs.Prelude.{All, Contains, Option, Some, None, slice_get}
use Rattle.std.specs.List.{AllByRecursion, list_any, sum_by}
use Rattle.std.proofs.lemmas.List.Sums.{get_or-le-sum_by, sum_by-cons}
use Rattle.std.proofs.lemmas.Option.{slice_get_within}
use Rattle.dom_base.proofs.Lists.{All-at, Contains-slice_get, slice_get-contained}
use Rattle.deck.specs.Nets.{IsInRange}
use Rattle.deck.specs.Paths.{Ends, Path, one, more}
use Rattle.deck.specs.declared.device.Device.{Device}
use Rattle.switch_model.specs.ComponentLists.{AreComponentLists, IsTouchedBy, has_end_in, is_of, list_at, listed_below, number_in, one_where}
use Rattle.switch_model.specs.Components.{AreTouched, IsNetOf, IsTouchedPlace, Touches}
use Rattle.switch_model.specs.Laws.{EndsAt}
use Rattle.switch_model.specs.declared.components.Components.{Components}
use Rattle.switch_model.proofs.ClosedGroups.{end_at, end_below, place_of}
use Rattle.switch_model.proofs.Connections.{end_of, has_end, in_listed, listed_in, listed_rises, one_number}
use Rattle.switch_model.proofs.Locality.{joined-touches}
use Rattle.switch_model.proofs.RisingLists.{IsIn, RisesFrom, contained, is_in, least, rises_from, rising_are_one}
use Rattle.switch_model.proofs.Searches.{ends_at, other_at}

-- a test that some number passes
any_to : (f : ℕ → Bool) (ks : List ℕ) → list_any f ks ≡ true → (k : ℕ) × IsIn ks k × (f k ≡ true)
any_to f [] e = absurd (cc)
any_to f (k ∷ ks) e = by (f k) refl (any_to f ks) e
  where
    by : (b : Bool) → f k ≡ b → (list_any f ks ≡ true → (j : ℕ) × IsIn ks j × (f j ≡ true)) → (b || list_any f ks) ≡ true → (j : ℕ) × IsIn (k ∷ ks) j × (f j ≡ true)
    by true at later e = (k, inl refl, at)
    by false at later e = let z = later e in (z.0, inr z.1, z.2)

to_any : (f : ℕ → Bool) (ks : List ℕ) (k : ℕ) → IsIn ks k → f k ≡ true → list_any f ks ≡ true
to_any f [] k at e = absurd at
to_any f (j ∷ ks) k (inl same) e = rw (ap f same ∙ e) refl
to_any f (j ∷ ks) k (inr at) e = by (f j) (to_any f ks k at e)
  where
    by : (b : Bool) → list_any f ks ≡ true → (b || list_any f ks) ≡ true
    by true h = refl
    by false h = h

-- what two tests list that never both pass
module _ (f g : ℕ → Bool) (apart : (p : ℕ) → f p ≡ true → g p ≡ true → ⊥) where
  one_of : (a b : Bool) (p : ℕ) → (a ≡ true → b ≡ true → ⊥) → length (one_where (a || b) p) ≡ length (one_where a p) + length (one_where b p)
  one_of true true p h = absurd (h refl refl)
  one_of true false p h = refl
  one_of false true p h = refl
  one_of false false p h = refl

  listed-either : (n : ℕ) → length (listed_below (λ p. f p || g p) n) ≡ length (listed_below f n) + length (listed_below g n)
  listed-either zero = refl
  listed-either (suc n) = omega (
    arith,
    length-append (listed_below (λ p. f p || g p) n) (one_where (f n || g n) n),
    length-append (listed_below f n) (one_where (f n) n),
    length-append (listed_below g n) (one_where (g n) n),
    listed-either n,
    one_of (f n) (g n) n (apart n),
  )

listed-none : (n : ℕ) → length (listed_below (λ p. false) n) ≡ 0
listed-none zero = refl
listed-none (suc n) = omega (arith, length-append (listed_below (λ p. false) n) [], listed-none n)

module _ (devices : List Device) (is_source : ℕ → Bool) (nets : ℕ) (c : Components) (h : AreComponentLists devices is_source nets c) (range : All (IsInRange nets) devices) where
  ends_number : (d : Device) (a b : ℕ) → Ends d a b → Contains devices d → is_source a ≡ false → is_source b ≡ false → number_in c a ≡ number_in c b
  ends_number d a b e m f g = one_number devices is_source (number_in c) h.numbering d a b m (ends_at d a b e) f (other_at d a b e) g

  -- nets that devices connect have one number
  path_number : {a b : ℕ} {p : List Device} → Path is_source a p b → AllByRecursion (Contains devices) p → is_source a ≡ false → is_source b ≡ false → number_in c a ≡ number_in c b
  path_number {a} {b} (one {d = d} e) m f g = ends_number d a b e m.0 f g
  path_number {a} {b} (more {d = d} {m = n} e k r) m f g = ends_number d a n e m.0 f k ∙ path_number r m.1 k g

  net_number : (n m : ℕ) → IsNetOf devices is_source n m → is_source n ≡ false → (number_in c m ≡ number_in c n) × (is_source m ≡ false)
  net_number n m (inl e) f = (ap (number_in c) e, ap is_source e ∙ f)
  net_number n m (inr z) f = (sym (path_number z.0.1 z.0.2 f z.1), z.1)

  few_number : (n : ℕ) → n < nets → number_in c n < nets
  few_number n lt = omega (arith, h.numbering.low n, lt)

  -- a component that a net touches is in its list
  pub touches-number : (x n : ℕ) → n < nets → is_source n ≡ false → Touches devices is_source x n → Contains (list_at c.touched x) (number_in c n)
  touches-number x n lt f (d, (member, (m, of, e)), at) =
      let z = net_number n m of f in
      let p = slice_get-contained devices d member in
      (h.touched_are x (number_in c n)).1
      (few_number n lt, inr (p.0, d, place_of devices is_source nets c h range (number_in c n) (few_number n lt) d p.0 m p.1 e z.1 z.0, p.1, at))

  -- a net's own component is in its list
  pub own-number : (x : ℕ) → x < nets → is_source x ≡ false → Contains (list_at c.touched x) (number_in c x)
  own-number x lt f = (h.touched_are x (number_in c x)).1 (few_number x lt, inl ((h.nets_are (number_in c x) x).1 (lt, f, refl)))

  -- a component in the list of a net, at which a device ends, is touched by the net
  number-touches : (x m : ℕ) (d : Device) → Contains devices d → EndsAt d m → is_source m ≡ false → Contains (list_at c.touched x) (number_in c m) → Touches devices is_source x m
  number-touches x m d member e f t = by ((h.touched_are x (number_in c m)).0 t)
    where
      of : (n : ℕ) → is_source n ≡ false → number_in c n ≡ number_in c m → IsNetOf devices is_source m n
      of n g at = elim (h.numbering.connected m n (sym at)) [ inl same ↦ inl (sym same) | inr w ↦ inr (w, g) ]

      by : (number_in c m < nets) × IsTouchedBy devices (list_at c.nets (number_in c m)) (list_at c.places (number_in c m)) x → Touches devices is_source x m
      by (few, inl inside) =
          let z = (h.nets_are (number_in c m) x).0 inside in
          elim (h.numbering.connected m x (sym z.2)) [
            | inl same ↦ (d, (member, (m, inl refl, e)), inr (subst (EndsAt d) same e))
            | inr w ↦ joined-touches devices is_source m x w
          ]
      by (few, inr (p, g, pm, is, at)) =
          let z = end_at devices is_source nets c h range (number_in c m) few g p pm is in
          (g, (Contains-slice_get devices p g is, (z.0, of z.0 z.2 z.3, z.1)), at)

  -- the device at a place, if there is one, is of a component
  abbrev in_group : ℕ → ℕ → Bool
  in_group place k = is_of (number_in c) is_source k (slice_get devices place)

  device_of : (o : Option Device) (k : ℕ) → is_of (number_in c) is_source k o ≡ true → (d : Device) × (o ≡ Some d) × (has_end_in (number_in c) is_source k d ≡ true)
  device_of None k e = absurd (cc)
  device_of (Some d) k e = (d, refl, e)

  abbrev in_any : List ℕ → ℕ → Bool
  in_any ks place = list_any (in_group place) ks

  -- the places of the devices of the components that a net touches
  abbrev pub touched_places : ℕ → List ℕ
  touched_places x = listed_below (in_any (list_at c.touched x)) (length devices)

  pub touched-exact : (x : ℕ) → AreTouched devices is_source x (touched_places x)
  touched-exact x = record { rising = (listed_rises (in_any (list_at c.touched x)) (length devices)).rising; exact = λ place. (to place, from place) }
    where
      to : (place : ℕ) → Contains (touched_places x) place → IsTouchedPlace devices is_source x place
      to place m =
          let z = any_to (in_group place) (list_at c.touched x) (listed_in (in_any (list_at c.touched x)) (length devices) place m).1 in
          let d = device_of (slice_get devices place) z.0 z.2 in
          let n = end_of (number_in c) is_source z.0 d.0 d.2 in
          let member = Contains-slice_get devices place d.0 d.1 in
          (d.0, d.1, (n.0, n.2, n.1, number-touches x n.0 d.0 member n.1 n.2 (subst (Contains (list_at c.touched x)) (sym n.3) (contained (list_at c.touched x) z.0 z.1))))

      from : (place : ℕ) → IsTouchedPlace devices is_source x place → Contains (touched_places x) place
      from place (d, is, (n, f, e, t)) =
          let t' = touches-number x n (end_below nets d n (All-at (IsInRange nets) devices place d range is) e) f t in
          in_listed (in_any (list_at c.touched x)) (length devices) place (slice_get_within devices place d is)
          (to_any (in_group place) (list_at c.touched x) (number_in c n) (is_in (list_at c.touched x) (number_in c n) t'.0 t'.1 t'.2)
          (ap (is_of (number_in c) is_source (number_in c n)) is ∙ has_end (number_in c) is_source (number_in c n) d n e f refl))

  -- a place stands in one component
  one_group : (place k j : ℕ) → in_group place k ≡ true → in_group place j ≡ true → k ≡ j
  one_group place k j a b =
      let d = device_of (slice_get devices place) k a in
      let n = end_of (number_in c) is_source k d.0 d.2 in
      let m = end_of (number_in c) is_source j d.0 (sym (ap (is_of (number_in c) is_source j) d.1) ∙ b) in
      sym n.3 ∙ one_number devices is_source (number_in c) h.numbering d.0 n.0 m.0 (Contains-slice_get devices place d.0 d.1) n.1 n.2 m.1 m.2 ∙ m.3

  abbrev size : ℕ → ℕ
  size k = length (list_at c.places k)

  sizes : (bound : ℕ) (ks : List ℕ) → RisesFrom bound ks → ((k : ℕ) → IsIn ks k → k < nets) → sum_by size ks ≡ length (listed_below (in_any ks) (length devices))
  sizes bound [] r few = sym (listed-none (length devices))
  sizes bound (k ∷ ks) r few =
      let first : size k ≡ length (listed_below (λ place. in_group place k) (length devices)) = ap length (h.places_are k (few k (inl refl))) in
      let rest : sum_by size ks ≡ length (listed_below (in_any ks) (length devices)) = sizes (suc k) ks r.1 (λ j at. few j (inr at)) in
      let both : length (listed_below (in_any (k ∷ ks)) (length devices)) ≡ length (listed_below (λ place. in_group place k) (length devices)) + length (listed_below (in_any ks) (length devices)) =
      listed-either (λ place. in_group place k) (in_any ks) apart (length devices) in
      omega (arith, sum_by-cons size k ks, first, rest, both)
    where
      apart : (place : ℕ) → in_group place k ≡ true → in_any ks place ≡ true → ⊥
      apart place a b = let z = any_to (in_group place) ks b in omega (arith, least (suc k) ks z.0 r.1 z.1, one_group place k z.0 a z.2)

  -- the components that a net touches have so many devices
  pub touched-length : (x : ℕ) → sum_by size (list_at c.touched x) ≡ length (touched_places x)
  touched-length x =
      sizes 0 (list_at c.touched x) (rises_from 0 (list_at c.touched x) (h.rising x) (λ lt. omega arith))
      (λ k at. ((h.touched_are x k).0 (contained (list_at c.touched x) k at)).0)

  -- there is one list of the touched places
  pub touched-one : (x : ℕ) (places : List ℕ) → AreTouched devices is_source x places → places ≡ touched_places x
  touched-one x places t =
      rising_are_one places (touched_places x) t.rising (touched-exact x).rising
      (λ p. (λ m. ((touched-exact x).exact p).1 ((t.exact p).0 m), λ m. (t.exact p).1 (((touched-exact x).exact p).0 m)))

  -- and a net's own component no more
  pub own-length : (x : ℕ) → x < nets → is_source x ≡ false → (places : List ℕ) → AreTouched devices is_source x places → length (list_at c.places (number_in c x)) ≤ length places
  own-length x lt f places t =
      let own = own-number x lt f in
      let part = get_or-le-sum_by size (list_at c.touched x) own.0 (number_in c x) own.1 in
      omega (arith, ap length (touched-one x places t), touched-length x, subst (λ k. size k ≤ sum_by size (list_at c.touched x)) own.2 part)
