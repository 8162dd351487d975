-- Which nets paths reach can be decided, by recursion on the devices.
use Rattle.std.proofs.Common.{◌≡◌, ℕ, Bool, true, false, List, [], ◌∷◌, ◌++◌, refl, sym, ◌∙◌, inl, inr}
use Rattle.std.specs.Prelude.{◌⊎◌, Contains}
use Rattle.std.specs.List.{AllByRecursion}
use Rattle.deck.specs.declared.device.Device.{Device}
use Rattle.dom_base.specs.declared.kind.Kind.TheVariants.{Keep}
use Rattle.deck.specs.Paths.{Ends, Path, one, more, IsWeak}
use Rattle.deck.specs.Reach.{Reach, last, step}
use Rattle.deck.proofs.Reach.{Reach-trans, Reach-weaker, Reach-from_path, path_from_Reach}
use Rattle.dom_base.specs.Decided.{Decided}
use Rattle.dom_base.proofs.Decided.{dec_and, dec_or, dec_map, dec_nat, dec_bool, dec_any, dec_keeper}
use Rattle.dom_base.proofs.Lists.{AllByRecursion-append, AllByRecursion-contains, AllByRecursion-weaker, Contains-first, Contains-later}

pub Path-append : {is_source : ℕ → Bool} {a m b : ℕ} {p q : List Device} → Path is_source a p m → is_source m ≡ false → Path is_source m q b → Path is_source a (p ++ q) b
Path-append (one e) n r = more e n r
Path-append (more e k t) n r = more e k (Path-append t n r)

pub IsWeak-append : (p q : List Device) → IsWeak q → IsWeak (p ++ q)
IsWeak-append [] q w = w
IsWeak-append (d ∷ p) q w = inr (IsWeak-append p q w)

module _ (Q : Device → Type 0) (is_source : ℕ → Bool) where
  -- the device may stand inside a path
  abbrev pub IsInside : Device → Type 0
  IsInside d = Q d × (is_source d.drain ≡ false) × (is_source d.source ≡ false)

  -- the devices join a and b, each used at most once
  abbrev pub Joined : List Device → ℕ → ℕ → Type 0
  Joined [] a b = a ≡ b
  Joined (d ∷ ds) a b = Joined ds a b ⊎ (IsInside d × ((Joined ds a d.drain × Joined ds d.source b) ⊎ (Joined ds a d.source × Joined ds d.drain b)))

  pub Joined-same : (ds : List Device) (a : ℕ) → Joined ds a a
  Joined-same [] a = refl
  Joined-same (d ∷ ds) a = inl (Joined-same ds a)

  pub Joined-trans : (ds : List Device) (a b c : ℕ) → Joined ds a b → Joined ds b c → Joined ds a c
  Joined-trans [] a b c x y = x ∙ y
  Joined-trans (d ∷ ds) a b c (inl x) (inl y) = inl (Joined-trans ds a b c x y)
  Joined-trans (d ∷ ds) a b c (inl x) (inr (u, inl y)) = inr (u, inl (Joined-trans ds a b d.drain x y.0, y.1))
  Joined-trans (d ∷ ds) a b c (inl x) (inr (u, inr y)) = inr (u, inr (Joined-trans ds a b d.source x y.0, y.1))
  Joined-trans (d ∷ ds) a b c (inr (u, inl x)) (inl y) = inr (u, inl (x.0, Joined-trans ds d.source b c x.1 y))
  Joined-trans (d ∷ ds) a b c (inr (u, inr x)) (inl y) = inr (u, inr (x.0, Joined-trans ds d.drain b c x.1 y))
  Joined-trans (d ∷ ds) a b c (inr (u, inl x)) (inr (v, inl y)) = inr (u, inl (x.0, y.1))
  Joined-trans (d ∷ ds) a b c (inr (u, inl x)) (inr (v, inr y)) = inl (Joined-trans ds a d.drain c x.0 y.1)
  Joined-trans (d ∷ ds) a b c (inr (u, inr x)) (inr (v, inl y)) = inl (Joined-trans ds a d.source c x.0 y.1)
  Joined-trans (d ∷ ds) a b c (inr (u, inr x)) (inr (v, inr y)) = inr (u, inr (x.0, y.1))

  Joined-edge_each : (ds : List Device) → AllByRecursion (λ d. (a b : ℕ) → IsInside d → Ends d a b → Joined ds a b) ds
  Joined-edge_each [] = tt
  Joined-edge_each (d ∷ ds) = (
    (λ a b u e. elim e [ inl z ↦ inr (u, inl (at_start a d.drain z.0, at_end d.source b z.1)) | inr z ↦ inr (u, inr (at_start a d.source z.0, at_end d.drain b z.1)) ]),
    AllByRecursion-weaker _ _ (λ f h a b u e. inl (h a b u e)) ds (Joined-edge_each ds),
  )
    where
      at_start : (a x : ℕ) → x ≡ a → Joined ds a x
      at_start a x e = rw e (Joined-same ds a)

      at_end : (x b : ℕ) → x ≡ b → Joined ds x b
      at_end x b e = rw e (Joined-same ds b)

  pub Joined-edge : (ds : List Device) (d : Device) (a b : ℕ) → Contains ds d → IsInside d → Ends d a b → Joined ds a b
  Joined-edge ds d a b h u e = AllByRecursion-contains _ ds d (Joined-edge_each ds) h a b u e

  -- a path of devices of a list
  abbrev pub Reaches : List Device → ℕ → ℕ → Type 0
  Reaches ds = Reach (λ d. Contains ds d × Q d) is_source

  Reaches-more : (d : Device) (ds : List Device) (a b : ℕ) → Reaches ds a b → Reaches (d ∷ ds) a b
  Reaches-more d ds a b r = Reach-weaker (λ f h. (Contains-later d ds f h.0, h.1)) r

  -- what is joined is the same or reached
  pub joined_reaches : (ds : List Device) (a b : ℕ) → Joined ds a b → (a ≡ b) ⊎ Reaches ds a b
  joined_reaches [] a b e = inl e
  joined_reaches (d ∷ ds) a b (inl x) = elim (joined_reaches ds a b x) [ inl e ↦ inl e | inr r ↦ inr (Reaches-more d ds a b r) ]
  joined_reaches (d ∷ ds) a b (inr (u, inl x)) =
      inr (before d ds a d.drain b u.1 (joined_reaches ds a d.drain x.0) (after d ds d.drain d.source b u.0 u.2 (inl (refl, refl)) (joined_reaches ds d.source b x.1)))
    where
      after : (d : Device) (ds : List Device) (x y b : ℕ) → Q d → is_source y ≡ false → Ends d x y → (y ≡ b) ⊎ Reaches ds y b → Reaches (d ∷ ds) x b
      after d ds x y b q n e (inl s) = last (Contains-first d ds, q) (rw s at e)
      after d ds x y b q n e (inr r) = step (Contains-first d ds, q) e n (Reaches-more d ds y b r)

      before : (d : Device) (ds : List Device) (a x b : ℕ) → is_source x ≡ false → (a ≡ x) ⊎ Reaches ds a x → Reaches (d ∷ ds) x b → Reaches (d ∷ ds) a b
      before d ds a x b n (inl s) r = rw s r
      before d ds a x b n (inr t) r = Reach-trans (Reaches-more d ds a x t) n r
  joined_reaches (d ∷ ds) a b (inr (u, inr x)) =
      inr (before d ds a d.source b u.2 (joined_reaches ds a d.source x.0) (after d ds d.source d.drain b u.0 u.1 (inr (refl, refl)) (joined_reaches ds d.drain b x.1)))
    where
      after : (d : Device) (ds : List Device) (x y b : ℕ) → Q d → is_source y ≡ false → Ends d x y → (y ≡ b) ⊎ Reaches ds y b → Reaches (d ∷ ds) x b
      after d ds x y b q n e (inl s) = last (Contains-first d ds, q) (rw s at e)
      after d ds x y b q n e (inr r) = step (Contains-first d ds, q) e n (Reaches-more d ds y b r)

      before : (d : Device) (ds : List Device) (a x b : ℕ) → is_source x ≡ false → (a ≡ x) ⊎ Reaches ds a x → Reaches (d ∷ ds) x b → Reaches (d ∷ ds) a b
      before d ds a x b n (inl s) r = rw s r
      before d ds a x b n (inr t) r = Reach-trans (Reaches-more d ds a x t) n r

  dec_inside : ((d : Device) → Decided (Q d)) → (d : Device) → Decided (IsInside d)
  dec_inside dec d =
      dec_map (λ z. (z.0, z.1.0, z.1.1)) (λ z. (z.0, (z.1, z.2))) (dec_and (dec d) (dec_and (dec_bool (is_source d.drain) false) (dec_bool (is_source d.source) false)))

  pub dec_joined : ((d : Device) → Decided (Q d)) → (ds : List Device) (a b : ℕ) → Decided (Joined ds a b)
  dec_joined dec [] a b = dec_nat a b
  dec_joined dec (d ∷ ds) a b =
      dec_or (dec_joined dec ds a b)
      (dec_and (dec_inside dec d)
      (dec_or (dec_and (dec_joined dec ds a d.drain) (dec_joined dec ds d.source b)) (dec_and (dec_joined dec ds a d.source) (dec_joined dec ds d.drain b))))

  -- the device has an end that a is joined to, and P holds of the other
  abbrev pub Leads : List Device → (ℕ → Type 0) → ℕ → Device → Type 0
  Leads ds P a d = Q d × (((is_source d.drain ≡ false) × (Joined ds a d.drain × P d.source)) ⊎ ((is_source d.source ≡ false) × (Joined ds a d.source × P d.drain)))

  pub leads_reaches : (ds : List Device) (P : ℕ → Type 0) (a : ℕ) (d : Device) → Contains ds d → Leads ds P a d → (n : ℕ) × Reaches ds a n × P n
  leads_reaches ds P a d c (q, inl (f, (j, p))) = (d.source, go (joined_reaches ds a d.drain j), p)
    where
      go : (a ≡ d.drain) ⊎ Reaches ds a d.drain → Reaches ds a d.source
      go (inl e) = last (c, q) (inl (sym e, refl))
      go (inr r) = Reach-trans r f (last (c, q) (inl (refl, refl)))
  leads_reaches ds P a d c (q, inr (f, (j, p))) = (d.drain, go (joined_reaches ds a d.source j), p)
    where
      go : (a ≡ d.source) ⊎ Reaches ds a d.source → Reaches ds a d.drain
      go (inl e) = last (c, q) (inr (sym e, refl))
      go (inr r) = Reach-trans r f (last (c, q) (inr (refl, refl)))

  pub reaches_leads : (ds : List Device) (P : ℕ → Type 0) {a n : ℕ} → is_source a ≡ false → Reaches ds a n → P n → (d : Device) × Contains ds d × Leads ds P a d
  reaches_leads ds P {a} {n} f (last {d = d} (c, q) e) p = (
    d,
    c,
    (
      q,
      elim e [
        | inl z ↦ inl (rw z.0 f, (rw z.0 (Joined-same ds a), rw z.1 p))
        | inr z ↦ inr (rw z.0 f, (rw z.0 (Joined-same ds a), rw z.1 p))
      ],
    ),
  )
  reaches_leads ds P {a} {n} f (step {d = d} {m = m} (c, q) e k r) p =
      let t = reaches_leads ds P k r p in
      let j : Joined ds a m = Joined-edge ds d a m c (inside e) e in (
        t.0,
        t.1,
        (
          t.2.0,
          elim t.2.1 [
            | inl z ↦ inl (z.0, (Joined-trans ds a m (t.0).drain j z.1.0, z.1.1))
            | inr z ↦ inr (z.0, (Joined-trans ds a m (t.0).source j z.1.0, z.1.1))
          ],
        ),
      )
    where
      inside : Ends d a m → IsInside d
      inside (inl z) = (q, rw z.0 f, rw z.1 k)
      inside (inr z) = (q, rw z.1 k, rw z.0 f)

  -- whether a path leads from a to a net with P
  pub dec_reaches : ((d : Device) → Decided (Q d)) → (P : ℕ → Type 0) → ((n : ℕ) → Decided (P n)) → (ds : List Device) (a : ℕ) → is_source a ≡ false → Decided ((n : ℕ) × Reaches ds a n × P n)
  dec_reaches dec P dec_p ds a f =
      dec_map (λ t. leads_reaches ds P a t.0 t.1 t.2) (λ t. reaches_leads ds P f t.1 t.2)
      (dec_any (Leads ds P a) (λ d. dec_and (dec d) (dec_or
      (dec_and (dec_bool (is_source d.drain) false) (dec_and (dec_joined dec ds a d.drain) (dec_p d.source)))
      (dec_and (dec_bool (is_source d.source) false) (dec_and (dec_joined dec ds a d.source) (dec_p d.drain))))) ds)

  -- a path with a keeper
  abbrev pub WeakPath : List Device → ℕ → ℕ → Type 0
  WeakPath ds a b = (p : List Device) × Path is_source a p b × AllByRecursion (λ d. Contains ds d × Q d) p × IsWeak p

  abbrev WeakSide : List Device → (ℕ → Type 0) → ℕ → ℕ → ℕ → Type 0
  WeakSide ds P a x y = (is_source x ≡ false) × (Joined ds a x × (P y ⊎ ((is_source y ≡ false) × ((n : ℕ) × Reaches ds y n × P n))))

  abbrev pub LeadsWeak : List Device → (ℕ → Type 0) → ℕ → Device → Type 0
  LeadsWeak ds P a d = (d.kind ≡ Keep) × (Q d × (WeakSide ds P a d.drain d.source ⊎ WeakSide ds P a d.source d.drain))

  weak_side : (ds : List Device) (P : ℕ → Type 0) (a x y : ℕ) (d : Device) → Contains ds d → Q d → d.kind ≡ Keep → Ends d x y → WeakSide ds P a x y → (n : ℕ) × WeakPath ds a n × P n
  weak_side ds P a x y d c q k e (f, (j, s)) = (t.0, front (joined_reaches ds a x j), t.2)
    where
      tail : (P y ⊎ ((is_source y ≡ false) × ((n : ℕ) × Reaches ds y n × P n))) → (n : ℕ) × WeakPath ds x n × P n
      tail (inl p) = (y, (d ∷ [], one e, ((c, q), tt), inl k), p)
      tail (inr (g, (n, r, p))) = let w = path_from_Reach _ is_source r in (n, (d ∷ w.0, more e g w.1, ((c, q), w.2), inl k), p)

      t : (n : ℕ) × WeakPath ds x n × P n
      t = tail s

      front : (a ≡ x) ⊎ Reaches ds a x → WeakPath ds a t.0
      front (inl z) = rw z t.1
      front (inr r) =
          let w = path_from_Reach _ is_source r in
          let u = t.1 in
          (w.0 ++ u.0, Path-append w.1 f u.1, AllByRecursion-append _ w.0 u.0 w.2 u.2, IsWeak-append w.0 u.0 u.3)

  leads_weak : (ds : List Device) (P : ℕ → Type 0) (a : ℕ) (d : Device) → Contains ds d → LeadsWeak ds P a d → (n : ℕ) × WeakPath ds a n × P n
  leads_weak ds P a d c (k, (q, inl s)) = weak_side ds P a d.drain d.source d c q k (inl (refl, refl)) s
  leads_weak ds P a d c (k, (q, inr s)) = weak_side ds P a d.source d.drain d c q k (inr (refl, refl)) s

  weak_leads : (ds : List Device) (P : ℕ → Type 0) {a n : ℕ} {p : List Device} → is_source a ≡ false → Path is_source a p n
      → AllByRecursion (λ d. Contains ds d × Q d) p → IsWeak p → P n → (d : Device) × Contains ds d × LeadsWeak ds P a d
  weak_leads ds P {a} {n} f (one {d = d} e) h (inl k) x = (
    d,
    h.0.0,
    (
      k,
      (
        h.0.1,
        elim e [
          | inl z ↦ inl (rw z.0 f, (rw z.0 (Joined-same ds a), inl (rw z.1 x)))
          | inr z ↦ inr (rw z.0 f, (rw z.0 (Joined-same ds a), inl (rw z.1 x)))
        ],
      ),
    ),
  )
  weak_leads ds P {a} {n} f (one {d = d} e) h (inr k) x = absurd k
  weak_leads ds P {a} {n} f (more {d = d} {m = m} e g r) h (inl k) x =
      let t : (n : ℕ) × Reaches ds m n × P n = (n, Reach-from_path _ is_source r h.1, x) in (
        d,
        h.0.0,
        (
          k,
          (
            h.0.1,
            elim e [
              | inl z ↦ inl (rw z.0 f, (rw z.0 (Joined-same ds a), inr (rw z.1 g, rw z.1 t)))
              | inr z ↦ inr (rw z.0 f, (rw z.0 (Joined-same ds a), inr (rw z.1 g, rw z.1 t)))
            ],
          ),
        ),
      )
  weak_leads ds P {a} {n} f (more {d = d} {m = m} e g r) h (inr k) x =
      let t = weak_leads ds P g r h.1 k x in
      let j : Joined ds a m = Joined-edge ds d a m h.0.0 (inside e) e in (
        t.0,
        t.1,
        (
          t.2.0,
          (
            t.2.1.0,
            elim t.2.1.1 [
              | inl z ↦ inl (z.0, (Joined-trans ds a m (t.0).drain j z.1.0, z.1.1))
              | inr z ↦ inr (z.0, (Joined-trans ds a m (t.0).source j z.1.0, z.1.1))
            ],
          ),
        ),
      )
    where
      inside : Ends d a m → IsInside d
      inside (inl z) = (h.0.1, rw z.0 f, rw z.1 g)
      inside (inr z) = (h.0.1, rw z.1 g, rw z.0 f)

  -- whether a path with a keeper leads from a to a net with P
  pub dec_weak : ((d : Device) → Decided (Q d)) → (P : ℕ → Type 0) → ((n : ℕ) → Decided (P n)) → (ds : List Device) (a : ℕ) → is_source a ≡ false → Decided ((n : ℕ) × WeakPath ds a n × P n)
  dec_weak dec P dec_p ds a f =
      dec_map (λ t. leads_weak ds P a t.0 t.1 t.2) (λ t. weak_leads ds P f t.1.1 t.1.2 t.1.3 t.2)
      (dec_any (LeadsWeak ds P a) (λ d. dec_and (dec_keeper d.kind) (dec_and (dec d) (dec_or (side d.drain d.source) (side d.source d.drain)))) ds)
    where
      far : (y : ℕ) (b : Bool) → is_source y ≡ b → Decided ((is_source y ≡ false) × ((n : ℕ) × Reaches ds y n × P n))
      far y false e = dec_map (λ z. (e, z)) (λ z. z.1) (dec_reaches dec P dec_p ds y e)
      far y true e = inr (λ z. let k = z.0 in cc)

      side : (x y : ℕ) → Decided (WeakSide ds P a x y)
      side x y = dec_and (dec_bool (is_source x) false) (dec_and (dec_joined dec ds a x) (dec_or (dec_p y) (far y (is_source y) refl)))
