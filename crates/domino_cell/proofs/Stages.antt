-- A path from the top of a stage with taps that ends at a source goes through one way out, which is open.
use Rattle.std.specs.Prelude.{Contains, None, Option, Some, slice_get, ◌⊎◌}
use Rattle.std.specs.List.{AllByRecursion}
use Rattle.std.proofs.Common.{◌≡◌, ℕ, zero, suc, ◌+◌, ◌<◌, Bool, true, false, eqb, List, [], ◌∷◌, map, refl, sym, ◌∙◌, inl, inr, arith, add-zero, zero-add}
use Rattle.std.proofs.lemmas.Bool.Decides.{eqb_tells}
use Rattle.std.proofs.lemmas.List.Elements.{Contains-append_left, Contains-append_right, recursion_from_All}
use Rattle.dom_base.specs.declared.kind.Kind.{Kind}
use Rattle.dom_base.proofs.Lists.{AllByRecursion-append, AllByRecursion-both, AllByRecursion-contains, AllByRecursion-left, AllByRecursion-map, AllByRecursion-right, AllByRecursion-weaker, Contains-first, Contains-later, Contains-slice_get}
use Rattle.deck.specs.declared.device.Device.{Device}
use Rattle.deck.specs.Paths.{Ends}
use Rattle.deck.specs.NamedDevices.{NamedDevice, device_of}
use Rattle.deck.specs.Reach.{Reach}
use Rattle.deck.proofs.Reach.{Reach-kept}
use Rattle.sp_network.specs.Tree.{inner_count, joins}
use Rattle.domino_cell.specs.Spelling.{spell}
use Rattle.domino_cell.specs.Stage.{Branch, Inside, IsSpot, Spot, Top, stage}
use Rattle.domino_cell.specs.Tapped.{IsTapped, Tap, tap_branch, tap_card, tapped, ways}
use Rattle.domino_cell.specs.TreeColours.{IsApart, IsIn, IsOutside, Paints, painting}
use Rattle.domino_cell.proofs.Trees.{Paints-painting, Reach-spell, spell-ends, spell-kind}

-- what holds of the cards of each branch holds of those of the stage
pub each_branch : (F : NamedDevice ℕ → Type 0) (at : Spot → ℕ) (i : ℕ) (bs : List Branch)
    → ((j : ℕ) (b : Branch) → slice_get bs j ≡ Some b → AllByRecursion F (spell b.kind (λ k. at (Inside (i + j) k)) b.tree (at Top) b.supply 0))
    → AllByRecursion F (stage at i bs)
each_branch F at i [] h = tt
each_branch F at i (b ∷ bs) h =
    AllByRecursion-append F _ _ (rw add-zero at (h 0 b refl))
    (each_branch F at (i + 1) bs (λ j c e. rw (step_index i j) (h (suc j) c e)))
  where
    step_index : (i j : ℕ) → i + 1 + j ≡ i + suc j
    step_index i j = omega arith

-- Q is a property of devices, and g a test that the gates of devices with Q pass.
module _ (devices : List Device) (is_source : ℕ → Bool) (at : Spot → ℕ) (bs : List Branch) (taps : List Tap) (is : IsTapped devices is_source at bs taps)
    (Q : Device → Type 0) (g : Kind → ℕ → Bool) where
  -- a way that ends at y and is open, and a device of its kind with Q
  pub record Through (y : ℕ) : Type 0 where
    pub branch : Branch
    pub among : Contains (ways bs taps) branch
    pub ends : y ≡ branch.supply
    pub conducts : joins (g branch.kind) branch.tree ≡ true
    pub device : Device
    pub has : Q device
    pub of_kind : device.kind ≡ branch.kind

  IsSpot-inside : (i : ℕ) (b : Branch) → slice_get bs i ≡ Some b → (j : ℕ) → j < 0 + inner_count b.tree → IsSpot bs (Inside i j)
  IsSpot-inside i b e j lt = (b, e, omega arith)

  top_outside : (i : ℕ) (b : Branch) → slice_get bs i ≡ Some b → IsOutside (λ j. at (Inside i j)) 0 (inner_count b.tree) (at Top)
  top_outside i b e j le lt z = let w : Top ≡ Inside i j = is.apart Top (Inside i j) tt (IsSpot-inside i b e j lt) z in absurd (cc)

  inside_apart : (i : ℕ) (b : Branch) → slice_get bs i ≡ Some b → IsApart (λ j. at (Inside i j)) 0 (inner_count b.tree)
  inside_apart i b e j k a l c m z =
      let w : Inside i j ≡ Inside i k = is.apart (Inside i j) (Inside i k) (IsSpot-inside i b e j l) (IsSpot-inside i b e k m) z in cc

  not_spot : (s : ℕ) (a : Spot) → IsSpot bs a → is_source s ≡ true → s ≡ at a → ⊥
  not_spot s a i h e = let f : is_source s ≡ false = rw e (is.free a i) in cc

  supply_is : (i : ℕ) (b : Branch) → slice_get bs i ≡ Some b → is_source b.supply ≡ true
  supply_is i b e = AllByRecursion-contains (λ b. is_source b.supply ≡ true) bs b (AllByRecursion-left _ bs (map tap_branch taps) (recursion_from_All (λ b. is_source b.supply ≡ true) (ways bs taps) is.supplies)) (Contains-slice_get bs i b e)

  -- the colours before the inner nets of a branch have theirs: true everywhere, or at the top alone
  base : Bool → ℕ → Bool
  base true x = true
  base false x = eqb x (at Top)

  base-top : (v : Bool) → base v (at Top) ≡ true
  unfolding base
  base-top true = refl
  base-top false = elim (eqb_tells (at Top) (at Top)) [ inl z ↦ z.0 | inr z ↦ absurd (z.1 refl) ]

  base-supply : (v : Bool) (s : ℕ) → is_source s ≡ true → base v s ≡ v
  unfolding base
  base-supply true s h = refl
  base-supply false s h = elim (eqb_tells s (at Top)) [ inl z ↦ absurd (not_spot s Top tt h z.1) | inr z ↦ z.0 ]

  -- the colours of the nets of branch i
  colours : ℕ → Branch → ℕ → Bool
  colours i b = painting (g b.kind) (λ j. at (Inside i j)) b.tree (at Top) b.supply 0 (base (joins (g b.kind) b.tree))

  painted : (i : ℕ) (b : Branch) → slice_get bs i ≡ Some b
      → Paints (g b.kind) b.kind (λ j. at (Inside i j)) b.tree (at Top) b.supply 0 (base (joins (g b.kind) b.tree)) (colours i b)
  unfolding colours
  painted i b e =
      Paints-painting (g b.kind) b.kind (λ j. at (Inside i j)) b.tree (at Top) b.supply 0 (base (joins (g b.kind) b.tree))
      (inside_apart i b e) (top_outside i b e) (λ j le lt. not_spot b.supply (Inside i j) (IsSpot-inside i b e j lt) (supply_is i b e))
      (by (joins (g b.kind) b.tree) (base (joins (g b.kind) b.tree) (at Top)) (base (joins (g b.kind) b.tree) b.supply) (base-top _) (base-supply _ b.supply (supply_is i b e)))
    where
      by : (v x y : Bool) → x ≡ true → y ≡ v → (x ≡ y) ⊎ (v ≡ false)
      by true x y p q = inl (p ∙ sym q)
      by false x y p q = inr refl

  colour_of : ℕ → Option Branch → ℕ → Bool
  colour_of i None x = true
  colour_of i (Some b) x = colours i b x

  -- the colour of a spot
  colour : Spot → Bool
  colour Top = true
  colour (Inside i j) = colour_of i (slice_get bs i) (at (Inside i j))

  colour-inside : (i : ℕ) (b : Branch) → slice_get bs i ≡ Some b → (j : ℕ) → colour (Inside i j) ≡ colours i b (at (Inside i j))
  unfolding colour colour_of
  colour-inside i b e j = rw e refl

  -- a net of the stage with the colour true
  Lit : ℕ → Type 0
  Lit x = (a : Spot) × IsSpot bs a × (x ≡ at a) × (colour a ≡ true)

  Steps : Device → Type 0
  Steps d = (x y : ℕ) → Q d → Ends d x y → Lit x → Lit y ⊎ ((is_source y ≡ true) × Through y)

  steps_branch : ((d : Device) → Q d → g d.kind d.gate ≡ true) → (i : ℕ) (b : Branch) → slice_get bs i ≡ Some b
      → AllByRecursion (λ c. Steps (device_of c)) (spell b.kind (λ k. at (Inside i k)) b.tree (at Top) b.supply 0)
  unfolding Steps Lit colour
  steps_branch on i b e =
      AllByRecursion-weaker Known (λ c. Steps (device_of c)) (λ c k x y q f lit.
      let same : colours i b c.drain ≡ colours i b c.source = k.1.1 (rw k.1.0 at (on (device_of c) q)) in
      elim f [
        | inl z ↦ leave (device_of c) q k.1.0 y (rw (← z.1) k.0.1) (rw (← z.1) (sym same ∙ enter c.drain x z.0 k.0.0 lit))
        | inr z ↦ leave (device_of c) q k.1.0 y (rw (← z.1) k.0.0) (rw (← z.1) (same ∙ enter c.source x z.0 k.0.1 lit))
      ]) cards
      (AllByRecursion-both (λ c. In c.drain × In c.source) (λ c. (c.kind ≡ b.kind) × (g b.kind c.gate ≡ true → colours i b c.drain ≡ colours i b c.source)) cards (spell-ends b.kind (λ j. at (Inside i j)) b.tree (at Top) b.supply 0)
      (AllByRecursion-both (λ c. c.kind ≡ b.kind) (λ c. g b.kind c.gate ≡ true → colours i b c.drain ≡ colours i b c.source) cards (spell-kind b.kind (λ j. at (Inside i j)) b.tree (at Top) b.supply 0) p.painted))
    where
      cards : List (NamedDevice ℕ)
      cards = spell b.kind (λ k. at (Inside i k)) b.tree (at Top) b.supply 0

      p : Paints (g b.kind) b.kind (λ j. at (Inside i j)) b.tree (at Top) b.supply 0 (base (joins (g b.kind) b.tree)) (colours i b)
      p = painted i b e

      In : ℕ → Type 0
      In n = IsIn (λ j. at (Inside i j)) (at Top) b.supply 0 (inner_count b.tree) n

      Known : NamedDevice ℕ → Type 0
      Known c = (In c.drain × In c.source) × ((c.kind ≡ b.kind) × (g b.kind c.gate ≡ true → colours i b c.drain ≡ colours i b c.source))

      sup : is_source b.supply ≡ true
      sup = supply_is i b e

      -- the end that is a lit net has the colour true
      enter : (n x : ℕ) → n ≡ x → IsIn (λ j. at (Inside i j)) (at Top) b.supply 0 (inner_count b.tree) n → Lit x → colours i b n ≡ true
      enter n x z (inl w) lit = rw w (p.kept (at Top) (top_outside i b e) ∙ base-top (joins (g b.kind) b.tree))
      enter n x z (inr (inl w)) lit = absurd (not_spot b.supply lit.0 lit.1 sup (sym w ∙ (z ∙ lit.2)))
      enter n x z (inr (inr (j, le, lt, w))) lit =
          let a : Inside i j ≡ lit.0 = is.apart (Inside i j) lit.0 (IsSpot-inside i b e j lt) lit.1 (sym w ∙ (z ∙ lit.2)) in
          rw w (sym (colour-inside i b e j) ∙ (rw (← a) at lit.3))

      leave : (d : Device) → Q d → d.kind ≡ b.kind → (y : ℕ) → IsIn (λ j. at (Inside i j)) (at Top) b.supply 0 (inner_count b.tree) y
          → colours i b y ≡ true → Lit y ⊎ ((is_source y ≡ true) × Through y)
      leave d q k y (inl w) t = inl (Top, tt, w, refl)
      leave d q k y (inr (inl w)) t =
          inr (
            rw w sup,
            record {
              branch = b;
              among = Contains-append_left bs (map tap_branch taps) b (Contains-slice_get bs i b e);
              ends = w;
              device = d;
              has = q;
              of_kind = k;
              conducts =
                  sym (p.kept b.supply (λ j le lt. not_spot b.supply (Inside i j) (IsSpot-inside i b e j lt) sup) ∙ base-supply (joins (g b.kind) b.tree) b.supply sup)
                  ∙ (rw w at t);
            },
          )
      leave d q k y (inr (inr (j, le, lt, w))) t = inl (Inside i j, IsSpot-inside i b e j lt, w, colour-inside i b e j ∙ (rw w at t))

  tap_source : (t : Tap) → Contains taps t → is_source t.supply ≡ true
  tap_source t c =
      AllByRecursion-contains (λ t. is_source t.supply ≡ true) taps t
      (each_tap taps (AllByRecursion-right (λ b. is_source b.supply ≡ true) bs (map tap_branch taps) (recursion_from_All (λ b. is_source b.supply ≡ true) (ways bs taps) is.supplies))) c
    where
      each_tap : (ts : List Tap) → AllByRecursion (λ b. is_source b.supply ≡ true) (map tap_branch ts) → AllByRecursion (λ t. is_source t.supply ≡ true) ts
      each_tap [] h = tt
      each_tap (t ∷ ts) h = (h.0, each_tap ts h.1)

  Contains-tap : (ts : List Tap) (t : Tap) → Contains ts t → Contains (map tap_branch ts) (tap_branch t)
  Contains-tap ts t c = AllByRecursion-contains (λ t. Contains (map tap_branch ts) (tap_branch t)) ts t (each ts (λ b h. h)) c
    where
      each : (us : List Tap) → ((b : Branch) → Contains (map tap_branch us) b → Contains (map tap_branch ts) b) → AllByRecursion (λ t. Contains (map tap_branch ts) (tap_branch t)) us
      each [] f = tt
      each (u ∷ us) f = (f (tap_branch u) (Contains-first (tap_branch u) (map tap_branch us)), each us (λ b h. f b (Contains-later (tap_branch u) (map tap_branch us) b h)))

  -- a tap leads out of the stage
  step_tap : ((d : Device) → Q d → g d.kind d.gate ≡ true) → (t : Tap) → Contains taps t → Steps (device_of (tap_card at t))
  unfolding Steps Lit colour
  step_tap on t c x y q f lit =
      elim f [
        | inl z ↦ inr (
          rw (← z.1) (tap_source t c),
          record {
            branch = tap_branch t;
            among = Contains-append_right bs (map tap_branch taps) (tap_branch t) (Contains-tap taps t c);
            ends = sym z.1;
            conducts = on (device_of (tap_card at t)) q;
            device = device_of (tap_card at t);
            has = q;
            of_kind = refl;
          },
        )
        | inr z ↦ absurd (not_spot t.supply lit.0 lit.1 (tap_source t c) (z.0 ∙ lit.2))
      ]

  steps_taps : ((d : Device) → Q d → g d.kind d.gate ≡ true) → (ts : List Tap) → ((t : Tap) → Contains ts t → Contains taps t) → AllByRecursion (λ t. Steps (device_of (tap_card at t))) ts
  steps_taps on [] f = tt
  steps_taps on (t ∷ ts) f = (step_tap on t (f t (Contains-first t ts)), steps_taps on ts (λ u c. f u (Contains-later t ts u c)))

  -- a path from the top that ends at a source goes through a way to it
  pub through : ((d : Device) → Q d → Contains devices d) → ((d : Device) → Q d → g d.kind d.gate ≡ true)
      → (y : ℕ) → Reach Q is_source (at Top) y → is_source y ≡ true → Through y
  unfolding Steps Lit colour
  through of on y r s =
      elim (Reach-kept Lit Through
      (λ d a b q e lit. AllByRecursion-contains Steps _ d
      (AllByRecursion-map Steps device_of _ (AllByRecursion-append (λ c. Steps (device_of c)) (stage at 0 bs) (map (tap_card at) taps)
      (each_branch (λ c. Steps (device_of c)) at 0 bs (λ j b z. rw zero-add (steps_branch on j b z)))
      (AllByRecursion-map (λ c. Steps (device_of c)) (tap_card at) taps (steps_taps on taps (λ t c. c)))))
      (is.alone d lit.0 lit.1 (of d q) (elim e [ inl z ↦ inl (z.0 ∙ lit.2) | inr z ↦ inr (z.0 ∙ lit.2) ])) a b q e lit)
      (Top, tt, refl, refl) r) [
        | inl lit ↦ absurd (not_spot y lit.0 lit.1 s lit.2)
        | inr t ↦ t.1
      ]

  -- where a branch joins its ends, a path goes from the top to its supply
  pub goes : (i : ℕ) (b : Branch) → slice_get bs i ≡ Some b → ((d : Device) → Contains devices d → d.kind ≡ b.kind → g d.kind d.gate ≡ true → Q d)
      → joins (g b.kind) b.tree ≡ true → Reach Q is_source (at Top) b.supply
  goes i b e on h =
      Reach-spell Q is_source (g b.kind) b.kind (λ j. at (Inside i j)) b.tree (at Top) b.supply 0
      (λ j le lt. is.free (Inside i j) (IsSpot-inside i b e j lt))
      (AllByRecursion-weaker _ (λ c. g b.kind c.gate ≡ true → Q (device_of c)) (λ c k o. on (device_of c) k.0 k.1 (rw k.1 o)) _
      (AllByRecursion-both _ _ _ (rw zero-add at (branch_there bs 0 i b e (AllByRecursion-left _ (stage at 0 bs) (map (tap_card at) taps) (recursion_from_All (λ c. Contains devices (device_of c)) (tapped at bs taps) is.there)))) (spell-kind b.kind (λ j. at (Inside i j)) b.tree (at Top) b.supply 0))) h
    where
      branch_there : (cs : List Branch) (k i : ℕ) (b : Branch) → slice_get cs i ≡ Some b → AllByRecursion (λ c. Contains devices (device_of c)) (stage at k cs)
          → AllByRecursion (λ c. Contains devices (device_of c)) (spell b.kind (λ j. at (Inside (k + i) j)) b.tree (at Top) b.supply 0)
      branch_there [] k i b e h = absurd (cc)
      branch_there (c ∷ cs) k zero b e h = let z : c ≡ b = cc in rw (add-zero, ← z) (AllByRecursion-left _ _ _ h)
      branch_there (c ∷ cs) k (suc i) b e h = rw (shift k i) (branch_there cs (k + 1) i b e (AllByRecursion-right _ (spell c.kind (λ j. at (Inside k j)) c.tree (at Top) c.supply 0) _ h))
        where
          shift : (k i : ℕ) → k + suc i ≡ k + 1 + i
          shift k i = omega arith
