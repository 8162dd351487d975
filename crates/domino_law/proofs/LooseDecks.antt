-- The parts of a spelled deck are stages of it, and it has no other devices.
use Rattle.std.specs.List.{AllByRecursion}
use Rattle.std.specs.Prelude.{Contains, None, Option, Some, slice_get, ◌⊎◌}
use Rattle.std.proofs.Common.{Bool, List, [], arith, false, inl, inr, map, refl, subst, suc, sym, true, zero, zero-add, ℕ, ◌+◌, ◌<◌, ◌∙◌, ◌∷◌, ◌≡◌, ◌≤◌}
use Rattle.std.proofs.lemmas.Option.{same_Some}
use Rattle.std.proofs.lemmas.List.Elements.{All-contains_itself, All-from_recursion, Contains-append_left, Contains-append_right, recursion_from_All}
use Rattle.dom_base.specs.declared.kind.Kind.TheVariants.{N as nch}
use Rattle.dom_base.proofs.Lists.{AllByRecursion-append, AllByRecursion-contains, AllByRecursion-left, AllByRecursion-map, AllByRecursion-right, AllByRecursion-weaker, Contains-first, Contains-later, Contains-slice_get}
use Rattle.dom_base.proofs.Bools.{never}
use Rattle.deck.specs.Nets.{ends}
use Rattle.deck.specs.declared.device.Device.{Device}
use Rattle.deck.specs.NamedDevices.{NamedDevice, device_of}
use Rattle.sp_network.specs.Tree.{Leaf, Series, Tree, inner_count}
use Rattle.sp_network.proofs.TreeImages.{inner_count-map_tree}
use Rattle.domino_cell.specs.Stage.{Branch, Inside, IsSpot, Spot, Top, stage}
use Rattle.domino_cell.proofs.Stages.{each_branch}
use Rattle.domino_cell.specs.TreeColours.{IsIn}
use Rattle.domino_cell.proofs.Trees.{spell-ends}
use Rattle.switch_model.specs.LinksData.{LinksData, is_first}
use Rattle.switch_model.proofs.Searches.{first-false, first-true}
use Rattle.stage_law.specs.Precharged.{taps_from}
use Rattle.domino_cell.specs.Tapped.{IsTapped, Tap, tap_branch, tap_card, tapped, ways}
use Rattle.domino_law.specs.Branches.{HasBranches, clocked, dynamic, dynamic_taps, numbered, reset_branch, static_branches}
use Rattle.domino_law.specs.LooseDeck.{IsNet, IsSourceNet, IsSpotOf}
use Rattle.domino_law.specs.Nets.{At, Clock, Complement, Dynamic, Lm, Lmb, Ls, Lsb, Master, Net, Next, Output, Part, Sink, Slave, Vdd, Vss, gate_net, own, CellSide}
use Rattle.domino_law.specs.Shape.{DynamicStage, Shape, dynamic_nets, gate_tree}
use Rattle.domino_cell.specs.declared.style.Style.{Style}
use Rattle.domino_cell.specs.declared.style.Style.TheVariants.{Keeper as WithKeeper, Precharge as WithPrecharge}
use Rattle.domino_law.specs.Spelled.{IsSpelledDeck, SpelledIsLoose}
use Rattle.domino_law.proofs.Statics.{IsSeries, dual_inner, dynamic_series, gate_series, side_unique}
use Rattle.domino_law.proofs.Ways.{other_ways}
use Rattle.domino_law.proofs.DeckLists.{StagePart, deck_parts, part_devices, parts_devices}
use Rattle.domino_law.proofs.SpelledDecks.{listed, named_all}
use Rattle.domino_law.proofs.SpelledParts.{deck_devices_are}

-- a part has one list of branches
one_list : (s : Shape) (net : Net → ℕ) (part : Part) (bs cs : List Branch) (ts us : List Tap) → HasBranches s net part bs ts → HasBranches s net part cs us → (bs ≡ cs) × (ts ≡ us)
one_list s net (Dynamic k) bs cs ts us (c, e, z, z') (d, f, y, y') = let same : c ≡ d = side_unique s k c d e f in (z ∙ (rw same (sym y)), z' ∙ (rw same (sym y')))
one_list s net (Output k) bs cs ts us (c, e, z, z') (d, f, y, y') = let same : c ≡ d = same_Some _ _ (sym e ∙ f) in (z ∙ (rw same (sym y)), z' ∙ sym y')
one_list s net (Complement l) bs cs ts us (e, z, z') (f, y, y') = (z ∙ sym y, z' ∙ sym y')
one_list s net (Master j) bs cs ts us (b, e, z, z') (d, f, y, y') = (z ∙ sym y, z' ∙ sym y')
one_list s net (Slave j) bs cs ts us (b, e, z, z') (d, f, y, y') = let same : b ≡ d = same_Some _ _ (sym e ∙ f) in (z ∙ (rw same (sym y)), z' ∙ sym y')
one_list s net (Next j) bs cs ts us (b, e, z, z') (d, f, y, y') = let same : b ≡ d = same_Some _ _ (sym e ∙ f) in (z ∙ (rw same (sym y)), z' ∙ sym y')
one_list s net (Sink i) bs cs ts us (g, e, z, z') (d, f, y, y') = let same : g ≡ d = same_Some _ _ (sym e ∙ f) in (z ∙ (rw same (sym y)), z' ∙ sym y')

-- each branch of a part leads to a supply of the deck
supplied : (s : Shape) (net : Net → ℕ) (part : Part) (bs : List Branch) (taps : List Tap) → HasBranches s net part bs taps → AllByRecursion (λ b. (b.supply ≡ net Vdd) ⊎ (b.supply ≡ net Vss)) (ways bs taps)
supplied s net (Dynamic k) bs taps (c, e, z, y) = rw (z, y) (inr refl, (inl refl, other_ways net (λ b. (b.supply ≡ net Vdd) ⊎ (b.supply ≡ net Vss)) s.style k c (inl refl) (inl refl)))
supplied s net (Output k) bs taps (c, e, z, y) = rw (z, y) (inl refl, (inr refl, tt))
supplied s net (Complement l) bs taps (e, z, y) = rw (z, y) (inl refl, (inr refl, tt))
supplied s net (Master j) bs taps (b, e, z, y) = rw (z, y) (inl refl, (inr refl, tt))
supplied s net (Slave j) bs taps (b, e, z, y) = rw (z, y) (inl refl, (inr refl, reset b.init))
  where
    reset : (v : Bool) → AllByRecursion (λ b. (b.supply ≡ net Vdd) ⊎ (b.supply ≡ net Vss)) (reset_branch net v ∷ [])
    reset false = (inr refl, tt)
    reset true = (inl refl, tt)
supplied s net (Next j) bs taps (b, e, z, y) = rw (z, y) (inl refl, (inr refl, tt))
supplied s net (Sink i) bs taps (g, e, z, y) = rw (z, y) (inl refl, (inr refl, tt))

-- how many inner nets a branch takes
inner_of : Option Branch → ℕ
inner_of None = 0
inner_of (Some b) = inner_count b.tree

spot_count : (bs : List Branch) (i j : ℕ) → IsSpot bs (Inside i j) → j < inner_of (slice_get bs i)
unfolding inner_of
spot_count bs i j (b, e, l) = rw e l

below_zero : {X : Type 0} (j : ℕ) → j < 0 → X
below_zero j l = absurd (omega arith)

static_spot : (net : Net → ℕ) (t : Tree Net) → IsSeries t → (i j : ℕ) → IsSpot (static_branches net t) (Inside i j) → (i ≡ 1) × (j < inner_count t)
unfolding inner_of
static_spot net t series zero j h = below_zero j (rw (dual_inner net t series) at (spot_count (static_branches net t) 0 j h))
static_spot net t series (suc zero) j h = (refl, rw (inner_count-map_tree net t) at (spot_count (static_branches net t) 1 j h))
static_spot net t series (suc (suc i)) j h = below_zero j (spot_count (static_branches net t) (suc (suc i)) j h)

dynamic_spot : (style : Style) (net : Net → ℕ) (k : CellSide) (c : DynamicStage) (i j : ℕ) → IsSpot (dynamic style net k c) (Inside i j) → (i ≡ 0) × (j < 1 + inner_count c.tree)
unfolding inner_of
dynamic_spot style net k c zero j h = (refl, within j (inner_count (numbered net c.tree)) (inner_count-map_tree (λ g. net (gate_net g)) c.tree) (spot_count (dynamic style net k c) 0 j h))
  where
    within : (j n : ℕ) → n ≡ inner_count c.tree → j < 1 + (n + 0) → j < 1 + inner_count c.tree
    within j n e l = omega arith
dynamic_spot style net k c (suc zero) j h = below_zero j (spot_count (dynamic style net k c) 1 j h)
dynamic_spot WithKeeper net k c (suc (suc zero)) j h = below_zero j (spot_count (dynamic WithKeeper net k c) 2 j h)
dynamic_spot WithKeeper net k c (suc (suc (suc i))) j h = below_zero j (spot_count (dynamic WithKeeper net k c) (suc (suc (suc i))) j h)
dynamic_spot WithPrecharge net k c (suc (suc i)) j h = below_zero j (spot_count (dynamic WithPrecharge net k c) (suc (suc i)) j h)

one_inner : (j : ℕ) → j < 1 + (0 + 0) → j ≡ 0
one_inner j l = omega arith

clocked_spot : (net : Net → ℕ) (up down gate : Net) (more : List Branch) (i j : ℕ) → ((k : ℕ) → inner_of (slice_get more k) ≡ 0) → IsSpot (clocked net up down gate more) (Inside i j) → (i < 2) × (j ≡ 0)
unfolding inner_of
clocked_spot net up down gate more zero j none h = (omega arith, one_inner j (spot_count (clocked net up down gate more) 0 j h))
clocked_spot net up down gate more (suc zero) j none h = (omega arith, one_inner j (spot_count (clocked net up down gate more) 1 j h))
clocked_spot net up down gate more (suc (suc i)) j none h = below_zero j (rw (none i) at (spot_count (clocked net up down gate more) (suc (suc i)) j h))

nothing : (m : ℕ) → inner_of (slice_get [] m) ≡ 0
unfolding inner_of
nothing zero = refl
nothing (suc m) = refl

-- a spot of a part's branches is a spot of the part
pub spot_of : (s : Shape) (net : Net → ℕ) (part : Part) (bs : List Branch) (taps : List Tap) → HasBranches s net part bs taps → (spot : Spot) → IsSpot bs spot → IsSpotOf s part spot
unfolding inner_of
spot_of s net (Dynamic k) bs taps (c, e, z, y) Top h = (c, e)
spot_of s net (Dynamic k) bs taps (c, e, z, y) (Inside i j) h = let d = dynamic_spot s.style net k c i j (rw z at h) in (c, e, d.0, d.1)
spot_of s net (Output k) bs taps (c, e, z, y) Top h = (c, e)
spot_of s net (Output k) bs taps (c, e, z, y) (Inside i j) h = let d = static_spot net (dynamic_nets k c.right) (dynamic_series k c.right) i j (rw z at h) in (c, e, d.0, d.1)
spot_of s net (Complement l) bs taps (e, z, y) Top h = e
spot_of s net (Complement l) bs taps (e, z, y) (Inside i j) h = let d = static_spot net (Leaf (own l)) tt i j (rw z at h) in below_zero j d.1
spot_of s net (Master k) bs taps (b, e, z, y) Top h = (b, e)
spot_of s net (Master k) bs taps (b, e, z, y) (Inside i j) h = let d = clocked_spot net Lmb Lm (At (Next k) Top) [] i j nothing (rw z at h) in ((b, e), d.0, d.1)
spot_of s net (Slave k) bs taps (b, e, z, y) Top h = (b, e)
spot_of s net (Slave k) bs taps (b, e, z, y) (Inside i j) h = let d = clocked_spot net Lsb Ls (At (Master k) Top) (reset_branch net b.init ∷ []) i j (reset b.init) (rw z at h) in ((b, e), d.0, d.1)
  where
    reset : (v : Bool) (m : ℕ) → inner_of (slice_get (reset_branch net v ∷ []) m) ≡ 0
    reset false zero = refl
    reset true zero = refl
    reset v (suc m) = refl
spot_of s net (Next k) bs taps (b, e, z, y) Top h = (b, e)
spot_of s net (Next k) bs taps (b, e, z, y) (Inside i j) h = let d = static_spot net (gate_tree s b.next) (gate_series s b.next) i j (rw z at h) in (b, e, d.0, d.1)
spot_of s net (Sink k) bs taps (g, e, z, y) Top h = (g, e)
spot_of s net (Sink k) bs taps (g, e, z, y) (Inside i j) h = let d = static_spot net (gate_tree s g) (gate_series s g) i j (rw z at h) in (g, e, d.0, d.1)

module _ (links : LinksData) (net : Net → ℕ) (s : Shape) (deck : IsSpelledDeck links net s) where
  -- a device of a part
  Owned : Device → Type 0
  Owned d = (part : Part) × (bs : List Branch) × (taps : List Tap) × HasBranches s net part bs taps × Contains (map device_of (tapped (λ a. net (At part a)) bs taps)) d

  owned_by : (ps : List StagePart) → AllByRecursion (λ p. HasBranches s net p.part p.branches p.taps) ps → AllByRecursion Owned (parts_devices net ps)
  unfolding Owned
  owned_by [] h = tt
  owned_by (p ∷ ps) h =
      AllByRecursion-append _ (part_devices net p) _
      (recursion_from_All _ (part_devices net p) (λ i d e. (p.part, p.branches, p.taps, h.0, All-contains_itself (part_devices net p) i d e)))
      (owned_by ps h.1)

  owned : (d : Device) → Contains links.devices d → Owned d
  owned d c = AllByRecursion-contains Owned (parts_devices net (deck_parts net s)) d (owned_by (deck_parts net s) (named_all s net)) ((deck_devices_are net s).to d (rw deck.devices_are at c))

  -- the devices of a part are there
  there_by : (ps : List StagePart) (p : StagePart) → Contains ps p → (d : Device) → Contains (part_devices net p) d → Contains (parts_devices net ps) d
  there_by ps p c = AllByRecursion-contains (λ p. (d : Device) → Contains (part_devices net p) d → Contains (parts_devices net ps) d) ps p (each ps) c
    where
      each : (ps : List StagePart) → AllByRecursion (λ p. (d : Device) → Contains (part_devices net p) d → Contains (parts_devices net ps) d) ps
      each [] = tt
      each (q ∷ qs) = (
        (λ d c. Contains-append_left (part_devices net q) (parts_devices net qs) d c),
        AllByRecursion-weaker _ (λ p. (d : Device) → Contains (part_devices net p) d → Contains (parts_devices net (q ∷ qs)) d)
            (λ p f d c. Contains-append_right (part_devices net q) (parts_devices net qs) d (f d c)) qs (each qs),
      )

  free : (part : Part) (spot : Spot) → IsNet s (At part spot) → is_first links.sources (net (At part spot)) ≡ false
  free part spot i = first-false links.sources (net (At part spot)) (deck.others part spot i).0

  is_supply : (a : Net) → IsSourceNet s a → is_first links.sources (net a) ≡ true
  is_supply a i = first-true links.sources (net a) (deck.sources a i)

  -- an end of a device of a part: one of its nets, or a supply
  IsPartEnd : Part → List Branch → ℕ → Type 0
  IsPartEnd part bs x = ((spot : Spot) × IsSpot bs spot × (x ≡ net (At part spot))) ⊎ (is_first links.sources x ≡ true)

  part_ends : (part : Part) (bs : List Branch) (taps : List Tap) → HasBranches s net part bs taps → AllByRecursion (λ t. IsSpot bs t.spot) taps
      → AllByRecursion (λ d. IsPartEnd part bs d.drain × IsPartEnd part bs d.source) (map device_of (tapped (λ a. net (At part a)) bs taps))
  unfolding IsPartEnd
  part_ends part bs taps h spots =
      AllByRecursion-map (λ d. IsPartEnd part bs d.drain × IsPartEnd part bs d.source) device_of (tapped (λ a. net (At part a)) bs taps)
      (AllByRecursion-append (λ c. IsPartEnd part bs c.drain × IsPartEnd part bs c.source) (stage (λ a. net (At part a)) 0 bs) (map (tap_card (λ a. net (At part a))) taps)
      (each_branch (λ c. IsPartEnd part bs c.drain × IsPartEnd part bs c.source) (λ a. net (At part a)) 0 bs
      (λ i b e. rw zero-add (AllByRecursion-weaker _ (λ c. IsPartEnd part bs c.drain × IsPartEnd part bs c.source) (λ c k. (end i b e c.drain k.0, end i b e c.source k.1)) _
      (spell-ends b.kind (λ j. net (At part (Inside i j))) b.tree (net (At part Top)) b.supply 0))))
      (AllByRecursion-map (λ c. IsPartEnd part bs c.drain × IsPartEnd part bs c.source) (tap_card (λ a. net (At part a))) taps
      (tap_ends taps spots (AllByRecursion-right (λ b. (b.supply ≡ net Vdd) ⊎ (b.supply ≡ net Vss)) bs (map tap_branch taps) (supplied s net part bs taps h)))))
    where
      by_supply : (x : ℕ) → (x ≡ net Vdd) ⊎ (x ≡ net Vss) → is_first links.sources x ≡ true
      by_supply x (inl z) = rw z (is_supply Vdd tt)
      by_supply x (inr z) = rw z (is_supply Vss tt)

      tap_ends : (ts : List Tap) → AllByRecursion (λ t. IsSpot bs t.spot) ts → AllByRecursion (λ b. (b.supply ≡ net Vdd) ⊎ (b.supply ≡ net Vss)) (map tap_branch ts)
          → AllByRecursion (λ t. IsPartEnd part bs (net (At part t.spot)) × IsPartEnd part bs t.supply) ts
      tap_ends [] i k = tt
      tap_ends (t ∷ ts) i k = ((inl (t.spot, i.0, refl), inr (by_supply t.supply k.0)), tap_ends ts i.1 k.1)

      end : (i : ℕ) (b : Branch) → slice_get bs i ≡ Some b → (x : ℕ) → IsIn (λ j. net (At part (Inside i j))) (net (At part Top)) b.supply 0 (inner_count b.tree) x → IsPartEnd part bs x
      end i b e x (inl z) = inl (Top, tt, z)
      end i b e x (inr (inl z)) =
          inr (rw z (by_supply b.supply (AllByRecursion-contains (λ b. (b.supply ≡ net Vdd) ⊎ (b.supply ≡ net Vss)) bs b (AllByRecursion-left _ bs (map tap_branch taps) (supplied s net part bs taps h)) (Contains-slice_get bs i b e))))
      end i b e x (inr (inr (j, l, m, z))) = inl (Inside i j, (b, e, omega arith), z)

  -- the taps of a part are at its spots
  tap_spots : (part : Part) (bs : List Branch) (taps : List Tap) → HasBranches s net part bs taps → AllByRecursion (λ t. IsSpot bs t.spot) taps
  tap_spots (Dynamic k) bs taps (c, e, z, y) = rw (z, y) (by s.style)
    where
      each : (i n : ℕ) → i + n ≤ inner_count (numbered net c.tree) → AllByRecursion (λ t. IsSpot (dynamic WithPrecharge net k c) t.spot) (taps_from (net Vdd) (net (Clock c.clock)) i n)
      each i zero l = tt
      each i (suc n) l =
          ((record { kind = nch; tree = Series (numbered net c.tree) (Leaf (net (Clock c.clock))); supply = net Vss }, refl, omega arith), each (i + 1) n (omega arith))

      by : (style : Style) → AllByRecursion (λ t. IsSpot (dynamic style net k c) t.spot) (dynamic_taps style net c)
      by WithKeeper = tt
      by WithPrecharge = each 0 (inner_count (numbered net c.tree)) (omega arith)
  tap_spots (Output k) bs taps (c, e, z, y) = rw y tt
  tap_spots (Complement l) bs taps (e, z, y) = rw y tt
  tap_spots (Master j) bs taps (b, e, z, y) = rw y tt
  tap_spots (Slave j) bs taps (b, e, z, y) = rw y tt
  tap_spots (Next j) bs taps (b, e, z, y) = rw y tt
  tap_spots (Sink i) bs taps (g, e, z, y) = rw y tt

  pub part_is_stage : (part : Part) (bs : List Branch) (taps : List Tap) → HasBranches s net part bs taps → IsTapped links.devices (is_first links.sources) (λ a. net (At part a)) bs taps
  unfolding Owned IsPartEnd
  part_is_stage part bs taps h =
      record {
        apart = λ a b i j e. let z : At part a ≡ At part b = deck.apart (At part a) (At part b) (spot_of s net part bs taps h a i) (spot_of s net part bs taps h b j) e in cc;
        free = λ a i. free part a (spot_of s net part bs taps h a i);
        spots = All-from_recursion _ taps (tap_spots part bs taps h);
        supplies =
            All-from_recursion _ (ways bs taps)
            (AllByRecursion-weaker _ (λ b. is_first links.sources b.supply ≡ true) (λ b k. elim k [ inl z ↦ rw z (is_supply Vdd tt) | inr z ↦ rw z (is_supply Vss tt) ]) (ways bs taps) (supplied s net part bs taps h));
        there = (λ i c e. rw deck.devices_are ((deck_devices_are net s).from _ (there_by (deck_parts net s) (record { part = part; branches = bs; taps = taps }) (listed net s part bs taps h) _ (mapped cards _ (All-contains_itself cards i c e)))));
        alone = λ d a i c e. let w = owned d c in mine d a i e w.0 w.1 w.2 w.3 w.4 (AllByRecursion-contains _ (map device_of (tapped (λ x. net (At w.0 x)) w.1 w.2)) d (part_ends w.0 w.1 w.2 w.3 (tap_spots w.0 w.1 w.2 w.3)) w.4);
      }
    where
      cards : List (NamedDevice ℕ)
      cards = tapped (λ a. net (At part a)) bs taps

      mapped : (xs : List (NamedDevice ℕ)) (x : NamedDevice ℕ) → Contains xs x → Contains (map device_of xs) (device_of x)
      mapped xs x c = AllByRecursion-contains (λ y. Contains (map device_of xs) (device_of y)) xs x (each xs) c
        where
          each : (zs : List (NamedDevice ℕ)) → AllByRecursion (λ y. Contains (map device_of zs) (device_of y)) zs
          each [] = tt
          each (z ∷ zs) = (Contains-first (device_of z) (map device_of zs), AllByRecursion-weaker _ (λ y. Contains (map device_of (z ∷ zs)) (device_of y)) (λ y k. Contains-later (device_of z) (map device_of zs) (device_of y) k) zs (each zs))

      -- the end that is the spot's net is a net of the same part
      touch : (q : Part) (cs : List Branch) (us : List Tap) (k : HasBranches s net q cs us) (d : Device) (a : Spot) (i : IsSpot bs a) (x : ℕ) → x ≡ net (At part a) → IsPartEnd q cs x
          → Contains (map device_of (tapped (λ y. net (At q y)) cs us)) d → Contains (map device_of (tapped (λ y. net (At part y)) bs taps)) d
      touch q cs us k d a i x z (inr w) m = absurd (never {b = is_first links.sources (net (At part a))} (rw z at w) (free part a (spot_of s net part bs taps h a i)))
      touch q cs us k d a i x z (inl (spot, j, w)) m =
          let y : At q spot ≡ At part a = deck.apart (At q spot) (At part a) (spot_of s net q cs us k spot j) (spot_of s net part bs taps h a i) (sym w ∙ z) in
          let p : q ≡ part = cc in
          same q cs us k p m
        where
          listed_as : (cs' : List Branch) (us' : List Tap) → (bs ≡ cs') × (taps ≡ us') → Contains (map device_of (tapped (λ y. net (At part y)) cs' us')) d → Contains (map device_of (tapped (λ y. net (At part y)) bs taps)) d
          listed_as cs' us' l m =
              subst (λ bs. Contains (map device_of (tapped (λ y. net (At part y)) bs taps)) d) (sym l.0) (subst (λ ts. Contains (map device_of (tapped (λ y. net (At part y)) cs' ts)) d) (sym l.1) m)

          same : (q : Part) (cs : List Branch) (us : List Tap) → HasBranches s net q cs us → q ≡ part → Contains (map device_of (tapped (λ y. net (At q y)) cs us)) d → Contains (map device_of (tapped (λ y. net (At part y)) bs taps)) d
          same q cs us k p m =
              listed_as cs us (one_list s net part bs cs taps us h (subst (λ r. HasBranches s net r cs us) p k)) (subst (λ r. Contains (map device_of (tapped (λ y. net (At r y)) cs us)) d) p m)

      mine : (d : Device) (a : Spot) → IsSpot bs a → (d.drain ≡ net (At part a)) ⊎ (d.source ≡ net (At part a)) → (q : Part) (cs : List Branch) (us : List Tap) → HasBranches s net q cs us
          → Contains (map device_of (tapped (λ y. net (At q y)) cs us)) d → IsPartEnd q cs d.drain × IsPartEnd q cs d.source
          → Contains (map device_of (tapped (λ y. net (At part y)) bs taps)) d
      mine d a i (inl z) q cs us k m ends = touch q cs us k d a i d.drain z ends.0 m
      mine d a i (inr z) q cs us k m ends = touch q cs us k d a i d.source z ends.1 m

pub spelled_is_loose : SpelledIsLoose
unfolding Owned
spelled_is_loose links net s deck =
    record {
      deck = record {
        shape = deck.shape;
        apart = deck.apart;
        sources = is_supply links net s deck;
        stages = part_is_stage links net s deck;
        whole = owned links net s deck;
      };
      in_range = λ part a i. (deck.others part a i).1;
    }
