-- Paths in a circuit that holds the dynamic stage of a domino cell.
use Rattle.std.proofs.Common.{◌≡◌, ℕ, zero, suc, ◌+◌, ◌<◌, Bool, true, false, cond, eqb, List, [], ◌∷◌, ◌++◌, map, refl, sym, ap, subst, ◌∙◌, inl, inr, arith}
use Rattle.std.specs.Prelude.{◌⊎◌, ◌↔◌, All, Contains}
use Rattle.std.specs.List.{AllByRecursion}
use Rattle.std.proofs.lemmas.Bool.Decides.{eqb_tells}
use Rattle.std.proofs.lemmas.List.{map-append}
use Rattle.std.proofs.lemmas.List.Elements.{All-from_recursion, recursion_from_All}
use Rattle.dom_base.specs.Conduction.{conduction}
use Rattle.dom_base.specs.declared.kind.Kind.{Kind}
use Rattle.dom_base.specs.declared.kind.Kind.TheVariants.{N as nch, P as pch, Keep}
use Rattle.dom_base.specs.declared.tri.Tri.{Tri}
use Rattle.deck.specs.declared.device.Device.{Device}
use Rattle.deck.specs.Paths.{Ends}
use Rattle.deck.specs.Switches.{value_of}
use Rattle.deck.specs.NamedDevices.{NamedDevice, device_of}
use Rattle.domino_cell.specs.Cell.{CellNets, IsStageNet}
use Rattle.domino_cell.specs.HeldCells.{IsDynamicStage}
use Rattle.domino_cell.specs.declared.style.Style.{Style}
use Rattle.domino_cell.specs.StyledCells.{behind_precharge, pull_down_cards, styled_stage}
use Rattle.domino_cell.specs.Stage.{Spot, Top, Inside, IsSpot, Branch}
use Rattle.domino_cell.specs.Tapped.{IsTapped, Tap, tap_branch, ways}
use Rattle.sp_network.specs.Tree.{Tree, inner_count, joins, tree_conduction}
use Rattle.domino_cell.specs.Spelling.{spell}
use Rattle.dom_base.proofs.Bools.{never}
use Rattle.dom_base.proofs.Lists.{AllByRecursion-append, AllByRecursion-both, AllByRecursion-contains, AllByRecursion-left, AllByRecursion-map, AllByRecursion-right, AllByRecursion-weaker}
use Rattle.deck.specs.Reach.{Reach}
use Rattle.deck.proofs.Reach.{Reach-kept}
use Rattle.domino_cell.proofs.CellTaps.{Contains-turned, behind_to_vdd, cell_spots, cell_taps, pull_down, tapped-cell, taps_at_spots, taps_to_vdd, to_vdd}
use Rattle.domino_cell.proofs.Stages.{goes, through}
use Rattle.domino_cell.specs.Steps.{IsStep, IsStrongStep}
use Rattle.sp_network.specs.Known.{IsTest}
use Rattle.sp_network.proofs.TreeTests.{joins-conduction}
use Rattle.domino_cell.specs.TreeColours.{IsIn, IsOutside, Paints, painting}
use Rattle.domino_cell.proofs.Trees.{and_true, Paints-painting, Reach-spell, spell-ends, spell-kind}

module _ (style : Style) (devices : List Device) (is_source : ℕ → Bool) (nets : CellNets ℕ) (tree : Tree ℕ) (is : IsDynamicStage style devices is_source nets tree) where
  abbrev branches : List Branch
  branches = pull_down nets tree ∷ []

  abbrev taps : List Tap
  taps = cell_taps style nets (inner_count tree)

  -- the inner nets of the branch are those of the tree and the foot net
  IsSpot-cell : (i j : ℕ) → IsSpot branches (Inside i j) → (i ≡ 0) × (j < 1 + inner_count tree)
  IsSpot-cell zero j (b, e, lt) =
      let z : pull_down nets tree ≡ b = cc in
      (refl, some (inner_count tree) (inner_count b.tree) (ap (λ b. inner_count b.tree) z) lt)
    where
      some : (n m : ℕ) → 1 + (n + 0) ≡ m → j < m → j < 1 + n
      some n m p q = omega arith
  IsSpot-cell (suc i) j (b, e, lt) = absurd (cc)

  spot_net : (a : Spot) → IsSpot branches a → IsStageNet nets tree (cell_spots nets a)
  spot_net Top h = inl refl
  spot_net (Inside i zero) h = inr (inl refl)
  spot_net (Inside i (suc j)) h = let k = IsSpot-cell i (suc j) h in inr (inr (j, omega arith, refl))

  spots_apart : (a b : Spot) → IsSpot branches a → IsSpot branches b → cell_spots nets a ≡ cell_spots nets b → a ≡ b
  spots_apart Top Top ha hb e = refl
  spots_apart Top (Inside i zero) ha hb e = absurd (is.foot_apart e)
  spots_apart Top (Inside i (suc j)) ha hb e = let k = IsSpot-cell i (suc j) hb in absurd ((is.inner_apart j (omega arith)).0 (sym e))
  spots_apart (Inside i zero) Top ha hb e = absurd (is.foot_apart (sym e))
  spots_apart (Inside i (suc j)) Top ha hb e = let k = IsSpot-cell i (suc j) ha in absurd ((is.inner_apart j (omega arith)).0 e)
  spots_apart (Inside i zero) (Inside l zero) ha hb e = rw ((IsSpot-cell i 0 ha).0, (IsSpot-cell l 0 hb).0) refl
  spots_apart (Inside i zero) (Inside l (suc j)) ha hb e = let k = IsSpot-cell l (suc j) hb in absurd ((is.inner_apart j (omega arith)).1 (sym e))
  spots_apart (Inside i (suc j)) (Inside l zero) ha hb e = let k = IsSpot-cell i (suc j) ha in absurd ((is.inner_apart j (omega arith)).1 e)
  spots_apart (Inside i (suc j)) (Inside l (suc m)) ha hb e =
      let p = IsSpot-cell i (suc j) ha in
      let q = IsSpot-cell l (suc m) hb in
      let r : j ≡ m = is.inners_apart j m (omega arith) (omega arith) e in
      rw (p.0, q.0, r) refl

  -- the cards of the dynamic stage stand
  stage_there : AllByRecursion (λ c. Contains devices (device_of c)) (styled_stage style nets tree)
  stage_there = recursion_from_All (λ (c : NamedDevice ℕ). Contains devices (device_of c)) (styled_stage style nets tree) is.there

  -- its devices: those towards vdd, and those towards ground
  stage_devices : map device_of (styled_stage style nets tree) ≡ map device_of (to_vdd style nets tree) ++ map device_of (pull_down_cards nets tree)
  stage_devices = map-append device_of (to_vdd style nets tree) (pull_down_cards nets tree)

  -- the dynamic stage of a cell is a stage of the circuit with these taps
  IsTapped-cell : IsTapped devices is_source (cell_spots nets) branches taps
  IsTapped-cell =
      record {
        apart = spots_apart;
        free = λ a h. is.free (cell_spots nets a) (spot_net a h);
        spots = All-from_recursion (λ t. IsSpot branches t.spot) taps (taps_at_spots style nets tree);
        supplies = All-from_recursion (λ b. is_source b.supply ≡ true) (ways branches taps) (is.vss_is, to_sources);
        there = subst (All There) (sym (tapped-cell style nets tree)) (All-from_recursion There (pull_down_cards nets tree ++ to_vdd style nets tree) turned);
        alone = λ d a h c e.
            subst (λ cs. Contains (map device_of cs) d) (sym (tapped-cell style nets tree))
            (subst (λ ds. Contains ds d) (sym (map-append device_of (pull_down_cards nets tree) (to_vdd style nets tree)))
            (Contains-turned (map device_of (to_vdd style nets tree)) (map device_of (pull_down_cards nets tree)) d
            (subst (λ ds. Contains ds d) stage_devices (is.alone d (cell_spots nets a) c (spot_net a h) e))));
      }
    where
      There : NamedDevice ℕ → Type 0
      There c = Contains devices (device_of c)

      to_sources : AllByRecursion (λ b. is_source b.supply ≡ true) (map tap_branch taps)
      to_sources =
          AllByRecursion-map (λ b. is_source b.supply ≡ true) tap_branch taps
          (AllByRecursion-weaker (λ t. t.supply ≡ nets.vdd) (λ t. is_source t.supply ≡ true) (λ t e. rw e is.vdd_is) taps (taps_to_vdd style nets (inner_count tree)))

      turned : AllByRecursion There (pull_down_cards nets tree ++ to_vdd style nets tree)
      turned =
          AllByRecursion-append There (pull_down_cards nets tree) (to_vdd style nets tree)
          (AllByRecursion-right There (to_vdd style nets tree) (pull_down_cards nets tree) stage_there)
          (AllByRecursion-left There (to_vdd style nets tree) (pull_down_cards nets tree) stage_there)

  module _ (values : List Tri) (test : Tri → Bool) (t : IsTest test) where
    -- a path from the dynamic net to ground, by devices that all pass the test, goes through the clock and the tree
    ground_through : (Q : Device → Type 0) → ((d : Device) → Q d → Contains devices d)
        → ((d : Device) → Q d → test (conduction d.kind (value_of values d.gate)) ≡ true) → Reach Q is_source nets.dynamic nets.vss
        → (test (value_of values nets.clock) ≡ true) × (test (tree_conduction nch (value_of values) tree) ≡ true)
    ground_through Q of pass r =
        let w = through devices is_source (cell_spots nets) branches taps IsTapped-cell Q (λ kind gate. test (conduction kind (value_of values gate))) of pass nets.vss r is.vss_is in
        AllByRecursion-contains Leads (ways branches taps) w.branch (pulls, none) w.among w.ends w.conducts
      where
        -- where the branch leads to ground and conducts, the clock and the tree do
        Leads : Branch → Type 0
        Leads b =
            nets.vss ≡ b.supply → joins (λ gate. test (conduction b.kind (value_of values gate))) b.tree ≡ true
            → (test (value_of values nets.clock) ≡ true) × (test (tree_conduction nch (value_of values) tree) ≡ true)

        pulls : Leads (pull_down nets tree)
        pulls e h =
            let k = and_true (joins (λ gate. test (value_of values gate)) tree) (test (value_of values nets.clock)) h in
            (k.1, joins-conduction test t nch (value_of values) tree ∙ k.0)

        none : AllByRecursion Leads (map tap_branch taps)
        none =
            AllByRecursion-map Leads tap_branch taps
            (AllByRecursion-weaker (λ t. t.supply ≡ nets.vdd) (λ t. Leads (tap_branch t)) (λ t e z h. absurd (is.supplies (sym (z ∙ e)))) taps
            (taps_to_vdd style nets (inner_count tree)))

    pub reaches_ground : Reach (IsStep devices test values) is_source nets.dynamic nets.vss
        → (test (value_of values nets.clock) ≡ true) × (test (tree_conduction nch (value_of values) tree) ≡ true)
    reaches_ground = ground_through (IsStep devices test values) (λ d q. q.of) (λ d q. q.pass)

    -- by devices that pass the test, a path goes from the dynamic net to ground exactly where the clock and the tree pass it
    pub pulls_down : Reach (IsStrongStep devices test values) is_source nets.dynamic nets.vss
        ↔ ((test (value_of values nets.clock) ≡ true) × (test (tree_conduction nch (value_of values) tree) ≡ true))
    pulls_down = (from, to)
      where
        g : Kind → ℕ → Bool
        g kind gate = test (conduction kind (value_of values gate))

        same : test (tree_conduction nch (value_of values) tree) ≡ joins (λ gate. test (value_of values gate)) tree
        same = joins-conduction test t nch (value_of values) tree

        from : Reach (IsStrongStep devices test values) is_source nets.dynamic nets.vss
            → (test (value_of values nets.clock) ≡ true) × (test (tree_conduction nch (value_of values) tree) ≡ true)
        from = ground_through (IsStrongStep devices test values) (λ d q. q.of) (λ d q. q.pass)

        to : (test (value_of values nets.clock) ≡ true) × (test (tree_conduction nch (value_of values) tree) ≡ true)
            → Reach (IsStrongStep devices test values) is_source nets.dynamic nets.vss
        to h =
            goes devices is_source (cell_spots nets) branches taps IsTapped-cell (IsStrongStep devices test values) g 0 (pull_down nets tree) refl
            (λ d c k o. record { of = c; pass = o; strong = λ z. no_keeper (sym k ∙ z) })
            (both_true (joins (λ gate. test (value_of values gate)) tree) (test (value_of values nets.clock)) (sym same ∙ h.1) h.0)
          where
            no_keeper : nch ≡ Keep → ⊥
            no_keeper z = cc

            both_true : (a b : Bool) → a ≡ true → b ≡ true → cond a b false ≡ true
            both_true a b p q = rw (p, q) refl

    -- a path from the dynamic net to the foot net, by devices that all pass the test, goes through the tree
    foot_through : (Q : Device → Type 0) → ((d : Device) → Q d → Contains devices d)
        → ((d : Device) → Q d → test (conduction d.kind (value_of values d.gate)) ≡ true)
        → Reach Q is_source nets.dynamic nets.foot → test (tree_conduction nch (value_of values) tree) ≡ true
    foot_through Q of pass r = by (joins g tree) refl
      where
        g : ℕ → Bool
        g gate = test (value_of values gate)

        same : test (tree_conduction nch (value_of values) tree) ≡ joins g tree
        same = joins-conduction test t nch (value_of values) tree

        cards : List (NamedDevice ℕ)
        cards = spell nch nets.inner tree nets.dynamic nets.foot 0

        -- the colours in which the dynamic net alone is true, and then the inner nets of the tree
        first : ℕ → Bool
        first x = eqb x nets.dynamic

        colour : ℕ → Bool
        colour = painting g nets.inner tree nets.dynamic nets.foot 0 first

        -- a net of the dynamic stage with the colour true
        Lit : ℕ → Type 0
        Lit x = IsStageNet nets tree x × (colour x ≡ true)

        Steps : Device → Type 0
        Steps d = (x y : ℕ) → Q d → Ends d x y → Lit x → Lit y ⊎ ((is_source y ≡ true) × Unit {0})

        -- a device to a supply leads to a source
        steps_supply : (d : Device) → is_source d.source ≡ true → Steps d
        steps_supply d s x y q e lit =
            elim e [
              | inl z ↦ inr (rw (← z.1) s, tt)
              | inr z ↦ absurd (never {b = is_source x} (rw (← z.0) s) (is.free x lit.0))
            ]

        stage_net : (x : ℕ) → IsIn nets.inner nets.dynamic nets.foot 0 (inner_count tree) x → IsStageNet nets tree x
        stage_net x (inl e) = inl e
        stage_net x (inr (inl e)) = inr (inl e)
        stage_net x (inr (inr (j, a, b, e))) = inr (inr (j, omega arith, e))

        dynamic_outside : IsOutside nets.inner 0 (inner_count tree) nets.dynamic
        dynamic_outside j le lt e = (is.inner_apart j (omega arith)).0 (sym e)

        foot_outside : IsOutside nets.inner 0 (inner_count tree) nets.foot
        foot_outside j le lt e = (is.inner_apart j (omega arith)).1 (sym e)

        first-dynamic : first nets.dynamic ≡ true
        first-dynamic = elim (eqb_tells nets.dynamic nets.dynamic) [ inl z ↦ z.0 | inr z ↦ absurd (z.1 refl) ]

        first-foot : first nets.foot ≡ false
        first-foot = elim (eqb_tells nets.foot nets.dynamic) [ inl z ↦ absurd (is.foot_apart (sym z.1)) | inr z ↦ z.0 ]

        -- in a tree that does not join its ends no path leaves the nets with the colour true
        none : joins g tree ≡ false → ⊥
        none h =
            elim (Reach-kept Lit (λ y. Unit {0})
            (λ d a b q e lit. AllByRecursion-contains Steps (map device_of (styled_stage style nets tree)) d each
            (is.alone d a (of d q) lit.0 (elim e [ inl z ↦ inl z.0 | inr z ↦ inr z.0 ])) a b q e lit)
            (inl refl, p.kept nets.dynamic dynamic_outside ∙ first-dynamic) r) [
              | inl lit ↦ never {b = colour nets.foot} lit.1 (p.kept nets.foot foot_outside ∙ first-foot)
              | inr z ↦ never {b = is_source nets.foot} z.0 (is.free nets.foot (inr (inl refl)))
            ]
          where
            p : Paints g nch nets.inner tree nets.dynamic nets.foot 0 first colour
            p =
                Paints-painting g nch nets.inner tree nets.dynamic nets.foot 0 first
                (λ i j a b d e z. is.inners_apart i j (omega arith) (omega arith) z) dynamic_outside foot_outside (inr h)

            In : ℕ → Type 0
            In x = IsIn nets.inner nets.dynamic nets.foot 0 (inner_count tree) x

            IsSame : NamedDevice ℕ → Type 0
            IsSame c = g c.gate ≡ true → colour c.drain ≡ colour c.source

            steps_card : (c : NamedDevice ℕ) → (In c.drain × In c.source) × ((c.kind ≡ nch) × IsSame c) → Steps (device_of c)
            steps_card c k x y q e lit =
                let passed : test (conduction c.kind (value_of values c.gate)) ≡ true = pass (device_of c) q in
                let alike : colour c.drain ≡ colour c.source = k.1.1 (rw k.1.0 at passed) in
                elim e [
                  | inl z ↦ inl (subst (IsStageNet nets tree) z.1 (stage_net c.source k.0.1), ap colour (sym z.1) ∙ (sym alike ∙ (ap colour z.0 ∙ lit.1)))
                  | inr z ↦ inl (subst (IsStageNet nets tree) z.1 (stage_net c.drain k.0.0), ap colour (sym z.1) ∙ (alike ∙ (ap colour z.0 ∙ lit.1)))
                ]

            of_tree : AllByRecursion (λ c. Steps (device_of c)) cards
            of_tree =
                AllByRecursion-weaker (λ c. (In c.drain × In c.source) × ((c.kind ≡ nch) × IsSame c)) (λ c. Steps (device_of c)) steps_card cards
                (AllByRecursion-both (λ c. In c.drain × In c.source) (λ c. (c.kind ≡ nch) × IsSame c) cards (spell-ends nch nets.inner tree nets.dynamic nets.foot 0)
                (AllByRecursion-both (λ c. c.kind ≡ nch) IsSame cards (spell-kind nch nets.inner tree nets.dynamic nets.foot 0) p.painted))

            of_rest : AllByRecursion (λ c. Steps (device_of c)) (behind_precharge style nets (inner_count tree))
            of_rest =
                AllByRecursion-weaker (λ c. c.source ≡ nets.vdd) (λ c. Steps (device_of c)) (λ c e. steps_supply (device_of c) (rw e is.vdd_is))
                (behind_precharge style nets (inner_count tree)) (behind_to_vdd style nets (inner_count tree))

            of_pull_down : AllByRecursion (λ c. Steps (device_of c)) (pull_down_cards nets tree)
            of_pull_down =
                AllByRecursion-append (λ c. Steps (device_of c)) cards (record { kind = nch; drain = nets.foot; gate = nets.clock; source = nets.vss } ∷ []) of_tree
                (steps_supply (record { kind = nch; drain = nets.foot; gate = nets.clock; source = nets.vss }) is.vss_is, tt)

            each : AllByRecursion Steps (map device_of (styled_stage style nets tree))
            each =
                AllByRecursion-map Steps device_of (styled_stage style nets tree) (
                  steps_supply (record { kind = pch; drain = nets.dynamic; gate = nets.clock; source = nets.vdd }) is.vdd_is,
                  AllByRecursion-append (λ c. Steps (device_of c)) (behind_precharge style nets (inner_count tree)) (pull_down_cards nets tree) of_rest of_pull_down,
                )

        by : (v : Bool) → joins g tree ≡ v → test (tree_conduction nch (value_of values) tree) ≡ true
        by true e = same ∙ e
        by false e = absurd (none e)

    pub reaches_foot : Reach (IsStep devices test values) is_source nets.dynamic nets.foot → test (tree_conduction nch (value_of values) tree) ≡ true
    reaches_foot = foot_through (IsStep devices test values) (λ d q. q.of) (λ d q. q.pass)

    -- by devices that pass the test, a path goes from the dynamic net to the foot net exactly where the tree passes it
    pub joins_foot : Reach (IsStrongStep devices test values) is_source nets.dynamic nets.foot ↔ (test (tree_conduction nch (value_of values) tree) ≡ true)
    joins_foot = (foot_through (IsStrongStep devices test values) (λ d q. q.of) (λ d q. q.pass), to)
      where
        g : ℕ → Bool
        g gate = test (value_of values gate)

        same : test (tree_conduction nch (value_of values) tree) ≡ joins g tree
        same = joins-conduction test t nch (value_of values) tree

        cards : List (NamedDevice ℕ)
        cards = spell nch nets.inner tree nets.dynamic nets.foot 0

        there : AllByRecursion (λ c. Contains devices (device_of c)) cards
        there =
            AllByRecursion-left (λ c. Contains devices (device_of c)) cards (record { kind = nch; drain = nets.foot; gate = nets.clock; source = nets.vss } ∷ [])
            (AllByRecursion-right (λ c. Contains devices (device_of c)) (to_vdd style nets tree) (pull_down_cards nets tree) stage_there)

        to : test (tree_conduction nch (value_of values) tree) ≡ true → Reach (IsStrongStep devices test values) is_source nets.dynamic nets.foot
        to h =
            Reach-spell (IsStrongStep devices test values) is_source g nch nets.inner tree nets.dynamic nets.foot 0
            (λ j le lt. is.free (nets.inner j) (inr (inr (j, omega arith, refl))))
            (AllByRecursion-weaker (λ c. Contains devices (device_of c) × (c.kind ≡ nch)) (λ c. g c.gate ≡ true → IsStrongStep devices test values (device_of c))
            (λ c k o. record { of = k.0; pass = rw k.1 o; strong = λ z. no_keeper (sym k.1 ∙ z) }) cards
            (AllByRecursion-both _ _ cards there (spell-kind nch nets.inner tree nets.dynamic nets.foot 0)))
            (sym same ∙ h)
          where
            no_keeper : nch ≡ Keep → ⊥
            no_keeper z = cc
