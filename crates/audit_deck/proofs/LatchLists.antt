-- The latches that keep rule 4, as a list.
use Rattle.std.specs.List.{AllByRecursion}
use Rattle.std.specs.Prelude.{Contains, IfNone, IfSome, None, Option, Some, slice_get, ◌⊎◌}
use Rattle.std.proofs.Common.{List, [], ap, arith, inl, inr, length, refl, subst, sym, ℕ, ◌++◌, ◌+◌, ◌<◌, ◌∙◌, ◌∷◌, ◌≡◌, ◌≤◌}
use Rattle.std.proofs.lemmas.Option.{same_Some, slice_get_within}
use Rattle.dom_base.proofs.Decided.{lt_or_ge}
use Rattle.dom_base.proofs.Lists.{AllByRecursion-contains, Contains-slice_get, slice_get-append, slice_get-push, slice_get-push_cases}
use Rattle.deck.specs.declared.device.Device.{Device}
use Rattle.deck.specs.declared.role.Roles.{Roles}
use Rattle.switch_model.specs.Laws.{EndsAt}
use Rattle.deck_audit.specs.Audits.{Breaks, bridge, front, latch, leaf, loop, output, tree, use_of}
use Rattle.deck_audit.specs.Rules.{HasLatch, IsAtControl}
use Rattle.deck_audit.specs.Words.{Group, IsControl, IsFree, IsGroup, StandsAt, own_nets}
use Rattle.deck_audit.proofs.Lists.{all_from}
use Rattle.deck_audit.proofs.RuleFacts.{own_at_control}
use Rattle.audit_deck.specs.Broken.{IsKept}
use Rattle.audit_deck.specs.Indexes.{AreInRange}
use Rattle.audit_deck.specs.Numberings.{AddsOne, IsMet}
use Rattle.audit_deck.specs.Walks.{MeetsThose}
use Rattle.audit_deck.specs.Groups.{AreAllGroups, AreGroups, IsAlone, KeepsLatches}
use Rattle.found_decks.specs.FoundDecks.{FoundLatch}
use Rattle.audit_deck.specs.Latches.{AreGroupsBelow, HasNoLatch, IsLatchAt}
use Rattle.audit_deck.specs.LeafOrders.{with_option}
use Rattle.audit_deck.proofs.Breaks.{end_low}
use Rattle.audit_deck.proofs.AloneGroups.{nine_of}
use Rattle.audit_deck.proofs.Meets.{meets_added, meets_same, meets_then}
use Rattle.audit_deck.proofs.OneGroup.{one_group}

module _ (ds : List Device) (roles : Roles) where
  -- a group that keeps the rule is the only one with one of its own nets
  pub one_alone : (g h : Group) (ps qs : List ℕ) → IsAlone ds roles g ps → IsGroup ds roles h qs → (x : ℕ) → Contains (own_nets g) x → Contains (own_nets h) x
      → (h ≡ g) × (qs ≡ ps)
  one_alone g h ps qs k is x c d =
      let n = nine_of ds roles g ps (k.is_group).cards in
      let m = nine_of ds roles h qs is.cards in
      let z = one_group ds roles g n.0 (subst (IsAlone ds roles g) n.1 k) h m.0 (subst (IsGroup ds roles h) m.1 is) x c d in
      (z.0, m.1 ∙ z.1 ∙ sym n.1)

  pub own_output : (g : Group) → Contains (own_nets g) g.output
  own_output g = Contains-slice_get (own_nets g) 1 g.output refl

  one_latch : (a b : FoundLatch) → IsAlone ds roles a.group a.places → IsAlone ds roles b.group b.places → a.group.output ≡ b.group.output → a ≡ b
  one_latch a b x y e =
      let z = one_alone b.group a.group b.places a.places y x.is_group a.group.output (subst (Contains (own_nets b.group)) (sym e) (own_output b.group)) (own_output a.group) in
      (λ i. record { group = z.0 i; places = z.1 i })

  -- the latch of a net with one keeps the rule there
  pub alone_has : (g : Group) (ps : List ℕ) → IsAlone ds roles g ps → (x : ℕ) → Contains (own_nets g) x → HasLatch ds roles x
  alone_has g ps k x c = record {
    group = g;
    places = ps;
    is_group = k.is_group;
    own = c;
    one_group = λ h qs is d. one_alone g h ps qs k is x c d;
    alone = k.alone;
    inner_gate_none = k.inner_gate_none;
    master_gates_own = k.master_gates_own;
    no_ports = k.no_ports;
  }

  pub has_alone : (x : ℕ) (l : HasLatch ds roles x) → IsAlone ds roles l.group l.places
  has_alone x l = record {
    is_group = l.is_group;
    alone = l.alone;
    inner_gate_none = l.inner_gate_none;
    master_gates_own = l.master_gates_own;
    no_ports = l.no_ports;
  }

  -- each own net of a group is at a control
  at_control : (g : Group) (ps : List ℕ) → IsGroup ds roles g ps → (x : ℕ) → Contains (own_nets g) x → IsAtControl ds roles x
  at_control g ps is x c =
      let a = AllByRecursion-contains (λ n. (p : ℕ) × (d : Device) × StandsAt ds p d × EndsAt d n × IsControl roles d.gate) (own_nets g) x (own_at_control ds roles g ps is) c in
      (AllByRecursion-contains (IsFree roles) (own_nets g) x is.free.1 c, a.0, a.1, a.2, a.3, a.4)

  pub kept_alone : KeepsLatches ds roles → (g : Group) (ps : List ℕ) → IsGroup ds roles g ps → IsAlone ds roles g ps
  kept_alone keeps g ps is =
      let l = keeps g.output (at_control g ps is g.output (own_output g)) in
      let z = l.one_group g ps is (own_output g) in
      subst (λ qs. IsAlone ds roles g qs) (sym z.1) (subst (λ h. IsAlone ds roles h l.places) (sym z.0) (has_alone g.output l))

  -- the list is one of all groups where the rule holds
  pub kept_groups : (groups : List FoundLatch) → AreGroups ds roles groups → KeepsLatches ds roles → AreAllGroups ds roles groups
  kept_groups groups are keeps = record {
    sound = λ j l at. (are.sound j l at).is_group;
    full = λ g ps is. are.full g ps (kept_alone keeps g ps is);
    once = are.once;
  }

  pub none_below : AreGroupsBelow ds roles 0 []
  none_below = record {
    sound = λ j l at. absurd (cc);
    full = λ l k lt. absurd (omega (arith, lt));
    once = λ i j l at there. absurd (cc);
  }

  -- a net that no latch has as output
  pub below_past : (n : ℕ) (groups : List FoundLatch) → AreGroupsBelow ds roles n groups → HasNoLatch ds roles n → AreGroupsBelow ds roles (n + 1) groups
  below_past n groups b none = record {
    sound = λ j l at. let z = b.sound j l at in (z.0, omega (arith, z.1));
    full = λ l k lt. elim (lt_or_ge l.group.output n) [
      | inl y ↦ b.full l k y
      | inr y ↦ let e : l.group.output ≡ n = omega (arith, y, lt) in absurd (none l k e)
    ];
    once = b.once;
  }

  -- one that a latch has
  pub below_more : (n : ℕ) (groups : List FoundLatch) (a : FoundLatch) → AreGroupsBelow ds roles n groups → IsLatchAt ds roles n a
      → AreGroupsBelow ds roles (n + 1) (groups ++ a ∷ [])
  below_more n groups a b k = record {
    sound = λ j l at. elim (slice_get-push_cases groups a j l at) [
      | inl y ↦ let z = b.sound j l y in (z.0, omega (arith, z.1))
      | inr y ↦ subst (λ l. IsAlone ds roles l.group l.places × (l.group.output < n + 1)) y.1 (k.0, omega (arith, k.1))
    ];
    full = λ l h lt. elim (lt_or_ge l.group.output n) [
      | inl y ↦ let z = b.full l h y in (z.0, slice_get-append groups (a ∷ []) z.0 l z.1)
      | inr y ↦
          let e : l.group.output ≡ a.group.output = omega (arith, y, lt, k.1) in
          (length groups, slice_get-push groups a ∙ ap Some (sym (one_latch l a h k.0 e)))
    ];
    once = λ i j l at there. by i j l at there (slice_get-push_cases groups a i l at) (slice_get-push_cases groups a j l there);
  }
    where
      apart : (i : ℕ) (l : FoundLatch) → slice_get groups i ≡ Some l → a ≡ l → ⊥
      apart i l at e =
          let z = b.sound i l at in
          let o : a.group.output ≡ l.group.output = ap (λ (x : FoundLatch). x.group.output) e in omega (arith, z.1, k.1, o)

      by : (i j : ℕ) (l : FoundLatch) → slice_get (groups ++ a ∷ []) i ≡ Some l → slice_get (groups ++ a ∷ []) j ≡ Some l
          → (slice_get groups i ≡ Some l) ⊎ ((i ≡ length groups) × (a ≡ l)) → (slice_get groups j ≡ Some l) ⊎ ((j ≡ length groups) × (a ≡ l)) → i ≡ j
      by i j l at there (inl y) (inl z) = b.once i j l y z
      by i j l at there (inl y) (inr z) = absurd (apart i l y z.1)
      by i j l at there (inr y) (inl z) = absurd (apart j l z y.1)
      by i j l at there (inr y) (inr z) = y.0 ∙ sym z.0

  -- after a net was looked at
  pub below_next : (n : ℕ) (groups : List FoundLatch) (o : Option FoundLatch) → AreGroupsBelow ds roles n groups → IfSome o (IsLatchAt ds roles n)
      → IfNone o (HasNoLatch ds roles n) → AreGroupsBelow ds roles (n + 1) (with_option groups o)
  below_next n groups None b some none = below_past n groups b none
  below_next n groups (Some a) b some none = below_more n groups a b some

  pub all_below : (n : ℕ) (groups : List FoundLatch) → AreGroupsBelow ds roles n groups → ((l : FoundLatch) → IsAlone ds roles l.group l.places → l.group.output < n)
      → AreGroups ds roles groups
  all_below n groups b low = record {
    sound = λ j l at. (b.sound j l at).0;
    full = λ g ps k. let l : FoundLatch = record { group = g; places = ps } in b.full l k (low l k);
    once = b.once;
  }

-- the own nets of the first latches of a list
abbrev pub OwnUpto : List FoundLatch → ℕ → ℕ → Type 0
OwnUpto groups i m = (j : ℕ) × (l : FoundLatch) × (j < i) × (slice_get groups j ≡ Some l) × Contains (own_nets l.group) m

pub own_more : (groups : List FoundLatch) (i : ℕ) (l : FoundLatch) (a b c : List ℕ) → slice_get groups i ≡ Some l → MeetsThose (OwnUpto groups i) a b
    → MeetsThose (Contains (own_nets l.group)) b c → MeetsThose (OwnUpto groups (i + 1)) a c
own_more groups i l a b c at h k =
    meets_same (λ m. OwnUpto groups i m ⊎ Contains (own_nets l.group) m) (OwnUpto groups (i + 1)) a c
    (λ m e. elim e [ inl (j, x, lt, y, has) ↦ (j, x, omega (arith, lt), y, has) | inr y ↦ (i, l, omega arith, at, y) ])
    back
    (meets_then (OwnUpto groups i) (Contains (own_nets l.group)) a b c h k)
  where
    back : (m : ℕ) → OwnUpto groups (i + 1) m → OwnUpto groups i m ⊎ Contains (own_nets l.group) m
    back m (j, x, lt, y, has) = elim (lt_or_ge j i) [
      | inl low ↦ inl (j, x, low, y, has)
      | inr high ↦
          let e : j ≡ i = omega (arith, high, lt) in
          let s : x ≡ l = same_Some _ _ (sym y ∙ ap (slice_get groups) e ∙ at) in
          inr (subst (λ z. Contains (own_nets z.group) m) s has)
    ]

pub latch_break : (ds : List Device) (roles : Roles) (nets r n : ℕ) → Breaks ds roles nets r n → r ≡ 4
    → IsAtControl ds roles n × (HasLatch ds roles n → ⊥)
latch_break ds roles nets r n (front d away) e = absurd (omega (arith, e))
latch_break ds roles nets r n (output clock out d f away) e = absurd (omega (arith, e))
latch_break ds roles nets r n (tree clock out d f away) e = absurd (omega (arith, e))
latch_break ds roles nets r n (latch a away) e = (a, away)
latch_break ds roles nets r n (use_of a away) e = absurd (omega (arith, e))
latch_break ds roles nets r n (bridge p d at h) e = absurd (omega (arith, e))
latch_break ds roles nets r n (leaf p d x at t away) e = absurd (omega (arith, e))
latch_break ds roles nets r n (loop x d) e = absurd (omega (arith, e))

-- where all latches of the list are met
module _ (ds : List Device) (roles : Roles) (groups : List FoundLatch) (are : AreGroups ds roles groups) (i : ℕ) (done : length groups ≤ i) (own : List ℕ)
    (met : MeetsThose (OwnUpto groups i) [] own) where
  pub met_has : (n : ℕ) → IsMet own n → HasLatch ds roles n
  met_has n m = elim (met.sound n m) [
    | inl y ↦ let z : slice_get [] y.0 ≡ Some n = y.1 in absurd (cc)
    | inr (j, l, lt, at, c) ↦ alone_has ds roles l.group l.places (are.sound j l at) n c
  ]

  pub has_met : (n : ℕ) → HasLatch ds roles n → IsMet own n
  has_met n h =
      let z = are.full h.group h.places (has_alone ds roles n h) in
      let low = slice_get_within groups z.0 (record { group = h.group; places = h.places }) z.1 in
      met.full n (z.0, record { group = h.group; places = h.places }, omega (arith, low, done), z.1, h.own)

-- nets of devices are in range
module _ (ds : List Device) (roles : Roles) (nets : ℕ) (in_range : AreInRange ds nets) where
  pub control_low : (n : ℕ) → IsAtControl ds roles n → n < nets
  control_low n (free, p, d, at, t, c) = end_low ds roles nets in_range p d n at t

  pub own_low : (g : Group) (ps : List ℕ) → IsAlone ds roles g ps → (n : ℕ) → Contains (own_nets g) n → n < nets
  own_low g ps k n c = control_low n (at_control ds roles g ps k.is_group n c)

  pub own_all_low : (g : Group) (ps : List ℕ) → IsAlone ds roles g ps → AllByRecursion (λ n. n < nets) (own_nets g)
  own_all_low g ps k = all_from (λ n. n < nets) (own_nets g) (λ i n e. own_low g ps k n (Contains-slice_get (own_nets g) i n e))

pub kept_from : (ds : List Device) (roles : Roles) (nets : ℕ) → KeepsLatches ds roles → IsKept ds roles nets 4
kept_from ds roles nets keeps n b = let z = latch_break ds roles nets 4 n b refl in z.1 (keeps n z.0)

abbrev IsOneOfSix : Group → ℕ → Type 0
IsOneOfSix g m = (((((m ≡ g.master) ⊎ (m ≡ g.output)) ⊎ (m ≡ g.master_up)) ⊎ (m ≡ g.master_down)) ⊎ (m ≡ g.output_up)) ⊎ (m ≡ g.output_down)

-- the own nets of a latch, met one after another
pub six_met : (g : Group) (a b c d e f h : List ℕ) → AddsOne a g.master b → AddsOne b g.output c → AddsOne c g.master_up d → AddsOne d g.master_down e
    → AddsOne e g.output_up f → AddsOne f g.output_down h → MeetsThose (Contains (own_nets g)) a h
six_met g a b c d e f h p q r s t u =
    meets_same (IsOneOfSix g) (Contains (own_nets g)) a h to from
    (meets_then (λ m. ((((m ≡ g.master) ⊎ (m ≡ g.output)) ⊎ (m ≡ g.master_up)) ⊎ (m ≡ g.master_down)) ⊎ (m ≡ g.output_up)) (λ m. m ≡ g.output_down) a f h
    (meets_then (λ m. (((m ≡ g.master) ⊎ (m ≡ g.output)) ⊎ (m ≡ g.master_up)) ⊎ (m ≡ g.master_down)) (λ m. m ≡ g.output_up) a e f
    (meets_then (λ m. ((m ≡ g.master) ⊎ (m ≡ g.output)) ⊎ (m ≡ g.master_up)) (λ m. m ≡ g.master_down) a d e
    (meets_then (λ m. (m ≡ g.master) ⊎ (m ≡ g.output)) (λ m. m ≡ g.master_up) a c d
    (meets_then (λ m. m ≡ g.master) (λ m. m ≡ g.output) a b c (meets_added a b g.master p) (meets_added b c g.output q))
    (meets_added c d g.master_up r))
    (meets_added d e g.master_down s))
    (meets_added e f g.output_up t))
    (meets_added f h g.output_down u))
  where
    own : (i m x : ℕ) → slice_get (own_nets g) i ≡ Some x → m ≡ x → Contains (own_nets g) m
    own i m x z y = Contains-slice_get (own_nets g) i m (z ∙ ap Some (sym y))

    to : (m : ℕ) → IsOneOfSix g m → Contains (own_nets g) m
    to m (inl (inl (inl (inl (inl y))))) = own 0 m g.master refl y
    to m (inl (inl (inl (inl (inr y))))) = own 1 m g.output refl y
    to m (inl (inl (inl (inr y)))) = own 2 m g.master_up refl y
    to m (inl (inl (inr y))) = own 3 m g.master_down refl y
    to m (inl (inr y)) = own 4 m g.output_up refl y
    to m (inr y) = own 5 m g.output_down refl y

    from : (m : ℕ) → Contains (own_nets g) m → IsOneOfSix g m
    from m y =
        AllByRecursion-contains (IsOneOfSix g) (own_nets g) m
        (inl (inl (inl (inl (inl refl)))), (inl (inl (inl (inl (inr refl)))), (inl (inl (inl (inr refl))), (inl (inl (inr refl)), (inl (inr refl), (inr refl, tt)))))) y
