-- What marks of nets are made from: outputs of cells, nets in cells, nets of latches.
use Rattle.std.specs.List.{AllByRecursion}
use Rattle.std.specs.Prelude.{All, Contains, Some, slice_get, ◌⊎◌}
use Rattle.std.proofs.Common.{Bool, List, ap, arith, false, get_or, inl, inr, length, refl, replicate, subst, sym, ℕ, ◌+◌, ◌<◌, ◌∙◌, ◌≡◌, ◌≤◌}
use Rattle.std.proofs.lemmas.List.Elements.{All-from_recursion}
use Rattle.std.proofs.lemmas.Option.{slice_get-get_or, slice_get_within}
use Rattle.dom_base.proofs.Lists.{AllByRecursion-weaker, Contains-slice_get, slice_get-contained}
use Rattle.deck.specs.declared.device.Device.{Device}
use Rattle.deck.specs.declared.role.Roles.{Roles}
use Rattle.switch_model.specs.Laws.{EndsAt}
use Rattle.deck_audit.specs.Words.{Group, IsCellOutput, IsControl, IsGroup, IsLatchData, IsLatchNet, IsLatchOutput, StandsAt, own_nets}
use Rattle.deck_audit.proofs.RuleFacts.{AtPlace, cards_at, own_at_control, twin_gate}
use Rattle.audit_deck.specs.Groups.{AreAllGroups}
use Rattle.found_decks.specs.FoundDecks.{FoundLatch}
use Rattle.audit_deck.specs.Indexes.{AreInRange, AreThose, GatedBy}
use Rattle.audit_deck.specs.Marks.{AddsMarks, AreMarks, HoldsDynamic, IsDataOf, IsOutputIn, IsOwnOf, IsWithin}
use Rattle.audit_deck.proofs.Breaks.{end_low}
use Rattle.audit_deck.proofs.Found.{one_device}
use Rattle.audit_deck.proofs.MarkedNets.{Below, adds_all, adds_begun, adds_more, adds_same, marks_of}
use Rattle.audit_deck.proofs.Scans.{NoneBefore}

-- marks of nets of latches
module _ (groups : List FoundLatch) (R : FoundLatch → ℕ → Type 0) where
  abbrev Of : ℕ → ℕ → Type 0
  Of j n = (g : FoundLatch) × (slice_get groups j ≡ Some g) × R g n

  pub group_begun : (count : ℕ) (marks : List Bool) → marks ≡ replicate count false → AddsMarks (Below Of 0) (replicate count false) marks
  group_begun count marks none = subst (AddsMarks (Below Of 0) (replicate count false)) (sym none) (adds_begun Of (replicate count false))

  pub group_more : (i : ℕ) (g : FoundLatch) → slice_get groups i ≡ Some g → (a b c : List Bool) → AddsMarks (Below Of i) a b → AddsMarks (R g) b c
      → AddsMarks (Below Of (i + 1)) a c
  group_more i g at a b c h k = adds_more Of i a b c h (adds_same (R g) (Of i) b c (λ n r. (g, at, r)) from k)
    where
      from : (n : ℕ) → Of i n → R g n
      from n (e, there, r) = let z : Some e ≡ Some g = sym there ∙ at in let y : e ≡ g = cc in subst (λ x. R x n) y r

  pub group_all : (count i : ℕ) (marks : List Bool) → length groups ≤ i → AddsMarks (Below Of i) (replicate count false) marks
      → AreMarks (λ n. (j : ℕ) × (g : FoundLatch) × (slice_get groups j ≡ Some g) × R g n) count marks
  group_all count i marks done h =
      marks_of (λ n. (j : ℕ) × (g : FoundLatch) × (slice_get groups j ≡ Some g) × R g n) count (replicate count false) marks refl
      (adds_all Of (λ n. (j : ℕ) × (g : FoundLatch) × (slice_get groups j ≡ Some g) × R g n) i (replicate count false) marks
      (λ n j o. (j, o.0, o.1, o.2))
      (λ n (j, g, at, r). (j, (let z = slice_get_within groups j g at in omega (arith, z, done)), (g, at, r))) h)

module _ (ds : List Device) (roles : Roles) where
  -- the net gates a keeper of a net that is no source, or none
  pub output_by : (n p : ℕ) → GatedBy ds n p → HoldsDynamic ds roles p → IsCellOutput ds roles n
  output_by n p (d, at, gate) (e, there, k, x, ends, free) =
      let same = one_device ds p e d there at in
      (x, (free, p, e, there, inl (k, ends)), (p, e, there, k, ends, ap (λ (v : Device). v.gate) same ∙ gate))

  pub not_output : (n : ℕ) (l : List ℕ) → AreThose (GatedBy ds n) l → (i : ℕ) → length l ≤ i → NoneBefore (HoldsDynamic ds roles) l i
      → IsCellOutput ds roles n → ⊥
  not_output n l are i done none (x, dynamic, (p, d, at, k, ends, gate)) =
      let y = are.full p (d, at, gate) in
      none y.0 p (let z = slice_get_within l y.0 p y.1 in omega (arith, z, done)) y.1 (d, at, k, x, ends, dynamic.0)

  module _ (nets : ℕ) (in_range : AreInRange ds nets) (g : Group) (places : List ℕ) (is : IsGroup ds roles g places) where
    own_low : AllByRecursion (λ n. n < nets) (own_nets g)
    own_low =
        AllByRecursion-weaker (λ n. (p : ℕ) × (d : Device) × StandsAt ds p d × EndsAt d n × IsControl roles d.gate) (λ n. n < nets)
        (λ n (p, d, at, ends, c). end_low ds roles nets in_range p d n at ends) (own_nets g) (own_at_control ds roles g places is)

    data_low : g.data_net < nets
    data_low =
        let a = (cards_at ds roles g places is).1.0 in
        let r = in_range a.place a.device a.there in
        omega (arith, r.gate, twin_gate a.device _ a.twin)

    pub within_of : IsWithin nets (record { group = g; places = places })
    within_of = record {
      data_net = data_low;
      output = own_low.1.0;
      own = All-from_recursion (λ n. n < nets) (own_nets g) own_low;
    }

  module _ (groups : List FoundLatch) (all : AreAllGroups ds roles groups) where
    pub groups_within : (nets : ℕ) → AreInRange ds nets → All (IsWithin nets) groups
    groups_within nets in_range i d lt =
        let l : FoundLatch = get_or groups i d in
        within_of nets in_range l.group l.places (all.sound i l (slice_get-get_or groups i d lt))

    pub own_to : (n : ℕ) → IsOwnOf groups n → IsLatchNet ds roles n
    own_to n (j, l, at, met) = (l.group, l.places, all.sound j l at, Contains-slice_get (own_nets l.group) met.0 n met.1)

    pub own_from : (n : ℕ) → IsLatchNet ds roles n → IsOwnOf groups n
    own_from n (g, places, is, c) =
        let y = all.full g places is in (y.0, record { group = g; places = places }, y.1, slice_get-contained (own_nets g) n c)

    pub data_to : (n : ℕ) → IsDataOf groups n → IsLatchData ds roles n
    data_to n (j, l, at, e) = (l.group, l.places, all.sound j l at, sym e)

    pub data_from : (n : ℕ) → IsLatchData ds roles n → IsDataOf groups n
    data_from n (g, places, is, e) = let y = all.full g places is in (y.0, record { group = g; places = places }, y.1, sym e)

    pub output_to : (n : ℕ) → IsOutputIn groups n → IsLatchOutput ds roles n
    output_to n (j, l, at, e) = (l.group, l.places, all.sound j l at, sym e)

    pub output_from : (n : ℕ) → IsLatchOutput ds roles n → IsOutputIn groups n
    output_from n (g, places, is, e) = let y = all.full g places is in (y.0, record { group = g; places = places }, y.1, sym e)
