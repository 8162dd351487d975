-- A latch that keeps rule 4 is the only group that has one of its own nets.
use Rattle.std.specs.Prelude.{Contains, Some, slice_get, ◌≢◌, ◌⊎◌}
use Rattle.std.proofs.Common.{List, [], ap, arith, inl, inr, refl, subst, sym, ℕ, ◌∙◌, ◌∷◌, ◌≡◌}
use Rattle.dom_base.proofs.Lists.{AllByRecursion-contains, Contains-slice_get}
use Rattle.deck.specs.Paths.{Ends}
use Rattle.deck.specs.declared.device.Device.{Device}
use Rattle.deck.specs.declared.role.Roles.{Roles}
use Rattle.switch_model.proofs.Searches.{ends_at, other_at}
use Rattle.circuit_law.specs.Counts.{Distinct}
use Rattle.port_runs.specs.Periods.{vdd_port}
use Rattle.deck_audit.specs.Words.{Group, IsGroup, StandsAt, own_nets}
use Rattle.deck_audit.proofs.RuleFacts.{end_of}
use Rattle.audit_deck.specs.Groups.{IsAlone}
use Rattle.audit_deck.specs.Latches.{AreParts}
use Rattle.audit_deck.proofs.AloneGroups.{Nine, group_parts, high_place, listed_nine, lm_place, lmb_place, ls_place, lsb_place, parts, parts_of, same_parts}
use Rattle.audit_deck.proofs.LatchBranches.{same_at}

-- a group by its parts
pub group_same : (g h : Group) (n m : Nine) → parts_of g n ≡ parts_of h m → g.output ≡ h.output → (g ≡ h) × (listed_nine n ≡ listed_nine m)
group_same g h n m e o = (
  (λ i. record {
    master = (e i).output_up.input;
    master_up = (e i).master_up.inner;
    master_down = (e i).master_down.inner;
    data_net = (e i).master_up.input;
    output = o i;
    output_up = (e i).output_up.inner;
    output_down = (e i).output_down.inner;
    start = (e i).reset.start;
  }),
  (λ i. (e i).master_up.clocked ∷ (e i).master_up.fed ∷ (e i).master_down.clocked ∷ (e i).master_down.fed ∷ (e i).output_up.clocked ∷ (e i).output_up.fed
      ∷ (e i).output_down.clocked ∷ (e i).output_down.fed ∷ (e i).reset.place ∷ []),
)

-- a net that is an end of both is the one that they share
shared : (x t u v : ℕ) → (x ≡ t) ⊎ (x ≡ u) → (x ≡ t) ⊎ (x ≡ v) → u ≢ v → x ≡ t
shared x t u v (inl e) f away = e
shared x t u v (inr e) (inl f) away = f
shared x t u v (inr e) (inr f) away = absurd (away (sym e ∙ f))

module _ (ds : List Device) (roles : Roles) (g : Group) (n : Nine) (k : IsAlone ds roles g (listed_nine n)) (h : Group) (m : Nine) (is : IsGroup ds roles h (listed_nine m)) where
  mine : AreParts ds roles g.output (parts_of g n)
  mine = parts ds roles g n k

  theirs : AreParts ds roles h.output (parts_of h m)
  theirs = group_parts ds roles h m is.cards is.free

  differ : Distinct (g.data_net ∷ own_nets g)
  differ = (k.is_group).differ

  own : (i x : ℕ) → slice_get (own_nets g) i ≡ Some x → Contains (own_nets g) x
  own i x e = Contains-slice_get (own_nets g) i x e

  -- the other end of a device that both have is one of these
  met : (p q : ℕ) (d e : Device) (a b x y : ℕ) → p ≡ q → StandsAt ds p d → StandsAt ds q e → Ends d a b → Ends e x y → (a ≡ x) ⊎ (a ≡ y)
  met p q d e a b x y z at there s t = end_of e x y a t (subst (λ f. (f.drain ≡ a) ⊎ (f.source ≡ a)) (same_at ds p q d e z at there) (ends_at d a b s))

  by_output : Contains (own_nets g) h.output → h.output ≡ g.output
  by_output c =
      let a = theirs.output_up in
      let b = theirs.output_down in
      let p = lsb_place ds roles g n k m.e a.clocked (k.alone m.e a.clocked h.output a.clocked_there c (ends_at a.clocked h.output h.output_up a.clocked_is.2)) a.clocked_there a.clocked_is.0 a.clocked_is.1 in
      let q = ls_place ds roles g n k m.g b.clocked (k.alone m.g b.clocked h.output b.clocked_there c (ends_at b.clocked h.output h.output_down b.clocked_is.2)) b.clocked_there b.clocked_is.0 b.clocked_is.1 in
      shared h.output g.output g.output_up g.output_down
      (met m.e n.e a.clocked mine.output_up.clocked h.output h.output_up g.output g.output_up p a.clocked_there mine.output_up.clocked_there a.clocked_is.2 mine.output_up.clocked_is.2)
      (met m.g n.g b.clocked mine.output_down.clocked h.output h.output_down g.output g.output_down q b.clocked_there mine.output_down.clocked_there b.clocked_is.2 mine.output_down.clocked_is.2)
      (λ e. differ.1.1.1.1.1.0.0 (sym e))

  by_master_is : Contains (own_nets g) h.master → h.master ≡ g.master
  by_master_is c =
      let a = theirs.master_up in
      let b = theirs.master_down in
      let p = lmb_place ds roles g n k m.a a.clocked (k.alone m.a a.clocked h.master a.clocked_there c (ends_at a.clocked h.master h.master_up a.clocked_is.2)) a.clocked_there a.clocked_is.0 a.clocked_is.1 in
      let q = lm_place ds roles g n k m.c b.clocked (k.alone m.c b.clocked h.master b.clocked_there c (ends_at b.clocked h.master h.master_down b.clocked_is.2)) b.clocked_there b.clocked_is.0 b.clocked_is.1 in
      shared h.master g.master g.master_up g.master_down
      (met m.a n.a a.clocked mine.master_up.clocked h.master h.master_up g.master g.master_up p a.clocked_there mine.master_up.clocked_there a.clocked_is.2 mine.master_up.clocked_is.2)
      (met m.c n.c b.clocked mine.master_down.clocked h.master h.master_down g.master g.master_down q b.clocked_there mine.master_down.clocked_there b.clocked_is.2 mine.master_down.clocked_is.2)
      (λ e. differ.1.1.1.0.0 (sym e))

  -- one of two nets of the latch
  own_of : (i j a b x : ℕ) → slice_get (own_nets g) i ≡ Some a → slice_get (own_nets g) j ≡ Some b → (x ≡ a) ⊎ (x ≡ b) → Contains (own_nets g) x
  own_of i j a b x y z (inl e) = own i x (y ∙ ap Some (sym e))
  own_of i j a b x y z (inr e) = own j x (z ∙ ap Some (sym e))

  by_output_up : Contains (own_nets g) h.output_up → h.output ≡ g.output
  by_output_up c =
      let a = theirs.output_up in
      let p = lsb_place ds roles g n k m.e a.clocked (k.alone m.e a.clocked h.output_up a.clocked_there c (other_at a.clocked h.output h.output_up a.clocked_is.2)) a.clocked_there a.clocked_is.0 a.clocked_is.1 in
      by_output (own_of 1 4 g.output g.output_up h.output refl refl
      (met m.e n.e a.clocked mine.output_up.clocked h.output h.output_up g.output g.output_up p a.clocked_there mine.output_up.clocked_there a.clocked_is.2 mine.output_up.clocked_is.2))

  by_output_down : Contains (own_nets g) h.output_down → h.output ≡ g.output
  by_output_down c =
      let b = theirs.output_down in
      let q = ls_place ds roles g n k m.g b.clocked (k.alone m.g b.clocked h.output_down b.clocked_there c (other_at b.clocked h.output h.output_down b.clocked_is.2)) b.clocked_there b.clocked_is.0 b.clocked_is.1 in
      by_output (own_of 1 5 g.output g.output_down h.output refl refl
      (met m.g n.g b.clocked mine.output_down.clocked h.output h.output_down g.output g.output_down q b.clocked_there mine.output_down.clocked_there b.clocked_is.2 mine.output_down.clocked_is.2))

  -- the device between the inner net and the supply is gated by the master
  by_master : Contains (own_nets g) h.master → h.output ≡ g.output
  by_master c =
      let a = theirs.output_up in
      let gate : a.fed.gate ≡ g.master = a.fed_is.1 ∙ by_master_is c in
      let p = high_place ds roles g n k m.f a.fed (k.master_gates_own m.f a.fed a.fed_there gate) a.fed_there a.fed_is.0 gate in
      elim (met m.f n.f a.fed mine.output_up.fed h.output_up vdd_port g.output_up vdd_port p a.fed_there mine.output_up.fed_there a.fed_is.2 mine.output_up.fed_is.2) [
        | inl e ↦ by_output_up (own 4 h.output_up (ap Some (sym e)))
        | inr e ↦ absurd (omega (arith, e, is.free.1.1.1.1.1.0))
      ]

  by_master_up : Contains (own_nets g) h.master_up → h.output ≡ g.output
  by_master_up c =
      let a = theirs.master_up in
      let p = lmb_place ds roles g n k m.a a.clocked (k.alone m.a a.clocked h.master_up a.clocked_there c (other_at a.clocked h.master h.master_up a.clocked_is.2)) a.clocked_there a.clocked_is.0 a.clocked_is.1 in
      by_master (own_of 0 2 g.master g.master_up h.master refl refl
      (met m.a n.a a.clocked mine.master_up.clocked h.master h.master_up g.master g.master_up p a.clocked_there mine.master_up.clocked_there a.clocked_is.2 mine.master_up.clocked_is.2))

  by_master_down : Contains (own_nets g) h.master_down → h.output ≡ g.output
  by_master_down c =
      let b = theirs.master_down in
      let q = lm_place ds roles g n k m.c b.clocked (k.alone m.c b.clocked h.master_down b.clocked_there c (other_at b.clocked h.master h.master_down b.clocked_is.2)) b.clocked_there b.clocked_is.0 b.clocked_is.1 in
      by_master (own_of 0 3 g.master g.master_down h.master refl refl
      (met m.c n.c b.clocked mine.master_down.clocked h.master h.master_down g.master g.master_down q b.clocked_there mine.master_down.clocked_there b.clocked_is.2 mine.master_down.clocked_is.2))

  one_output : (x : ℕ) → Contains (own_nets g) x → Contains (own_nets h) x → h.output ≡ g.output
  one_output x c d =
      AllByRecursion-contains (λ y. Contains (own_nets g) y → h.output ≡ g.output) (own_nets h) x
      (by_master, (by_output, (by_master_up, (by_master_down, (by_output_up, (by_output_down, tt)))))) d c

  pub one_of_output : h.output ≡ g.output → (h ≡ g) × (listed_nine m ≡ listed_nine n)
  one_of_output e =
      group_same h g m n (same_parts ds roles g n k (parts_of h m) (subst (λ x. AreParts ds roles x (parts_of h m)) e theirs)) e

  pub one_group : (x : ℕ) → Contains (own_nets g) x → Contains (own_nets h) x → (h ≡ g) × (listed_nine m ≡ listed_nine n)
  one_group x c d = one_of_output (one_output x c d)
