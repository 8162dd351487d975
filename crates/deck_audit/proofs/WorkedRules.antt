-- The worked deck keeps all rules.
use Rattle.std.specs.Prelude.{Some, slice_get, ◌≢◌, ◌⊎◌}
use Rattle.std.proofs.Common.{List, ap, arith, inl, inr, refl, subst, suc, sym, zero, ℕ, ◌+◌, ◌<◌, ◌≡◌, ◌≤◌}
use Rattle.std.proofs.lemmas.Option.{same_Some}
use Rattle.dom_base.proofs.Decided.{lt_or_ge}
use Rattle.dom_base.specs.declared.kind.Kind.TheVariants.{Keep, N as nch, P as pch}
use Rattle.deck.specs.Paths.{Ends}
use Rattle.deck.specs.declared.device.Device.{Device}
use Rattle.sp_network.specs.Tree.{Leaf, Series, Tree}
use Rattle.switch_model.specs.Laws.{EndsAt}
use Rattle.port_runs.specs.Periods.{vdd_port}
use Rattle.sp_reduction.specs.Networks.{EndsAt as LinkEndsAt, Has, Link, mids}
use Rattle.deck_audit.specs.Rules.{DependsOn, HasFront, HasOutput, HasTree, IsInside, IsLoose, IsTreeDevice, KeepsRules, KeepsUse, Reads, further, reads}
use Rattle.deck_audit.specs.Words.{Group, IsDynamic, IsGroup, IsInverterOutput, IsLatchData, IsLatchOutput, IsOutPort, IsOutputOf, IsPin, MayBeComplement, Reached, StandsAt, here, link_at, step}
use Rattle.deck_audit.specs.WorkedAudit.{and_circuit, and_roles}
use Rattle.deck_audit.proofs.RuleFacts.{cards_at, twin_gate}
use Rattle.switch_model.proofs.Searches.{ends_at}

abbrev pub ds : List Device
ds = and_circuit.devices

-- what holds of each of the nine devices holds of what stands at a place
pub each : (P : ℕ → Device → Type 0)
    → P 0 (record { kind = nch; drain = 11; gate = 12; source = 1 })
    → P 1 (record { kind = pch; drain = 0; gate = 12; source = 11 })
    → P 2 (record { kind = nch; drain = 1; gate = 12; source = 13 })
    → P 3 (record { kind = pch; drain = 13; gate = 12; source = 0 })
    → P 4 (record { kind = nch; drain = 14; gate = 2; source = 1 })
    → P 5 (record { kind = nch; drain = 15; gate = 10; source = 14 })
    → P 6 (record { kind = nch; drain = 15; gate = 9; source = 12 })
    → P 7 (record { kind = Keep; drain = 12; gate = 13; source = 0 })
    → P 8 (record { kind = pch; drain = 0; gate = 2; source = 12 })
    → (p : ℕ) (d : Device) → StandsAt ds p d → P p d
each P a b c e f g h i j zero d s = subst (P 0) (same_Some _ _ s) a
each P a b c e f g h i j (suc zero) d s = subst (P 1) (same_Some _ _ s) b
each P a b c e f g h i j (suc (suc zero)) d s = subst (P 2) (same_Some _ _ s) c
each P a b c e f g h i j (suc (suc (suc zero))) d s = subst (P 3) (same_Some _ _ s) e
each P a b c e f g h i j (suc (suc (suc (suc zero)))) d s = subst (P 4) (same_Some _ _ s) f
each P a b c e f g h i j (suc (suc (suc (suc (suc zero))))) d s = subst (P 5) (same_Some _ _ s) g
each P a b c e f g h i j (suc (suc (suc (suc (suc (suc zero)))))) d s = subst (P 6) (same_Some _ _ s) h
each P a b c e f g h i j (suc (suc (suc (suc (suc (suc (suc zero))))))) d s = subst (P 7) (same_Some _ _ s) i
each P a b c e f g h i j (suc (suc (suc (suc (suc (suc (suc (suc zero)))))))) d s = subst (P 8) (same_Some _ _ s) j
each P a b c e f g h i j (suc (suc (suc (suc (suc (suc (suc (suc (suc p))))))))) d s = absurd (cc)

-- the only dynamic net is 12
pub dynamic_is : (n : ℕ) → IsDynamic ds and_roles n → n ≡ 12
dynamic_is n (free, p, d, at, how) = each (λ p d. (((d.kind ≡ Keep) × EndsAt d n) ⊎ ((d.kind ≡ pch) × ((2 ≤ d.gate) × (d.gate < 3)) × Ends d n 0)) → n ≡ 12)
    (λ z. elim z [ inl y ↦ absurd (cc) | inr y ↦ absurd (cc) ])
    (λ z. elim z [ inl y ↦ absurd (cc) | inr y ↦ absurd (omega (arith, y.1.1)) ])
    (λ z. elim z [ inl y ↦ absurd (cc) | inr y ↦ absurd (cc) ])
    (λ z. elim z [ inl y ↦ absurd (cc) | inr y ↦ absurd (omega (arith, y.1.1)) ])
    (λ z. elim z [ inl y ↦ absurd (cc) | inr y ↦ absurd (cc) ])
    (λ z. elim z [ inl y ↦ absurd (cc) | inr y ↦ absurd (cc) ])
    (λ z. elim z [ inl y ↦ absurd (cc) | inr y ↦ absurd (cc) ])
    (λ z. elim z [ inl y ↦ elim y.1 [ inl w ↦ sym w | inr w ↦ absurd (omega (arith, w, free)) ] | inr y ↦ absurd (cc) ])
    (λ z. elim z [ inl y ↦ absurd (cc) | inr y ↦ elim y.2 [ inl w ↦ absurd (omega (arith, w.0, free)) | inr w ↦ sym w.0 ] ])
    p d at how

abbrev pub d5 : Device
d5 = record { kind = nch; drain = 15; gate = 10; source = 14 }

pub front_12 : HasFront ds and_roles 12 2 13
front_12 = record {
  no_port = omega arith;
  clock_is = (omega arith, omega arith);
  precharge = 8;
  keeper = 7;
  precharge_device = record { kind = pch; drain = 0; gate = 2; source = 12 };
  keeper_device = record { kind = Keep; drain = 12; gate = 13; source = 0 };
  precharge_there = refl;
  precharge_is = (refl, refl, inr (refl, refl));
  keeper_there = refl;
  keeper_is = (refl, refl, inl (refl, refl));
  one_precharge = each (λ p d. EndsAt d 12 → d.kind ≡ pch → p ≡ 8)
      (λ t k. absurd (cc)) (λ t k. absurd (elim t [ inl z ↦ omega (arith, z) | inr z ↦ omega (arith, z) ])) (λ t k. absurd (cc))
      (λ t k. absurd (elim t [ inl z ↦ omega (arith, z) | inr z ↦ omega (arith, z) ])) (λ t k. absurd (cc)) (λ t k. absurd (cc)) (λ t k. absurd (cc)) (λ t k. absurd (cc)) (λ t k. refl);
  one_keeper = each (λ p d. EndsAt d 12 → d.kind ≡ Keep → p ≡ 7)
      (λ t k. absurd (cc)) (λ t k. absurd (cc)) (λ t k. absurd (cc)) (λ t k. absurd (cc)) (λ t k. absurd (cc)) (λ t k. absurd (cc)) (λ t k. absurd (cc)) (λ t k. refl) (λ t k. absurd (cc));
}

pub dynamic_12 : IsDynamic ds and_roles 12
dynamic_12 = (omega arith, 7, record { kind = Keep; drain = 12; gate = 13; source = 0 }, refl, inl (refl, inl refl))

-- its clock and its output are the only ones
pub clock_is : (clock output : ℕ) → HasFront ds and_roles 12 clock output → clock ≡ 2
clock_is clock out f =
    each (λ p d. d.kind ≡ pch → d.gate ≡ clock → EndsAt d 12 → clock ≡ 2)
    (λ k g t. absurd (cc)) (λ k g t. absurd (elim t [ inl z ↦ omega (arith, z) | inr z ↦ omega (arith, z) ])) (λ k g t. absurd (cc))
    (λ k g t. absurd (elim t [ inl z ↦ omega (arith, z) | inr z ↦ omega (arith, z) ])) (λ k g t. absurd (cc)) (λ k g t. absurd (cc)) (λ k g t. absurd (cc)) (λ k g t. absurd (cc)) (λ k g t. sym g)
    f.precharge f.precharge_device f.precharge_there (f.precharge_is).0 (f.precharge_is).1 (ends_at f.precharge_device 12 vdd_port (f.precharge_is).2)

output_is : (clock output : ℕ) → HasFront ds and_roles 12 clock output → output ≡ 13
output_is clock out f =
    each (λ p d. d.kind ≡ Keep → d.gate ≡ out → out ≡ 13)
    (λ k g. absurd (cc)) (λ k g. absurd (cc)) (λ k g. absurd (cc)) (λ k g. absurd (cc)) (λ k g. absurd (cc)) (λ k g. absurd (cc)) (λ k g. absurd (cc)) (λ k g. sym g) (λ k g. absurd (cc))
    f.keeper f.keeper_device f.keeper_there (f.keeper_is).0 (f.keeper_is).1

out_13 : HasOutput ds and_roles 12 13
out_13 = (
  omega arith,
  record {
    up = 3;
    down = 2;
    pull_up = record { kind = pch; drain = 13; gate = 12; source = 0 };
    pull_down = record { kind = nch; drain = 1; gate = 12; source = 13 };
    up_there = refl;
    up_is = (refl, refl, inl (refl, refl));
    down_there = refl;
    down_is = (refl, refl, inr (refl, refl));
    only = each (λ p d. EndsAt d 13 → (p ≡ 3) ⊎ (p ≡ 2)) (λ t. absurd (grind arith)) (λ t. absurd (grind arith)) (λ t. inr refl) (λ t. inl refl) (λ t. absurd (grind arith)) (λ t. absurd (grind arith)) (λ t. absurd (grind arith)) (λ t. absurd (grind arith)) (λ t. absurd (grind arith));
  },
)

-- the nets that are reached
reach_set : (m : ℕ) → Reached ds and_roles 12 m → (m ≡ 12) ⊎ ((14 ≤ m) × (m ≤ 15))
reach_set m here = inl refl
reach_set m (step {m = b} p d r at k e f) =
    let before = reach_set b r in
    each (λ p d. d.kind ≡ nch → Ends d b m → (m ≡ 12) ⊎ ((14 ≤ m) × (m ≤ 15)))
    (λ k e. absurd (grind arith)) (λ k e. absurd (cc)) (λ k e. absurd (grind arith)) (λ k e. absurd (cc)) (λ k e. grind arith) (λ k e. grind arith) (λ k e. grind arith) (λ k e. absurd (cc)) (λ k e. absurd (cc))
    p d at k e

reached_15 : Reached ds and_roles 12 15
reached_15 = step 6 (record { kind = nch; drain = 15; gate = 9; source = 12 }) here refl refl (inr (refl, refl)) (omega arith)

reached_14 : Reached ds and_roles 12 14
reached_14 = step 5 d5 reached_15 refl refl (inl (refl, refl)) (omega arith)

inside_at : (n : ℕ) → 14 ≤ n → n ≤ 15 → IsInside ds and_roles n
inside_at n a b = record {
  reached = each (λ p d. EndsAt d n → d.kind ≡ nch)
      (λ t. refl) (λ t. absurd (grind arith)) (λ t. refl) (λ t. absurd (grind arith)) (λ t. refl) (λ t. refl) (λ t. refl) (λ t. absurd (grind arith)) (λ t. absurd (grind arith));
  gates_none = each (λ p d. d.gate ≢ n)
      (λ e. omega (arith, e)) (λ e. omega (arith, e)) (λ e. omega (arith, e)) (λ e. omega (arith, e)) (λ e. omega (arith, e)) (λ e. omega (arith, e)) (λ e. omega (arith, e)) (λ e. omega (arith, e)) (λ e. omega (arith, e));
  no_port = omega arith;
}

abbrev pub the_tree : Tree Link
the_tree = Series (Leaf (record { number = 6; from = 15; to = 12; width = 1; height = 1 })) (Leaf (record { number = 5; from = 15; to = 14; width = 1; height = 1 }))

pub tree_is : HasTree ds and_roles 12 2 14 the_tree
tree_is = record {
  foot = 4;
  foot_device = record { kind = nch; drain = 14; gate = 2; source = 1 };
  foot_there = refl;
  foot_is = (refl, refl, inl (refl, refl));
  bottom_reached = reached_14;
  one_foot = λ p d n at r t away. each (λ p d. d.kind ≡ nch → (m : ℕ) → Reached ds and_roles 12 m → EndsAt d m → EndsAt d n → (11 ≤ n → ⊥) → p ≡ 4)
      (λ k m r u t away. let s = reach_set m r in absurd (grind arith)) (λ k m r u t away. absurd (cc)) (λ k m r u t away. let s = reach_set m r in absurd (grind arith)) (λ k m r u t away. absurd (cc))
      (λ k m r u t away. refl) (λ k m r u t away. absurd (away (grind arith))) (λ k m r u t away. absurd (away (grind arith))) (λ k m r u t away. absurd (cc)) (λ k m r u t away. absurd (cc))
      p d at r.0 r.1 r.2 r.3 t away;
  apart = λ e. omega (arith, e);
  between = (15, (inr (refl, refl), (λ e. omega (arith, e))), (inl (refl, refl), (λ e. omega (arith, e))), (λ x t u. shared x t.0 t.1 t.2 u.0 u.1 u.2), (λ e f c d z. numbers e f c d z));
  links_are = λ e. (
    (λ c. elim c [
      | inl z ↦ (6, record { kind = nch; drain = 15; gate = 9; source = 12 }, refl, (refl, 12, here, inr refl), (λ y. omega (arith, y)), z)
      | inr z ↦ (5, d5, refl, (refl, 15, reached_15, inl refl), (λ y. omega (arith, y)), z)
    ]),
    (λ l. each (λ p d. d.kind ≡ nch → (m : ℕ) → Reached ds and_roles 12 m → EndsAt d m → p ≢ 4 → e ≡ link_at p d → Has the_tree e)
        (λ k m r u n z. let s = reach_set m r in absurd (grind arith)) (λ k m r u n z. absurd (cc)) (λ k m r u n z. let s = reach_set m r in absurd (grind arith)) (λ k m r u n z. absurd (cc))
        (λ k m r u n z. absurd (n refl)) (λ k m r u n z. inr z) (λ k m r u n z. inl z) (λ k m r u n z. absurd (cc)) (λ k m r u n z. absurd (cc))
        l.0 l.1 l.2 l.3.0 l.3.1 l.3.2 l.3.3 l.4 l.5),
  );
  inside = λ n r away. elim (reach_set n r) [ inl z ↦ absurd (away z) | inr z ↦ inside_at n z.0 z.1 ];
}
  where
    shared : (x : ℕ) (e : Link) → e ≡ record { number = 6; from = 15; to = 12; width = 1; height = 1 } → LinkEndsAt e x → (f : Link) → f ≡ record { number = 5; from = 15; to = 14; width = 1; height = 1 } → LinkEndsAt f x → x ≡ 15
    shared x e z t f w u =
        let t' : (15 ≡ x) ⊎ (12 ≡ x) = rw z at t in
        let u' : (15 ≡ x) ⊎ (14 ≡ x) = rw w at u in
        grind arith

    numbers : (e f : Link) → e ≡ record { number = 6; from = 15; to = 12; width = 1; height = 1 } → f ≡ record { number = 5; from = 15; to = 14; width = 1; height = 1 } → e.number ≢ f.number
    numbers e f z w y = omega (arith, ap (λ (l : Link). l.number) z, ap (λ (l : Link). l.number) w, y)

-- its one inner net
pub mid_is : (j : ℕ) → j < 1 + (0 + 0) → slice_get (mids the_tree 12 14 tree_is.between) j ≡ Some 15
unfolding tree_is
mid_is zero lt = refl
mid_is (suc j) lt = absurd (omega (arith, lt))

pub no_group : (g : Group) (places : List ℕ) → IsGroup ds and_roles g places → ⊥
no_group g places is =
    let a = (cards_at ds and_roles g places is).0 in
    each (λ p d. d.gate ≡ 4 → ⊥)
    (λ e. omega (arith, e)) (λ e. omega (arith, e)) (λ e. omega (arith, e)) (λ e. omega (arith, e)) (λ e. omega (arith, e)) (λ e. omega (arith, e)) (λ e. omega (arith, e)) (λ e. omega (arith, e)) (λ e. omega (arith, e))
    a.place a.device a.there (twin_gate a.device _ a.twin)

pub no_complement : (n i : ℕ) → MayBeComplement ds and_roles n i → ⊥
no_complement n i m =
    each (λ p d. d.kind ≡ pch → d.gate ≡ i → IsPin and_roles i ⊎ IsLatchOutput ds and_roles i → ⊥)
    (λ k g s. absurd (cc)) (λ k g s. pin 12 g (omega arith) s) (λ k g s. absurd (cc)) (λ k g s. pin 12 g (omega arith) s) (λ k g s. absurd (cc)) (λ k g s. absurd (cc)) (λ k g s. absurd (cc)) (λ k g s. absurd (cc))
    (λ k g s. elim s [ inl z ↦ omega (arith, g, z.0) | inr z ↦ no_group z.0 z.1 z.2 ])
    (m.inverts).up (m.inverts).pull_up (m.inverts).up_there ((m.inverts).up_is).0 ((m.inverts).up_is).1 m.of_signal
  where
    pin : (a : ℕ) → a ≡ i → 11 ≤ a → IsPin and_roles i ⊎ IsLatchOutput ds and_roles i → ⊥
    pin a e l (inl z) = omega (arith, e, l, z.1)
    pin a e l (inr z) = no_group z.0 z.1 z.2

pub inverts_11 : IsInverterOutput ds 11 12
inverts_11 = record {
  up = 1;
  down = 0;
  pull_up = record { kind = pch; drain = 0; gate = 12; source = 11 };
  pull_down = record { kind = nch; drain = 11; gate = 12; source = 1 };
  up_there = refl;
  up_is = (refl, refl, inr (refl, refl));
  down_there = refl;
  down_is = (refl, refl, inl (refl, refl));
  only = each (λ p d. EndsAt d 11 → (p ≡ 1) ⊎ (p ≡ 0)) (λ t. inr refl) (λ t. inl refl) (λ t. absurd (grind arith)) (λ t. absurd (grind arith)) (λ t. absurd (grind arith)) (λ t. absurd (grind arith)) (λ t. absurd (grind arith)) (λ t. absurd (grind arith)) (λ t. absurd (grind arith));
}

use_11 : KeepsUse ds and_roles 11
use_11 = record {
  used = inr (inl (inr (omega arith, omega arith), (12, inverts_11, inl dynamic_12)));
  out_gates_none = λ o. each (λ p d. d.gate ≢ 11) (λ e. omega (arith, e)) (λ e. omega (arith, e)) (λ e. omega (arith, e)) (λ e. omega (arith, e)) (λ e. omega (arith, e)) (λ e. omega (arith, e)) (λ e. omega (arith, e)) (λ e. omega (arith, e)) (λ e. omega (arith, e));
  data_gates_own = λ g places is. absurd (no_group g places is);
}

output_13 : IsOutputOf ds 12 13
output_13 = (7, record { kind = Keep; drain = 12; gate = 13; source = 0 }, refl, refl, inl refl, refl)

loose_is : (n : ℕ) → IsLoose ds and_roles 16 n → n ≡ 11
loose_is n l = elim (lt_or_ge n 12) [
  | inl a ↦ omega (arith, a, l.free)
  | inr a ↦ elim (lt_or_ge n 13) [
    | inl b ↦ let e : 12 ≡ n = omega (arith, a, b) in absurd (l.no_cell 12 dynamic_12 (subst (Reached ds and_roles 12) e here))
    | inr b ↦ elim (lt_or_ge n 14) [
      | inl c ↦ let e : 13 ≡ n = omega (arith, b, c) in absurd (l.no_output (12, dynamic_12, subst (IsOutputOf ds 12) e output_13))
      | inr c ↦ elim (lt_or_ge n 15) [
        | inl f ↦ let e : 14 ≡ n = omega (arith, c, f) in absurd (l.no_cell 12 dynamic_12 (subst (Reached ds and_roles 12) e reached_14))
        | inr f ↦ let e : 15 ≡ n = omega (arith, f, l.in_range) in absurd (l.no_cell 12 dynamic_12 (subst (Reached ds and_roles 12) e reached_15))
      ]
    ]
  ]
]

tree_gates : (p : ℕ) (d : Device) → StandsAt ds p d → IsTreeDevice ds and_roles 12 d → (9 ≤ d.gate) × (d.gate < 11)
tree_gates p d at t =
    each (λ p d. d.kind ≡ nch → 11 ≤ d.drain → 11 ≤ d.source → (9 ≤ d.gate) × (d.gate < 11))
    (λ k a b. absurd (omega (arith, b))) (λ k a b. absurd (cc)) (λ k a b. absurd (omega (arith, a))) (λ k a b. absurd (cc)) (λ k a b. absurd (omega (arith, b)))
    (λ k a b. (omega arith, omega arith)) (λ k a b. (omega arith, omega arith)) (λ k a b. absurd (cc)) (λ k a b. absurd (cc))
    p d at t.0.0 t.1 t.2

keeper_gate : (p : ℕ) (d : Device) → StandsAt ds p d → d.kind ≡ Keep → d.gate ≡ 13
keeper_gate = each (λ p d. d.kind ≡ Keep → d.gate ≡ 13)
    (λ k. absurd (cc)) (λ k. absurd (cc)) (λ k. absurd (cc)) (λ k. absurd (cc)) (λ k. absurd (cc)) (λ k. absurd (cc)) (λ k. absurd (cc)) (λ k. refl) (λ k. absurd (cc))

no_read : (y : ℕ) → Reads ds and_roles 12 y → ⊥
no_read y r = let g = tree_gates r.0 r.1 r.2 r.3 in omega (arith, g.1, keeper_gate r.5.0 r.5.1 r.5.2 r.5.3, r.5.5)

no_dependence : (y : ℕ) → DependsOn ds and_roles 12 y → ⊥
no_dependence y (reads r) = no_read y r
no_dependence y (further {y = z} d r) = no_dependence z d

pub keeps_rules : KeepsRules ds and_roles 16
keeps_rules = record {
  front = λ x h. (2, 13, rw (dynamic_is x h) front_12);
  output = λ x clock out h f. let e = dynamic_is x h in rw (e, output_is clock out (rw e at f)) out_13;
  tree = λ x clock out h f. let e = dynamic_is x h in (14, the_tree, rw (e, clock_is clock out (rw e at f)) tree_is);
  latch = λ n a. absurd (each (λ p d. (3 ≤ d.gate) × (d.gate < 9) → ⊥)
      (λ z. omega (arith, z.1)) (λ z. omega (arith, z.1)) (λ z. omega (arith, z.1)) (λ z. omega (arith, z.1)) (λ z. omega (arith, z.0)) (λ z. omega (arith, z.1)) (λ z. omega (arith, z.1)) (λ z. omega (arith, z.1)) (λ z. omega (arith, z.0))
      a.1 a.2 a.3 a.5);
  use_of = λ n h. subst (KeepsUse ds and_roles) (sym (elim h [ inl l ↦ loose_is n l | inr k ↦ sink_is n k ])) use_11;
  no_bridge = each (λ p d. (11 ≤ d.drain → ⊥) × (11 ≤ d.source → ⊥) → ⊥)
      (λ z. z.0 (omega arith)) (λ z. z.1 (omega arith)) (λ z. z.1 (omega arith)) (λ z. z.0 (omega arith)) (λ z. z.0 (omega arith)) (λ z. z.0 (omega arith)) (λ z. z.0 (omega arith)) (λ z. z.0 (omega arith)) (λ z. z.1 (omega arith));
  leaves = λ x p d h at t. inl (tree_gates p d at (rw (dynamic_is x h) at t));
  no_loop = λ x h d. no_dependence 12 (rw (dynamic_is x h) at d);
}
  where
    sink_is : (n : ℕ) → IsLatchData ds and_roles n ⊎ IsOutPort and_roles n → n ≡ 11
    sink_is n (inl z) = absurd (no_group z.0 z.1 z.2)
    sink_is n (inr z) = omega (arith, z.0, z.1)
