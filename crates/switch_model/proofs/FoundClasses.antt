-- One more device of a walk: what is found of the classes of nets.
use Rattle.std.proofs.Common.{◌≡◌, ◌≢◌, ◌∙◌, ℕ, Bool, true, false, List, [], ◌∷◌, refl, sym, subst, ap, inl, inr, arith}
use Rattle.std.specs.Prelude.{◌⊎◌, ◌↔◌, Contains}
use Rattle.std.proofs.lemmas.Bool.{cases_eq}
use Rattle.dom_base.specs.declared.tri.Tri.{Tri}
use Rattle.dom_base.proofs.Bools.{never}
use Rattle.deck.specs.Paths.{Ends}
use Rattle.deck.specs.Switches.{value_of}
use Rattle.deck.specs.declared.device.Device.{Device}
use Rattle.switch_model.specs.Found.{AreFound, IsCharge, IsUnited, IsWith, class_at, class_of}
use Rattle.switch_model.specs.FourDrives.{IsTold, no_drives, side, sort_of, tells}
use Rattle.switch_model.specs.Joins.{AreJoined, top_of}
use Rattle.switch_model.specs.Laws.{EndsAt}
use Rattle.switch_model.specs.Walks.{IsJoint, IsLed, Linked, PassesSort}
use Rattle.switch_model.specs.declared.class.Class.{Class}
use Rattle.switch_model.specs.declared.drives.Drives.{Drives}
use Rattle.switch_model.specs.declared.room.Room.{Room}
use Rattle.switch_model.specs.declared.sort.Sort.{Sort}
use Rattle.switch_model.proofs.DriveBits.{has_none}
use Rattle.switch_model.proofs.PlainClasses.{passes_possible}
use Rattle.switch_model.proofs.Told.{charge_same, charge_with, told_same, told_with}
use Rattle.switch_model.proofs.Walking.{linked-more, linked-skip, told_more, told_skip}

-- before the walk: each net alone, with its value
pub found_none : (nets : List ℕ) (is_source : ℕ → Bool) (sort : Sort) (values : List Tri) (room : Room)
    → ((n : ℕ) → Contains nets n → top_of room.parents.items n ≡ n) → ((n : ℕ) → Contains nets n → (class_at room.classes.items n).drives ≡ no_drives)
    → ((n : ℕ) → Contains nets n → (class_at room.classes.items n).charge ≡ value_of values n) → AreFound room.parents.items nets is_source sort values [] room
found_none nets is_source sort values room alone drives charge = record {
  joined = λ x y. ((λ e. e), λ e. e);
  driven = λ definite keepers n member.
      subst (λ (t : ℕ). IsTold (class_at room.classes.items t).drives definite keepers (IsLed room.parents.items (PassesSort (sort_of definite keepers) values) is_source [] t) values) (sym (alone n member))
      (subst (λ (x : Drives). IsTold x definite keepers (IsLed room.parents.items (PassesSort (sort_of definite keepers) values) is_source [] n) values) (sym (drives n member))
      (λ high. ((λ e. absurd (never e (has_none definite keepers high))), λ w. absurd (omega (arith, w.1.1.1)))));
  charged = λ n member.
      let c : (class_of room n).charge ≡ value_of values n = ap (λ (t : ℕ). (class_at room.classes.items t).charge) (alone n member) ∙ charge n member in
      inl (λ m z. ap (value_of values) (sym (alone m z.0) ∙ z.1 ∙ alone n member) ∙ sym c);
}

module _ (start nets : List ℕ) (is_source : ℕ → Bool) (sort : Sort) (values : List Tri) (ds : List Device) (d : Device) where
  -- the device joins no nets by the sort, and leads to no source
  pub found_skip : (room : Room) → (IsJoint (PassesSort sort values) is_source d → ⊥)
      → ((m s : ℕ) → PassesSort (sort_of false true) values d → Ends d m s → is_source m ≡ false → is_source s ≡ true → ⊥)
      → AreFound start nets is_source sort values ds room → AreFound start nets is_source sort values (d ∷ ds) room
  found_skip room none leads f = record {
    joined = linked-skip (AreJoined start) (PassesSort sort values) is_source room.parents.items room.parents.items ds d f.joined none;
    driven = λ definite keepers n member.
        told_skip room.parents.items (PassesSort (sort_of definite keepers) values) is_source ds d (top_of room.parents.items n) values (class_of room n).drives definite keepers
        (λ m s q e g h at. leads m s (passes_possible definite keepers values d q) e g h) (f.driven definite keepers n member);
    charged = f.charged;
  }

  -- the device leads from a net to a source, and the forest stays
  lead_still : (old new : Room) (more : Drives) (m s : ℕ) → new.parents.items ≡ old.parents.items
      → ((t : ℕ) → t ≡ top_of old.parents.items m → IsWith (class_at old.classes.items t).drives more (class_at new.classes.items t).drives)
      → ((t : ℕ) → (class_at new.classes.items t).charge ≡ (class_at old.classes.items t).charge)
      → ((t : ℕ) → t ≢ top_of old.parents.items m → class_at new.classes.items t ≡ class_at old.classes.items t)
      → (IsJoint (PassesSort sort values) is_source d → ⊥) → Ends d m s → is_source m ≡ false → is_source s ≡ true
      → ((m' s' : ℕ) → PassesSort (sort_of false true) values d → Ends d m' s' → is_source m' ≡ false → is_source s' ≡ true → (m' ≡ m) × (s' ≡ s))
      → ((definite keepers high : Bool) → (tells more definite keepers high ≡ true) ↔ (PassesSort (sort_of definite keepers) values d × (value_of values s ≢ side high)))
      → AreFound start nets is_source sort values ds old → AreFound start nets is_source sort values (d ∷ ds) new
  lead_still old new more m s same driven charge others none e g h only by f =
      record {
        joined = subst (λ (p : List ℕ). (x y : ℕ) → AreJoined p x y ↔ Linked (AreJoined start) (PassesSort sort values) is_source (d ∷ ds) x y) (sym same)
            (linked-skip (AreJoined start) (PassesSort sort values) is_source old.parents.items old.parents.items ds d f.joined none);
        driven = λ definite keepers n member.
            subst (λ (p : List ℕ). IsTold (class_at new.classes.items (top_of p n)).drives definite keepers (IsLed p (PassesSort (sort_of definite keepers) values) is_source (d ∷ ds) (top_of p n)) values) (sym same)
            (drive definite keepers n member);
        charged = λ n member.
            subst (λ (p : List ℕ). IsCharge (λ (k : ℕ). Contains nets k × (top_of p k ≡ top_of p n)) values (class_at new.classes.items (top_of p n)).charge) (sym same)
            (subst (λ (c : Tri). IsCharge (λ (k : ℕ). Contains nets k × (top_of old.parents.items k ≡ top_of old.parents.items n)) values c) (sym (charge (top_of old.parents.items n))) (f.charged n member));
      }
    where
      drive : (definite keepers : Bool) (n : ℕ) → Contains nets n
          → IsTold (class_at new.classes.items (top_of old.parents.items n)).drives definite keepers (IsLed old.parents.items (PassesSort (sort_of definite keepers) values) is_source (d ∷ ds) (top_of old.parents.items n)) values
      drive definite keepers n member = elim (cases_eq (top_of old.parents.items n) (top_of old.parents.items m)) [
        | inl at ↦ told_more old.parents.items (PassesSort (sort_of definite keepers) values) is_source ds d (top_of old.parents.items n) values (class_of old n).drives more _ definite keepers m s e g h (sym at)
            (λ m' s' q e' g' h'. (only m' s' (passes_possible definite keepers values d q) e' g' h').1) (driven (top_of old.parents.items n) at)
            (λ high. (
              (λ yes. let z = (by definite keepers high).0 yes in (s, (z.0, refl), z.1)),
              λ w. (by definite keepers high).1 (w.1.0, subst (λ (k : ℕ). value_of values k ≢ side high) w.1.1 w.2),
            ))
            (f.driven definite keepers n member)
        | inr ne ↦ subst (λ (c : Class). IsTold c.drives definite keepers (IsLed old.parents.items (PassesSort (sort_of definite keepers) values) is_source (d ∷ ds) (top_of old.parents.items n)) values)
            (sym (others (top_of old.parents.items n) ne))
            (told_skip old.parents.items (PassesSort (sort_of definite keepers) values) is_source ds d (top_of old.parents.items n) values (class_of old n).drives definite keepers
            (λ m' s' q e' g' h' at'. ne (sym at' ∙ ap (top_of old.parents.items) (only m' s' (passes_possible definite keepers values d q) e' g' h').0)) (f.driven definite keepers n member))
      ]

-- a forest with the same tops
pub found_flat : (start nets : List ℕ) (is_source : ℕ → Bool) (sort : Sort) (values : List Tri) (ds : List Device) (old new : Room)
    → ((n : ℕ) → top_of new.parents.items n ≡ top_of old.parents.items n) → new.classes.items ≡ old.classes.items
    → AreFound start nets is_source sort values ds old → AreFound start nets is_source sort values ds new
found_flat start nets is_source sort values ds old new tops classes f = record {
  joined = λ x y. ((λ e. (f.joined x y).0 (sym (tops x) ∙ e ∙ tops y)), λ l. tops x ∙ (f.joined x y).1 l ∙ sym (tops y));
  driven = λ definite keepers n member.
      told_same (class_of new n).drives definite keepers (IsLed old.parents.items (PassesSort (sort_of definite keepers) values) is_source ds (top_of old.parents.items n))
      (IsLed new.parents.items (PassesSort (sort_of definite keepers) values) is_source ds (top_of new.parents.items n)) values
      (λ s l. (l.0, l.1, l.2, (l.3.0, l.3.1, l.3.2, tops l.3.0 ∙ l.3.3 ∙ sym (tops n)), l.4))
      (λ s l. (l.0, l.1, l.2, (l.3.0, l.3.1, l.3.2, sym (tops l.3.0) ∙ l.3.3 ∙ tops n), l.4))
      (subst (λ (c : Class). IsTold c.drives definite keepers (IsLed old.parents.items (PassesSort (sort_of definite keepers) values) is_source ds (top_of old.parents.items n)) values)
      (sym (same n)) (f.driven definite keepers n member));
  charged = λ n member.
      charge_same (λ m. Contains nets m × (top_of old.parents.items m ≡ top_of old.parents.items n)) (λ m. Contains nets m × (top_of new.parents.items m ≡ top_of new.parents.items n)) values (class_of new n).charge
      (λ m z. (z.0, tops m ∙ z.1 ∙ sym (tops n))) (λ m z. (z.0, sym (tops m) ∙ z.1 ∙ tops n))
      (subst (λ (c : Class). IsCharge (λ (m : ℕ). Contains nets m × (top_of old.parents.items m ≡ top_of old.parents.items n)) values c.charge) (sym (same n)) (f.charged n member));
}
  where
    same : (n : ℕ) → class_of new n ≡ class_of old n
    same n = ap (λ (l : List Class). class_at l (top_of new.parents.items n)) classes ∙ ap (class_at old.classes.items) (tops n)

-- the device leads from a net to a source
pub found_lead : (start nets : List ℕ) (is_source : ℕ → Bool) (sort : Sort) (values : List Tri) (ds : List Device) (d : Device) (old new : Room) (more : Drives) (m s : ℕ)
    → ((n : ℕ) → top_of new.parents.items n ≡ top_of old.parents.items n)
    → ((t : ℕ) → t ≡ top_of old.parents.items m → IsWith (class_at old.classes.items t).drives more (class_at new.classes.items t).drives)
    → ((t : ℕ) → (class_at new.classes.items t).charge ≡ (class_at old.classes.items t).charge)
    → ((t : ℕ) → t ≢ top_of old.parents.items m → class_at new.classes.items t ≡ class_at old.classes.items t)
    → (IsJoint (PassesSort sort values) is_source d → ⊥) → Ends d m s → is_source m ≡ false → is_source s ≡ true
    → ((m' s' : ℕ) → PassesSort (sort_of false true) values d → Ends d m' s' → is_source m' ≡ false → is_source s' ≡ true → (m' ≡ m) × (s' ≡ s))
    → ((definite keepers high : Bool) → (tells more definite keepers high ≡ true) ↔ (PassesSort (sort_of definite keepers) values d × (value_of values s ≢ side high)))
    → AreFound start nets is_source sort values ds old → AreFound start nets is_source sort values (d ∷ ds) new
found_lead start nets is_source sort values ds d old new more m s tops driven charge others none e g h only by f =
    let still : Room = record { parents = old.parents; classes = new.classes } in
    found_flat start nets is_source sort values (d ∷ ds) still new tops refl
    (lead_still start nets is_source sort values ds d old still more m s refl driven charge others none e g h only by f)

-- the device joins two nets
module _ (start nets : List ℕ) (is_source : ℕ → Bool) (sort : Sort) (values : List Tri) (ds : List Device) (d : Device) (old new : Room) (keep gone : ℕ)
    (inner : (n : ℕ) → EndsAt d n → is_source n ≡ false → Contains nets n) (joint : IsJoint (PassesSort sort values) is_source d)
    (united : IsUnited old new d.drain d.source keep gone) (f : AreFound start nets is_source sort values ds old) where
  abbrev Old : ℕ → ℕ
  Old = top_of old.parents.items

  abbrev New : ℕ → ℕ
  New = top_of new.parents.items

  -- no end of the device is a source
  no_source : (m s : ℕ) → Ends d m s → is_source s ≡ true → ⊥
  no_source m s (inl e) h = never h (subst (λ n. is_source n ≡ false) e.1 joint.2)
  no_source m s (inr e) h = never h (subst (λ n. is_source n ≡ false) e.1 joint.1)

  -- a net of the list below each of both tops
  at_keep : (m : ℕ) × Contains nets m × (Old m ≡ keep)
  at_keep = elim united.both [
    | inl z ↦ (d.drain, inner d.drain (inl refl) joint.1, sym z.0)
    | inr z ↦ (d.source, inner d.source (inr refl) joint.2, sym z.0)
  ]

  at_gone : (m : ℕ) × Contains nets m × (Old m ≡ gone)
  at_gone = elim united.both [
    | inl z ↦ (d.source, inner d.source (inr refl) joint.2, sym z.1)
    | inr z ↦ (d.drain, inner d.drain (inl refl) joint.1, sym z.1)
  ]

  -- what came below the top that stays, and what stayed where it was
  to_keep : (m : ℕ) → (Old m ≡ keep) ⊎ (Old m ≡ gone) → New m ≡ keep
  to_keep m (inl e) = elim (united.tops m) [ inl z ↦ z.1 | inr z ↦ z.1 ∙ e ]
  to_keep m (inr e) = elim (united.tops m) [ inl z ↦ z.1 | inr z ↦ absurd (z.0 e) ]

  from_keep : (m : ℕ) → New m ≡ keep → (Old m ≡ keep) ⊎ (Old m ≡ gone)
  from_keep m e = elim (united.tops m) [ inl z ↦ inr z.0 | inr z ↦ inl (sym z.1 ∙ e) ]

  stayed : (m : ℕ) → New m ≢ keep → New m ≡ Old m
  stayed m ne = elim (united.tops m) [ inl z ↦ absurd (ne z.1) | inr z ↦ z.1 ]

  below_same : (n m : ℕ) → New n ≢ keep → (New m ≡ New n) ↔ (Old m ≡ Old n)
  below_same n m ne = (
    (λ e. sym (stayed m (λ k. ne (sym e ∙ k))) ∙ e ∙ stayed n ne),
    λ e. elim (united.tops m) [
      | inl z ↦ absurd (elim (united.tops n) [ inl y ↦ ne y.1 | inr y ↦ y.0 (sym e ∙ z.0) ])
      | inr z ↦ z.1 ∙ e ∙ sym (stayed n ne)
    ],
  )

  module _ (definite keepers : Bool) where
    abbrev Q : Device → Type 0
    Q = PassesSort (sort_of definite keepers) values

    abbrev LedOld : ℕ → ℕ → Type 0
    LedOld t s = IsLed old.parents.items Q is_source ds t s

    abbrev LedNew : ℕ → ℕ → Type 0
    LedNew t s = IsLed new.parents.items Q is_source ds t s

    told_at : (t : ℕ) → (m : ℕ) × Contains nets m × (Old m ≡ t) → IsTold (class_at old.classes.items t).drives definite keepers (LedOld t) values
    told_at t z = subst (λ (u : ℕ). IsTold (class_at old.classes.items u).drives definite keepers (LedOld u) values) z.2 (f.driven definite keepers z.0 z.1)

    lift_keep : (s : ℕ) → LedOld keep s → LedNew keep s
    lift_keep s (e, c, q, (m, ends, g, t), src) = (e, c, q, (m, ends, g, to_keep m (inl t)), src)

    lift_gone : (s : ℕ) → LedOld gone s → LedNew keep s
    lift_gone s (e, c, q, (m, ends, g, t), src) = (e, c, q, (m, ends, g, to_keep m (inr t)), src)

    lower_keep : (s : ℕ) → LedNew keep s → LedOld keep s ⊎ LedOld gone s
    lower_keep s (e, c, q, (m, ends, g, t), src) = elim (from_keep m t) [
      | inl x ↦ inl (e, c, q, (m, ends, g, x), src)
      | inr y ↦ inr (e, c, q, (m, ends, g, y), src)
    ]

    told_keep : IsTold (class_at new.classes.items keep).drives definite keepers (LedNew keep) values
    told_keep = told_with _ _ _ definite keepers (LedOld keep) (LedOld gone) (LedNew keep) values united.here.drives lift_keep lift_gone lower_keep (told_at keep at_keep) (told_at gone at_gone)

    led_to : (n : ℕ) → New n ≢ keep → (s : ℕ) → LedOld (Old n) s → LedNew (New n) s
    led_to n ne s (e, c, q, (m, ends, g, t), src) = (e, c, q, (m, ends, g, (below_same n m ne).1 t), src)

    led_from : (n : ℕ) → New n ≢ keep → (s : ℕ) → LedNew (New n) s → LedOld (Old n) s
    led_from n ne s (e, c, q, (m, ends, g, t), src) = (e, c, q, (m, ends, g, (below_same n m ne).0 t), src)

    told_new : (n : ℕ) → Contains nets n → IsTold (class_of new n).drives definite keepers (LedNew (New n)) values
    told_new n member = elim (cases_eq (New n) keep) [
      | inl e ↦ subst (λ (t : ℕ). IsTold (class_at new.classes.items t).drives definite keepers (LedNew t) values) (sym e) told_keep
      | inr ne ↦
          let same : class_of new n ≡ class_of old n = united.others (New n) ne ∙ ap (class_at old.classes.items) (stayed n ne) in
          told_same (class_of new n).drives definite keepers (LedOld (Old n)) (LedNew (New n)) values (led_to n ne) (led_from n ne)
          (subst (λ (c : Class). IsTold c.drives definite keepers (LedOld (Old n)) values) (sym same) (f.driven definite keepers n member))
    ]

    told_joint : (n : ℕ) → Contains nets n → IsTold (class_of new n).drives definite keepers (IsLed new.parents.items Q is_source (d ∷ ds) (New n)) values
    told_joint n member =
        told_skip new.parents.items Q is_source ds d (New n) values (class_of new n).drives definite keepers (λ m s q e g h at. no_source m s e h) (told_new n member)

  abbrev InOld : ℕ → ℕ → Type 0
  InOld t m = Contains nets m × (Old m ≡ t)

  abbrev InNew : ℕ → ℕ → Type 0
  InNew t m = Contains nets m × (New m ≡ t)

  charge_at : (t : ℕ) → (m : ℕ) × Contains nets m × (Old m ≡ t) → IsCharge (InOld t) values (class_at old.classes.items t).charge
  charge_at t z = subst (λ (u : ℕ). IsCharge (InOld u) values (class_at old.classes.items u).charge) z.2 (f.charged z.0 z.1)

  charge_keep : IsCharge (InNew keep) values (class_at new.classes.items keep).charge
  charge_keep =
      charge_with (InOld keep) (InOld gone) (InNew keep) values _ _ _ (λ m z. (z.0, to_keep m (inl z.1))) (λ m z. (z.0, to_keep m (inr z.1)))
      (λ m z. elim (from_keep m z.1) [ inl x ↦ inl (z.0, x) | inr y ↦ inr (z.0, y) ])
      at_keep.0 at_gone.0 (at_keep.1, at_keep.2) (at_gone.1, at_gone.2) united.here.charge (charge_at keep at_keep) (charge_at gone at_gone)

  charge_joint : (n : ℕ) → Contains nets n → IsCharge (InNew (New n)) values (class_of new n).charge
  charge_joint n member = elim (cases_eq (New n) keep) [
    | inl e ↦ subst (λ (t : ℕ). IsCharge (InNew t) values (class_at new.classes.items t).charge) (sym e) charge_keep
    | inr ne ↦
        let same : class_of new n ≡ class_of old n = united.others (New n) ne ∙ ap (class_at old.classes.items) (stayed n ne) in
        charge_same (InOld (Old n)) (InNew (New n)) values (class_of new n).charge (λ m z. (z.0, (below_same n m ne).1 z.1)) (λ m z. (z.0, (below_same n m ne).0 z.1))
        (subst (λ (c : Class). IsCharge (InOld (Old n)) values c.charge) (sym same) (f.charged n member))
  ]

  pub found_joint : ((x y : ℕ) → AreJoined new.parents.items x y ↔ AreJoined old.parents.items x y
      ⊎ ((AreJoined old.parents.items x d.drain × AreJoined old.parents.items d.source y) ⊎ (AreJoined old.parents.items x d.source × AreJoined old.parents.items d.drain y)))
      → AreFound start nets is_source sort values (d ∷ ds) new
  found_joint joined = record {
    joined = linked-more (AreJoined start) (PassesSort sort values) is_source old.parents.items new.parents.items ds d f.joined joint joined;
    driven = told_joint;
    charged = charge_joint;
  }
