-- The parts that are left, as a list of links, and what is left once two are joined.
use Rattle.std.specs.Prelude.{Bool, Contains, Some, false, slice_get, true, ◌≢◌, ◌⊎◌, ◌↔◌}
use Rattle.std.proofs.Common.{List, [], ap, arith, inl, inr, length, length-append, refl, set, subst, suc, sym, zero, ℕ, ◌++◌, ◌+◌, ◌∙◌, ◌∷◌, ◌≡◌, ◌≤◌}
use Rattle.std.proofs.lemmas.List.{length-set}
use Rattle.std.proofs.lemmas.List.Elements.{Contains-append_cases}
use Rattle.std.proofs.lemmas.Option.{slice_get_within}
use Rattle.dom_base.proofs.Lists.{Contains-first, Contains-later, slice_get-append, slice_get-push, slice_get-push_cases, slice_get-set_other}
use Rattle.sp_reduction.specs.Networks.{Link}
use Rattle.sp_reduction.specs.Reduction.{EachOnce, Merges}
use Rattle.link_reduce.specs.Parts.{part_link}
use Rattle.link_reduce.specs.Reductions.{IsLive, LiveLink, ReductionData, live_from, live_links, total, with_joined}
use Rattle.link_reduce.specs.declared.part.Part.{Part}

pub cons_cases : {X : Type 0} (x : X) (xs : List X) (y : X) → Contains (x ∷ xs) y → (y ≡ x) ⊎ Contains xs y
cons_cases {X} x xs y c = elim (Contains-append_cases (x ∷ []) xs y c) [ inl h ↦ inl (one h) | inr h ↦ inr h ]
  where
    one : Contains (x ∷ []) y → y ≡ x
    one (zero, l, e) = sym e
    one (suc k, l, e) = absurd (omega (arith, l))

no_element : {X : Type 0} (x : X) → Contains [] x → ⊥
no_element x (k, l, e) = omega (arith, l)

-- what two parts at an index are
pub one_part : (ps : List Part) (i : ℕ) (p q : Part) → slice_get ps i ≡ Some p → slice_get ps i ≡ Some q → p ≡ q
one_part ps i p q e h = let z : Some p ≡ Some q = sym e ∙ h in cc

live_to : (i : ℕ) (ps : List Part) (ls : List Bool) (g : Link) → Contains (live_from i ps ls) g
    → (j : ℕ) × (p : Part) × (slice_get ps j ≡ Some p) × (slice_get ls j ≡ Some true) × (g ≡ part_link (i + j) p)
live_to i [] ls g c = absurd (no_element g c)
live_to i (p ∷ ps) [] g c = absurd (no_element g c)
live_to i (p ∷ ps) (true ∷ ls) g c = elim (cons_cases (part_link i p) (live_from (i + 1) ps ls) g c) [
  | inl z ↦ let s : i ≡ i + 0 = omega arith in (0, p, refl, refl, z ∙ ap (λ n. part_link n p) s)
  | inr h ↦
      let y = live_to (i + 1) ps ls g h in
      let s : i + 1 + y.0 ≡ i + suc y.0 = omega arith in
      (suc y.0, y.1, y.2, y.3, y.4 ∙ ap (λ n. part_link n y.1) s)
]
live_to i (p ∷ ps) (false ∷ ls) g c =
    let y = live_to (i + 1) ps ls g c in
    let s : i + 1 + y.0 ≡ i + suc y.0 = omega arith in
    (suc y.0, y.1, y.2, y.3, y.4 ∙ ap (λ n. part_link n y.1) s)

live_at : (i : ℕ) (ps : List Part) (ls : List Bool) (j : ℕ) (p : Part) → slice_get ps j ≡ Some p → slice_get ls j ≡ Some true
    → Contains (live_from i ps ls) (part_link (i + j) p)
live_at i [] ls j p e h = absurd cc
live_at i (q ∷ ps) [] j p e h = absurd cc
live_at i (q ∷ ps) (true ∷ ls) zero p e h =
    let s : i ≡ i + 0 = omega arith in
    let z : q ≡ p = cc in
    subst (Contains (part_link i q ∷ live_from (i + 1) ps ls)) (ap (λ n. part_link n q) s ∙ ap (part_link (i + 0)) z)
    (Contains-first (part_link i q) (live_from (i + 1) ps ls))
live_at i (q ∷ ps) (false ∷ ls) zero p e h = absurd cc
live_at i (q ∷ ps) (true ∷ ls) (suc j) p e h =
    let s : i + 1 + j ≡ i + suc j = omega arith in
    Contains-later (part_link i q) (live_from (i + 1) ps ls) (part_link (i + suc j) p)
    (subst (λ n. Contains (live_from (i + 1) ps ls) (part_link n p)) s (live_at (i + 1) ps ls j p e h))
live_at i (q ∷ ps) (false ∷ ls) (suc j) p e h =
    let s : i + 1 + j ≡ i + suc j = omega arith in
    subst (λ n. Contains (live_from (i + 1) ps ls) (part_link n p)) s (live_at (i + 1) ps ls j p e h)

-- the list has the links that are left
pub live_is : (r : ReductionData) (g : Link) → Contains (live_links r) g ↔ LiveLink r g
live_is r g = (
  (λ c.
      let y = live_to 0 r.parts r.live g c in
      let s : 0 + y.0 ≡ y.0 = omega arith in
      (y.0, y.1, (y.2, y.3), y.4 ∙ ap (λ n. part_link n y.1) s)),
  (λ y.
      let s : 0 + y.0 ≡ y.0 = omega arith in
      subst (Contains (live_links r)) (ap (λ n. part_link n y.1) s ∙ sym y.3) (live_at 0 r.parts r.live y.0 y.1 y.2.0 y.2.1)),
)

pub live_once : (r : ReductionData) → EachOnce (live_links r)
live_once r g h c d z = by ((live_is r g).0 c) ((live_is r h).0 d)
  where
    by : LiveLink r g → LiveLink r h → g ≡ h
    by (i, p, l, x) (j, q, m, y) =
        let same : i ≡ j = sym (ap (λ (k : Link). k.number) x) ∙ z ∙ ap (λ (k : Link). k.number) y in
        let part : p ≡ q = one_part r.parts j p q (subst (λ n. slice_get r.parts n ≡ Some p) same l.0) m.0 in
        x ∙ ap (λ n. part_link n p) same ∙ ap (part_link j) part ∙ sym y

set_true : (ls : List Bool) (j i : ℕ) → slice_get (set ls j false) i ≡ Some true → (i ≢ j) × (slice_get ls i ≡ Some true)
set_true [] j i h = absurd cc
set_true (x ∷ ls) zero zero h = absurd cc
set_true (x ∷ ls) zero (suc i) h = ((λ z. absurd (omega (arith, z))), h)
set_true (x ∷ ls) (suc j) zero h = ((λ z. absurd (omega (arith, z))), h)
set_true (x ∷ ls) (suc j) (suc i) h = let y = set_true ls j i h in ((λ z. y.0 (omega (arith, z))), y.1)

-- the measure of what is left where a part is taken away, and where one is added
total_set : (m : Part → ℕ) (ps : List Part) (ls : List Bool) (i : ℕ) (p : Part) → slice_get ps i ≡ Some p → slice_get ls i ≡ Some true
    → total m ps (set ls i false) + m p ≡ total m ps ls
total_set m [] ls i p e h = absurd cc
total_set m (q ∷ ps) [] i p e h = absurd cc
total_set m (q ∷ ps) (true ∷ ls) zero p e h = let z : q ≡ p = cc in omega (arith, ap m z)
total_set m (q ∷ ps) (false ∷ ls) zero p e h = absurd cc
total_set m (q ∷ ps) (true ∷ ls) (suc i) p e h = omega (arith, total_set m ps ls i p e h)
total_set m (q ∷ ps) (false ∷ ls) (suc i) p e h = total_set m ps ls i p e h

total_push : (m : Part → ℕ) (ps : List Part) (ls : List Bool) (p : Part) → length ls ≡ length ps
    → total m (ps ++ p ∷ []) (ls ++ true ∷ []) ≡ total m ps ls + m p
total_push m [] [] p long = omega arith
total_push m [] (x ∷ ls) p long = absurd (omega (arith, long))
total_push m (q ∷ ps) [] p long = absurd (omega (arith, long))
total_push m (q ∷ ps) (true ∷ ls) p long = omega (arith, total_push m ps ls p (omega (arith, long)))
total_push m (q ∷ ps) (false ∷ ls) p long = total_push m ps ls p (omega (arith, long))

module _ (r : ReductionData) (e f : ℕ) (pe pf new : Part) (long : length r.live ≡ length r.parts) where
  count_set : length (set (set r.live e false) f false) ≡ length r.parts
  count_set = length-set (set r.live e false) f false ∙ length-set r.live e false ∙ long

  pub joined_long : length (with_joined r e f new).live ≡ length (with_joined r e f new).parts
  joined_long =
      length-append (set (set r.live e false) f false) (true ∷ []) ∙ ap (λ n. n + 1) count_set ∙ sym (length-append r.parts (new ∷ []))

  pub new_live : IsLive (with_joined r e f new) (length r.parts) new
  new_live = (
    slice_get-push r.parts new,
    subst (λ n. slice_get (set (set r.live e false) f false ++ true ∷ []) n ≡ Some true) count_set (slice_get-push (set (set r.live e false) f false) true),
  )

  pub still_live : (i : ℕ) (p : Part) → IsLive r i p → i ≢ e → i ≢ f → IsLive (with_joined r e f new) i p
  still_live i p l ne nf = (
    slice_get-append r.parts (new ∷ []) i p l.0,
    slice_get-append (set (set r.live e false) f false) (true ∷ []) i true
        (slice_get-set_other (set r.live e false) f i false nf ∙ slice_get-set_other r.live e i false ne ∙ l.1),
  )

  pub live_cases : (i : ℕ) (p : Part) → IsLive (with_joined r e f new) i p → ((i ≡ length r.parts) × (p ≡ new)) ⊎ (IsLive r i p × (i ≢ e) × (i ≢ f))
  live_cases i p l = elim (slice_get-push_cases r.parts new i p l.0) [
    | inr z ↦ inl (z.0, sym z.1)
    | inl h ↦ elim (slice_get-push_cases (set (set r.live e false) f false) true i true l.1) [
      | inr z ↦ absurd (omega (arith, z.0, count_set, slice_get_within r.parts i p h))
      | inl k ↦
          let one = set_true (set r.live e false) f i k in
          let two = set_true r.live e i one.1 in
          inr ((h, two.1), two.0, one.0)
    ]
  ]

  module _ (le : IsLive r e pe) (lf : IsLive r f pf) (differ : e ≢ f) where
    pub merges : Merges (live_links r) (live_links (with_joined r e f new)) (part_link e pe) (part_link f pf) (part_link (length r.parts) new)
    merges = record {
      one = (live_is r (part_link e pe)).1 (e, pe, le, refl);
      other = (live_is r (part_link f pf)).1 (f, pf, lf, refl);
      differ = differ;
      fresh = λ g c z.
          let y = (live_is r g).0 c in
          absurd (omega (arith, slice_get_within r.parts y.0 y.1 y.2.0, ap (λ (k : Link). k.number) y.3, z));
      are = λ g. (to g, from g);
    }
      where
        to : (g : Link) → Contains (live_links (with_joined r e f new)) g
            → (g ≡ part_link (length r.parts) new) ⊎ (Contains (live_links r) g × (g.number ≢ e) × (g.number ≢ f))
        to g c =
            let y = (live_is (with_joined r e f new) g).0 c in
            elim (live_cases y.0 y.1 y.2) [
              | inl z ↦ inl (y.3 ∙ ap (λ n. part_link n y.1) z.0 ∙ ap (part_link (length r.parts)) z.1)
              | inr z ↦ inr (
                (live_is r g).1 (y.0, y.1, z.0, y.3),
                (λ w. z.1 (sym (ap (λ (k : Link). k.number) y.3) ∙ w)),
                (λ w. z.2 (sym (ap (λ (k : Link). k.number) y.3) ∙ w)),
              )
            ]

        from : (g : Link) → (g ≡ part_link (length r.parts) new) ⊎ (Contains (live_links r) g × (g.number ≢ e) × (g.number ≢ f))
            → Contains (live_links (with_joined r e f new)) g
        from g (inl z) = (live_is (with_joined r e f new) g).1 (length r.parts, new, new_live, z)
        from g (inr (c, ne, nf)) =
            let y = (live_is r g).0 c in
            let number = ap (λ (k : Link). k.number) y.3 in
            (live_is (with_joined r e f new) g).1 (y.0, y.1, still_live y.0 y.1 y.2 (λ w. ne (number ∙ w)) (λ w. nf (number ∙ w)), y.3)

    pub joined_total : (m : Part → ℕ) → total m (with_joined r e f new).parts (with_joined r e f new).live + m pe + m pf ≡ total m r.parts r.live + m new
    joined_total m =
        let one = total_set m r.parts r.live e pe le.0 le.1 in
        let two = total_set m r.parts (set r.live e false) f pf lf.0 (slice_get-set_other r.live e f false (λ z. differ (sym z)) ∙ lf.1) in
        let more = total_push m r.parts (set (set r.live e false) f false) new count_set in
        omega (arith, one, two, more)

-- two parts that are left are no more than all
pub two_fit : (r : ReductionData) (e f : ℕ) (pe pf : Part) → IsLive r e pe → IsLive r f pf → e ≢ f → (m : Part → ℕ) → m pe + m pf ≤ total m r.parts r.live
two_fit r e f pe pf le lf differ m =
    let one = total_set m r.parts r.live e pe le.0 le.1 in
    let two = total_set m r.parts (set r.live e false) f pf lf.0 (slice_get-set_other r.live e f false (λ z. differ (sym z)) ∙ lf.1) in
    omega (arith, one, two)
