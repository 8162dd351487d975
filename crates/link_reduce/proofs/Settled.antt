-- Which nets are settled: those that a step doesn't touch stay so.
use Rattle.std.specs.Prelude.{Contains, Some, slice_get, ◌⊎◌}
use Rattle.std.proofs.Common.{[], inl, inr, length, subst, sym, ℕ, ◌++◌, ◌∷◌, ◌≡◌}
use Rattle.std.proofs.lemmas.List.Elements.{Contains-append_left, Contains-append_right}
use Rattle.dom_base.proofs.Decided.{dec_nat}
use Rattle.dom_base.proofs.Lists.{Contains-first}
use Rattle.sp_reduction.specs.Networks.{EndsAt, Link}
use Rattle.sp_reduction.proofs.Facts.{joins_first}
use Rattle.link_reduce.specs.Parts.{PartEndsAt, part_link}
use Rattle.link_reduce.specs.Reductions.{AreSettled, IsLive, IsSettled, LeadsToThree, LeadsToTwo, LiveLink, ReductionData, with_joined}
use Rattle.link_reduce.specs.declared.part.Part.{Part}
use Rattle.link_reduce.proofs.LiveLinks.{live_cases, one_part, still_live}

-- links at a net that stay
module _ (P Q : Link → Type 0) (n : ℕ) (to : (g : Link) → EndsAt g n → P g → Q g) where
  abbrev two_stay : LeadsToTwo P n → LeadsToTwo Q n
  two_stay y = record {
    u = y.u;
    v = y.v;
    e = y.e;
    f = y.f;
    has_e = to y.e (joins_first y.e n y.u y.first) y.has_e;
    has_f = to y.f (joins_first y.f n y.v y.second) y.has_f;
    first = y.first;
    second = y.second;
    differ = y.differ;
  }

  three_stay : LeadsToThree P n → LeadsToThree Q n
  three_stay y = record {
    two = two_stay y.two;
    w = y.w;
    g = y.g;
    has_g = to y.g (joins_first y.g n y.w y.third) y.has_g;
    third = y.third;
    not_first = y.not_first;
    not_second = y.not_second;
  }

  pub settled_stay : (a b : ℕ) → ((g : Link) → EndsAt g n → Q g → P g) → IsSettled P a b n → IsSettled Q a b n
  settled_stay a b from (inl one) = inl (λ e f c d x y. one e f (from e x c) (from f y d) x y)
  settled_stay a b from (inr (inl z)) = inr (inl (z.0, two_stay z.1))
  settled_stay a b from (inr (inr z)) = inr (inr (three_stay z))

ends_as : (g : Link) (i : ℕ) (p : Part) (n : ℕ) → g ≡ part_link i p → EndsAt g n → PartEndsAt p n
ends_as g i p n z d = subst (λ h. EndsAt h n) z d

dec_end : (p : Part) (n : ℕ) → PartEndsAt p n ⊎ (PartEndsAt p n → ⊥)
dec_end p n = elim (dec_nat p.from n) [
  | inl y ↦ inl (inl y)
  | inr y ↦ elim (dec_nat p.to n) [ inl z ↦ inl (inr z) | inr z ↦ inr (λ d. elim d [ inl w ↦ y w | inr w ↦ z w ]) ]
]

module _ (a b : ℕ) (r : ReductionData) (long : length r.live ≡ length r.parts) (e f : ℕ) (pe pf new : Part)
    (le : IsLive r e pe) (lf : IsLive r f pf) (new_ends : (n : ℕ) → PartEndsAt new n → PartEndsAt pe n ⊎ PartEndsAt pf n) where
  -- a net at which none of the two ends
  untouched : (n : ℕ) → (PartEndsAt pe n → ⊥) → (PartEndsAt pf n → ⊥) → IsSettled (LiveLink r) a b n
      → IsSettled (LiveLink (with_joined r e f new)) a b n
  untouched n ne nf = settled_stay (LiveLink r) (LiveLink (with_joined r e f new)) n to a b from
    where
      to : (g : Link) → EndsAt g n → LiveLink r g → LiveLink (with_joined r e f new) g
      to g d (i, p, l, z) = (
        i,
        p,
        still_live r e f pe pf new long i p l
            (λ w. ne (subst (λ q. PartEndsAt q n) (one_part r.parts e p pe (subst (λ k. slice_get r.parts k ≡ Some p) w l.0) le.0) (ends_as g i p n z d)))
            (λ w. nf (subst (λ q. PartEndsAt q n) (one_part r.parts f p pf (subst (λ k. slice_get r.parts k ≡ Some p) w l.0) lf.0) (ends_as g i p n z d))),
        z,
      )

      from : (g : Link) → EndsAt g n → LiveLink (with_joined r e f new) g → LiveLink r g
      from g d (i, p, l, z) = elim (live_cases r e f pe pf new long i p l) [
        | inr y ↦ (i, p, y.0, z)
        | inl y ↦ absurd (elim (new_ends n (subst (λ q. PartEndsAt q n) y.1 (ends_as g i p n z d))) [ inl w ↦ ne w | inr w ↦ nf w ])
      ]

  -- the ends of the new part are looked at again
  in_work : (n : ℕ) → PartEndsAt new n → Contains (with_joined r e f new).work n
  in_work n (inl z) =
      Contains-append_left (r.work ++ new.from ∷ []) (new.to ∷ []) n
      (Contains-append_right r.work (new.from ∷ []) n (subst (Contains (new.from ∷ [])) z (Contains-first new.from [])))
  in_work n (inr z) = Contains-append_right (r.work ++ new.from ∷ []) (new.to ∷ []) n (subst (Contains (new.to ∷ [])) z (Contains-first new.to []))

  still_work : (n : ℕ) → Contains r.work n → Contains (with_joined r e f new).work n
  still_work n c = Contains-append_left (r.work ++ new.from ∷ []) (new.to ∷ []) n (Contains-append_left r.work (new.from ∷ []) n c)

  pub joined_settled : (net : ℕ) → PartEndsAt pe net → ((n : ℕ) → (n ≡ net) ⊎ (Contains r.work n ⊎ IsSettled (LiveLink r) a b n))
      → ((n : ℕ) → PartEndsAt pe n ⊎ PartEndsAt pf n → (PartEndsAt new n → ⊥) → IsSettled (LiveLink (with_joined r e f new)) a b n)
      → AreSettled a b (with_joined r e f new)
  joined_settled net at settled other n = elim (dec_end new n) [
    | inl y ↦ inl (in_work n y)
    | inr no_end ↦ elim (dec_end pe n) [
      | inl y ↦ inr (other n (inl y) no_end)
      | inr ne ↦ elim (dec_end pf n) [
        | inl y ↦ inr (other n (inr y) no_end)
        | inr nf ↦ elim (settled n) [
          | inl z ↦ absurd (ne (subst (PartEndsAt pe) (sym z) at))
          | inr z ↦ elim z [ inl w ↦ inl (still_work n w) | inr w ↦ inr (untouched n ne nf w) ]
        ]
      ]
    ]
  ]
