-- Each step of a reduction keeps it sound.
use Rattle.std.specs.Prelude.{Contains, Some, slice_get, true, ◌^◌, ◌≢◌, ◌⊎◌}
use Rattle.std.proofs.Common.{List, [], ap, arith, inl, inr, length, length-append, refl, subst, sym, ℕ, ◌++◌, ◌+◌, ◌<◌, ◌∙◌, ◌∷◌, ◌≡◌, ◌≤◌}
use Rattle.std.proofs.lemmas.List.{length-set}
use Rattle.std.proofs.lemmas.List.Elements.{Contains-push_cases}
use Rattle.std.proofs.lemmas.Option.{slice_get_within}
use Rattle.dom_base.proofs.Lists.{Contains-first, Contains-later}
use Rattle.sp_reduction.specs.Networks.{EndsAt, Link}
use Rattle.sp_reduction.proofs.Facts.{ends_differ}
use Rattle.link_reduce.specs.Parts.{PartEndsAt, PartJoins, listed, part_link, with_number}
use Rattle.link_reduce.specs.Reductions.{Holds, IsHolding, IsKept, IsListed, IsLive, IsSettled, IsSound, LeadsTo, LeadsToThree, LeadsToTwo, LiveLink, ReductionData, Settles, parallel_part, remaining, series_part, with_joined, with_listed}
use Rattle.link_reduce.specs.declared.part.Ends.{Ends}
use Rattle.link_reduce.specs.declared.part.Part.{Part}
use Rattle.link_reduce.proofs.Joins.{joins_ends, parallel_kept, part_end_is, series_kept}
use Rattle.link_reduce.proofs.Listing.{joined_listed, no_number, none_held, put_listed}
use Rattle.link_reduce.proofs.LiveLinks.{cons_cases, joined_total, live_cases, one_part, two_fit}
use Rattle.link_reduce.proofs.PartTrees.{read_tree}
use Rattle.link_reduce.proofs.Settled.{joined_settled}

-- lists with a part more are as many
pub room_more : (lists : List (List ℕ)) (place number : ℕ) → length (with_number lists place number) ≡ length lists
room_more lists place number = length-set lists place (listed lists place ++ number ∷ [])

second_of : (p : Part) (a b : ℕ) → PartJoins p a b → PartEndsAt p b
second_of p a b (inl j) = inr j.1
second_of p a b (inr j) = inl j.1

-- the ends of a part differ, and are nets
pub proper_part : (ends : List Ends) (a b : ℕ) (r : ReductionData) → IsKept ends a b r → (i : ℕ) (p : Part) (x y : ℕ) → slice_get r.parts i ≡ Some p
    → PartJoins p x y → x ≢ y
proper_part ends a b r kept i p x y h j =
    let t = read_tree ends r.parts i p (kept.trees i) x y (kept.tree_of i p h) j in
    ends_differ t.tree x y t.between

pub inside_part : (ends : List Ends) (a b : ℕ) (r : ReductionData) → IsKept ends a b r → (i : ℕ) (p : Part) (x : ℕ) → slice_get r.parts i ≡ Some p
    → PartEndsAt p x → x < length r.at
inside_part ends a b r kept i p x h (inl z) = omega (arith, (kept.inside i p h).0, z)
inside_part ends a b r kept i p x h (inr z) = omega (arith, (kept.inside i p h).1, z)

-- a part that is held is left
pub held_is : (held : List ℕ) (net : ℕ) (r : ReductionData) → IsListed held net r → (i : ℕ) (p : Part) → Contains held i → slice_get r.parts i ≡ Some p
    → IsLive r i p
held_is held net r h i p c at =
    let y = h.held_live i c in
    subst (λ q. IsLive r i q) (one_part r.parts i y.0 p y.1.0 at) y.1

pub held_low : (a b : ℕ) (held : List ℕ) (net : ℕ) (r : ReductionData) → Holds a b held net r → (i : ℕ) → Contains held i → i < length r.parts
held_low a b held net r (ends, few, h) i c = let y = h.are_listed.held_live i c in slice_get_within r.parts i y.0 y.1.0

pub held_low_live : (a b : ℕ) (held : List ℕ) (net : ℕ) (r : ReductionData) → Holds a b held net r → (i : ℕ) → Contains held i → i < length r.live
held_low_live a b held net r (ends, few, h) i c = let y = h.are_listed.held_live i c in slice_get_within r.live i true y.1.1

-- the measures of two parts that are held are few
pub held_few : (a b net : ℕ) (r : ReductionData) (e f : ℕ) → Holds a b (f ∷ e ∷ []) net r → (pe pf : Part) → slice_get r.parts e ≡ Some pe
    → slice_get r.parts f ≡ Some pf → (pe.width + pf.width ≤ 2 ^ 24) × (pe.height + pf.height ≤ 2 ^ 24)
held_few a b net r e f (ends, few, h) pe pf at_e at_f =
    let le = held_is (f ∷ e ∷ []) net r h.are_listed e pe (Contains-later f (e ∷ []) e (Contains-first e [])) at_e in
    let lf = held_is (f ∷ e ∷ []) net r h.are_listed f pf (Contains-first f (e ∷ [])) at_f in
    let differ : e ≢ f = λ z. h.are_listed.held_once.0 (subst (Contains (e ∷ [])) z (Contains-first e [])) in
    (omega (arith, two_fit r e f pe pf le lf differ (λ p. p.width), h.kept.wide, few), omega (arith, two_fit r e f pe pf le lf differ (λ p. p.height), h.kept.high, few))

-- two parts that are held for a net
module _ (ends : List Ends) (a b net : ℕ) (r : ReductionData) (e f : ℕ) (h : IsHolding ends a b (f ∷ e ∷ []) net r) (pe pf : Part)
    (at_e : slice_get r.parts e ≡ Some pe) (at_f : slice_get r.parts f ≡ Some pf) where
  le : IsLive r e pe
  le = held_is (f ∷ e ∷ []) net r h.are_listed e pe (Contains-later f (e ∷ []) e (Contains-first e [])) at_e

  lf : IsLive r f pf
  lf = held_is (f ∷ e ∷ []) net r h.are_listed f pf (Contains-first f (e ∷ [])) at_f

  differ : e ≢ f
  differ z = h.are_listed.held_once.0 (subst (Contains (e ∷ [])) z (Contains-first e []))

  only : (i : ℕ) → Contains (f ∷ e ∷ []) i → (i ≡ e) ⊎ (i ≡ f)
  only i c = elim (cons_cases f (e ∷ []) i c) [
    | inl z ↦ inr z
    | inr z ↦ elim (cons_cases e [] i z) [ inl w ↦ inl w | inr w ↦ absurd (no_number i w) ]
  ]

  pub joined_less : (new : Part) → remaining (with_joined r e f new) ≤ remaining r
  joined_less new =
      omega (
        arith,
        joined_total r e f pe pf new h.kept.long le lf differ (λ p. 1),
        length-append (r.work ++ new.from ∷ []) (new.to ∷ []),
        length-append r.work (new.from ∷ []),
      )

  joined_inside : (new : Part) → new.from < length r.at → new.to < length r.at → (n : ℕ) → Contains (with_joined r e f new).work n
      → n < length (with_joined r e f new).at
  joined_inside new from to n c =
      let lists = with_number r.at new.from (length r.parts) in
      let one = room_more lists new.to (length r.parts) in
      let two = room_more r.at new.from (length r.parts) in
      elim (Contains-push_cases (r.work ++ new.from ∷ []) new.to n c) [
        | inr z ↦ omega (arith, z, to, one, two)
        | inl y ↦ elim (Contains-push_cases r.work new.from n y) [ inr z ↦ omega (arith, z, from, one, two) | inl z ↦ omega (arith, h.work_inside n z, one, two) ]
      ]

  -- they join the same two nets
  module _ (x : ℕ) (first : PartJoins pe net x) (second : PartJoins pf net x) where
    pub parallel_sound : IsSound ends a b (with_joined r e f (parallel_part e f pe pf net x))
    parallel_sound =
        let new = parallel_part e f pe pf net x in
        let from = inside_part ends a b r h.kept e pe net at_e (joins_ends pe net x first) in
        let to = inside_part ends a b r h.kept e pe x at_e (second_of pe net x first) in
        record {
          kept = parallel_kept ends a b r h.kept e f pe pf le lf differ net x first second from to;
          are_listed = joined_listed (f ∷ e ∷ []) net r h.are_listed h.kept.long e f pe pf new only
              (proper_part ends a b r h.kept e pe net x at_e first) from to;
          settled = joined_settled a b r h.kept.long e f pe pf new le lf (λ n d. inl (old_end n d)) net (joins_ends pe net x first) h.settled
              (λ n d away. absurd (elim d [ inl y ↦ away (new_end n (part_end_is pe net x n first y)) | inr y ↦ away (new_end n (part_end_is pf net x n second y)) ]));
          work_inside = joined_inside new from to;
        }
      where
        old_end : (n : ℕ) → PartEndsAt (parallel_part e f pe pf net x) n → PartEndsAt pe n
        old_end n (inl z) = subst (PartEndsAt pe) z (joins_ends pe net x first)
        old_end n (inr z) = subst (PartEndsAt pe) z (second_of pe net x first)

        new_end : (n : ℕ) → (n ≡ net) ⊎ (n ≡ x) → PartEndsAt (parallel_part e f pe pf net x) n
        new_end n (inl z) = inl (sym z)
        new_end n (inr z) = inr (sym z)

  -- they meet at the net, where no third ends
  module _ (u v : ℕ) (first : PartJoins pe net u) (second : PartJoins pf net v) (other : u ≢ v) (not_top : net ≢ a) (not_bottom : net ≢ b)
      (alone : listed r.at net ≡ []) where
    swap : PartJoins pe u net
    swap = elim first [ inl j ↦ inr (j.1, j.0) | inr j ↦ inl (j.1, j.0) ]

    no_third : (i : ℕ) (p : Part) → IsLive r i p → PartEndsAt p net → (i ≡ e) ⊎ (i ≡ f)
    no_third i p l d = elim (h.are_listed.full net i p l d) [
      | inr y ↦ only i y.1
      | inl y ↦ absurd (no_entry y.0 (subst (λ s. slice_get s y.0 ≡ Some i) alone y.1))
    ]
      where
        no_entry : (j : ℕ) → slice_get [] j ≡ Some i → ⊥
        no_entry j z = cc

    none_left : (g : Link) → LiveLink (with_joined r e f (series_part e f pe pf u v)) g → EndsAt g net → ⊥
    none_left g (i, p, l, z) d = by (live_cases r e f pe pf (series_part e f pe pf u v) h.kept.long i p l) (subst (λ k. EndsAt k net) z d)
      where
        by : ((i ≡ length r.parts) × (p ≡ series_part e f pe pf u v)) ⊎ (IsLive r i p × (i ≢ e) × (i ≢ f)) → PartEndsAt p net → ⊥
        by (inr y) t = elim (no_third i p y.0 t) [ inl w ↦ y.1 w | inr w ↦ y.2 w ]
        by (inl y) t = elim (subst (λ q. PartEndsAt q net) y.1 t) [
          | inl w ↦ proper_part ends a b r h.kept e pe net u at_e first (sym w)
          | inr w ↦ proper_part ends a b r h.kept f pf net v at_f second (sym w)
        ]

    pub series_sound : IsSound ends a b (with_joined r e f (series_part e f pe pf u v))
    series_sound =
        let new = series_part e f pe pf u v in
        let from = inside_part ends a b r h.kept e pe u at_e (second_of pe net u first) in
        let to = inside_part ends a b r h.kept f pf v at_f (second_of pf net v second) in
        record {
          kept = series_kept ends a b r h.kept e f pe pf le lf differ u net v swap second other not_top not_bottom no_third from to;
          are_listed = joined_listed (f ∷ e ∷ []) net r h.are_listed h.kept.long e f pe pf new only other from to;
          settled = joined_settled a b r h.kept.long e f pe pf new le lf old_end net (joins_ends pe net u first) h.settled (λ n d away. here n (meets n d away));
          work_inside = joined_inside new from to;
        }
      where
        old_end : (n : ℕ) → PartEndsAt (series_part e f pe pf u v) n → PartEndsAt pe n ⊎ PartEndsAt pf n
        old_end n (inl z) = inl (subst (PartEndsAt pe) z (second_of pe net u first))
        old_end n (inr z) = inr (subst (PartEndsAt pf) z (second_of pf net v second))

        meets : (n : ℕ) → PartEndsAt pe n ⊎ PartEndsAt pf n → (PartEndsAt (series_part e f pe pf u v) n → ⊥) → n ≡ net
        meets n (inl y) away = elim (part_end_is pe net u n first y) [ inl z ↦ z | inr z ↦ absurd (away (inl (sym z))) ]
        meets n (inr y) away = elim (part_end_is pf net v n second y) [ inl z ↦ z | inr z ↦ absurd (away (inr (sym z))) ]

        here : (n : ℕ) → n ≡ net → IsSettled (LiveLink (with_joined r e f (series_part e f pe pf u v))) a b n
        here n z = inl (λ g k c d x y. absurd (none_left g c (subst (EndsAt g) z x)))

-- parts that were held are put back at a net that is settled
pub put_holding : (ends : List Ends) (a b : ℕ) (held : List ℕ) (net i : ℕ) (r : ReductionData) → IsHolding ends a b (i ∷ held) net r
    → net < length r.at → IsHolding ends a b held net (with_listed r net i)
put_holding ends a b held net i r h lt =
    let y = h.are_listed.held_live i (Contains-first i held) in
    record {
      kept = record {
        long = h.kept.long;
        inside = λ j p z. let w = h.kept.inside j p z in (omega (arith, w.0, room_more r.at net i), omega (arith, w.1, room_more r.at net i));
        keeps = h.kept.keeps;
        trees = h.kept.trees;
        tree_of = h.kept.tree_of;
        apart = h.kept.apart;
        all = h.kept.all;
        wide = h.kept.wide;
        high = h.kept.high;
        few = h.kept.few;
      };
      are_listed = put_listed held net r i y.0 h.are_listed y.1.0 y.2 lt;
      settled = h.settled;
      work_inside = λ n c. omega (arith, h.work_inside n c, room_more r.at net i);
    }

pub put_all : (ends : List Ends) (a b net : ℕ) (r : ReductionData) → IsHolding ends a b [] net r → IsSettled (LiveLink r) a b net → IsSound ends a b r
put_all ends a b net r h settled = record {
  kept = h.kept;
  are_listed = none_held net 0 r h.are_listed;
  settled = λ n. elim (h.settled n) [ inl z ↦ inr (subst (IsSettled (LiveLink r) a b) (sym z) settled) | inr z ↦ z ];
  work_inside = h.work_inside;
}

-- what is held leads to so many nets
module _ (held : List ℕ) (net : ℕ) (r : ReductionData) (h : IsListed held net r) where
  abbrev pub link_of : (i : ℕ) (p : Part) → Contains held i → slice_get r.parts i ≡ Some p → LiveLink r (part_link i p)
  link_of i p c at = (i, p, held_is held net r h i p c at, refl)

  abbrev pub leads_to_two : (e f u v : ℕ) → Contains held e → Contains held f → LeadsTo r e net u → LeadsTo r f net v → u ≢ v → LeadsToTwo (LiveLink r) net
  leads_to_two e f u v ce cf first second other =
      let x = h.held_live e ce in
      let y = h.held_live f cf in
      record {
        u = u;
        v = v;
        e = part_link e x.0;
        f = part_link f y.0;
        has_e = link_of e x.0 ce x.1.0;
        has_f = link_of f y.0 cf y.1.0;
        first = first x.0 x.1.0;
        second = second y.0 y.1.0;
        differ = other;
      }

  pub leads_to_three : (e f g u v w : ℕ) → Contains held e → Contains held f → Contains held g → LeadsTo r e net u → LeadsTo r f net v
      → LeadsTo r g net w → u ≢ v → w ≢ u → w ≢ v → LeadsToThree (LiveLink r) net
  leads_to_three e f g u v w ce cf cg first second third uv wu wv =
      let x = h.held_live g cg in
      record {
        two = leads_to_two e f u v ce cf first second uv;
        w = w;
        g = part_link g x.0;
        has_g = link_of g x.0 cg x.1.0;
        third = third x.0 x.1.0;
        not_first = wu;
        not_second = wv;
      }

  -- where nothing more is listed, the net has no links but those that are held
  pub one_at_most : listed r.at net ≡ [] → (i : ℕ) → ((j : ℕ) → Contains held j → j ≡ i) → (g k : Link) → LiveLink r g → LiveLink r k
      → EndsAt g net → EndsAt k net → g ≡ k
  one_at_most none i one g k (x, p, l, z) (y, q, m, w) d t =
      let here = is_one x p l (subst (λ s. EndsAt s net) z d) in
      let there = is_one y q m (subst (λ s. EndsAt s net) w t) in
      let same : x ≡ y = here ∙ sym there in
      let part : p ≡ q = one_part r.parts y p q (subst (λ n. slice_get r.parts n ≡ Some p) same l.0) m.0 in
      z ∙ ap (λ n. part_link n p) same ∙ ap (part_link y) part ∙ sym w
    where
      is_one : (j : ℕ) (s : Part) → IsLive r j s → PartEndsAt s net → j ≡ i
      is_one j s live at = elim (h.full net j s live at) [
        | inr y ↦ one j y.1
        | inl y ↦ absurd (no_entry y.0 (subst (λ o. slice_get o y.0 ≡ Some j) none y.1))
      ]
        where
          no_entry : (n : ℕ) → slice_get [] n ≡ Some j → ⊥
          no_entry n e = cc

-- what becomes of a state where two parts are joined
pub parallel_settles : (a b net : ℕ) (r r' : ReductionData) (e f x : ℕ) (pe pf : Part) → slice_get r.parts e ≡ Some pe → slice_get r.parts f ≡ Some pf
    → LeadsTo r e net x → LeadsTo r f net x → Holds a b (f ∷ e ∷ []) net r → r' ≡ with_joined r e f (parallel_part e f pe pf net x)
    → (c d : ℕ) → Settles c d (f ∷ e ∷ []) net r r'
parallel_settles a b net r r' e f x pe pf at_e at_f first second (ends, few, h) is c d =
    let new = parallel_part e f pe pf net x in
    record {
      sound = λ others k. subst (IsSound others c d) (sym is) (parallel_sound others c d net r e f k pe pf at_e at_f x (first pe at_e) (second pf at_f));
      less = omega (arith, ap remaining is, joined_less ends a b net r e f h pe pf at_e at_f new);
      room = ap (λ (s : ReductionData). length s.at) is ∙ room_more (with_number r.at net (length r.parts)) x (length r.parts) ∙ room_more r.at net (length r.parts);
    }

pub series_settles : (a b net : ℕ) (r r' : ReductionData) (e f u v : ℕ) (pe pf : Part) → slice_get r.parts e ≡ Some pe → slice_get r.parts f ≡ Some pf
    → LeadsTo r e net u → LeadsTo r f net v → u ≢ v → listed r.at net ≡ [] → Holds a b (f ∷ e ∷ []) net r
    → r' ≡ with_joined r e f (series_part e f pe pf u v) → (c d : ℕ) → net ≢ c → net ≢ d → Settles c d (f ∷ e ∷ []) net r r'
series_settles a b net r r' e f u v pe pf at_e at_f first second other alone (ends, few, h) is c d nc nd =
    let new = series_part e f pe pf u v in
    record {
      sound = λ others k. subst (IsSound others c d) (sym is)
          (series_sound others c d net r e f k pe pf at_e at_f u v (first pe at_e) (second pf at_f) other nc nd alone);
      less = omega (arith, ap remaining is, joined_less ends a b net r e f h pe pf at_e at_f new);
      room = ap (λ (s : ReductionData). length s.at) is ∙ room_more (with_number r.at u (length r.parts)) v (length r.parts) ∙ room_more r.at u (length r.parts);
    }
