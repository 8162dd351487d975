-- A reduction of the given links, before any step.
use Rattle.std.specs.Prelude.{Contains, Some, false, slice_get, true, ◌≢◌}
use Rattle.std.proofs.Common.{List, [], ap, arith, get_or, inl, inr, length, length-append, map, refl, replicate, set, subst, suc, sym, zero, ℕ, ◌++◌, ◌+◌, ◌<◌, ◌∙◌, ◌∷◌, ◌≡◌}
use Rattle.std.proofs.lemmas.List.{replicate-append-replicate}
use Rattle.std.proofs.lemmas.List.Elements.{Contains-append_left, Contains-append_right, Contains-push_cases}
use Rattle.std.proofs.lemmas.Option.{get_or_from_slice_get, slice_get_within}
use Rattle.dom_base.proofs.Decided.{dec_any, dec_nat}
use Rattle.dom_base.proofs.Lists.{Contains-first, Contains-later, map-push, slice_get-push_cases}
use Rattle.sp_network.specs.Tree.{Leaf, Tree}
use Rattle.sp_reduction.specs.Networks.{EndsAt, Has, Link}
use Rattle.sp_reduction.specs.Reduction.{IsNetwork}
use Rattle.sp_reduction.proofs.Facts.{link_proper}
use Rattle.link_reduce.specs.Parts.{PartEndsAt, links_from, links_of, listed, part_link, with_number}
use Rattle.link_reduce.specs.Reductions.{AreApart, IsBegun, IsKept, IsListed, IsLive, IsSound, IsTreeOf, LiveLink, ReductionData, given, given_part, live_from, live_links, nothing, total, with_joined, with_part}
use Rattle.link_reduce.specs.declared.part.Ends.{Ends}
use Rattle.link_reduce.specs.declared.part.Made.TheVariants.{Given}
use Rattle.link_reduce.specs.declared.part.Part.{Part}
use Rattle.link_reduce.proofs.Listing.{joined_listed, no_number}
use Rattle.link_reduce.proofs.LiveLinks.{cons_cases, live_is}
use Rattle.link_reduce.proofs.Steps.{room_more}

all_live : (i : ℕ) (es : List Ends) → live_from i (map given_part es) (replicate (length es) true) ≡ links_from i es
all_live i [] = refl
all_live i (e ∷ es) = ap (λ l. part_link i (given_part e) ∷ l) (all_live (i + 1) es)

count_all : (m : Part → ℕ) → ((e : Ends) → m (given_part e) ≡ 1) → (es : List Ends) → total m (map given_part es) (replicate (length es) true) ≡ length es
count_all m one [] = refl
count_all m one (e ∷ es) = omega (arith, one e, count_all m one es)

map_at : (es : List Ends) (i : ℕ) (p : Part) → slice_get (map given_part es) i ≡ Some p → (e : Ends) × (p ≡ given_part e)
map_at [] i p h = absurd cc
map_at (e ∷ es) zero p h = (e, cc)
map_at (e ∷ es) (suc i) p h = map_at es i p h

true_at : (n i : ℕ) → i < n → slice_get (replicate n true) i ≡ Some true
true_at zero i lt = absurd (omega (arith, lt))
true_at (suc n) zero lt = refl
true_at (suc n) (suc i) lt = true_at n i (omega (arith, lt))

length_true : (n : ℕ) → length (replicate n true) ≡ n
length_true zero = refl
length_true (suc n) = omega (arith, length_true n)

length_given : (es : List Ends) → length (map given_part es) ≡ length es
length_given [] = refl
length_given (e ∷ es) = omega (arith, length_given es)

module _ (ends : List Ends) (a b : ℕ) (r : ReductionData) (h : IsBegun ends r) where
  links_are : live_links r ≡ links_of ends
  links_are =
      ap (λ ps. live_from 0 ps r.live) h.parts_are ∙ ap (λ ls. live_from 0 (map given_part ends) ls) h.live_are ∙ all_live 0 ends

  long : length r.live ≡ length r.parts
  long = ap length h.live_are ∙ length_true (length ends) ∙ sym (length_given ends) ∙ ap length (sym h.parts_are)

  live_at : (i : ℕ) (p : Part) → slice_get r.parts i ≡ Some p → IsLive r i p
  live_at i p at =
      let low = slice_get_within r.parts i p at in
      let count = ap length h.parts_are ∙ length_given ends in
      (at, ap (λ ls. slice_get ls i) h.live_are ∙ true_at (length ends) i (omega (arith, low, count)))

  abbrev no_part : Part
  no_part = record { from = 0; to = 0; width = 0; height = 0; made = Given }

  abbrev trees : ℕ → Tree Link
  trees i = Leaf (part_link i (get_or r.parts i no_part))

  tree_at : (i : ℕ) (p : Part) → slice_get r.parts i ≡ Some p → trees i ≡ Leaf (part_link i p)
  tree_at i p at = ap (λ q. Leaf (part_link i q)) (get_or_from_slice_get r.parts i p no_part at)

  tree_of : (i : ℕ) (p : Part) → slice_get r.parts i ≡ Some p → IsTreeOf ends r.parts i p (trees i)
  tree_of i p at =
      let e = map_at ends i p (ap (λ ps. slice_get ps i) (sym h.parts_are) ∙ at) in
      subst (IsTreeOf ends r.parts i p) (sym (tree_at i p at)) (record {
        unfolds = given p at (ap (λ (q : Part). q.made) e.1) (inl (refl, refl));
        between = (inl (refl, refl), h.proper i p at);
        given = λ g c. subst (λ l. Contains l g) links_are ((live_is r g).1 (i, p, live_at i p at, c));
        width_is = refl;
        height_is = refl;
      })

  apart : (i j : ℕ) (p q : Part) → IsLive r i p → IsLive r j q → i ≢ j → AreApart p q (trees i) (trees j)
  apart i j p q l m other =
      subst (λ t. AreApart p q t (trees j)) (sym (tree_at i p l.0))
      (subst (λ t. AreApart p q (Leaf (part_link i p)) t) (sym (tree_at j q m.0))
      (record {
        touch = λ x s t. (subst (λ (g : Link). EndsAt g x) s.1 s.2, subst (λ (g : Link). EndsAt g x) t.1 t.2);
        numbers = λ g k c d z. other (sym (ap (λ (n : Link). n.number) c) ∙ z ∙ ap (λ (n : Link). n.number) d);
      }))

  pub begun_kept : IsKept ends a b r
  begun_kept = record {
    long = long;
    inside = h.inside;
    keeps = λ w k n. subst (λ l. IsNetwork l a b w k) (sym links_are) n;
    trees = trees;
    tree_of = tree_of;
    apart = apart;
    all = λ g c.
        let y = (live_is r g).0 (subst (λ l. Contains l g) (sym links_are) c) in
        (y.0, y.1, y.2, subst (λ t. Has t g) (sym (tree_at y.0 y.1 y.2.0)) y.3);
    wide = omega (arith, count (λ p. p.width) (λ e. refl));
    high = omega (arith, count (λ p. p.height) (λ e. refl));
    few = omega (arith, count (λ p. 1) (λ e. refl), ap length h.parts_are, length_given ends);
  }
    where
      count : (m : Part → ℕ) → ((e : Ends) → m (given_part e) ≡ 1) → total m r.parts r.live ≡ length ends
      count m one = ap (λ ps. total m ps r.live) h.parts_are ∙ ap (λ ls. total m (map given_part ends) ls) h.live_are ∙ count_all m one ends

  pub begun_sound : IsSound ends a b r
  begun_sound = record {
    kept = begun_kept;
    are_listed = h.are_listed;
    settled = λ n. elim (dec_any (λ x. x ≡ n) (λ x. dec_nat x n) r.work) [
      | inl y ↦ inl (subst (Contains r.work) y.2 y.1)
      | inr away ↦ inr (inl (λ g k l m d t. absurd (away (n, looked_at n g l d, refl))))
    ];
    work_inside = h.work_inside;
  }
    where
      looked_at : (n : ℕ) (g : Link) → LiveLink r g → EndsAt g n → Contains r.work n
      looked_at n g (i, p, l, z) d = h.looked i p n l.0 (subst (λ (k : Link). EndsAt k n) z d)

set_past : {X : Type 0} (xs : List X) (y : X) → set xs (length xs) y ≡ xs
set_past [] y = refl
set_past (x ∷ xs) y = ap (λ l. x ∷ l) (set_past xs y)

-- at none of so many nets a number is listed
pub at_none : (count n j i : ℕ) → slice_get (listed (replicate count []) n) j ≡ Some i → ⊥
at_none zero n j i h = absurd cc
at_none (suc count) zero j i h = absurd cc
at_none (suc count) (suc n) j i h = at_none count n j i h

pub begun_none : (nets : ℕ) → IsBegun [] (nothing nets)
begun_none nets = record {
  parts_are = refl;
  live_are = refl;
  inside = λ i p h. absurd cc;
  proper = λ i p h. absurd cc;
  are_listed = record {
    sound = λ n j i h. absurd (at_none nets n j i h);
    full = λ n i p l e. let z : slice_get [] i ≡ Some p = l.0 in absurd cc;
    once = λ n j k i h z. absurd (at_none nets n j i h);
    apart = λ j i c h. no_number i c;
    held_once = tt;
    held_live = λ i c. absurd (no_number i c);
  };
  looked = λ i p n h. absurd cc;
  work_inside = λ n c. absurd (no_number n c);
}

module _ (ends : List Ends) (r : ReductionData) (h : IsBegun ends r) (e : Ends) (proper : e.from ≢ e.to) (from : e.from < length r.at) (to : e.to < length r.at) where
  abbrev new : Part
  new = given_part e

  abbrev end : ℕ
  end = length r.live

  same_state : with_joined r end end new ≡ with_part r new
  same_state =
      ap (λ ls. with_part (record { parts = r.parts; live = ls; at = r.at; work = r.work }) new)
      (ap (λ ls. set ls end false) (set_past r.live false) ∙ set_past r.live false)

  room : length (with_part r new).at ≡ length r.at
  room = room_more (with_number r.at e.from (length r.parts)) e.to (length r.parts) ∙ room_more r.at e.from (length r.parts)

  pub begun_more : IsBegun (ends ++ e ∷ []) (with_part r (given_part e))
  begun_more = record {
    parts_are = ap (λ ps. ps ++ new ∷ []) h.parts_are ∙ sym (map-push given_part ends e);
    live_are = ap (λ ls. ls ++ true ∷ []) h.live_are ∙ replicate-append-replicate (length ends) 1 true ∙ ap (λ n. replicate n true) (sym (length-append ends (e ∷ [])));
    inside = λ i p at. elim (slice_get-push_cases r.parts new i p at) [
      | inl y ↦ let z = h.inside i p y in (omega (arith, z.0, room), omega (arith, z.1, room))
      | inr y ↦ (omega (arith, from, room, ap (λ (v : Part). v.from) y.1), omega (arith, to, room, ap (λ (v : Part). v.to) y.1))
    ];
    proper = λ i p at. elim (slice_get-push_cases r.parts new i p at) [
      | inl y ↦ h.proper i p y
      | inr y ↦ (λ z. proper (ap (λ (v : Part). v.from) y.1 ∙ z ∙ ap (λ (v : Part). v.to) (sym y.1)))
    ];
    are_listed = subst (IsListed [] 0) same_state
        (joined_listed [] 0 r h.are_listed (long ends 0 0 r h) end end new new new (λ i c. absurd (no_number i c)) proper from to);
    looked = λ i p n at d. elim (slice_get-push_cases r.parts new i p at) [
      | inl y ↦ Contains-append_left (r.work ++ e.from ∷ []) (e.to ∷ []) n (Contains-append_left r.work (e.from ∷ []) n (h.looked i p n y d))
      | inr y ↦ here n (subst (λ q. PartEndsAt q n) (sym y.1) d)
    ];
    work_inside = λ n c. elim (Contains-push_cases (r.work ++ e.from ∷ []) e.to n c) [
      | inr z ↦ omega (arith, z, to, room)
      | inl y ↦ elim (Contains-push_cases r.work e.from n y) [ inr z ↦ omega (arith, z, from, room) | inl z ↦ omega (arith, h.work_inside n z, room) ]
    ];
  }
    where
      here : (n : ℕ) → PartEndsAt (given_part e) n → Contains (with_part r (given_part e)).work n
      here n (inl z) =
          Contains-append_left (r.work ++ e.from ∷ []) (e.to ∷ []) n
          (Contains-append_right r.work (e.from ∷ []) n (subst (Contains (e.from ∷ [])) z (Contains-first e.from [])))
      here n (inr z) = Contains-append_right (r.work ++ e.from ∷ []) (e.to ∷ []) n (subst (Contains (e.to ∷ [])) z (Contains-first e.to []))

-- a link that joins a net to itself is in no network
pub links_have : (k : ℕ) (es : List Ends) (i : ℕ) (e : Ends) → slice_get es i ≡ Some e → Contains (links_from k es) (part_link (k + i) (given_part e))
links_have k [] i e h = absurd cc
links_have k (d ∷ es) zero e h =
    let s : k ≡ k + 0 = omega arith in
    let z : d ≡ e = cc in
    subst (Contains (links_from k (d ∷ es))) (ap (λ n. part_link n (given_part d)) s ∙ ap (λ v. part_link (k + 0) (given_part v)) z)
    (Contains-first (part_link k (given_part d)) (links_from (k + 1) es))
links_have k (d ∷ es) (suc i) e h =
    let s : k + 1 + i ≡ k + suc i = omega arith in
    Contains-later (part_link k (given_part d)) (links_from (k + 1) es) (part_link (k + suc i) (given_part e))
    (subst (λ n. Contains (links_from (k + 1) es) (part_link n (given_part e))) s (links_have (k + 1) es i e h))

-- and each link of a list is one of these
pub given_links : (k : ℕ) (es : List Ends) (g : Link) → Contains (links_from k es) g → (i : ℕ) × (e : Ends) × (slice_get es i ≡ Some e) × (g ≡ part_link (k + i) (given_part e))
given_links k [] g c = absurd (omega (arith, c.1))
given_links k (d ∷ es) g c = elim (cons_cases (part_link k (given_part d)) (links_from (k + 1) es) g c) [
  | inl z ↦ let s : k ≡ k + 0 = omega arith in (0, d, refl, z ∙ ap (λ n. part_link n (given_part d)) s)
  | inr h ↦
      let y = given_links (k + 1) es g h in
      let s : k + 1 + y.0 ≡ k + suc y.0 = omega arith in
      (suc y.0, y.1, y.2, y.3 ∙ ap (λ n. part_link n (given_part y.1)) s)
]

pub no_loop : (ends : List Ends) (i : ℕ) (e : Ends) → slice_get ends i ≡ Some e → e.from ≡ e.to → (a b w h : ℕ) → IsNetwork (links_of ends) a b w h → ⊥
no_loop ends i e at same a b w h n =
    link_proper n.tree a b n.between (part_link (0 + i) (given_part e)) ((n.links_are (part_link (0 + i) (given_part e))).1 (links_have 0 ends i e at)) e.from
    (inl (refl, sym same))
