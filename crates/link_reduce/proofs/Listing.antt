-- The lists of parts by net: what is kept where a part is taken from one, put back, or where two are joined.
use Rattle.std.specs.Prelude.{Contains, Some, slice_get, ◌≢◌, ◌⊎◌}
use Rattle.std.proofs.Common.{List, [], ap, arith, inl, inr, length, set, subst, sym, ℕ, ◌++◌, ◌<◌, ◌∙◌, ◌∷◌, ◌≡◌}
use Rattle.std.proofs.lemmas.List.{get_or-set_other, get_or-set_same, length-set}
use Rattle.std.proofs.lemmas.Option.{slice_get_within}
use Rattle.dom_base.proofs.Decided.{dec_nat}
use Rattle.dom_base.proofs.Lists.{Contains-first, Contains-later, Contains-slice_get, slice_get-append, slice_get-push, slice_get-push_cases}
use Rattle.sp_reduction.proofs.Lists.{in_append}
use Rattle.link_reduce.specs.Parts.{PartEndsAt, listed, with_number}
use Rattle.link_reduce.specs.Reductions.{IsListed, IsLive, ReductionData, with_at, with_joined, with_listed}
use Rattle.link_reduce.specs.declared.part.Part.{Part}
use Rattle.link_reduce.proofs.LiveLinks.{cons_cases, live_cases, one_part}

same_some : {x y : ℕ} → Some x ≡ Some y → x ≡ y
same_some e = cc

pub no_number : (i : ℕ) → Contains [] i → ⊥
no_number i (k, l, e) = omega (arith, l)

-- the lists with a number more
module _ (lists : List (List ℕ)) (place number : ℕ) (lt : place < length lists) where
  pub more_same : listed (with_number lists place number) place ≡ listed lists place ++ number ∷ []
  more_same = get_or-set_same lists place (listed lists place ++ number ∷ []) [] lt

  pub more_other : (n : ℕ) → n ≢ place → listed (with_number lists place number) n ≡ listed lists n
  more_other n ne = get_or-set_other lists place n (listed lists place ++ number ∷ []) [] ne

  more_cases : (n j i : ℕ) → slice_get (listed (with_number lists place number) n) j ≡ Some i
      → (slice_get (listed lists n) j ≡ Some i) ⊎ ((i ≡ number) × (n ≡ place) × (j ≡ length (listed lists n)))
  more_cases n j i h = elim (dec_nat n place) [
    | inr ne ↦ inl (subst (λ l. slice_get l j ≡ Some i) (more_other n ne) h)
    | inl z ↦
        elim (slice_get-push_cases (listed lists place) number j i
        (subst (λ l. slice_get l j ≡ Some i) (ap (listed (with_number lists place number)) z ∙ more_same) h)) [
          | inl y ↦ inl (subst (λ m. slice_get (listed lists m) j ≡ Some i) (sym z) y)
          | inr y ↦ inr (sym y.1, z, y.0 ∙ ap (λ m. length (listed lists m)) (sym z))
        ]
  ]

  more_keeps : (n j i : ℕ) → slice_get (listed lists n) j ≡ Some i → slice_get (listed (with_number lists place number) n) j ≡ Some i
  more_keeps n j i h = elim (dec_nat n place) [
    | inr ne ↦ subst (λ l. slice_get l j ≡ Some i) (sym (more_other n ne)) h
    | inl z ↦ subst (λ l. slice_get l j ≡ Some i) (sym (ap (listed (with_number lists place number)) z ∙ more_same))
        (slice_get-append (listed lists place) (number ∷ []) j i (subst (λ m. slice_get (listed lists m) j ≡ Some i) z h))
  ]

  more_there : (j : ℕ) × (slice_get (listed (with_number lists place number) place) j ≡ Some number)
  more_there = (length (listed lists place), subst (λ l. slice_get l (length (listed lists place)) ≡ Some number) (sym more_same) (slice_get-push (listed lists place) number))

-- a part that was held is put back
module _ (held : List ℕ) (net : ℕ) (r : ReductionData) (i : ℕ) (p : Part) (h : IsListed (i ∷ held) net r)
    (at : slice_get r.parts i ≡ Some p) (ends : PartEndsAt p net) (lt : net < length r.at) where
  put_once : (n j k x : ℕ) → (slice_get (listed r.at n) j ≡ Some x) ⊎ ((x ≡ i) × (n ≡ net) × (j ≡ length (listed r.at n)))
      → (slice_get (listed r.at n) k ≡ Some x) ⊎ ((x ≡ i) × (n ≡ net) × (k ≡ length (listed r.at n))) → j ≡ k
  put_once n j k x (inl y) (inl z) = h.once n j k x y z
  put_once n j k x (inr y) (inr z) = y.2 ∙ sym z.2
  put_once n j k x (inl y) (inr z) =
      absurd (h.apart j i (Contains-first i held) (subst (λ m. slice_get (listed r.at m) j ≡ Some i) z.1 (y ∙ ap Some z.0)))
  put_once n j k x (inr y) (inl z) =
      absurd (h.apart k i (Contains-first i held) (subst (λ m. slice_get (listed r.at m) k ≡ Some i) y.1 (z ∙ ap Some y.0)))

  pub put_listed : IsListed held net (with_listed r net i)
  put_listed = record {
    sound = λ n j x y. elim (more_cases r.at net i lt n j x y) [
      | inl z ↦ h.sound n j x z
      | inr z ↦ (p, ap (slice_get r.parts) z.0 ∙ at, subst (PartEndsAt p) (sym z.1) ends)
    ];
    full = λ n x q l e. elim (h.full n x q l e) [
      | inl y ↦ inl (y.0, more_keeps r.at net i lt n y.0 x y.1)
      | inr y ↦ elim (cons_cases i held x y.1) [
        | inl z ↦
            let t = more_there r.at net i lt in
            inl (t.0, subst (λ m. slice_get (listed (with_number r.at net i) m) t.0 ≡ Some x) (sym y.0) (t.1 ∙ ap Some (sym z)))
        | inr z ↦ inr (y.0, z)
      ]
    ];
    once = λ n j k x y z. put_once n j k x (more_cases r.at net i lt n j x y) (more_cases r.at net i lt n k x z);
    apart = λ j x c y. elim (more_cases r.at net i lt net j x y) [
      | inl z ↦ h.apart j x (Contains-later i held x c) z
      | inr z ↦ h.held_once.0 (subst (Contains held) z.0 c)
    ];
    held_once = h.held_once.1;
    held_live = λ x c. h.held_live x (Contains-later i held x c);
  }

-- a list is cut: what is taken away is held, or is no more left
module _ (held : List ℕ) (net : ℕ) (r : ReductionData) (h : IsListed held net r) (lt : net < length r.at) where
  module _ (rest more : List ℕ) (are : listed r.at net ≡ rest ++ more) where
    abbrev cut : List (List ℕ)
    cut = set r.at net rest

    cut_same : listed (set r.at net rest) net ≡ rest
    cut_same = get_or-set_same r.at net rest [] lt

    cut_other : (n : ℕ) → n ≢ net → listed (set r.at net rest) n ≡ listed r.at n
    cut_other n ne = get_or-set_other r.at net n rest [] ne

    cut_from : (n j i : ℕ) → slice_get (listed (set r.at net rest) n) j ≡ Some i → slice_get (listed r.at n) j ≡ Some i
    cut_from n j i y = elim (dec_nat n net) [
      | inr ne ↦ subst (λ l. slice_get l j ≡ Some i) (cut_other n ne) y
      | inl z ↦ subst (λ l. slice_get l j ≡ Some i) (sym (ap (listed r.at) z ∙ are))
          (slice_get-append rest more j i (subst (λ l. slice_get l j ≡ Some i) (ap (listed (set r.at net rest)) z ∙ cut_same) y))
    ]

    cut_to : (n j i : ℕ) → slice_get (listed r.at n) j ≡ Some i
        → (slice_get (listed (set r.at net rest) n) j ≡ Some i) ⊎ ((n ≡ net) × Contains more i)
    cut_to n j i y = elim (dec_nat n net) [
      | inr ne ↦ inl (subst (λ l. slice_get l j ≡ Some i) (sym (cut_other n ne)) y)
      | inl z ↦ elim (in_append rest more j i (subst (λ l. slice_get l j ≡ Some i) (ap (listed r.at) z ∙ are) y)) [
        | inl w ↦ inl (subst (λ l. slice_get l j ≡ Some i) (sym (ap (listed (set r.at net rest)) z ∙ cut_same)) w.1)
        | inr w ↦ inr (z, Contains-slice_get more w.0 i w.2)
      ]
    ]

    -- what was taken is no more left
    pub dropped_listed : ((i : ℕ) (p : Part) → Contains more i → IsLive r i p → ⊥) → IsListed held net (with_at r (set r.at net rest))
    dropped_listed dead = record {
      sound = λ n j i y. h.sound n j i (cut_from n j i y);
      full = λ n i p l e. elim (h.full n i p l e) [
        | inr y ↦ inr y
        | inl y ↦ elim (cut_to n y.0 i y.1) [ inl z ↦ inl (y.0, z) | inr z ↦ absurd (dead i p z.1 l) ]
      ];
      once = λ n j k i y z. h.once n j k i (cut_from n j i y) (cut_from n k i z);
      apart = λ j i c y. h.apart j i c (cut_from net j i y);
      held_once = h.held_once;
      held_live = h.held_live;
    }

  -- the last one is held
  pub held_listed : (rest : List ℕ) (i : ℕ) (p : Part) → IsLive r i p → listed r.at net ≡ rest ++ i ∷ [] → IsListed (i ∷ held) net (with_at r (set r.at net rest))
  held_listed rest i p live are = record {
    sound = λ n j x y. h.sound n j x (cut_from rest (i ∷ []) are n j x y);
    full = λ n x p l e. elim (h.full n x p l e) [
      | inr y ↦ inr (y.0, Contains-later i held x y.1)
      | inl y ↦ elim (cut_to rest (i ∷ []) are n y.0 x y.1) [
        | inl z ↦ inl (y.0, z)
        | inr z ↦ inr (z.0, elim (cons_cases i [] x z.1) [ inl w ↦ subst (Contains (i ∷ held)) (sym w) (Contains-first i held) | inr w ↦ absurd (no_number x w) ])
      ]
    ];
    once = λ n j k x y z. h.once n j k x (cut_from rest (i ∷ []) are n j x y) (cut_from rest (i ∷ []) are n k x z);
    apart = λ j x c y. elim (cons_cases i held x c) [
      | inl z ↦
          let here = cut_from rest (i ∷ []) are net j x y in
          let same = h.once net j (length rest) i (here ∙ ap Some z) last in
          let low = slice_get_within rest j x (subst (λ l. slice_get l j ≡ Some x) (cut_same rest (i ∷ []) are) y) in
          absurd (omega (arith, same, low))
      | inr z ↦ h.apart j x z (cut_from rest (i ∷ []) are net j x y)
    ];
    held_once = ((λ c. h.apart (length rest) i c last), h.held_once);
    held_live = λ x c. elim (cons_cases i held x c) [
      | inl z ↦ (p, subst (λ y. IsLive r y p) (sym z) live, ends_here)
      | inr z ↦ h.held_live x z
    ];
  }
    where
      last : slice_get (listed r.at net) (length rest) ≡ Some i
      last = subst (λ l. slice_get l (length rest) ≡ Some i) (sym are) (slice_get-push rest i)

      ends_here : PartEndsAt p net
      ends_here =
          let s = h.sound net (length rest) i last in
          subst (λ q. PartEndsAt q net) (one_part r.parts i s.0 p s.1 live.0) s.2

-- two parts that are held are joined to one
module _ (held : List ℕ) (net : ℕ) (r : ReductionData) (h : IsListed held net r) (long : length r.live ≡ length r.parts)
    (e f : ℕ) (pe pf new : Part) (only : (i : ℕ) → Contains held i → (i ≡ e) ⊎ (i ≡ f)) (proper : new.from ≢ new.to)
    (from : new.from < length r.at) (to : new.to < length r.at) where
  abbrev first_lists : List (List ℕ)
  first_lists = with_number r.at new.from (length r.parts)

  room : new.to < length first_lists
  room = omega (arith, to, length-set r.at new.from (listed r.at new.from ++ length r.parts ∷ []))

  joined_from : (n j i : ℕ) → slice_get (listed (with_joined r e f new).at n) j ≡ Some i
      → (slice_get (listed r.at n) j ≡ Some i) ⊎ ((i ≡ length r.parts) × PartEndsAt new n × (j ≡ length (listed r.at n)))
  joined_from n j i y = elim (more_cases first_lists new.to (length r.parts) room n j i y) [
    | inr z ↦ inr (
      z.0,
      inr (sym z.1),
      z.2 ∙ ap length (more_other r.at new.from (length r.parts) from n (λ w. proper (sym w ∙ z.1))),
    )
    | inl z ↦ elim (more_cases r.at new.from (length r.parts) from n j i z) [ inl w ↦ inl w | inr w ↦ inr (w.0, inl (sym w.1), w.2) ]
  ]

  joined_to : (n j i : ℕ) → slice_get (listed r.at n) j ≡ Some i → slice_get (listed (with_joined r e f new).at n) j ≡ Some i
  joined_to n j i y = more_keeps first_lists new.to (length r.parts) room n j i (more_keeps r.at new.from (length r.parts) from n j i y)

  new_there : (n : ℕ) → PartEndsAt new n → (j : ℕ) × (slice_get (listed (with_joined r e f new).at n) j ≡ Some (length r.parts))
  new_there n (inr z) =
      let t = more_there first_lists new.to (length r.parts) room in
      (t.0, subst (λ m. slice_get (listed (with_joined r e f new).at m) t.0 ≡ Some (length r.parts)) z t.1)
  new_there n (inl z) =
      let t = more_there r.at new.from (length r.parts) from in (
        t.0,
        subst (λ m. slice_get (listed (with_joined r e f new).at m) t.0 ≡ Some (length r.parts)) z
            (more_keeps first_lists new.to (length r.parts) room new.from t.0 (length r.parts) t.1),
      )

  old_low : (n j : ℕ) → slice_get (listed r.at n) j ≡ Some (length r.parts) → ⊥
  old_low n j y = let s = h.sound n j (length r.parts) y in omega (arith, slice_get_within r.parts (length r.parts) s.0 s.1)

  joined_once : (n j k i : ℕ) → (slice_get (listed r.at n) j ≡ Some i) ⊎ ((i ≡ length r.parts) × PartEndsAt new n × (j ≡ length (listed r.at n)))
      → (slice_get (listed r.at n) k ≡ Some i) ⊎ ((i ≡ length r.parts) × PartEndsAt new n × (k ≡ length (listed r.at n))) → j ≡ k
  joined_once n j k i (inl y) (inl z) = h.once n j k i y z
  joined_once n j k i (inr y) (inr z) = y.2 ∙ sym z.2
  joined_once n j k i (inl y) (inr z) = absurd (old_low n j (y ∙ ap Some z.0))
  joined_once n j k i (inr y) (inl z) = absurd (old_low n k (z ∙ ap Some y.0))

  pub joined_listed : IsListed [] 0 (with_joined r e f new)
  joined_listed = record {
    sound = λ n j i y. elim (joined_from n j i y) [
      | inl z ↦ let s = h.sound n j i z in (s.0, slice_get-append r.parts (new ∷ []) i s.0 s.1, s.2)
      | inr z ↦ (new, ap (slice_get (r.parts ++ new ∷ [])) z.0 ∙ slice_get-push r.parts new, z.1)
    ];
    full = λ n i p l e'. elim (live_cases r e f pe pf new long i p l) [
      | inl y ↦
          let t = new_there n (subst (λ q. PartEndsAt q n) y.1 e') in
          inl (t.0, t.1 ∙ ap Some (sym y.0))
      | inr y ↦ elim (h.full n i p y.0 e') [
        | inl z ↦ inl (z.0, joined_to n z.0 i z.1)
        | inr z ↦ absurd (elim (only i z.1) [ inl w ↦ y.1 w | inr w ↦ y.2 w ])
      ]
    ];
    once = λ n j k i y z. joined_once n j k i (joined_from n j i y) (joined_from n k i z);
    apart = λ j i c y. no_number i c;
    held_once = tt;
    held_live = λ i c. absurd (no_number i c);
  }

-- where none is held, the net doesn't count
pub none_held : (net other : ℕ) (r : ReductionData) → IsListed [] net r → IsListed [] other r
none_held net other r h = record {
  sound = h.sound;
  full = λ n i p l e. elim (h.full n i p l e) [ inl y ↦ inl y | inr y ↦ absurd (no_number i y.1) ];
  once = h.once;
  apart = λ j i c y. no_number i c;
  held_once = tt;
  held_live = λ i c. absurd (no_number i c);
}
