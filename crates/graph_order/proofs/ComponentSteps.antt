-- What a search for components keeps where it looks at a node or is done with a stop.
use Rattle.std.proofs.Common.{◌≡◌, ℕ, ◌<◌, ◌≤◌, ◌-◌, ◌⊎◌, inl, inr, List, [], ◌∷◌, ◌++◌, length, take, get_or, Some, None, ap, sym, ◌∙◌, subst, arith}
use Rattle.std.specs.Prelude.{Contains, All, slice_get}
use Rattle.std.proofs.lemmas.Bool.{cases_eq, cases_lt}
use Rattle.std.proofs.lemmas.List.Elements.{All-contains, Contains-append_left, Contains-append_right}
use Rattle.std.proofs.lemmas.Option.{slice_get-get_or, slice_get_within}
use Rattle.dom_base.proofs.Lists.{Contains-first, Contains-slice_get, slice_get-append, slice_get-contained, slice_get-push, slice_get-push_cases}
use Rattle.graph_order.proofs.ComponentSearches.{entered_sound}
use Rattle.graph_order.proofs.Joined.{leads_or, or_leads, or_or}
use Rattle.graph_order.proofs.Lists.{none_past, take_get}
use Rattle.graph_order.proofs.Placed.{contains_push, in_front, one_at}
use Rattle.graph_order.specs.declared.components.Place.TheVariants.{New, OnPath, Within}
use Rattle.graph_order.specs.declared.components.Stop.{Stop}
use Rattle.graph_order.specs.ComponentSearches.{ComponentData, IsJoinedFrom, IsLookedAt, IsOrLeads, IsSoundPath, IsInComponentOrFrom, looked_further, with_entered, with_starts, with_stop}
use Rattle.graph_order.specs.Orders.{IsGraph, IsSuccessor, step, successors}

module _ (nodes : List (List ℕ)) (w : ComponentData) (f : Stop) (sound : IsSoundPath nodes (with_stop w f)) where
  top : Contains (w.stops ++ f ∷ []) f
  top = Contains-append_right w.stops (f ∷ []) f (Contains-first f [])

  pub at_top : slice_get w.path f.place ≡ Some f.node
  at_top = (sound.stopped f top).0

  pub lower : (g : Stop) → Contains w.stops g → g.place < f.place
  lower g c =
      let i = slice_get-contained w.stops g c in
      sound.deeper i.0 (length w.stops) g f (slice_get_within w.stops i.0 g i.1) (slice_get-append w.stops (f ∷ []) i.0 g i.1)
      (slice_get-push w.stops f)

  -- no stretch starts behind the top stop
  pub start_low : (p : ℕ) → Contains w.starts p → p ≤ f.place
  start_low p c = let g = sound.started p c in elim (contains_push w.stops f g.0 g.1) [
    | inl h ↦ omega (arith, lower g.0 h, g.2)
    | inr is ↦ omega (arith, ap (λ (x : Stop). x.place) is, g.2)
  ]

  -- all on the path lead to the top stop
  pub up_to_top : (p a : ℕ) → p ≤ f.place → slice_get w.path p ≡ Some a → IsOrLeads nodes a f.node
  up_to_top p a l e = elim (cases_lt p f.place) [
    | inl less ↦ inr (sound.forward p f.place a f.node less e at_top)
    | inr past ↦ inl (one_at w.path p f.place a f.node e at_top (omega (arith, l, past)))
  ]

  pub reach_top : (q b : ℕ) → slice_get w.path q ≡ Some b → IsOrLeads nodes b f.node
  reach_top q b e = let k = sound.back q b e in or_or k.5 (up_to_top k.0 k.1 (start_low k.0 k.2) k.4)

  pub top_within : f.node < length nodes
  top_within = omega (arith, slice_get_within w.places f.node (OnPath f.place) (sound.on_path f.place f.node at_top), sound.count)

  pub path_inside : All (λ node. node < length w.places) w.path
  path_inside = λ k d l.
      let at = slice_get-get_or w.path k d l in
      slice_get_within w.places (get_or w.path k d) (OnPath k) (sound.on_path k (get_or w.path k d) at)

  -- the next node that the top stop leads to
  module _ (child : ℕ) (there : slice_get (successors nodes f.node) f.next ≡ Some child) where
    last : IsSuccessor nodes f.node child
    last = Contains-slice_get (successors nodes f.node) f.next child there

    abbrev stops : List Stop
    stops = w.stops ++ looked_further f ∷ []

    further_there : Contains stops (looked_further f)
    further_there = Contains-append_right w.stops (looked_further f ∷ []) (looked_further f) (Contains-first (looked_further f) [])

    further_started : (p : ℕ) → Contains w.starts p → (g : Stop) × Contains stops g × (g.place ≡ p)
    further_started p c = let g = sound.started p c in elim (contains_push w.stops f g.0 g.1) [
      | inl h ↦ (g.0, Contains-append_left w.stops (looked_further f ∷ []) g.0 h, g.2)
      | inr is ↦ (looked_further f, further_there, ap (λ (x : Stop). x.place) is ∙ g.2)
    ]

    further_stopped : (g : Stop) → Contains stops g → (slice_get w.path g.place ≡ Some g.node) × (g.next ≤ length (successors nodes g.node))
    further_stopped g c = elim (contains_push w.stops (looked_further f) g c) [
      | inl h ↦ sound.stopped g (Contains-append_left w.stops (f ∷ []) g h)
      | inr is ↦ subst (λ (x : Stop). (slice_get w.path x.place ≡ Some x.node) × (x.next ≤ length (successors nodes x.node))) is
          (at_top, omega (arith, slice_get_within (successors nodes f.node) f.next child there))
    ]

    further_deeper : (i j : ℕ) (g h : Stop) → i < j → slice_get stops i ≡ Some g → slice_get stops j ≡ Some h → g.place < h.place
    further_deeper i j g h l e k = by (slice_get-push_cases w.stops (looked_further f) i g e) (slice_get-push_cases w.stops (looked_further f) j h k)
      where
        by : (slice_get w.stops i ≡ Some g) ⊎ ((i ≡ length w.stops) × (looked_further f ≡ g))
            → (slice_get w.stops j ≡ Some h) ⊎ ((j ≡ length w.stops) × (looked_further f ≡ h)) → g.place < h.place
        by (inl m) (inl n) = sound.deeper i j g h l (slice_get-append w.stops (f ∷ []) i g m) (slice_get-append w.stops (f ∷ []) j h n)
        by (inl m) (inr n) = omega (arith, lower g (Contains-slice_get w.stops i g m), ap (λ (x : Stop). x.place) n.1)
        by (inr m) (inl n) = absurd (omega (arith, l, m.0, slice_get_within w.stops j h n))
        by (inr m) (inr n) = absurd (omega (arith, l, m.0, n.0))

    -- the one node that is looked at now
    newly : (a i : ℕ) → IsLookedAt stops a i → IsLookedAt (w.stops ++ f ∷ []) a i ⊎ ((a ≡ f.node) × (i ≡ f.next))
    newly a i h = by (cases_eq i f.next) (cases_eq a f.node)
      where
        by : (i ≡ f.next) ⊎ (i ≡ f.next → ⊥) → (a ≡ f.node) ⊎ (a ≡ f.node → ⊥)
            → IsLookedAt (w.stops ++ f ∷ []) a i ⊎ ((a ≡ f.node) × (i ≡ f.next))
        by (inl is) (inl same) = inr (same, is)
        by _ (inr apart) = inl (λ g c e. elim (contains_push w.stops f g c) [
          | inl m ↦ h g (Contains-append_left w.stops (looked_further f ∷ []) g m) e
          | inr is ↦ absurd (apart (sym e ∙ ap (λ (x : Stop). x.node) (sym is)))
        ])
        by (inr other) (inl same) = inl (λ g c e. elim (contains_push w.stops f g c) [
          | inl m ↦ h g (Contains-append_left w.stops (looked_further f ∷ []) g m) e
          | inr is ↦ omega (arith, h (looked_further f) further_there (sym same), other, ap (λ (x : Stop). x.next) is)
        ])

    found : (p i a b : ℕ) → slice_get w.path p ≡ Some a → slice_get (successors nodes a) i ≡ Some b → (a ≡ f.node) × (i ≡ f.next)
        → (b ≡ child) × (p ≡ f.place)
    found p i a b e n (same, is) = (
      one_at (successors nodes f.node) i f.next b child (subst (λ x. slice_get (successors nodes x) i ≡ Some b) same n) there is,
      path_at (sym (sound.on_path p a e) ∙ ap (slice_get w.places) same ∙ sound.on_path f.place f.node at_top),
    )
      where
        path_at : {a b : ℕ} → Some (OnPath a) ≡ Some (OnPath b) → a ≡ b
        path_at e = cc

    -- the stop looked at this node, and maybe some starts are taken away
    further_sound : (starts : List ℕ) → ((p : ℕ) → Contains starts p → Contains w.starts p)
        → ((i j p q : ℕ) → i < j → slice_get starts i ≡ Some p → slice_get starts j ≡ Some q → p < q)
        → ((q b : ℕ) → slice_get w.path q ≡ Some b → (p : ℕ) × (a : ℕ) × Contains starts p × (p ≤ q) × (slice_get w.path p ≡ Some a)
        × IsOrLeads nodes b a)
        → ((start : ℕ) → Contains starts start → IsInComponentOrFrom w.places start child)
        → IsSoundPath nodes (with_stop (with_starts w starts) (looked_further f))
    further_sound starts among rising back edge = record {
      count = sound.count;
      on_path = sound.on_path;
      at_place = sound.at_place;
      forward = sound.forward;
      back = back;
      started = λ p c. further_started p (among p c);
      rising = rising;
      stopped = further_stopped;
      deeper = further_deeper;
      looked = λ p start i a b e n h c l. elim (newly a i h) [
        | inl old ↦ sound.looked p start i a b e n old (among start c) l
        | inr now ↦ subst (IsInComponentOrFrom w.places start) (sym (found p i a b e n now).0) (edge start c)
      ];
      closed = sound.closed;
      whole = sound.whole;
    }

    pub within_sound : (first : ℕ) → slice_get w.places child ≡ Some (Within first) → IsSoundPath nodes (with_stop w (looked_further f))
    within_sound first e = further_sound w.starts (λ p c. c) sound.rising sound.back (λ start c. inl (first, e))

    -- the node stands at this place of the path
    module _ (place : ℕ) (after : ComponentData) (e : slice_get w.places child ≡ Some (OnPath place))
        (join : IsJoinedFrom place (with_stop w (looked_further f)) after) where
      abbrev starts : List ℕ
      starts = take join.kept w.starts

      at_child : slice_get w.path place ≡ Some child
      at_child = sound.at_place place child e

      among : (p : ℕ) → Contains starts p → Contains w.starts p
      among p c = let i = slice_get-contained starts p c in Contains-slice_get w.starts i.0 p (take_get w.starts join.kept i.0 p i.1).1

      rising : (i j p q : ℕ) → i < j → slice_get starts i ≡ Some p → slice_get starts j ≡ Some q → p < q
      rising i j p q l m n = sound.rising i j p q l (take_get w.starts join.kept i p m).1 (take_get w.starts join.kept j q n).1

      stays : (p : ℕ) → Contains w.starts p → p ≤ place → Contains starts p
      stays p c l = let i = slice_get-contained w.starts p c in elim (cases_lt i.0 join.kept) [
        | inl less ↦ Contains-slice_get starts i.0 p (in_front w.starts join.kept i.0 p less i.1)
        | inr past ↦ absurd (omega (arith, l, join.high i.0 p past i.1))
      ]

      low : (p : ℕ) → Contains starts p → p ≤ place
      low p c = by join.low
        where
          by : (join.kept ≡ 0) ⊎ ((s : ℕ) × (slice_get w.starts (join.kept - 1) ≡ Some s) × (s ≤ place)) → p ≤ place
          by none = let i = slice_get-contained starts p c in let k = take_get w.starts join.kept i.0 p i.1 in elim none [
            | inl nothing ↦ absurd (omega (arith, k.0, nothing))
            | inr s ↦ elim (cases_lt i.0 (join.kept - 1)) [
              | inl less ↦ omega (arith, sound.rising i.0 (join.kept - 1) p s.0 less k.1 s.1, s.2)
              | inr past ↦ omega (arith, one_at w.starts i.0 (join.kept - 1) p s.0 k.1 s.1 (omega (arith, past, k.0)), s.2)
            ]
          ]

      back : (q b : ℕ) → slice_get w.path q ≡ Some b
          → (p : ℕ) × (a : ℕ) × Contains starts p × (p ≤ q) × (slice_get w.path p ≡ Some a) × IsOrLeads nodes b a
      back q b at = let k = sound.back q b at in elim (cases_lt place k.0) [
        | inl past ↦ (
            let m = sound.back place child at_child in
            (m.0, m.1, stays m.0 m.2 m.3, omega (arith, m.3, past, k.3), m.4, or_or (reach_top q b at) (inr (leads_or (step last) m.5)))
            )
        | inr below ↦ (k.0, k.1, stays k.0 k.2 below, k.3, k.4, k.5)
      ]

      edge : (start : ℕ) → Contains starts start → IsInComponentOrFrom w.places start child
      edge start c = inr (place, low start c, e)

      pub joined_sound : IsSoundPath nodes after
      joined_sound = subst (IsSoundPath nodes) (sym join.is) (further_sound starts among rising back edge)

    pub new_sound : slice_get w.places child ≡ Some New → IsSoundPath nodes (with_entered (with_stop w (looked_further f)) child)
    new_sound fresh = entered_sound nodes (with_stop w f) sound stops child fresh
        (λ q b e. or_leads (reach_top q b e) (step last)) further_started further_stopped further_deeper
        (λ p start i a b e n h c l. elim (newly a i h) [
          | inl old ↦ inl (sound.looked p start i a b e n old c l)
          | inr now ↦ inr (found p i a b e n now).0
        ])

    pub child_inside : IsGraph nodes → child < length nodes
    child_inside graph = All-contains (λ node. node < length nodes) (successors nodes f.node) child (graph f.node [] top_within) last

  -- the top stop has looked at all
  module _ (none : slice_get (successors nodes f.node) f.next ≡ None) where
    full : (a i b : ℕ) → slice_get (successors nodes a) i ≡ Some b → a ≡ f.node → i < f.next
    full a i b e is =
        omega (
          arith,
          slice_get_within (successors nodes f.node) i b
              (subst (λ x. slice_get (successors nodes x) i ≡ Some b) is e),
          none_past (successors nodes f.node) f.next none,
        )

    pub all_looked : (a i b : ℕ) → slice_get (successors nodes a) i ≡ Some b → IsLookedAt w.stops a i → IsLookedAt (w.stops ++ f ∷ []) a i
    all_looked a i b n h g c e = elim (contains_push w.stops f g c) [
      | inl m ↦ h g m e
      | inr is ↦ omega (arith, full a i b n (sym e ∙ ap (λ (x : Stop). x.node) (sym is)), ap (λ (x : Stop). x.next) is)
    ]

    -- it starts no stretch
    pub inner_sound : (slice_get w.starts (length w.starts - 1) ≡ Some f.place → ⊥) → IsSoundPath nodes w
    inner_sound not = record {
      count = sound.count;
      on_path = sound.on_path;
      at_place = sound.at_place;
      forward = sound.forward;
      back = sound.back;
      started = started;
      rising = sound.rising;
      stopped = λ g c. sound.stopped g (Contains-append_left w.stops (f ∷ []) g c);
      deeper = λ i j g h l m n. sound.deeper i j g h l (slice_get-append w.stops (f ∷ []) i g m) (slice_get-append w.stops (f ∷ []) j h n);
      looked = λ p start i a b e n h c l. sound.looked p start i a b e n (all_looked a i b n h) c l;
      closed = sound.closed;
      whole = sound.whole;
    }
      where
        no_start : (p : ℕ) → Contains w.starts p → f.place ≡ p → ⊥
        no_start p c is =
            let i = slice_get-contained w.starts p c in
            let l = slice_get_within w.starts i.0 p i.1 in
            let q = slice_get-get_or w.starts (length w.starts - 1) 0 (omega (arith, l)) in elim (cases_lt i.0 (length w.starts - 1)) [
              | inl less ↦ (
                  let low = start_low _ (Contains-slice_get w.starts (length w.starts - 1) _ q) in
                  omega (arith, sound.rising i.0 (length w.starts - 1) p _ less i.1 q, low, is)
                  )
              | inr past ↦ (
                  let same : i.0 ≡ length w.starts - 1 = omega (arith, l, past) in
                  not (subst (λ n. slice_get w.starts n ≡ Some f.place) same (i.1 ∙ ap Some (sym is)))
                  )
            ]

        started : (p : ℕ) → Contains w.starts p → (g : Stop) × Contains w.stops g × (g.place ≡ p)
        started p c = let g = sound.started p c in elim (contains_push w.stops f g.0 g.1) [
          | inl h ↦ (g.0, h, g.2)
          | inr is ↦ absurd (no_start p c (ap (λ (x : Stop). x.place) is ∙ g.2))
        ]
