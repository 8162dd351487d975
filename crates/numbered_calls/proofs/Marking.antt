-- What marks of the ports of a model say of its ports and of the formals of its instances.
use Rattle.std.proofs.Common.{◌≡◌, ℕ, ◌<◌, ◌≤◌, ◌+◌, ◌⊎◌, inl, inr, List, [], ◌∷◌, ◌++◌, length, replicate, drop, take, refl, ap, sym, subst, arith, ◌∙◌, append-nil, append_assoc}
use Rattle.std.specs.Prelude.{◌≢◌, Contains, Some, slice_get}
use Rattle.std.proofs.Math.Seq.{take-append_seam}
use Rattle.std.proofs.lemmas.List.{length-drop, length-replicate, length-set}
use Rattle.std.proofs.lemmas.List.Elements.{Contains-append_cases, Contains-append_left, Contains-append_right}
use Rattle.std.proofs.lemmas.Option.{slice_get_within}
use Rattle.dom_base.proofs.Lists.{Contains-first, Contains-slice_get, drop_next, slice_get-behind, slice_get-push_cases, slice_get-there}
use Rattle.network.proofs.IndexedLists.{get_replicate, get_set}
use Rattle.model_calls.proofs.Fitting.{contains_cons}
use Rattle.local_names.specs.LocalNames.{firsts}
use Rattle.numbered_calls.specs.PortMarks.{AreBarred, AreBound, AreDistinct, AreMarked, ArePortMarks, ArePorts, AreTwice, HasUnboundInput, HasWrongFormal, IsBarred, IsMarked}

-- the one element of a list
pub only : {X : Type 0} (x y : X) → Contains (x ∷ []) y → x ≡ y
only x y c = elim (contains_cons x [] y c) [ inl is ↦ is | inr none ↦ absurd (omega (arith, none.1)) ]

pub none_marked : (before : List ℕ) (mark other : ℕ) → AreMarked before [] mark other before
none_marked before mark other = record {
  count = refl;
  differ = λ j k x e f. absurd cc;
  marked = λ k v c e. absurd (omega (arith, c.1));
  kept = λ k v e. inr e;
  were = λ k c. absurd (omega (arith, c.1));
}

pub next_marked : (before places : List ℕ) (mark other : ℕ) (after more : List ℕ) (x : ℕ) → AreMarked before places mark other after → IsMarked after x mark other more
    → AreMarked before (places ++ x ∷ []) mark other more
next_marked before places mark other after more x h one = record { count = count; differ = differ; marked = marked; kept = kept; were = were }
  where
    count : length more ≡ length before
    count = ap length one.after_is ∙ length-set after x mark ∙ h.count

    new : Contains places x → ⊥
    new c = one.differs (h.marked x one.old c one.there)

    set_at : (k v : ℕ) → slice_get more k ≡ Some v → ((k ≡ x) × (mark ≡ v)) ⊎ ((k ≢ x) × (slice_get after k ≡ Some v))
    set_at k v e = get_set after x k mark v (subst (λ l. slice_get l k ≡ Some v) one.after_is e)

    differ : AreDistinct (places ++ x ∷ [])
    differ j k y e f = by (slice_get-push_cases places x j y e) (slice_get-push_cases places x k y f)
      where
        by : (slice_get places j ≡ Some y) ⊎ ((j ≡ length places) × (x ≡ y)) → (slice_get places k ≡ Some y) ⊎ ((k ≡ length places) × (x ≡ y)) → j ≡ k
        by (inl a) (inl b) = h.differ j k y a b
        by (inl a) (inr b) = absurd (new (subst (Contains places) (sym b.1) (Contains-slice_get places j y a)))
        by (inr a) (inl b) = absurd (new (subst (Contains places) (sym a.1) (Contains-slice_get places k y b)))
        by (inr a) (inr b) = a.0 ∙ sym b.0

    marked : (k v : ℕ) → Contains (places ++ x ∷ []) k → slice_get more k ≡ Some v → v ≡ mark
    marked k v c e = elim (set_at k v e) [
      | inl is ↦ sym is.1
      | inr old ↦ elim (Contains-append_cases places (x ∷ []) k c) [
        | inl early ↦ h.marked k v early old.1
        | inr late ↦ absurd (old.0 (sym (only x k late)))
      ]
    ]

    kept : (k v : ℕ) → slice_get more k ≡ Some v → (Contains (places ++ x ∷ []) k × (v ≡ mark)) ⊎ (slice_get before k ≡ Some v)
    kept k v e = elim (set_at k v e) [
      | inl is ↦ inl (Contains-append_right places (x ∷ []) k (subst (Contains (x ∷ [])) (sym is.0) (Contains-first x [])), sym is.1)
      | inr old ↦ elim (h.kept k v old.1) [ inl p ↦ inl (Contains-append_left places (x ∷ []) k p.0, p.1) | inr p ↦ inr p ]
    ]

    was : (v : ℕ) × (slice_get before x ≡ Some v) × (v ≢ other)
    was = elim (h.kept x one.old one.there) [ inl p ↦ absurd (one.differs p.1) | inr p ↦ (one.old, p, one.right) ]

    were : (k : ℕ) → Contains (places ++ x ∷ []) k → (v : ℕ) × (slice_get before k ≡ Some v) × (v ≢ other)
    were k c = elim (Contains-append_cases places (x ∷ []) k c) [
      | inl early ↦ h.were k early
      | inr late ↦ subst (λ k. (v : ℕ) × (slice_get before k ≡ Some v) × (v ≢ other)) (only x k late) was
    ]

-- marks of inputs and of outputs
pub ports_marked : (count : ℕ) (inputs outputs mid after : List ℕ) → AreMarked (replicate count 0) inputs 1 1 mid → AreMarked mid outputs 2 2 after → ArePorts inputs outputs 3 after
ports_marked count inputs outputs mid after one two = record { inputs_differ = one.differ; outputs_differ = two.differ; marks_are = marks }
  where
    unmarked : (k v : ℕ) → slice_get after k ≡ Some v → slice_get mid k ≡ Some v → 0 ≡ v → Contains (inputs ++ outputs) k → ⊥
    unmarked k v e old zero port = elim (Contains-append_cases inputs outputs k port) [
      | inl input ↦ omega (arith, zero, one.marked k v input old)
      | inr output ↦ omega (arith, zero, two.marked k v output e)
    ]

    marks : ArePortMarks (inputs ++ outputs) 3 after
    marks k v e = elim (two.kept k v e) [
      | inl p ↦ (omega (arith, p.1), (λ some. Contains-append_right inputs outputs k p.0, λ port zero. omega (arith, p.1, zero)))
      | inr old ↦ elim (one.kept k v old) [
        | inl p ↦ (omega (arith, p.1), (λ some. Contains-append_left inputs outputs k p.0, λ port zero. omega (arith, p.1, zero)))
        | inr none ↦ let zero : 0 ≡ v = get_replicate count 0 k v none in (omega (arith, zero), (λ some. absurd (some (sym zero)), λ port. absurd (unmarked k v e old zero port)))
      ]
    ]

-- marks that can't be given, since a place is barred when those before it have them
pub stopped : (before places : List ℕ) (mark other : ℕ) (after : List ℕ) (x i : ℕ) → AreMarked before (take i places) mark other after → IsBarred after x mark other
    → slice_get places i ≡ Some x → AreBarred before places mark other
stopped before places mark other after x i h bar there = record { at = i; place = x; there = there; barred = barred }
  where
    barred : (v : ℕ) → slice_get before x ≡ Some v → Contains (take i places) x ⊎ ((v ≡ mark) ⊎ (v ≡ other))
    barred v e =
        let w = slice_get-there after x (omega (arith, slice_get_within before x v e, h.count)) in
        elim (h.kept x w.0 w.1) [
          | inl p ↦ inl p.0
          | inr old ↦ let same : w.0 ≡ v = (let q : Some w.0 ≡ Some v = sym old ∙ e in cc) in inr (subst (λ n. (n ≡ mark) ⊎ (n ≡ other)) same (bar w.0 w.1))
        ]

-- places that none of the marks bars
not_barred : (before places : List ℕ) (mark : ℕ) → AreBarred before places mark mark → ((k v : ℕ) → slice_get before k ≡ Some v → v ≢ mark) → AreTwice (length before) places
not_barred before places mark b free = record { at = b.at; place = b.place; there = b.there; twice = twice }
  where
    twice : b.place < length before → Contains (take b.at places) b.place
    twice within = let v = slice_get-there before b.place within in elim (b.barred v.0 v.1) [
      | inl is ↦ is
      | inr marked ↦ absurd (elim marked [ inl one ↦ free b.place v.0 v.1 one | inr one ↦ free b.place v.0 v.1 one ])
    ]

pub inputs_twice : (count : ℕ) (inputs : List ℕ) → AreBarred (replicate count 0) inputs 1 1 → AreTwice count inputs
inputs_twice count inputs b = subst (λ n. AreTwice n inputs) (length-replicate count 0)
    (not_barred (replicate count 0) inputs 1 b (λ k v e one. let zero : 0 ≡ v = get_replicate count 0 k v e in omega (arith, zero, one)))

pub outputs_twice : (count : ℕ) (inputs mid outputs : List ℕ) → AreMarked (replicate count 0) inputs 1 1 mid → AreBarred mid outputs 2 2 → AreTwice count outputs
outputs_twice count inputs mid outputs h b = subst (λ n. AreTwice n outputs) (h.count ∙ length-replicate count 0)
    (not_barred mid outputs 2 b (λ k v e two. elim (h.kept k v e) [
      | inl p ↦ omega (arith, p.1, two)
      | inr old ↦ let zero : 0 ≡ v = get_replicate count 0 k v old in omega (arith, zero, two)
    ]))

-- formals that can't all be marked
pub wrong_formal : (ports formals before : List ℕ) (mark : ℕ) → ArePortMarks ports mark before → AreBarred before formals mark 0 → HasWrongFormal (length before) ports formals
wrong_formal ports formals before mark h b = record { at = b.at; place = b.place; there = b.there; wrong = wrong }
  where
    wrong : b.place < length before → Contains (take b.at formals) b.place ⊎ (Contains ports b.place → ⊥)
    wrong within = let v = slice_get-there before b.place within in let m = h b.place v.0 v.1 in elim (b.barred v.0 v.1) [
      | inl twice ↦ inl twice
      | inr marked ↦ elim marked [ inl same ↦ absurd (omega (arith, same, m.0)) | inr none ↦ inr (λ port. m.1.1 port none) ]
    ]

-- marks of formals, where all inputs of the model have them
module _ (inputs ports formals before after : List ℕ) (mark : ℕ) (h : ArePortMarks ports mark before) (done : AreMarked before formals mark 0 after) where
  port : (k : ℕ) → Contains formals k → Contains ports k
  port k c = let w = done.were k c in (h k w.0 w.1).1.0 w.2

  pub bound_marks : ArePortMarks ports (mark + 1) after
  bound_marks k v e = elim (done.kept k v e) [
    | inl p ↦ let w = done.were k p.0 in let less = (h k w.0 w.1).0 in (omega (arith, p.1), (λ some. port k p.0, λ is zero. omega (arith, p.1, zero, less)))
    | inr old ↦ let w = h k v old in (omega (arith, w.0), w.1)
  ]

  pub unbound_input : (place : ℕ) → Contains inputs place → slice_get after place ≢ Some mark → HasUnboundInput inputs formals
  unbound_input place input other = record {
    place = place;
    input = input;
    unbound = λ bound.
        let w = done.were place bound in
        let v = slice_get-there after place (omega (arith, slice_get_within before place w.0 w.1, done.count)) in
        other (v.1 ∙ ap Some (done.marked place v.0 bound v.1));
  }

  pub bound_formals : ((k : ℕ) → Contains inputs k → slice_get after k ≡ Some mark) → AreBound inputs ports formals
  bound_formals all = record {
    differ = done.differ;
    ports_are = port;
    inputs_are = λ k c. elim (done.kept k mark (all k c)) [ inl p ↦ p.0 | inr old ↦ absurd (omega (arith, (h k mark old).0)) ];
  }

-- formals that are looked at one by one: those so far, and those of the words that are left
pub record AreLooked (words before : List ℕ) (mark : ℕ) (at : ℕ) (after : List ℕ) : Type 0 where
  pub done : List ℕ
  pub all : firsts (drop 1 words) ≡ done ++ firsts (drop at words)
  pub marked : AreMarked before done mark 0 after

pub looking-starts : (words before : List ℕ) (mark : ℕ) → AreLooked words before mark 1 before
looking-starts words before mark = record { done = []; all = refl; marked = none_marked before mark 0 }

-- two words more
two : (words : List ℕ) (at x : ℕ) → at + 1 < length words → slice_get words at ≡ Some x → (y : ℕ) × (drop at words ≡ x ∷ y ∷ drop (at + 2) words)
two words at x within there =
    let y = slice_get-there words (at + 1) within in
    let next : at + 1 + 1 ≡ at + 2 = omega arith in
    (y.0, drop_next words at x there ∙ ap (λ l. x ∷ l) (drop_next words (at + 1) y.0 y.1 ∙ ap (λ n. y.0 ∷ drop n words) next))

pub looking-goes_on : (words before : List ℕ) (mark at : ℕ) (after more : List ℕ) (x : ℕ) → at + 1 < length words → slice_get words at ≡ Some x → AreLooked words before mark at after
    → IsMarked after x mark 0 more → AreLooked words before mark (at + 2) more
looking-goes_on words before mark at after more x within there h one = record {
  done = h.done ++ x ∷ [];
  all = h.all ∙ ap (λ l. h.done ++ firsts l) (two words at x within there).1 ∙ sym (append_assoc h.done (x ∷ []) (firsts (drop (at + 2) words)));
  marked = next_marked before h.done mark 0 after more x h.marked one;
}

pub looking-stops : (words before : List ℕ) (mark at : ℕ) (after : List ℕ) (x : ℕ) → at + 1 < length words → slice_get words at ≡ Some x → AreLooked words before mark at after
    → IsBarred after x mark 0 → AreBarred before (firsts (drop 1 words)) mark 0
looking-stops words before mark at after x within there h bar =
    subst (λ l. AreBarred before l mark 0) (sym (h.all ∙ ap (λ l. h.done ++ firsts l) (two words at x within there).1))
    (stopped before all mark 0 after x (length h.done) (subst (λ l. AreMarked before l mark 0 after) (sym (take-append_seam h.done rest)) h.marked) bar here)
  where
    rest : List ℕ
    rest = x ∷ firsts (drop (at + 2) words)

    all : List ℕ
    all = h.done ++ rest

    here : slice_get all (length h.done) ≡ Some x
    here = ap (slice_get all) (let z : length h.done ≡ length h.done + 0 = omega arith in z) ∙ slice_get-behind h.done rest 0

pub looking-ends : (words before : List ℕ) (mark at : ℕ) (after : List ℕ) → length words ≤ at + 1 → AreLooked words before mark at after → AreMarked before (firsts (drop 1 words)) mark 0 after
looking-ends words before mark at after past h =
    subst (λ l. AreMarked before l mark 0 after) (sym (h.all ∙ ap (λ l. h.done ++ l) (few (drop at words) (omega (arith, past, length-drop at words))) ∙ append-nil h.done)) h.marked
  where
    few : (l : List ℕ) → length l ≤ 1 → firsts l ≡ []
    few [] s = refl
    few (a ∷ []) s = refl
    few (a ∷ b ∷ l) s = absurd (omega (arith, s))
