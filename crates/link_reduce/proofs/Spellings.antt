-- Taking parts apart spells the numbers of a tree's links in order.
use Rattle.std.specs.Prelude.{Some, slice_get, ◌≢◌, ◌⊎◌}
use Rattle.std.proofs.Common.{List, [], ap, append_assoc, arith, inl, inr, length, length-append, refl, subst, sym, ℕ, ◌*◌, ◌++◌, ◌+◌}
use Rattle.std.proofs.Common.{◌-◌, ◌<◌, ◌∙◌, ◌∷◌, ◌≡◌, ◌≤◌}
use Rattle.std.proofs.lemmas.Option.{slice_get_within}
use Rattle.sp_network.specs.Tree.{Leaf, Parallel, Series, Tree}
use Rattle.sp_reduction.specs.Networks.{Link}
use Rattle.link_reduce.specs.Parts.{PartEndsAt, PartJoins, numbers_of}
use Rattle.link_reduce.specs.Reductions.{Unfolds, given, parallel, series, turned}
use Rattle.link_reduce.specs.Spellings.{AreProper, HasShortTree, HasTree, IsPending, IsSpelling, IsTakenApart, JoinsFrom}
use Rattle.link_reduce.specs.declared.part.Made.{Made}
use Rattle.link_reduce.specs.declared.part.Made.TheVariants.{Given, Parallel as InParallel, Series as InSeries}
use Rattle.link_reduce.specs.declared.part.Part.{Part}
use Rattle.link_reduce.specs.declared.spelling.Step.{Step}
use Rattle.link_reduce.proofs.Joins.{joins_ends}
use Rattle.link_reduce.proofs.LiveLinks.{one_part}

append_none : (xs : List ℕ) → xs ++ [] ≡ xs
append_none [] = refl
append_none (x ∷ xs) = ap (λ l. x ∷ l) (append_none xs)

-- the ends of a part are those that its trees have
pub unfolds_joins : (parts : List Part) (i a b : ℕ) (t : Tree Link) → Unfolds parts i a b t
    → (p : Part) × (slice_get parts i ≡ Some p) × PartJoins p a b
unfolds_joins parts i a b t (given p at made joins) = (p, at, joins)
unfolds_joins parts i a b t (series p at made from to l r) = (p, at, inl (from, to))
unfolds_joins parts i a b t (turned p at made to from l r) = (p, at, inr (to, from))
unfolds_joins parts i a b t (parallel p at made joins l r) = (p, at, joins)

joins_one : (p : Part) (a b c : ℕ) → PartJoins p a b → PartJoins p a c → b ≡ c
joins_one p a b c (inl x) (inl y) = sym x.1 ∙ y.1
joins_one p a b c (inr x) (inr y) = sym x.1 ∙ y.1
joins_one p a b c (inl x) (inr y) = sym x.1 ∙ y.0 ∙ sym x.0 ∙ y.1
joins_one p a b c (inr x) (inl y) = sym x.1 ∙ y.0 ∙ sym x.0 ∙ y.1

pub far_is : (parts : List Part) (i a b x : ℕ) (t : Tree Link) → Unfolds parts i a b t → JoinsFrom parts i a x → x ≡ b
far_is parts i a b x t u joins = let y = unfolds_joins parts i a b t u in joins_one y.0 a x b (joins y.0 y.1) y.2

-- a part that is to be spelled stands there, and ends at the net
pub stands : (parts : List Part) (i a b : ℕ) (t : Tree Link) → Unfolds parts i a b t → i < length parts
stands parts i a b t u = let y = unfolds_joins parts i a b t u in slice_get_within parts i y.0 y.1

pub stands_at : (parts : List Part) (i a b : ℕ) (t : Tree Link) → Unfolds parts i a b t → (p : Part) → slice_get parts i ≡ Some p
    → PartEndsAt p a
stands_at parts i a b t u p at =
    let y = unfolds_joins parts i a b t u in joins_ends p a b (subst (λ q. PartJoins q a b) (one_part parts i y.0 p y.1 at) y.2)

some_number : (t : Tree Link) → 1 ≤ length (numbers_of t)
some_number (Leaf e) = omega arith
some_number (Series l r) = omega (arith, some_number l, length-append (numbers_of l) (numbers_of r))
some_number (Parallel l r) = omega (arith, some_number l, length-append (numbers_of l) (numbers_of r))

module _ (parts : List Part) where
  pub pending_push : (steps : List Step) (s : Step) (to : ℕ) (t : Tree Link) (numbers : List ℕ) → Unfolds parts s.part s.from to t
      → IsPending parts steps numbers
      → IsPending parts (steps ++ s ∷ []) (numbers_of t ++ numbers)
  pending_push [] s to t numbers u none = (to, t, [], u, refl, ap (λ l. numbers_of t ++ l) none ∙ append_none (numbers_of t))
  pending_push (x ∷ steps) s to t numbers u (end, v, above, w, rest, is) =
      (end, v, numbers_of t ++ above, w, pending_push steps s to t above u rest, ap (λ l. numbers_of t ++ l) is ∙ sym (append_assoc (numbers_of t) (above) (numbers_of v)))

  pub record IsPopped (steps : List Step) (s : Step) (numbers : List ℕ) : Type 0 where
    pub to : ℕ
    pub tree : Tree Link
    pub rest : List ℕ
    pub unfolds : Unfolds parts s.part s.from to tree
    pub pending : IsPending parts steps rest
    pub are : numbers ≡ numbers_of tree ++ rest

  pub pending_pop : (steps : List Step) (s : Step) (numbers : List ℕ) → IsPending parts (steps ++ s ∷ []) numbers → IsPopped steps s numbers
  pending_pop [] s numbers (to, t, above, u, none, is) = record {
    to = to;
    tree = t;
    rest = [];
    unfolds = u;
    pending = refl;
    are = is ∙ ap (λ l. l ++ numbers_of t) none ∙ sym (append_none (numbers_of t));
  }
  pending_pop (x ∷ steps) s numbers (to, t, above, u, pending, is) =
      let y = pending_pop steps s above pending in
      record {
        to = y.to;
        tree = y.tree;
        rest = y.rest ++ numbers_of t;
        unfolds = y.unfolds;
        pending = (to, t, y.rest, u, y.pending, refl);
        are = is ∙ ap (λ l. l ++ numbers_of t) y.are ∙ append_assoc (numbers_of y.tree) (y.rest) (numbers_of t);
      }

  pub pending_long : (steps : List Step) (numbers : List ℕ) → IsPending parts steps numbers → length steps ≤ length numbers
  pending_long [] numbers none = omega arith
  pending_long (x ∷ steps) numbers (to, t, above, u, rest, is) =
      omega (arith, pending_long steps above rest, some_number t, ap length is, length-append above (numbers_of t))

  module _ (s : Step) (p : Part) (at : slice_get parts s.part ≡ Some p) (order : List ℕ) (steps : List Step) where
    -- a link that was given
    pub given_apart : p.made ≡ Given → IsTakenApart parts s order (order ++ s.part ∷ []) steps steps
    given_apart made = record {
      spells = spells;
      grows = omega (arith, length-append order (s.part ∷ []));
    }
      where
        spells : (to : ℕ) (t : Tree Link) (rest all : List ℕ) → Unfolds parts s.part s.from to t → IsPending parts steps rest
            → order ++ (numbers_of t ++ rest) ≡ all → IsSpelling parts (order ++ s.part ∷ []) steps all
        spells to t rest all (given q there is joins) pending same = (rest, pending, append_assoc (order) (s.part ∷ []) (rest) ∙ same)
        spells to t rest all (series q there is from end l r) pending same = let e = one_part parts s.part p q at there in absurd cc
        spells to t rest all (turned q there is end from l r) pending same = let e = one_part parts s.part p q at there in absurd cc
        spells to t rest all (parallel q there is joins l r) pending same = let e = one_part parts s.part p q at there in absurd cc

    module _ (one other mid : ℕ) where
      abbrev first : Step
      first = record { part = one; from = s.from }

      abbrev second : Step
      second = record { part = other; from = mid }

      abbrev after : List Step
      after = (steps ++ second ∷ []) ++ first ∷ []

      two_pending : (m to : ℕ) (l r t : Tree Link) (rest all : List ℕ) → Unfolds parts one s.from m l → Unfolds parts other mid to r
          → numbers_of t ≡ numbers_of l ++ numbers_of r
          → IsPending parts steps rest → order ++ (numbers_of t ++ rest) ≡ all → IsSpelling parts order after all
      two_pending m to l r t rest all u v is pending same = (
        numbers_of l ++ (numbers_of r ++ rest),
        pending_push (steps ++ second ∷ []) first m l (numbers_of r ++ rest) u (pending_push steps second to r rest v pending),
        ap (λ k. order ++ k) (sym (append_assoc (numbers_of l) (numbers_of r) (rest)) ∙ ap (λ k. k ++ rest) (sym is)) ∙ same,
      )

      two_more : 2 * length order + length after ≡ 2 * length order + length steps + 2
      two_more = omega (arith, length-append (steps ++ second ∷ []) (first ∷ []), length-append steps (second ∷ []))

      pub parallel_apart : p.made ≡ InParallel one other → mid ≡ s.from → IsTakenApart parts s order order steps after
      parallel_apart made here = record { spells = spells; grows = two_more }
        where
          spells : (to : ℕ) (t : Tree Link) (rest all : List ℕ) → Unfolds parts s.part s.from to t → IsPending parts steps rest
              → order ++ (numbers_of t ++ rest) ≡ all → IsSpelling parts order after all
          spells to t rest all (given q there is joins) pending same = let e = one_part parts s.part p q at there in absurd cc
          spells to t rest all (series q there is from end l r) pending same = let e = one_part parts s.part p q at there in absurd cc
          spells to t rest all (turned q there is end from l r) pending same = let e = one_part parts s.part p q at there in absurd cc
          spells to t rest all (parallel {e} {f} {l} {r} q there is joins u v) pending same =
              let z = one_part parts s.part p q at there in
              let k : InParallel e f ≡ InParallel one other = sym is ∙ ap (λ (x : Part). x.made) (sym z) ∙ made in
              let a : e ≡ one = cc in
              let b : f ≡ other = cc in
              two_pending to to l r t rest all (subst (λ n. Unfolds parts n s.from to l) a u)
              (subst (λ n. Unfolds parts other n to r) (sym here) (subst (λ n. Unfolds parts n s.from to r) b v)) refl pending same

      -- the two are in series, in this order
      pub record IsTwo (to : ℕ) (t : Tree Link) : Type 0 where
        pub m : ℕ
        pub left : Tree Link
        pub right : Tree Link
        pub is : t ≡ Series left right
        pub one_is : Unfolds parts one s.from m left
        pub other_is : Unfolds parts other m to right

      module _ (proper : AreProper parts) (how : ((p.made ≡ InSeries one other) × (p.from ≡ s.from)) ⊎ ((p.made ≡ InSeries other one) × (p.from ≢ s.from))) where
        made_as : (q : Part) → slice_get parts s.part ≡ Some q → (made : Made) → q.made ≡ made
            → (made ≡ InSeries one other) ⊎ (made ≡ InSeries other one)
        made_as q there made is =
            let z = ap (λ (x : Part). x.made) (one_part parts s.part p q at there) in
            elim how [ inl h ↦ inl (sym is ∙ sym z ∙ h.0) | inr h ↦ inr (sym is ∙ sym z ∙ h.0) ]

        in_line : (q : Part) (e f m to : ℕ) (l r : Tree Link) → slice_get parts s.part ≡ Some q → q.made ≡ InSeries e f → q.from ≡ s.from
            → Unfolds parts e s.from m l → Unfolds parts f m to r → IsTwo to (Series l r)
        in_line q e f m to l r there is from u v =
            let z = one_part parts s.part p q at there in
            elim how [
              | inl h ↦
                  let k : InSeries e f ≡ InSeries one other = sym is ∙ ap (λ (x : Part). x.made) (sym z) ∙ h.0 in
                  let a : e ≡ one = cc in
                  let b : f ≡ other = cc in
                  record { m = m; left = l; right = r; is = refl; one_is = subst (λ n. Unfolds parts n s.from m l) a u; other_is = subst (λ n. Unfolds parts n m to r) b v }
              | inr h ↦ absurd (h.1 (ap (λ (x : Part). x.from) z ∙ from))
            ]

        against : (q : Part) (e f m to : ℕ) (l r : Tree Link) → slice_get parts s.part ≡ Some q → q.made ≡ InSeries e f → q.to ≡ s.from
            → Unfolds parts f s.from m l → Unfolds parts e m to r → IsTwo to (Series l r)
        against q e f m to l r there is end u v =
            let z = one_part parts s.part p q at there in
            elim how [
              | inl h ↦ absurd (proper s.part q there (ap (λ (x : Part). x.from) (sym z) ∙ h.1 ∙ sym end))
              | inr h ↦
                  let k : InSeries e f ≡ InSeries other one = sym is ∙ ap (λ (x : Part). x.made) (sym z) ∙ h.0 in
                  let a : e ≡ other = cc in
                  let b : f ≡ one = cc in
                  record { m = m; left = l; right = r; is = refl; one_is = subst (λ n. Unfolds parts n s.from m l) b u; other_is = subst (λ n. Unfolds parts n m to r) a v }
            ]

        pub read_series : (to : ℕ) (t : Tree Link) → Unfolds parts s.part s.from to t → IsTwo to t
        read_series to t (given q there is ends) = absurd (elim (made_as q there Given is) [ inl k ↦ (absurd cc) | inr k ↦ (absurd cc) ])
        read_series to t (parallel {e} {f} q there is ends u v) =
            absurd (elim (made_as q there (InParallel e f) is) [ inl k ↦ (absurd cc) | inr k ↦ (absurd cc) ])
        read_series to t (series {e} {f} {m} {l} {r} q there is from end u v) = in_line q e f m to l r there is from u v
        read_series to t (turned {e} {f} {m} {l} {r} q there is end from u v) = against q e f m to l r there is end u v

        pub series_apart : JoinsFrom parts one s.from mid → IsTakenApart parts s order order steps after
        series_apart joins = record {
          spells = λ to t rest all u pending same.
              let y = read_series to t u in
              let e = far_is parts one s.from y.m mid y.left y.one_is joins in
              two_pending y.m to y.left y.right t rest all y.one_is (subst (λ n. Unfolds parts other n to y.right) (sym e) y.other_is) (ap numbers_of y.is) pending same;
          grows = two_more;
        }

-- from a step that is taken apart on
pub record IsSpellingAll (parts : List Part) (whole : Step) (order : List ℕ) (steps : List Step) : Type 0 where
  pub each : (to : ℕ) (t : Tree Link) → Unfolds parts whole.part whole.from to t → IsSpelling parts order steps (numbers_of t)

module _ (parts : List Part) (whole : Step) where
  pub spelling_begun : IsSpellingAll parts whole [] (whole ∷ [])
  spelling_begun = record { each = λ to t u. (numbers_of t, (to, t, [], u, refl, refl), refl) }

  module _ (order : List ℕ) (steps rest : List Step) (s : Step) (popped : steps ≡ rest ++ s ∷ []) (h : IsSpellingAll parts whole order steps) where
    popped_at : (to : ℕ) (t : Tree Link) → Unfolds parts whole.part whole.from to t
        → (numbers : List ℕ) × IsPopped parts rest s numbers × (order ++ numbers ≡ numbers_of t)
    popped_at to t u =
        let y = h.each to t u in
        (y.0, pending_pop parts rest s y.0 (subst (λ l. IsPending parts l y.0) popped y.1), y.2)

    pub popped_tree : (count : ℕ) → HasShortTree parts whole count → HasTree parts s
    popped_tree count (to, t, u, few) = let y = (popped_at to t u).1 in (y.to, y.tree, y.unfolds)

    module _ (order' : List ℕ) (steps' : List Step) (taken : IsTakenApart parts s order order' rest steps') where
      pub spelling_on : IsSpellingAll parts whole order' steps'
      spelling_on = record {
        each = λ to t u.
            let y = popped_at to t u in
            taken.spells y.1.to y.1.tree y.1.rest (numbers_of t) y.1.unfolds y.1.pending (ap (λ l. order ++ l) (sym y.1.are) ∙ y.2);
      }

      -- the steps that are left grow less
      pub step_less : (count : ℕ) → HasShortTree parts whole count
          → 2 * count - (2 * length order' + length steps') < 2 * count - (2 * length order + length steps)
      step_less count (to, t, u, few) =
          let y = spelling_on.each to t u in
          omega (arith, few, pending_long parts steps' y.0 y.1, ap length y.2, length-append order' y.0, taken.grows, ap length popped, length-append rest (s ∷ []))

  pub spelling_done : (order : List ℕ) → IsSpellingAll parts whole order [] → (to : ℕ) (t : Tree Link)
      → Unfolds parts whole.part whole.from to t → numbers_of t ≡ order
  spelling_done order h to t u =
      let y = h.each to t u in
      sym (sym (append_none order) ∙ ap (λ l. order ++ l) (sym y.1) ∙ y.2)
