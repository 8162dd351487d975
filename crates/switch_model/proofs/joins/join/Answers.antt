use Rattle.std.proofs.Common.{arith, ap, ◌∙◌, ◌≡◌, ◌<◌, ◌≤◌, sym, length, List, ℕ, inl, inr}
use Rattle.std.specs.Prelude.{◌⊎◌}
use Rattle.switch_model.specs.Joins.{AreJoined, IsTopMoved, above, top_of}
use Rattle.switch_model.proofs.Forests.{joined_from, joined_to, moved, moved_is, top_is, top_low}
use Rattle.switch_model.proofs.joins.join.Goals as goal

-- a top, read
is_top : (parents : List ℕ) (forest : (n : ℕ) → above parents n ≤ n) (a t : ℕ) → t ≡ top_of parents a → above parents t ≡ t
is_top parents forest a t e = ap (above parents) e ∙ top_is parents forest a ∙ sym e

below : (parents : List ℕ) (forest : (n : ℕ) → above parents n ≤ n) (a t : ℕ) → t ≡ top_of parents a → a < length parents → t < length parents
below parents forest a t e lt = omega (arith, e, top_low parents forest a, lt)

-- what is joined by forests with the same tops
abbrev Either : List ℕ → ℕ → ℕ → ℕ → ℕ → Type 0
Either p a b x y = AreJoined p x y ⊎ ((AreJoined p x a × AreJoined p b y) ⊎ (AreJoined p x b × AreJoined p a y))

moved_joined : (p q : List ℕ) → ((n : ℕ) → top_of p n ≡ top_of q n) → (x y : ℕ) → AreJoined p x y → AreJoined q x y
moved_joined p q same x y j = sym (same x) ∙ j ∙ same y

moved_either : (p q : List ℕ) → ((n : ℕ) → top_of p n ≡ top_of q n) → (a b x y : ℕ) → Either p a b x y → Either q a b x y
moved_either p q same a b x y (inl j) = inl (moved_joined p q same x y j)
moved_either p q same a b x y (inr (inl z)) = inr (inl (moved_joined p q same x a z.0, moved_joined p q same b y z.1))
moved_either p q same a b x y (inr (inr z)) = inr (inr (moved_joined p q same x b z.0, moved_joined p q same a y z.1))

pub index_mut-requires : goal.index_mut-requires
index_mut-requires c =
    let p = c.lift-second.new.parents in
    let g : c.lift-second.result ≡ top_of p.items c.args.b = c.lift-second.ensures.top ∙ sym (c.lift-second.ensures.tops c.args.b) in
    let lt : c.args.b < length p.items = omega (arith, c.requires.b, c.lift-first.ensures.long, c.lift-second.ensures.long) in
    omega (arith, below p.items c.lift-second.ensures.forest c.args.b c.lift-second.result g lt, p.ok.0)

pub index_mut-requires-else-first-second : goal.index_mut-requires-else-first-second
index_mut-requires-else-first-second c =
    let p = c.lift-second.new.parents in
    let e : c.lift-first.result ≡ top_of p.items c.args.a = c.lift-first.ensures.top ∙ sym (c.lift-first.ensures.tops c.args.a) ∙ sym (c.lift-second.ensures.tops c.args.a) in
    let lt : c.args.a < length p.items = omega (arith, c.requires.a, c.lift-first.ensures.long, c.lift-second.ensures.long) in
    omega (arith, below p.items c.lift-second.ensures.forest c.args.a c.lift-first.result e lt, p.ok.0)

pub returns-then-first-second-clause-joined : goal.returns-then-first-second-clause-joined
returns-then-first-second-clause-joined c =
    let old = c.args.parents.now.items in
    let p = c.lift-second.new.parents.items in
    let f = c.lift-second.ensures.forest in
    let same : (n : ℕ) → top_of p n ≡ top_of old n = λ n. c.lift-second.ensures.tops n ∙ c.lift-first.ensures.tops n in
    let e : c.lift-first.result ≡ top_of p c.args.a = c.lift-first.ensures.top ∙ sym (same c.args.a) in
    let g : c.lift-second.result ≡ top_of p c.args.b = c.lift-second.ensures.top ∙ sym (c.lift-second.ensures.tops c.args.b) in
    let le : c.lift-first.result ≤ c.lift-second.result = omega (arith, c.if-first-second.true) in
    let in_b : c.args.b < length p = omega (arith, c.requires.b, c.lift-first.ensures.long, c.lift-second.ensures.long) in
    let lt = below p f c.args.b c.lift-second.result g in_b in
    let t = is_top p f c.args.a c.lift-first.result e in
    let u = is_top p f c.args.b c.lift-second.result g in
    λ x y. (
      λ j. moved_either p old same c.args.a c.args.b x y (joined_to p f c.lift-first.result c.lift-second.result le lt t u c.args.a c.args.b (sym e) (sym g) x y j),
      λ j. joined_from p f c.lift-first.result c.lift-second.result le lt t u c.args.a c.args.b (sym e) (sym g) x y (moved_either old p (λ n. sym (same n)) c.args.a c.args.b x y j),
    )

swap : {A B C : Type 0} → A ⊎ (B ⊎ C) → A ⊎ (C ⊎ B)
swap (inl a) = inl a
swap (inr (inl b)) = inr (inr b)
swap (inr (inr c)) = inr (inl c)

pub returns-else-first-second-clause-joined : goal.returns-else-first-second-clause-joined
returns-else-first-second-clause-joined c =
    let old = c.args.parents.now.items in
    let p = c.lift-second.new.parents.items in
    let f = c.lift-second.ensures.forest in
    let same : (n : ℕ) → top_of p n ≡ top_of old n = λ n. c.lift-second.ensures.tops n ∙ c.lift-first.ensures.tops n in
    let e : c.lift-first.result ≡ top_of p c.args.a = c.lift-first.ensures.top ∙ sym (same c.args.a) in
    let g : c.lift-second.result ≡ top_of p c.args.b = c.lift-second.ensures.top ∙ sym (c.lift-second.ensures.tops c.args.b) in
    let le : c.lift-second.result ≤ c.lift-first.result = omega (arith, c.if-first-second.false) in
    let in_a : c.args.a < length p = omega (arith, c.requires.a, c.lift-first.ensures.long, c.lift-second.ensures.long) in
    let lt = below p f c.args.a c.lift-first.result e in_a in
    let t = is_top p f c.args.a c.lift-first.result e in
    let u = is_top p f c.args.b c.lift-second.result g in
    λ x y. (
      λ j. moved_either p old same c.args.a c.args.b x y (swap (joined_to p f c.lift-second.result c.lift-first.result le lt u t c.args.b c.args.a (sym g) (sym e) x y j)),
      λ j. joined_from p f c.lift-second.result c.lift-first.result le lt u t c.args.b c.args.a (sym g) (sym e) x y (swap (moved_either old p (λ n. sym (same n)) c.args.a c.args.b x y j)),
    )

-- the tops are those of before, but of one
moved_tops : (p old : List ℕ) (f : (n : ℕ) → above p n ≤ n) (keep gone : ℕ) (le : keep ≤ gone) (lt : gone < length p) (t : above p keep ≡ keep) (u : above p gone ≡ gone)
    → ((n : ℕ) → top_of p n ≡ top_of old n) → (n : ℕ) → IsTopMoved old (moved p f keep gone le lt t) keep gone n
moved_tops p old f keep gone le lt t u same n = elim (moved_is p f keep gone le lt t u n) [
  | inl z ↦ inl (sym (same n) ∙ z.0, z.1)
  | inr z ↦ inr ((λ e. z.0 (same n ∙ e)), z.1 ∙ same n)
]

pub returns-then-first-second-clause-tops : goal.returns-then-first-second-clause-tops
returns-then-first-second-clause-tops c =
    let old = c.args.parents.now.items in
    let p = c.lift-second.new.parents.items in
    let f = c.lift-second.ensures.forest in
    let same : (n : ℕ) → top_of p n ≡ top_of old n = λ n. c.lift-second.ensures.tops n ∙ c.lift-first.ensures.tops n in
    let e : c.lift-first.result ≡ top_of p c.args.a = c.lift-first.ensures.top ∙ sym (same c.args.a) in
    let g : c.lift-second.result ≡ top_of p c.args.b = c.lift-second.ensures.top ∙ sym (c.lift-second.ensures.tops c.args.b) in
    let le : c.lift-first.result ≤ c.lift-second.result = omega (arith, c.if-first-second.true) in
    let in_b : c.args.b < length p = omega (arith, c.requires.b, c.lift-first.ensures.long, c.lift-second.ensures.long) in
    moved_tops p old f c.lift-first.result c.lift-second.result le (below p f c.args.b c.lift-second.result g in_b)
    (is_top p f c.args.a c.lift-first.result e) (is_top p f c.args.b c.lift-second.result g) same

pub returns-else-first-second-clause-tops : goal.returns-else-first-second-clause-tops
returns-else-first-second-clause-tops c =
    let old = c.args.parents.now.items in
    let p = c.lift-second.new.parents.items in
    let f = c.lift-second.ensures.forest in
    let same : (n : ℕ) → top_of p n ≡ top_of old n = λ n. c.lift-second.ensures.tops n ∙ c.lift-first.ensures.tops n in
    let e : c.lift-first.result ≡ top_of p c.args.a = c.lift-first.ensures.top ∙ sym (same c.args.a) in
    let g : c.lift-second.result ≡ top_of p c.args.b = c.lift-second.ensures.top ∙ sym (c.lift-second.ensures.tops c.args.b) in
    let le : c.lift-second.result ≤ c.lift-first.result = omega (arith, c.if-first-second.false) in
    let in_a : c.args.a < length p = omega (arith, c.requires.a, c.lift-first.ensures.long, c.lift-second.ensures.long) in
    moved_tops p old f c.lift-second.result c.lift-first.result le (below p f c.args.a c.lift-first.result e in_a)
    (is_top p f c.args.b c.lift-second.result g) (is_top p f c.args.a c.lift-first.result e) same

pub returns-then-first-second-clause-both : goal.returns-then-first-second-clause-both
returns-then-first-second-clause-both c = inl (c.lift-first.ensures.top, c.lift-second.ensures.top ∙ c.lift-first.ensures.tops c.args.b)

pub returns-else-first-second-clause-both : goal.returns-else-first-second-clause-both
returns-else-first-second-clause-both c = inr (c.lift-second.ensures.top ∙ c.lift-first.ensures.tops c.args.b, c.lift-first.ensures.top)
