use Rattle.std.proofs.Common.{arith, ◌≡◌, ◌<◌, sym, subst, length, set, List, ℕ, inl, inr}
use Rattle.std.proofs.lemmas.List.{get_or-set_other, get_or-set_same, get_or_read}
use Rattle.switch_model.specs.Found.{AreJoinedTo, class_at}
use Rattle.switch_model.specs.Joins.{AreTopsOf, IsJoinForest}
use Rattle.switch_model.specs.declared.class.Class.{Class}
use Rattle.switch_model.proofs.Forests.{top_low}
use Rattle.switch_model.proofs.room.Room.unite.Goals as goal

first_low : (parents : List ℕ) → IsJoinForest parents → (a b t u n : ℕ) → AreTopsOf parents a b t u → a < n → b < n → t < n
first_low parents forest a b t u n (inl z) la lb = omega (arith, z.0, top_low parents forest a, la)
first_low parents forest a b t u n (inr z) la lb = omega (arith, z.0, top_low parents forest b, lb)

second_low : (parents : List ℕ) → IsJoinForest parents → (a b t u n : ℕ) → AreTopsOf parents a b t u → a < n → b < n → u < n
second_low parents forest a b t u n (inl z) la lb = omega (arith, z.1, top_low parents forest b, lb)
second_low parents forest a b t u n (inr z) la lb = omega (arith, z.1, top_low parents forest a, la)

pub index-requires : goal.index-requires
index-requires c =
    let r = c.args.self.now in
    let q = c.requires.room in
    omega (arith, first_low r.parents.items q.1.forest c.args.a c.args.b _ _ q.0 c.join-keep.ensures.both q.2 q.3, q.1.classes, r.classes.ok.0)

pub index-requires-2 : goal.index-requires-2
index-requires-2 c =
    let r = c.args.self.now in
    let q = c.requires.room in
    omega (arith, second_low r.parents.items q.1.forest c.args.a c.args.b _ _ q.0 c.join-keep.ensures.both q.2 q.3, q.1.classes, r.classes.ok.0)

pub index_mut-requires : goal.index_mut-requires
index_mut-requires c =
    let r = c.args.self.now in
    let q = c.requires.room in
    omega (arith, first_low r.parents.items q.1.forest c.args.a c.args.b _ _ q.0 c.join-keep.ensures.both q.2 q.3, q.1.classes, r.classes.ok.0)

-- a class that is written, by the two that were read
joined_read : (classes : List Class) (keep gone : ℕ) (first second after : Class) → keep < length classes → first ≡ class_at classes keep → second ≡ class_at classes gone
    → AreJoinedTo first second after → AreJoinedTo (class_at classes keep) (class_at classes gone) (class_at (set classes keep after) keep)
joined_read classes keep gone first second after lt e f both =
    subst (λ (x : Class). AreJoinedTo (class_at classes keep) (class_at classes gone) x) (sym (get_or-set_same classes keep after _ lt))
    (subst (λ (x : Class). AreJoinedTo x (class_at classes gone) after) e (subst (λ (x : Class). AreJoinedTo first x after) f both))

pub returns-clause-united : goal.returns-clause-united
returns-clause-united c =
    let r = c.args.self.now in
    let q = c.requires.room in
    let classes = r.classes.items in
    let keep = c.join-keep.result.0 in
    let gone = c.join-keep.result.1 in
    let both = c.join-keep.ensures.both in
    let lt : keep < length classes = omega (arith, first_low r.parents.items q.1.forest c.args.a c.args.b _ _ q.0 both q.2 q.3, q.1.classes) in
    let lg : gone < length classes = omega (arith, second_low r.parents.items q.1.forest c.args.a c.args.b _ _ q.0 both q.2 q.3, q.1.classes) in (
      keep,
      gone,
      record {
        both = both;
        tops = c.join-keep.ensures.tops;
        here = joined_read classes keep gone c.index.result.now c.index-2.result.now c.joined-class.result lt
            (get_or_read classes keep c.index.result.now lt c.index.ensures _) (get_or_read classes gone c.index-2.result.now lg c.index-2.ensures _) c.joined-class.ensures;
        others = λ t ne. get_or-set_other classes keep t c.joined-class.result _ ne;
      },
    )
