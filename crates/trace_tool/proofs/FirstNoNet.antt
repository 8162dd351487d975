-- The first probe word whose name is none of the nets.
use Rattle.std.proofs.Common.{◌≡◌, ℕ, List, [], ◌∷◌, ◌++◌, All, Contains, sym, ◌∙◌, ap, subst}
use Rattle.std.proofs.lemmas.List.Elements.{All-head, All-tail}
use Rattle.dom_base.proofs.Lists.{head_same, tail_same}
use Rattle.trace_tool.specs.declared.options.ProbeWord.{ProbeWord}
use Rattle.trace_tool.specs.Probes.{AreNets}
use Rattle.trace_tool.specs.Refusals.{IsFirstNoNet}

-- lists whose fronts have a fact, up to an element that has it not, are parted there
parted : {X : Type 0} (P : X → Type 0) (xs ys : List X) (x y : X) (more rest : List X)
    → xs ++ x ∷ more ≡ ys ++ y ∷ rest → All P xs → All P ys → (P x → ⊥) → (P y → ⊥) → x ≡ y
parted P [] [] x y more rest same h k p q = head_same same
parted P [] (z ∷ zs) x y more rest same h k p q = absurd (p (subst P (sym (head_same same)) (All-head P z zs k)))
parted P (z ∷ zs) [] x y more rest same h k p q = absurd (q (subst P (head_same same) (All-head P z zs h)))
parted P (w ∷ ws) (z ∷ zs) x y more rest same h k p q = parted P ws zs x y more rest (tail_same same) (All-tail P w ws h) (All-tail P z zs k) p q

pub first_is_one : (nets : List (List ℕ)) (words : List ProbeWord) (a b : List ℕ) → IsFirstNoNet nets words a → IsFirstNoNet nets words b → a ≡ b
first_is_one nets words a b x y =
    let same = parted (λ (w : ProbeWord). Contains nets w.name) x.before y.before x.word y.word x.after y.after (sym x.words_are ∙ y.words_are) x.are_nets y.are_nets
    (λ has. x.no_net (subst (Contains nets) x.name_is has)) (λ has. y.no_net (subst (Contains nets) y.name_is has)) in
    sym x.name_is ∙ ap (λ (w : ProbeWord). w.name) same ∙ y.name_is

-- there is none where all names are nets
pub first_is_none : (nets : List (List ℕ)) (words : List ProbeWord) (a : List ℕ) → IsFirstNoNet nets words a → AreNets nets words → ⊥
first_is_none nets words a x are =
    x.no_net (subst (Contains nets) x.name_is (middle x.before x.word x.after (subst (AreNets nets) x.words_are are)))
  where
    middle : (front : List ProbeWord) (word : ProbeWord) (rest : List ProbeWord) → AreNets nets (front ++ word ∷ rest) → Contains nets word.name
    middle [] word rest all = All-head (λ (w : ProbeWord). Contains nets w.name) word rest all
    middle (w ∷ ws) word rest all = middle ws word rest (All-tail (λ (w : ProbeWord). Contains nets w.name) w (ws ++ word ∷ rest) all)
