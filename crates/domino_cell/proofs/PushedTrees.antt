-- The devices of a tree, appended part by part.
use Rattle.std.proofs.Common.{◌≡◌, ℕ, ◌+◌, ◌<◌, ◌≤◌, inl, inr, List, [], ◌∷◌, ◌++◌, length, refl, sym, ap, ◌∙◌, arith, length-append, zero-add}
use Rattle.std.proofs.Math.Seq.{get_or-append_seam}
use Rattle.std.proofs.lemmas.List.{get_or_append_left}
use Rattle.dom_base.proofs.Decided.{lt_or_ge}
use Rattle.dom_base.specs.declared.kind.Kind.{Kind}
use Rattle.deck.proofs.CircuitGrowth.{with_devices-append}
use Rattle.deck.specs.CircuitData.{CircuitData}
use Rattle.deck.specs.NamedDevices.{with_devices}
use Rattle.sp_network.specs.Tree.{Tree, Leaf, Series, Parallel, EachLeaf, dual, inner_count, leaves, map_tree}
use Rattle.sp_network.proofs.TreeImages.{inner_count-map_tree}
use Rattle.domino_cell.specs.Spelling.{spell}
use Rattle.deck.specs.Nets.{net_name}
use Rattle.domino_cell.specs.NamedTrees.{AreInnerNames, inner_net}
use Rattle.domino_cell.proofs.Spellings.{spell-same}

-- a tree takes fewer inner nets than it has leaves
pub inner_count-below : {Net : Type 0} (t : Tree Net) → inner_count t < leaves t
inner_count-below (Leaf gate) = omega arith
inner_count-below (Series l r) = omega (arith, inner_count-below l, inner_count-below r)
inner_count-below (Parallel l r) = omega (arith, inner_count-below l, inner_count-below r)

-- the dual of the image is the image of the dual, and it has as many leaves
pub dual-map_tree : {Net Image : Type 0} (f : Net → Image) (t : Tree Net) → map_tree f (dual t) ≡ dual (map_tree f t)
dual-map_tree f (Leaf gate) = refl
dual-map_tree f (Series l r) = rw (dual-map_tree f l, dual-map_tree f r) refl
dual-map_tree f (Parallel l r) = rw (dual-map_tree f l, dual-map_tree f r) refl

pub leaves-dual : {Net : Type 0} (t : Tree Net) → leaves (dual t) ≡ leaves t
leaves-dual (Leaf gate) = refl
leaves-dual (Series l r) = rw (leaves-dual l, leaves-dual r) refl
leaves-dual (Parallel l r) = rw (leaves-dual l, leaves-dual r) refl

pub EachLeaf-dual : {Net : Type 0} (P : Net → Type 0) (t : Tree Net) → EachLeaf P t → EachLeaf P (dual t)
EachLeaf-dual P (Leaf gate) h = h
EachLeaf-dual P (Series l r) h = (EachLeaf-dual P l h.0, EachLeaf-dual P r h.1)
EachLeaf-dual P (Parallel l r) h = (EachLeaf-dual P l h.0, EachLeaf-dual P r h.1)

-- one more inner net
pub AreInnerNames-push : (front : List ℕ) (names : List (List ℕ)) (name : List ℕ) → AreInnerNames front names → name ≡ inner_net front (length names)
    → AreInnerNames front (names ++ name ∷ [])
AreInnerNames-push front names name named is j low =
    elim (lt_or_ge j (length names)) [
      | inl before ↦ get_or_append_left names (name ∷ []) [] j before ∙ named j before
      | inr behind ↦ let last : j ≡ length names = omega (arith, behind, low, length-append names (name ∷ [])) in
          ap (net_name (names ++ name ∷ [])) last ∙ get_or-append_seam names name [] [] ∙ is ∙ ap (inner_net front) (sym last)
    ]

-- the devices of a tree over inner nets by names that are held
pub spell_named : (front : List ℕ) (names : List (List ℕ)) (t : Tree (List ℕ)) (kind : Kind) (top bottom : List ℕ)
    → inner_count t ≤ length names → AreInnerNames front names → spell kind (net_name names) t top bottom 0 ≡ spell kind (inner_net front) t top bottom 0
spell_named front names t kind top bottom many named =
    spell-same kind (net_name names) (inner_net front) t top bottom 0 0 (λ j lt. rw zero-add (named j (omega arith)))

-- the devices of a tree between ends by other names
pub renamed_ends : (c : CircuitData) (kind : Kind) (inner : ℕ → List ℕ) (t : Tree (List ℕ)) (k : ℕ) {top top' bottom bottom' : List ℕ}
    → top ≡ top' → bottom ≡ bottom' → with_devices c (spell kind inner t top bottom k) ≡ with_devices c (spell kind inner t top' bottom' k)
renamed_ends c kind inner t k same_top same_bottom = λ i. with_devices c (spell kind inner t (same_top i) (same_bottom i) k)

-- the parts of a series, one after the other
pub series_pushed : (old between new : CircuitData) (kind : Kind) (inner : ℕ → List ℕ) (name : ℕ → List ℕ) (tree l r : Tree ℕ) (top bottom middle : List ℕ) (k next : ℕ)
    → tree ≡ Series l r → middle ≡ inner k → next ≡ k + 1 + inner_count l
    → between ≡ with_devices old (spell kind inner (map_tree name l) top middle (k + 1))
    → new ≡ with_devices between (spell kind inner (map_tree name r) middle bottom next)
    → new ≡ with_devices old (spell kind inner (map_tree name tree) top bottom k)
series_pushed old between new kind inner name tree l r top bottom middle k next is_tree is_middle is_next one two =
    let start : next ≡ k + 1 + inner_count (map_tree name l) = is_next ∙ ap (λ n. k + 1 + n) (sym (inner_count-map_tree name l)) in
    two
    ∙ ap (λ c. with_devices c (spell kind inner (map_tree name r) middle bottom next)) one
    ∙ (λ i. with_devices (with_devices old (spell kind inner (map_tree name l) top (is_middle i) (k + 1)))
    (spell kind inner (map_tree name r) (is_middle i) bottom (start i)))
    ∙ sym (with_devices-append old (spell kind inner (map_tree name l) top (inner k) (k + 1))
    (spell kind inner (map_tree name r) (inner k) bottom (k + 1 + inner_count (map_tree name l))))
    ∙ ap (λ t. with_devices old (spell kind inner (map_tree name t) top bottom k)) (sym is_tree)

-- the parts of a parallel, one after the other
pub parallel_pushed : (old between new : CircuitData) (kind : Kind) (inner : ℕ → List ℕ) (name : ℕ → List ℕ) (tree l r : Tree ℕ) (top bottom : List ℕ) (k next : ℕ)
    → tree ≡ Parallel l r → next ≡ k + inner_count l
    → between ≡ with_devices old (spell kind inner (map_tree name l) top bottom k)
    → new ≡ with_devices between (spell kind inner (map_tree name r) top bottom next)
    → new ≡ with_devices old (spell kind inner (map_tree name tree) top bottom k)
parallel_pushed old between new kind inner name tree l r top bottom k next is_tree is_next one two =
    let start : next ≡ k + inner_count (map_tree name l) = is_next ∙ ap (λ n. k + n) (sym (inner_count-map_tree name l)) in
    two
    ∙ ap (λ c. with_devices c (spell kind inner (map_tree name r) top bottom next)) one
    ∙ (λ i. with_devices (with_devices old (spell kind inner (map_tree name l) top bottom k)) (spell kind inner (map_tree name r) top bottom (start i)))
    ∙ sym (with_devices-append old (spell kind inner (map_tree name l) top bottom k)
    (spell kind inner (map_tree name r) top bottom (k + inner_count (map_tree name l))))
    ∙ ap (λ t. with_devices old (spell kind inner (map_tree name t) top bottom k)) (sym is_tree)

pub ruleset tree_counts = (inner_count-below)
