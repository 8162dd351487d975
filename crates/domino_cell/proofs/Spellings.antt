-- Spellings over other nets: of each net's image, and with other inner nets.
use Rattle.std.proofs.Common.{◌≡◌, ℕ, ◌+◌, ◌<◌, length, map, refl, ◌∙◌, arith, add-zero, length-append}
use Rattle.std.proofs.lemmas.List.{map-append}
use Rattle.dom_base.specs.declared.kind.Kind.{Kind}
use Rattle.deck.specs.NamedDevices.{map_device}
use Rattle.sp_network.specs.Tree.{Tree, Leaf, Series, Parallel, inner_count, leaves, map_tree}
use Rattle.sp_network.proofs.TreeImages.{inner_count-map_tree}
use Rattle.domino_cell.specs.Spelling.{spell}

-- the images of the cards are the cards of the image
pub spell-map_tree : {Net Image : Type 0} (f : Net → Image) (kind : Kind) (inner : ℕ → Net) (t : Tree Net) (top bottom : Net) (k : ℕ)
    → map (map_device f) (spell kind inner t top bottom k) ≡ spell kind (λ j. f (inner j)) (map_tree f t) (f top) (f bottom) k
spell-map_tree f kind inner (Leaf gate) top bottom k = refl
spell-map_tree f kind inner (Series l r) top bottom k =
    rw (map-append, spell-map_tree f kind inner l, spell-map_tree f kind inner r, inner_count-map_tree f l) refl
spell-map_tree f kind inner (Parallel l r) top bottom k =
    rw (map-append, spell-map_tree f kind inner l, spell-map_tree f kind inner r, inner_count-map_tree f l) refl

-- a spelling depends on the inner nets that the tree takes alone
pub spell-same : {Net : Type 0} (kind : Kind) (inner inner' : ℕ → Net) (t : Tree Net) (top bottom : Net) (k l : ℕ)
    → ((j : ℕ) → j < inner_count t → inner (k + j) ≡ inner' (l + j)) → spell kind inner t top bottom k ≡ spell kind inner' t top bottom l
spell-same kind f g (Leaf gate) top bottom k l h = refl
spell-same kind f g (Series p q) top bottom k l h =
    rw (
      spell-same kind f g p top (f k) (k + 1) (l + 1) (λ j lt. rw (shift k j, shift l j) (h (1 + j) (omega arith))),
      spell-same kind f g q (f k) bottom (k + 1 + inner_count p) (l + 1 + inner_count p)
          (λ j lt. rw (shift_more k (inner_count p) j, shift_more l (inner_count p) j) (h (1 + (inner_count p + j)) (omega arith))),
      first,
    ) refl
  where
    first : f k ≡ g l
    first = simp add-zero at (h 0 (omega arith))

    shift : (k j : ℕ) → k + 1 + j ≡ k + (1 + j)
    shift k j = omega arith

    shift_more : (k n j : ℕ) → k + 1 + n + j ≡ k + (1 + (n + j))
    shift_more k n j = omega arith
spell-same kind f g (Parallel p q) top bottom k l h =
    rw (
      spell-same kind f g p top bottom k l (λ j lt. h j (omega arith)),
      spell-same kind f g q top bottom (k + inner_count p) (l + inner_count p)
          (λ j lt. rw (shift k (inner_count p) j, shift l (inner_count p) j) (h (inner_count p + j) (omega arith))),
    ) refl
  where
    shift : (k n j : ℕ) → k + n + j ≡ k + (n + j)
    shift k n j = omega arith

-- a device for each leaf
pub length-spell : {Net : Type 0} (kind : Kind) (inner : ℕ → Net) (t : Tree Net) (top bottom : Net) (k : ℕ) → length (spell kind inner t top bottom k) ≡ leaves t
length-spell kind inner (Leaf gate) top bottom k = refl
length-spell kind inner (Series l r) top bottom k =
    length-append (spell kind inner l top (inner k) (k + 1)) (spell kind inner r (inner k) bottom (k + 1 + inner_count l))
    ∙ (λ i. length-spell kind inner l top (inner k) (k + 1) i + length-spell kind inner r (inner k) bottom (k + 1 + inner_count l) i)
length-spell kind inner (Parallel l r) top bottom k =
    length-append (spell kind inner l top bottom k) (spell kind inner r top bottom (k + inner_count l))
    ∙ (λ i. length-spell kind inner l top bottom k i + length-spell kind inner r top bottom (k + inner_count l) i)
