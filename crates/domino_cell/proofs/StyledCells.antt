-- Cells of either style: over images of their nets, by their parts, and how many devices they have.
use Rattle.std.proofs.Common.{◌≡◌, ℕ, zero, suc, ◌+◌, [], ◌∷◌, ◌++◌, length, map, refl, sym, ap, ap₂, ◌∙◌, add-zero, append_assoc, arith, length-append}
use Rattle.std.specs.List.{AllByRecursion}
use Rattle.std.proofs.lemmas.List.{map-append}
use Rattle.dom_base.specs.declared.kind.Kind.{Kind}
use Rattle.dom_base.specs.declared.kind.Kind.TheVariants.{N as nch, P as pch}
use Rattle.dom_base.proofs.Lists.{AllByRecursion-append}
use Rattle.deck.specs.NamedDevices.{NamedDevice, map_device}
use Rattle.domino_cell.specs.Cell.{CellNets, inverter, map_nets}
use Rattle.domino_cell.specs.Spelling.{spell}
use Rattle.domino_cell.specs.declared.style.Style.{Style}
use Rattle.domino_cell.specs.declared.style.Style.TheVariants.{Keeper as WithKeeper, Precharge as WithPrecharge}
use Rattle.domino_cell.specs.StyledCells.{around_tree, behind_count, behind_precharge, inner_precharges, pull_down_cards, styled_cell, styled_stage}
use Rattle.domino_cell.proofs.Spellings.{length-spell, spell-map_tree}
use Rattle.sp_network.specs.Tree.{Leaf, Parallel, Series, Tree, inner_count, leaves, map_tree}
use Rattle.sp_network.proofs.TreeImages.{inner_count-map_tree}

inner-map : {N Image : Type 0} (f : N → Image) (nets : CellNets N) (j n : ℕ) → map (map_device f) (inner_precharges nets j n) ≡ inner_precharges (map_nets f nets) j n
inner-map f nets j zero = refl
inner-map f nets j (suc n) = ap (λ l. map_device f (record { kind = pch; drain = nets.inner j; gate = nets.clock; source = nets.vdd }) ∷ l) (inner-map f nets (j + 1) n)

behind-map : {N Image : Type 0} (f : N → Image) (style : Style) (nets : CellNets N) (n : ℕ) → map (map_device f) (behind_precharge style nets n) ≡ behind_precharge style (map_nets f nets) n
behind-map f WithKeeper nets n = refl
behind-map f WithPrecharge nets n = inner-map f nets 0 n

pull_down-map : {N Image : Type 0} (f : N → Image) (nets : CellNets N) (t : Tree N) → map (map_device f) (pull_down_cards nets t) ≡ pull_down_cards (map_nets f nets) (map_tree f t)
pull_down-map f nets t = rw (map-append (map_device f) (spell nch nets.inner t nets.dynamic nets.foot 0), spell-map_tree f nch nets.inner t) refl

-- the images of the cards are the cards of the image
pub styled_stage-map_tree : {N Image : Type 0} (f : N → Image) (style : Style) (nets : CellNets N) (t : Tree N)
    → map (map_device f) (styled_stage style nets t) ≡ styled_stage style (map_nets f nets) (map_tree f t)
styled_stage-map_tree f style nets t =
    let first : NamedDevice _ = record { kind = pch; drain = nets.dynamic; gate = nets.clock; source = nets.vdd } in
    map-append (map_device f) (first ∷ behind_precharge style nets (inner_count t)) (pull_down_cards nets t)
    ∙ ap₂ (λ a b. a ++ b)
    (ap (λ l. map_device f first ∷ l) (behind-map f style nets (inner_count t) ∙ ap (behind_precharge style (map_nets f nets)) (sym (inner_count-map_tree f t))))
    (pull_down-map f nets t)

-- the dynamic stage, and the inverter
pub styled_cell-parts : {N : Type 0} (style : Style) (nets : CellNets N) (t : Tree N)
    → styled_cell style nets t ≡ styled_stage style nets t ++ inverter nets.vdd nets.vss nets.dynamic nets.output
styled_cell-parts style nets t =
    let first : NamedDevice _ = record { kind = pch; drain = nets.dynamic; gate = nets.clock; source = nets.vdd } in
    sym (append_assoc (first ∷ behind_precharge style nets (inner_count t)) (pull_down_cards nets t) (inverter nets.vdd nets.vss nets.dynamic nets.output))

-- how many devices follow the precharge
pub length-inner : {N : Type 0} (nets : CellNets N) (j n : ℕ) → length (inner_precharges nets j n) ≡ n
length-inner nets j zero = refl
length-inner nets j (suc n) = ap suc (length-inner nets (j + 1) n)

pub length-behind : {N : Type 0} (style : Style) (nets : CellNets N) (n : ℕ) → length (behind_precharge style nets n) ≡ behind_count style n
length-behind WithKeeper nets n = refl
length-behind WithPrecharge nets n = length-inner nets 0 n

pub length-styled_cell : {N : Type 0} (style : Style) (nets : CellNets N) (t : Tree N) → length (styled_cell style nets t) ≡ leaves t + around_tree style t
length-styled_cell style nets t =
    let first : NamedDevice _ = record { kind = pch; drain = nets.dynamic; gate = nets.clock; source = nets.vdd } in
    let foot : NamedDevice _ = record { kind = nch; drain = nets.foot; gate = nets.clock; source = nets.vss } in
    let inv = inverter nets.vdd nets.vss nets.dynamic nets.output in
    let spelled = spell nch nets.inner t nets.dynamic nets.foot 0 in
    omega (
      arith,
      length-append (first ∷ behind_precharge style nets (inner_count t)) (pull_down_cards nets t ++ inv),
      length-append (pull_down_cards nets t) inv,
      length-append spelled (foot ∷ []),
      length-spell nch nets.inner t nets.dynamic nets.foot 0,
      length-behind style nets (inner_count t),
    )

-- the precharge of one more inner net
pub inner_precharges-next : {N : Type 0} (nets : CellNets N) (j n : ℕ)
    → inner_precharges nets j (suc n)
    ≡ inner_precharges nets j n ++ record { kind = pch; drain = nets.inner (j + n); gate = nets.clock; source = nets.vdd } ∷ []
inner_precharges-next nets j zero =
    ap (λ m. record { kind = pch; drain = nets.inner m; gate = nets.clock; source = nets.vdd } ∷ []) (sym (add-zero j))
inner_precharges-next nets j (suc n) =
    let first : NamedDevice _ = record { kind = pch; drain = nets.inner j; gate = nets.clock; source = nets.vdd } in
    let rest = inner_precharges nets (j + 1) n in
    let shift : j + 1 + n ≡ j + suc n = omega arith in
    ap (λ cs. first ∷ cs)
    (inner_precharges-next nets (j + 1) n ∙ ap (λ m. rest ++ record { kind = pch; drain = nets.inner m; gate = nets.clock; source = nets.vdd } ∷ []) shift)

-- what holds of each end of a stage's devices: of its own nets and of the supplies
spell-ends_hold : {N : Type 0} (P : N → Type 0) (kind : Kind) (inner : ℕ → N) (t : Tree N) (top bottom : N) (k : ℕ) → P top → P bottom → ((j : ℕ) → P (inner j))
    → AllByRecursion (λ d. P d.drain × P d.source) (spell kind inner t top bottom k)
spell-ends_hold P kind inner (Leaf gate) top bottom k a b h = ((a, b), tt)
spell-ends_hold P kind inner (Series l r) top bottom k a b h =
    AllByRecursion-append _ _ _ (spell-ends_hold P kind inner l top (inner k) (k + 1) a (h k) h) (spell-ends_hold P kind inner r (inner k) bottom (k + 1 + inner_count l) (h k) b h)
spell-ends_hold P kind inner (Parallel l r) top bottom k a b h =
    AllByRecursion-append _ _ _ (spell-ends_hold P kind inner l top bottom k a b h) (spell-ends_hold P kind inner r top bottom (k + inner_count l) a b h)

inner-ends_hold : {N : Type 0} (P : N → Type 0) (nets : CellNets N) (j n : ℕ) → ((i : ℕ) → P (nets.inner i)) → P nets.vdd
    → AllByRecursion (λ d. P d.drain × P d.source) (inner_precharges nets j n)
inner-ends_hold P nets j zero h v = tt
inner-ends_hold P nets j (suc n) h v = ((h j, v), inner-ends_hold P nets (j + 1) n h v)

behind-ends_hold : {N : Type 0} (P : N → Type 0) (style : Style) (nets : CellNets N) (n : ℕ) → P nets.dynamic → ((i : ℕ) → P (nets.inner i)) → P nets.vdd
    → AllByRecursion (λ d. P d.drain × P d.source) (behind_precharge style nets n)
behind-ends_hold P WithKeeper nets n d h v = ((d, v), tt)
behind-ends_hold P WithPrecharge nets n d h v = inner-ends_hold P nets 0 n h v

pub styled_stage-ends : {N : Type 0} (P : N → Type 0) (style : Style) (nets : CellNets N) (t : Tree N)
    → P nets.dynamic → P nets.foot → ((j : ℕ) → P (nets.inner j)) → P nets.vdd → P nets.vss
    → AllByRecursion (λ d. P d.drain × P d.source) (styled_stage style nets t)
styled_stage-ends P style nets t dynamic foot inner vdd vss = (
  (dynamic, vdd),
  AllByRecursion-append _ (behind_precharge style nets (inner_count t)) (pull_down_cards nets t) (behind-ends_hold P style nets (inner_count t) dynamic inner vdd)
      (AllByRecursion-append _ (spell nch nets.inner t nets.dynamic nets.foot 0) _ (spell-ends_hold P nch nets.inner t nets.dynamic nets.foot 0 dynamic foot inner) ((foot, vss), tt)),
)
