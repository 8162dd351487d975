-- The dynamic stage of a cell as a stage with taps: the tree in series with the foot, and what leads to vdd.
use Rattle.std.proofs.Common.{◌≡◌, ℕ, zero, suc, ◌+◌, List, [], ◌∷◌, ◌++◌, map, refl, ap, ap₂, inl, inr, arith}
use Rattle.std.specs.Prelude.{Contains}
use Rattle.std.specs.List.{AllByRecursion}
use Rattle.std.proofs.lemmas.List.{append-nil}
use Rattle.std.proofs.lemmas.List.Elements.{Contains-append_cases, Contains-append_left, Contains-append_right}
use Rattle.dom_base.specs.declared.kind.Kind.TheVariants.{N as nch, P as pch, Keep}
use Rattle.deck.specs.declared.device.Device.{Device}
use Rattle.deck.specs.NamedDevices.{NamedDevice}
use Rattle.domino_cell.specs.Cell.{CellNets}
use Rattle.domino_cell.specs.Stage.{Spot, Top, Inside, IsSpot, Branch, stage}
use Rattle.domino_cell.specs.declared.style.Style.{Style}
use Rattle.domino_cell.specs.declared.style.Style.TheVariants.{Keeper as WithKeeper, Precharge as WithPrecharge}
use Rattle.domino_cell.specs.StyledCells.{behind_precharge, inner_precharges, pull_down_cards}
use Rattle.domino_cell.specs.Tapped.{Tap, tap_card, tapped}
use Rattle.domino_cell.proofs.Spellings.{spell-same}
use Rattle.sp_network.specs.Tree.{Tree, Leaf, Series, inner_count}

-- the nets of the dynamic stage of a cell as spots: the foot net is the first inner net
abbrev pub cell_spots : CellNets ℕ → Spot → ℕ
cell_spots nets Top = nets.dynamic
cell_spots nets (Inside i zero) = nets.foot
cell_spots nets (Inside i (suc j)) = nets.inner j

-- its branch: the tree in series with the foot
abbrev pub pull_down : CellNets ℕ → Tree ℕ → Branch
pull_down nets tree = record { kind = nch; tree = Series tree (Leaf nets.clock); supply = nets.vss }

-- its taps: the precharge, and the keeper or the precharge of each inner net
abbrev pub inner_taps : CellNets ℕ → ℕ → ℕ → List Tap
inner_taps nets j zero = []
inner_taps nets j (suc n) = record { spot = Inside 0 (suc j); kind = pch; gate = nets.clock; supply = nets.vdd } ∷ inner_taps nets (j + 1) n

abbrev pub taps_behind : Style → CellNets ℕ → ℕ → List Tap
taps_behind WithKeeper nets n = record { spot = Top; kind = Keep; gate = nets.output; supply = nets.vdd } ∷ []
taps_behind WithPrecharge nets n = inner_taps nets 0 n

abbrev pub cell_taps : Style → CellNets ℕ → ℕ → List Tap
cell_taps style nets n = record { spot = Top; kind = pch; gate = nets.clock; supply = nets.vdd } ∷ taps_behind style nets n

-- the branch is the tree and the foot
stage-cell : (nets : CellNets ℕ) (tree : Tree ℕ) → stage (cell_spots nets) 0 (pull_down nets tree ∷ []) ≡ pull_down_cards nets tree
stage-cell nets tree =
    rw (append-nil, spell-same nch (λ j. cell_spots nets (Inside 0 j)) nets.inner tree nets.dynamic nets.foot 1 0 (λ j lt. ap (cell_spots nets) (same j))) refl
  where
    same : (j : ℕ) → Inside 0 (1 + j) ≡ Inside 0 (suc (0 + j))
    same j = ap (Inside 0) (omega arith)

-- and the taps are the rest
inner_taps-cards : (nets : CellNets ℕ) (j n : ℕ) → map (tap_card (cell_spots nets)) (inner_taps nets j n) ≡ inner_precharges nets j n
inner_taps-cards nets j zero = refl
inner_taps-cards nets j (suc n) =
    ap (λ cs. record { kind = pch; drain = nets.inner j; gate = nets.clock; source = nets.vdd } ∷ cs) (inner_taps-cards nets (j + 1) n)

taps_behind-cards : (style : Style) (nets : CellNets ℕ) (n : ℕ) → map (tap_card (cell_spots nets)) (taps_behind style nets n) ≡ behind_precharge style nets n
taps_behind-cards WithKeeper nets n = refl
taps_behind-cards WithPrecharge nets n = inner_taps-cards nets 0 n

-- the precharge and what follows it
abbrev pub to_vdd : Style → CellNets ℕ → Tree ℕ → List (NamedDevice ℕ)
to_vdd style nets tree =
    record { kind = pch; drain = nets.dynamic; gate = nets.clock; source = nets.vdd } ∷ behind_precharge style nets (inner_count tree)

-- the stage of this branch with these taps has the devices of the dynamic stage of a cell
pub tapped-cell : (style : Style) (nets : CellNets ℕ) (tree : Tree ℕ)
    → tapped (cell_spots nets) (pull_down nets tree ∷ []) (cell_taps style nets (inner_count tree)) ≡ pull_down_cards nets tree ++ to_vdd style nets tree
tapped-cell style nets tree =
    let first : NamedDevice ℕ = record { kind = pch; drain = nets.dynamic; gate = nets.clock; source = nets.vdd } in
    ap₂ (λ a b. a ++ (first ∷ b)) (stage-cell nets tree) (taps_behind-cards style nets (inner_count tree))

-- each of the taps leads to vdd
pub taps_to_vdd : (style : Style) (nets : CellNets ℕ) (n : ℕ) → AllByRecursion (λ t. t.supply ≡ nets.vdd) (cell_taps style nets n)
taps_to_vdd WithKeeper nets n = (refl, (refl, tt))
taps_to_vdd WithPrecharge nets n = (refl, each 0 n)
  where
    each : (j m : ℕ) → AllByRecursion (λ t. t.supply ≡ nets.vdd) (inner_taps nets j m)
    each j zero = tt
    each j (suc m) = (refl, each (j + 1) m)

-- and is at a spot of the stage
pub taps_at_spots : (style : Style) (nets : CellNets ℕ) (tree : Tree ℕ)
    → AllByRecursion (λ t. IsSpot (pull_down nets tree ∷ []) t.spot) (cell_taps style nets (inner_count tree))
taps_at_spots WithKeeper nets tree = (tt, (tt, tt))
taps_at_spots WithPrecharge nets tree = (tt, each 0 (inner_count tree) (omega arith))
  where
    each : (j m : ℕ) → j + m ≡ inner_count tree → AllByRecursion (λ t. IsSpot (pull_down nets tree ∷ []) t.spot) (inner_taps nets j m)
    each j zero e = tt
    each j (suc m) e = ((pull_down nets tree, refl, omega arith), each (j + 1) m (omega arith))

-- what follows the precharge leads to vdd
pub behind_to_vdd : (style : Style) (nets : CellNets ℕ) (n : ℕ) → AllByRecursion (λ c. c.source ≡ nets.vdd) (behind_precharge style nets n)
behind_to_vdd WithKeeper nets n = (refl, tt)
behind_to_vdd WithPrecharge nets n = each 0 n
  where
    each : (j m : ℕ) → AllByRecursion (λ c. c.source ≡ nets.vdd) (inner_precharges nets j m)
    each j zero = tt
    each j (suc m) = (refl, each (j + 1) m)

-- the parts of two lists in the other order
pub Contains-turned : (xs ys : List Device) (d : Device) → Contains (xs ++ ys) d → Contains (ys ++ xs) d
Contains-turned xs ys d c =
    elim (Contains-append_cases xs ys d c) [ inl z ↦ Contains-append_right ys xs d z | inr z ↦ Contains-append_left ys xs d z ]
