-- The dynamic stage of a cell that precharges the inner nets of its tree (Rabaey, Digital Integrated Circuits: charge sharing).
use Rattle.std.specs.Prelude.{List, [], suc, zero, ℕ, ◌+◌, ◌<◌, ◌∷◌, ◌≡◌}
use Rattle.dom_base.specs.declared.kind.Kind.TheVariants.{N as nch, P as pch}
use Rattle.sp_network.specs.Tree.{Leaf, Series, Tree, inner_count}
use Rattle.domino_cell.specs.Stage.{Branch, Inside, Spot, Top}
use Rattle.domino_cell.specs.Tapped.{Tap}

-- the tree in series with the foot, and the precharge
abbrev pub precharged : ℕ → ℕ → ℕ → Tree ℕ → List Branch
precharged vdd vss clock t =
    record { kind = nch; tree = Series t (Leaf clock); supply = vss }
    ∷ record { kind = pch; tree = Leaf clock; supply = vdd }
    ∷ []

-- the precharge devices of so many inner nets from number j on; the foot net is inner net 0 of the branch
abbrev pub taps_from : ℕ → ℕ → ℕ → ℕ → List Tap
taps_from vdd clock j zero = []
taps_from vdd clock j (suc n) = record { spot = Inside 0 (1 + j); kind = pch; gate = clock; supply = vdd } ∷ taps_from vdd clock (j + 1) n

abbrev pub inner_taps : ℕ → ℕ → Tree ℕ → List Tap
inner_taps vdd clock t = taps_from vdd clock 0 (inner_count t)

-- the spot is precharged: the top, or an inner net of the tree
abbrev pub IsPrecharged : Tree ℕ → Spot → Type 0
IsPrecharged t Top = Unit {0}
IsPrecharged t (Inside i j) = (i ≡ 0) × (0 < j) × (j < 1 + inner_count t)
