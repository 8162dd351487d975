-- Domino cells of either style: with a keeper, or with precharged inner nets (Rabaey, Digital Integrated Circuits: dynamic logic).
use Rattle.std.specs.Prelude.{ℕ, zero, suc, ◌+◌, List, [], ◌∷◌, ◌++◌}
use Rattle.dom_base.specs.declared.kind.Kind.TheVariants.{N as nch, P as pch, Keep}
use Rattle.deck.specs.NamedDevices.{NamedDevice}
use Rattle.domino_cell.specs.Cell.{CellNets, inverter}
use Rattle.domino_cell.specs.Spelling.{spell}
use Rattle.domino_cell.specs.declared.style.Style.{Style}
use Rattle.domino_cell.specs.declared.style.Style.TheVariants.{Keeper as WithKeeper, Precharge as WithPrecharge}
use Rattle.sp_network.specs.Tree.{Tree, inner_count}

-- the precharge devices of so many inner nets from number j on
abbrev pub inner_precharges : {Net : Type 0} → CellNets Net → ℕ → ℕ → List (NamedDevice Net)
inner_precharges nets j zero = []
inner_precharges nets j (suc n) = record { kind = pch; drain = nets.inner j; gate = nets.clock; source = nets.vdd } ∷ inner_precharges nets (j + 1) n

-- what follows the precharge of a cell with so many inner nets: the keeper, or the precharge of each inner net in order
abbrev pub behind_precharge : {Net : Type 0} → Style → CellNets Net → ℕ → List (NamedDevice Net)
behind_precharge WithKeeper nets n = record { kind = Keep; drain = nets.dynamic; gate = nets.output; source = nets.vdd } ∷ []
behind_precharge WithPrecharge nets n = inner_precharges nets 0 n

-- the tree and the foot
abbrev pub pull_down_cards : {Net : Type 0} → CellNets Net → Tree Net → List (NamedDevice Net)
pull_down_cards nets tree =
    spell nch nets.inner tree nets.dynamic nets.foot 0
    ++ record { kind = nch; drain = nets.foot; gate = nets.clock; source = nets.vss } ∷ []

-- the dynamic stage of a cell of a style: the precharge and what follows it, the tree and the foot
abbrev pub styled_stage : {Net : Type 0} → Style → CellNets Net → Tree Net → List (NamedDevice Net)
styled_stage style nets tree =
    (record { kind = pch; drain = nets.dynamic; gate = nets.clock; source = nets.vdd } ∷ behind_precharge style nets (inner_count tree))
    ++ pull_down_cards nets tree

-- a cell of a style: the precharge and what follows it, the tree, the foot, and the inverter
abbrev pub styled_cell : {Net : Type 0} → Style → CellNets Net → Tree Net → List (NamedDevice Net)
styled_cell style nets tree =
    (record { kind = pch; drain = nets.dynamic; gate = nets.clock; source = nets.vdd } ∷ behind_precharge style nets (inner_count tree))
    ++ (pull_down_cards nets tree ++ inverter nets.vdd nets.vss nets.dynamic nets.output)

-- how many devices follow the precharge of a cell with so many inner nets
abbrev pub behind_count : Style → ℕ → ℕ
behind_count WithKeeper n = 1
behind_count WithPrecharge n = n

-- how many devices a cell has beside those of its tree: these, the precharge, the foot and the two of the inverter
abbrev pub around_tree : {Net : Type 0} → Style → Tree Net → ℕ
around_tree style tree = behind_count style (inner_count tree) + 4
