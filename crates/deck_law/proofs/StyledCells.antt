-- Cells of either style, beside the cells of decks by numbers.
use Rattle.std.proofs.Common.{◌≡◌, ℕ, ◌+◌, ◌<◌, List, [], ◌∷◌, ◌++◌, length, map, refl, sym, ap, ◌∙◌, arith, length-append, append_assoc, None}
use Rattle.std.specs.List.{AllByRecursion}
use Rattle.std.proofs.lemmas.List.{map-append}
use Rattle.dom_base.specs.declared.kind.Kind.TheVariants.{N as nch, P as pch}
use Rattle.dom_base.proofs.Lists.{AllByRecursion-right}
use Rattle.deck.specs.NamedDevices.{NamedDevice, map_device}
use Rattle.deck.specs.NumberedDevices.{IsNumberedDevice}
use Rattle.domino_cell.specs.Cell.{CellNets, cell, inverter, map_nets}
use Rattle.domino_cell.specs.Spelling.{spell}
use Rattle.domino_cell.proofs.StyledCells.{styled_cell-parts, styled_stage-map_tree}
use Rattle.domino_law.specs.Nets.{Net, gate_net, left_side}
use Rattle.domino_law.specs.Shape.{DominoCell, left_stage}
use Rattle.domino_cell.specs.declared.style.Style.{Style}
use Rattle.domino_cell.specs.declared.style.Style.TheVariants.{Keeper as WithKeeper, Precharge as WithPrecharge}
use Rattle.domino_law.specs.Spelled as law
use Rattle.sp_network.specs.Tree.{Tree, inner_count, map_tree}
use Rattle.deck_law.proofs.DeviceLists.{spell_longer}
use Rattle.domino_cell.specs.StyledCells.{inner_precharges, behind_precharge, pull_down_cards, styled_cell, styled_stage}

-- the images of a cell's cards are the cards of the image
pub styled_cell-map_tree : {N Image : Type 0} (f : N → Image) (style : Style) (nets : CellNets N) (t : Tree N)
    → map (map_device f) (styled_cell style nets t) ≡ styled_cell style (map_nets f nets) (map_tree f t)
styled_cell-map_tree f style nets t =
    ap (map (map_device f)) (styled_cell-parts style nets t)
    ∙ map-append (map_device f) (styled_stage style nets t) (inverter nets.vdd nets.vss nets.dynamic nets.output)
    ∙ ap (λ l. l ++ inverter (f nets.vdd) (f nets.vss) (f nets.dynamic) (f nets.output)) (styled_stage-map_tree f style nets t)
    ∙ sym (styled_cell-parts style (map_nets f nets) (map_tree f t))

-- the cards of a simple cell are those of the law
pub styled_is : (style : Style) (k : ℕ) (c : DominoCell) → c.right ≡ None
    → styled_cell style (law.net_cell (left_side k) (left_stage c)) (map_tree gate_net c.tree) ≡ law.one_cell style k c
styled_is WithKeeper k c z = rw z refl
styled_is WithPrecharge k c z =
    let nets = law.net_cell (left_side k) (left_stage c) in
    let t : Tree Net = map_tree gate_net c.tree in
    let first : NamedDevice Net = record { kind = pch; drain = nets.dynamic; gate = nets.clock; source = nets.vdd } in
    rw z (sym (append_assoc (first ∷ inner_precharges nets 0 (inner_count t)) (pull_down_cards nets t) (inverter nets.vdd nets.vss nets.dynamic nets.output)))

-- where the nets of a cell have numbers, those of the cell with a keeper have
pub keeper_stands : (all : List (List ℕ)) (style : Style) (nets : CellNets (List ℕ)) (t : Tree (List ℕ)) → AllByRecursion (IsNumberedDevice all) (styled_cell style nets t)
    → AllByRecursion (IsNumberedDevice all) (cell nets t)
keeper_stands all WithKeeper nets t h = h
keeper_stands all WithPrecharge nets t h =
    let inv = inverter nets.vdd nets.vss nets.dynamic nets.output in
    let behind = AllByRecursion-right (IsNumberedDevice all) (inner_precharges nets 0 (inner_count t)) (pull_down_cards nets t ++ inv) h.1 in
    let of_inverter = AllByRecursion-right (IsNumberedDevice all) (pull_down_cards nets t) inv behind in
    (h.0, ((h.0.0, of_inverter.0.0, h.0.2), behind))

-- a cell has a device for each inner net of its tree, and more
pub styled_long : (style : Style) (nets : CellNets (List ℕ)) (t : Tree (List ℕ)) → inner_count t < length (styled_cell style nets t)
styled_long style nets t =
    let first : NamedDevice (List ℕ) = record { kind = pch; drain = nets.dynamic; gate = nets.clock; source = nets.vdd } in
    let inv = inverter nets.vdd nets.vss nets.dynamic nets.output in
    let spelled = spell nch nets.inner t nets.dynamic nets.foot 0 in
    let spells = spell_longer nch nets.inner t nets.dynamic nets.foot 0 in
    omega (
      arith,
      spells,
      length-append (first ∷ behind_precharge style nets (inner_count t)) (pull_down_cards nets t ++ inv),
      length-append (pull_down_cards nets t) inv,
      length-append spelled (record { kind = nch; drain = nets.foot; gate = nets.clock; source = nets.vss } ∷ []),
    )
