-- Circuits to which the devices of a cell are appended part by part.
use Rattle.std.proofs.Common.{◌≡◌, ℕ, List, [], ◌∷◌, ◌++◌, sym, subst, ap, ◌∙◌, ◌+◌, ◌≤◌, arith, length, length-append, map}
use Rattle.std.proofs.lemmas.List.{length-map}
use Rattle.dom_base.specs.declared.kind.Kind.{Kind}
use Rattle.dom_base.specs.declared.kind.Kind.TheVariants.{N as nch, P as pch}
use Rattle.deck.specs.CircuitData.{CircuitData}
use Rattle.deck.specs.CircuitGrowth.{Grew}
use Rattle.deck.specs.NamedDevices.{NamedDevice, with_devices}
use Rattle.deck.specs.NumberedDevices.{numbered_device}
use Rattle.deck.specs.Pushes.{pushed}
use Rattle.deck.proofs.CircuitGrowth.{Grew-trans, pushed-grew, with_devices-append, with_devices-devices}
use Rattle.sp_network.specs.Tree.{Tree, inner_count}
use Rattle.domino_cell.specs.Cell.{CellNets, inverter}
use Rattle.domino_cell.specs.Spelling.{spell}
use Rattle.domino_cell.specs.declared.style.Style.{Style}
use Rattle.domino_cell.specs.StyledCells.{behind_precharge, styled_cell, styled_stage}
use Rattle.domino_cell.proofs.StyledCells.{styled_cell-parts}

-- a circuit that grew and then got one more device
pub Grew-pushed : (old between new : CircuitData) (kind : Kind) (d g s : List ℕ) → Grew old between → new ≡ pushed between kind d g s → Grew old new
Grew-pushed old between new kind d g s grew more =
    Grew-trans old between new grew (subst (Grew between) (sym more) (pushed-grew between kind d g s))

-- a circuit that grew has as many devices or more
pub Grew-longer : {old new : CircuitData} → Grew old new → length old.devices ≤ length new.devices
Grew-longer {old} grew = omega (arith, ap length grew.devices, length-append old.devices grew.more_devices)

-- how many devices a circuit has after more were appended
pub count_with : (c : CircuitData) (ds : List (NamedDevice (List ℕ))) → length (with_devices c ds).devices ≡ length c.devices + length ds
count_with c ds =
    let f = numbered_device (with_devices c ds).nets in
    ap length (with_devices-devices c ds) ∙ length-append c.devices (map f ds) ∙ ap (λ n. length c.devices + n) (length-map ds f)

-- the devices of a stage, appended part by part
pub stage_devices_pushed : (style : Style) (old a b c new : CircuitData) (nets : CellNets (List ℕ)) (tree : Tree (List ℕ))
    → a ≡ pushed old pch nets.dynamic nets.clock nets.vdd → b ≡ with_devices a (behind_precharge style nets (inner_count tree))
    → c ≡ with_devices b (spell nch nets.inner tree nets.dynamic nets.foot 0) → new ≡ pushed c nch nets.foot nets.clock nets.vss
    → new ≡ with_devices old (styled_stage style nets tree)
stage_devices_pushed style old a b c new nets tree one two three four =
    let spelled : List (NamedDevice (List ℕ)) = spell nch nets.inner tree nets.dynamic nets.foot 0 in
    let foot : NamedDevice (List ℕ) = record { kind = nch; drain = nets.foot; gate = nets.clock; source = nets.vss } in
    let first : NamedDevice (List ℕ) = record { kind = pch; drain = nets.dynamic; gate = nets.clock; source = nets.vdd } in
    let behind : List (NamedDevice (List ℕ)) = behind_precharge style nets (inner_count tree) in
    let kept : CircuitData = with_devices old (first ∷ behind) in
    let b_is : b ≡ kept = two ∙ ap (λ x. with_devices x behind) one in
    let c_is : c ≡ with_devices kept spelled = three ∙ ap (λ x. with_devices x spelled) b_is in
    four
    ∙ ap (λ x. pushed x nch nets.foot nets.clock nets.vss) c_is
    ∙ sym (with_devices-append kept spelled (foot ∷ []))
    ∙ sym (with_devices-append old (first ∷ behind) (spelled ++ foot ∷ []))

-- and those of a cell: its stage, and the inverter
pub cell_devices_pushed : (style : Style) (old between new : CircuitData) (nets : CellNets (List ℕ)) (tree : Tree (List ℕ))
    → between ≡ with_devices old (styled_stage style nets tree) → new ≡ with_devices between (inverter nets.vdd nets.vss nets.dynamic nets.output)
    → new ≡ with_devices old (styled_cell style nets tree)
cell_devices_pushed style old between new nets tree one two =
    let inv : List (NamedDevice (List ℕ)) = inverter nets.vdd nets.vss nets.dynamic nets.output in
    two
    ∙ ap (λ x. with_devices x inv) one
    ∙ sym (with_devices-append old (styled_stage style nets tree) inv)
    ∙ ap (with_devices old) (sym (styled_cell-parts style nets tree))
