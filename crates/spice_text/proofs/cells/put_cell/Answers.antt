use Rattle.std.proofs.Common.{◌≤◌, ◌-◌, ◌++◌, ◌∷◌, ℕ, List, length, ap, ◌∙◌, arith}
use Rattle.std.specs.Prelude.{codes}
use Rattle.std.specs.List.{flat_map}
use Rattle.std.proofs.lemmas.List.Elements.{All-from_recursion}
use Rattle.std.proofs.lemmas.List.FromFn.{length-map-range_with_len}
use Rattle.deck.specs.Nets.{IsInRange, ends, numbers_used}
use Rattle.deck.proofs.DeviceNumbers.{devices_in_range}
use Rattle.spice_text.specs.Cells.{cell_name, cell_port, cell_ports}
use Rattle.spice_text.specs.Text.{device_cards}
use Rattle.spice_text.proofs.CellTexts.{cell_parts}
use Rattle.spice_text.proofs.cells.put_cell.Goals as goal

pub put_cards-requires : goal.put_cards-requires
put_cards-requires c =
    let shape = c.args.shape.now in
    let ports = c.args.ports.now in
    let used : ℕ = numbers_used 2 (ends shape) in
    let count : used ≤ length ports = omega (arith, ap length c.requires, length-map-range_with_len cell_port 0 (used - 2)) in
    All-from_recursion (IsInRange (length ports)) shape (devices_in_range (length ports) 2 shape count)

pub returns : goal.returns
returns c =
    let shape = c.args.shape.now in
    cell_parts c.args.text.now.items (codes ".subckt") (cell_name c.args.number) (flat_map (λ word. 32 ∷ word) (cell_ports shape))
    (device_cards (cell_ports shape) shape) (codes ".ends")
    c.in_ok-append.ensures.bytes (c.in_ok-put_cell_name.ensures {u = tt})
    (c.in_ok-put_words.ensures {u = tt} ∙ ap (λ (l : List (List ℕ)). c.put_cell_name.new.text.items ++ flat_map (λ word. 32 ∷ word) l)
    c.requires)
    c.in_ok-append-2.ensures.bytes
    (c.in_ok-put_cards.ensures {u = tt} ∙ ap (λ (l : List (List ℕ)). c.append-2.new.text.items ++ device_cards l shape) c.requires)
    c.in_ok-append-3.ensures.bytes (c.in_ok-put_cell_name-2.ensures {u = tt}) c.in_ok-append-4.ensures.bytes
