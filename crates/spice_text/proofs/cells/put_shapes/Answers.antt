use Rattle.std.proofs.Common.{◌≡◌, ◌<◌, ◌++◌, [], ℕ, List, get_or, length, take, ap, sym, ◌∙◌, arith, append_assoc}
use Rattle.std.proofs.lemmas.List.{get_or_read}
use Rattle.deck.specs.declared.device.Device.{Device}
use Rattle.spice_text.specs.Cells.{cell_lines}
use Rattle.spice_text.proofs.CellPorts.{ports_of_shape}
use Rattle.spice_text.proofs.Lines.{numbered-more}
use Rattle.spice_text.proofs.cells.put_shapes.Goals as goal

pub put_cell-requires : goal.put_cell-requires
put_cell-requires c =
    ap (take c.net_count-count.result) c.as_slice-all.ensures.value
    ∙ ports_of_shape c.add_ports.new.ports.items c.devices-listed.result.now c.net_count-count.result c.in_ok-add_ports.ensures.ports
    c.net_count-count.ensures c.in_ok-add_ports.ensures.enough

pub loop-number-preserved : goal.loop-number-preserved
loop-number-preserved c =
    let keys : List (List Device) = c.args.shapes.now.keys in
    let items : List (List Device) = c.as_slice-shape-items.result.now in
    let number = c.loop-number.number in
    let are : items ≡ keys = c.as_slice-shape-items.ensures.keys in
    let lt : number < length items = omega arith in
    let within : number < length keys = omega (arith, lt, ap length are) in
    let item : c.devices-listed.result.now ≡ get_or keys number [] =
    c.devices-listed.ensures ∙ get_or_read items number c.shape-item.result lt c.shape-item.is []
    ∙ ap (λ (l : List (List Device)). get_or l number []) are in
    record {
      ports = c.in_ok-add_ports.ensures.ports;
      text =
          c.in_ok-put_cell.ensures {u = tt} ∙ ap (λ (d : List Device). c.loop-number.text.items ++ cell_lines (number, d)) item
          ∙ ap (λ (t : List ℕ). t ++ cell_lines (number, get_or keys number [])) c.loop-number.invariant.text
          ∙ append_assoc c.args.text.now.items _ _
          ∙ ap (λ (t : List ℕ). c.args.text.now.items ++ t) (sym (numbered-more cell_lines keys number [] within));
    }
