use Rattle.spice_text.proofs.CellTexts.{call_parts}
use Rattle.spice_text.proofs.cells.put_call.Goals as goal

pub returns : goal.returns
returns c =
    call_parts c.args.names.now c.args.index c.args.number c.args.nets.now c.args.text.now.items c.in_ok-append.ensures.bytes
    c.in_ok-append_number.ensures.digits
    (c.in_ok-put_nets.ensures {u = tt}) (c.in_ok-put_cell_name.ensures {u = tt}) c.in_ok-append-2.ensures.bytes
