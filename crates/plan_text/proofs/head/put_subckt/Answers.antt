use Rattle.std.proofs.Common.{ap, ◌++◌, ◌∙◌}
use Rattle.plan_text.proofs.Heads.{subckt_parts}
use Rattle.plan_text.proofs.head.put_subckt.Goals as goal

pub returns : goal.returns
returns c =
    subckt_parts c.args.text.now c.args.name.now c.args.clocks c.args.pins.now c.args.outs.now _ _ _ _ _ _ _
    c.in_ok-put.ensures.bytes c.in_ok-put_word.ensures.word c.in_ok-put-2.ensures.bytes
    (c.in_ok-put-3.ensures.bytes ∙ ap (λ l. c.put-2.new.self ++ l) c.clock_words.ensures)
    c.in_ok-put-4.ensures.bytes c.in_ok-put_port_lines.ensures c.in_ok-put_port_lines-2.ensures
