use Rattle.std.proofs.Common.{◌≡◌, ◌∷◌, [], ◌++◌, sym, subst, codes, rules, slice_index_or}
use Rattle.std.specs.Fmt.{decimal}
use Rattle.dom_base.specs.Tri.{letter_of}
use Rattle.trace_tool.proofs.EventLines.{event_front, event_line-is, piece}
use Rattle.trace_tool.proofs.lines.append_event_line.Goals as goal

pub returns : goal.returns
returns c =
    let name : c.append-3.new.text.items ≡ c.append-2.new.text.items ++ slice_index_or c.args.circuit.now.nets c.args.event.net [] = search rules in
    let last : c.append-5.new.text.items ≡ c.append-4.new.text.items ++ (letter_of c.args.event.before ∷ 32 ∷ letter_of c.args.event.after ∷ 10 ∷ []) = search rules in
    subst (λ l. c.append-5.new.text.items ≡ c.args.text.now.items ++ l) (sym (event_line-is c.args.circuit.now.nets c.args.event))
    (piece _ _ _ (event_front c.args.circuit.now.nets c.args.event) _
    (piece _ _ _ (codes "event " ++ decimal c.args.event.step ++ codes " " ++ slice_index_or c.args.circuit.now.nets c.args.event.net []) (codes " ")
    (piece _ _ _ (codes "event " ++ decimal c.args.event.step ++ codes " ") (slice_index_or c.args.circuit.now.nets c.args.event.net [])
    (piece _ _ _ (codes "event " ++ decimal c.args.event.step) (codes " ")
    (piece _ _ _ (codes "event ") (decimal c.args.event.step) c.in_ok-append.ensures.bytes c.in_ok-append_number.ensures.digits)
    c.in_ok-append-2.ensures.bytes) name) c.in_ok-append-4.ensures.bytes) last)
