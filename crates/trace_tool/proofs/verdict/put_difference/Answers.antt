use Rattle.std.proofs.Common.{◌≡◌, ◌∷◌, [], ◌++◌, codes, rules}
use Rattle.std.specs.Fmt.{decimal}
use Rattle.dom_base.specs.Tri.{letter_of}
use Rattle.stim_text.specs.CycleLines.{bit_letter}
use Rattle.trace_tool.proofs.EventLines.{piece}
use Rattle.trace_tool.proofs.verdict.put_difference.Goals as goal

pub returns : goal.returns
returns c =
    let pin : c.append-3.new.text.items ≡ c.append-2.new.text.items ++ c.args.pin.now = search rules in
    let wanted : c.append-5.new.text.items ≡ c.append-4.new.text.items ++ (bit_letter c.args.wanted ∷ []) = search rules in
    let last : c.append-7.new.text.items ≡ c.append-6.new.text.items ++ (letter_of c.args.found ∷ 10 ∷ []) = search rules in
    piece _ _ _ (codes "differ cycle " ++ decimal c.args.cycle ++ codes " pin " ++ c.args.pin.now ++ codes " wanted " ++ bit_letter c.args.wanted ∷ [] ++ codes " found ") (letter_of c.args.found ∷ 10 ∷ [])
    (piece _ _ _ (codes "differ cycle " ++ decimal c.args.cycle ++ codes " pin " ++ c.args.pin.now ++ codes " wanted " ++ bit_letter c.args.wanted ∷ []) (codes " found ")
    (piece _ _ _ (codes "differ cycle " ++ decimal c.args.cycle ++ codes " pin " ++ c.args.pin.now ++ codes " wanted ") (bit_letter c.args.wanted ∷ [])
    (piece _ _ _ (codes "differ cycle " ++ decimal c.args.cycle ++ codes " pin " ++ c.args.pin.now) (codes " wanted ")
    (piece _ _ _ (codes "differ cycle " ++ decimal c.args.cycle ++ codes " pin ") c.args.pin.now
    (piece _ _ _ (codes "differ cycle " ++ decimal c.args.cycle) (codes " pin ")
    (piece _ _ _ (codes "differ cycle ") (decimal c.args.cycle) c.in_ok-append.ensures.bytes c.in_ok-append_number.ensures.digits)
    c.in_ok-append-2.ensures.bytes) pin) c.in_ok-append-4.ensures.bytes) wanted) c.in_ok-append-6.ensures.bytes) last
