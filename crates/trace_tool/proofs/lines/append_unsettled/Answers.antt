use Rattle.std.proofs.Common.{◌++◌, codes}
use Rattle.std.specs.Fmt.{decimal}
use Rattle.trace_tool.proofs.EventLines.{piece}
use Rattle.trace_tool.proofs.lines.append_unsettled.Goals as goal

pub returns : goal.returns
returns c =
    piece _ _ _ (codes "unsettled cycle " ++ decimal c.args.cycle ++ codes " events " ++ decimal c.args.events) (codes "\n")
    (piece _ _ _ (codes "unsettled cycle " ++ decimal c.args.cycle ++ codes " events ") (decimal c.args.events)
    (piece _ _ _ (codes "unsettled cycle " ++ decimal c.args.cycle) (codes " events ")
    (piece _ _ _ (codes "unsettled cycle ") (decimal c.args.cycle) c.in_ok-append.ensures.bytes c.in_ok-append_number.ensures.digits)
    c.in_ok-append-2.ensures.bytes) c.in_ok-append_number-2.ensures.digits) c.in_ok-append-3.ensures.bytes
