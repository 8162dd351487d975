use Rattle.std.proofs.Common.{codes}
use Rattle.std.specs.Fmt.{decimal}
use Rattle.trace_tool.proofs.EventLines.{piece}
use Rattle.trace_tool.proofs.verdict.put_place.Goals as goal

pub returns : goal.returns
returns c =
    piece _ _ _ (codes "ports differ at place ") _ c.in_ok-append.ensures.bytes
    (piece _ _ _ (decimal c.args.place) (codes "\n") c.in_ok-append_number.ensures.digits c.in_ok-append-2.ensures.bytes)
