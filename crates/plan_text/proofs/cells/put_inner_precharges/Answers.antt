use Rattle.plan_text.specs.PutCells.{digits_cell}
use Rattle.plan_text.proofs.CellLoops.{next_precharge}
use Rattle.plan_text.proofs.cells.put_inner_precharges.Goals as goal

pub inners-preserved : goal.inners-preserved
inners-preserved c =
    next_precharge (digits_cell c.args.clock c.args.digits.now) c.inners.inner c.args.cards.now c.inners.cards c.put.new.self _ _ _
    c.inner.ensures c.numbered-clock.ensures c.fixed-vdd.ensures c.inners.invariant c.in_ok-put.ensures
