use Rattle.std.proofs.Common.{◌≡◌}
use Rattle.domino_cell.specs.StyledCells.{inner_precharges}
use Rattle.plan_text.specs.DeviceTexts.{with_put}
use Rattle.plan_text.specs.PutCells.{digits_cell}
use Rattle.plan_text.proofs.cells.put_inner_precharges.Given as goal

abbrev pub invariant-inners : goal.invariant-inners
invariant-inners l = l.cards ≡ with_put l.fn.cards (inner_precharges (digits_cell l.fn.clock l.digits) 0 l.inner)
