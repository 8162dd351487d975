use Rattle.std.specs.Prelude.{Some, slice_get}
use Rattle.std.proofs.Common.{get_or, ◌≡◌}
use Rattle.std.proofs.lemmas.Option.{slice_get-get_or}
use Rattle.audit_deck.proofs.FoundMarks.{not_output, output_by}
use Rattle.audit_deck.proofs.index.Index.is_cell_output.Goals as goal

pub returns-then-holds_dynamic-clause-yes : goal.returns-then-holds_dynamic-clause-yes
returns-then-holds_dynamic-clause-yes c = λ e.
    let l = c.gating-place-items.result.now in
    let i = c.loop-place.place-index in
    output_by c.args.self.now.devices c.args.roles c.args.net (get_or l i 0)
    (c.gating-place-items.ensures.are.sound i (get_or l i 0) (slice_get-get_or l i 0 c.loop-place-test.true))
    (c.holds_dynamic.ensures.yes c.if-holds_dynamic.true)

pub returns-clause-no : goal.returns-clause-no
returns-clause-no c = λ e output.
    not_output c.args.self.now.devices c.args.roles c.args.net c.gating-place-items.result.now c.gating-place-items.ensures.are c.loop-place.place-index
    c.loop-place-test.false c.loop-place.invariant output
