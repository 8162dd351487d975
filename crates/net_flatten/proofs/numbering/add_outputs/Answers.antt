use Rattle.std.proofs.Common.{◌≡◌, ◌<◌, ◌+◌, ◌++◌, ◌∷◌, [], length, take, ap, sym, ◌∙◌, subst, refl, arith}
use Rattle.std.specs.Prelude.{slice_index_or}
use Rattle.std.proofs.lemmas.List.{take_all}
use Rattle.std.proofs.lemmas.Option.{slice_get-get_or, slice_get_read}
use Rattle.dom_base.proofs.Lists.{All-at}
use Rattle.net_flatten.specs.declared.table_order.LevelledTable.{LevelledTable}
use Rattle.part_numbers.specs.NumberedFiles.{NumberedPartData}
use Rattle.net_flatten.proofs.TableOutputs.{AreOutputs, outputs_next}
use Rattle.net_flatten.proofs.numbering.add_outputs.Goals as goal

pub loop-index-preserved : goal.loop-index-preserved
loop-index-preserved c =
    let table : LevelledTable = slice_index_or c.args.tables.now c.loop-index.index (record { level = 0; part = 0 }) in
    let at = slice_get-get_or c.args.tables.now c.loop-index.index (record { level = 0; part = 0 }) c.loop-index-test.true in
    let inside = All-at (λ (t : LevelledTable). t.part < length c.args.parts.now) c.args.tables.now c.loop-index.index table
    c.requires.there at in
    let part = slice_get_read c.args.parts.now (length c.args.parts.now) table.part c.index-parts-table.result refl inside
    c.index-parts-table.is in
    let drives : c.part.inside.drives ≡ c.index-parts-table.result.drives = ap (λ (p : NumberedPartData). p.drives) c.part.view_is in
    let pushed = (c.in_ok-push.ensures {u = tt}).items ∙ ap (λ number. c.loop-index.numbers.items ++ number ∷ []) drives in
    subst (AreOutputs c.args.parts.now (take (c.loop-index.index + 1) c.args.tables.now) c.args.numbers.now.items) (sym pushed)
    (outputs_next c.args.parts.now c.args.tables.now c.loop-index.index table c.index-parts-table.result c.args.numbers.now.items
    c.loop-index.numbers.items at part c.loop-index.invariant)

pub returns : goal.returns
returns c = subst (λ ts. AreOutputs c.args.parts.now ts c.args.numbers.now.items c.loop-index.numbers.items)
    (take_all c.loop-index.index c.args.tables.now (omega arith)) c.loop-index.invariant
