use Rattle.std.proofs.Common.{ap, arith, drop, sym, take, ◌∙◌}
use Rattle.numbered_file.specs.Numbered.{between, named, parts_from, parts_of}
use Rattle.numbered_file.specs.OpenLists.{rows_end, words_end}
use Rattle.file_copies.proofs.Copying.{copy-ends, copy-starts, copy-step, parts-between}
use Rattle.numbered_file.proofs.PartLists.{parts-drop}
use Rattle.file_copies.proofs.copy.push_parts.Goals as goal

pub loop-index-init : goal.loop-index-init
loop-index-init c =
    let d = c.args.file.now in
    let words = named d.names d.words in
    let before = c.ends_of-before.result in
    let first = c.items_before.ensures ∙ ap (take c.args.start) c.parts-all.ensures in
    let words_are = c.ends_of-before.ensures.words ∙ ap (words_end 0) first in
    let rows_are = c.ends_of-before.ensures.rows ∙ ap (rows_end 0) first in
    let from = (λ i. parts_from d.text words d.rows (words_are i) (rows_are i) (drop c.args.start d.parts)) ∙ sym (parts-drop d.text words d.rows 0 0 c.args.start d.parts) in
    copy-starts d c.between-parts.result.now (between c.args.start c.args.end (parts_of d)) c.args.model.now before.words before.rows
    (ap (parts_from d.text words d.rows before.words before.rows) (c.between-parts.ensures ∙ ap (between c.args.start c.args.end) c.parts-all.ensures)
    ∙ parts-between d.text words d.rows c.args.start c.args.end before.words before.rows d.parts from)

pub loop-index-preserved : goal.loop-index-preserved
loop-index-preserved c =
    let d = c.args.file.now in
    copy-step d c.between-parts.result.now (between c.args.start c.args.end (parts_of d)) c.args.model.now c.loop-index.model c.copy_part.new.model c.loop-index.index
    c.loop-index.before.words c.loop-index.before.rows c.part_at-part.result c.loop-index.invariant c.part_at-part.ensures c.in_ok-copy_part.ensures

pub returns : goal.returns
returns c =
    let d = c.args.file.now in
    copy-ends d c.between-parts.result.now (between c.args.start c.args.end (parts_of d)) c.args.model.now c.loop-index.model c.loop-index.index
    c.loop-index.before.words c.loop-index.before.rows c.loop-index.invariant (omega (arith, c.loop-index-test.false))
