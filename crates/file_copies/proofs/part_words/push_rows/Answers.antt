use Rattle.std.proofs.Common.{◌+◌, arith, subst, sym}
use Rattle.dom_base.proofs.Lists.{slice_get-there}
use Rattle.numbered_file.specs.OpenLists.{open_lists}
use Rattle.file_copies.proofs.RowPlaces.{IsFilling, filling-ends, filling-starts, filling-step}
use Rattle.file_copies.proofs.part_words.push_rows.Goals as goal

pub loop-index-init : goal.loop-index-init
loop-index-init c = filling-starts (open_lists c.args.file.now) c.args.width c.args.rows.now c.args.letters.now c.requires.none

pub loop-index-preserved : goal.loop-index-preserved
loop-index-preserved c =
    let before = open_lists c.args.file.now in
    let rows = c.args.rows.now in
    let i = c.loop-index.index in
    let row = slice_get-there rows i c.loop-index-test.true in
    subst (IsFilling before (open_lists c.push_row.new.file) c.args.width (i + 1) rows c.args.letters.now) (sym c.from_place-left.ensures)
    (filling-step before (open_lists c.loop-index.file) c.args.width i rows c.args.letters.now c.loop-index.left.now c.loop-index.invariant c.requires.width c.requires.letters
    c.requires.there row.0 row.1 (open_lists c.push_row.new.file) c.in_ok-push_row.ensures)

pub returns-clause-rows : goal.returns-clause-rows
returns-clause-rows c =
    (filling-ends (open_lists c.args.file.now) (open_lists c.loop-index.file) c.args.width c.loop-index.index c.args.rows.now c.args.letters.now c.loop-index.left.now
    c.loop-index.invariant c.requires.width c.requires.letters c.requires.there (omega (arith, c.loop-index-test.false))).0

pub returns-clause-left : goal.returns-clause-left
returns-clause-left c =
    (filling-ends (open_lists c.args.file.now) (open_lists c.loop-index.file) c.args.width c.loop-index.index c.args.rows.now c.args.letters.now c.loop-index.left.now
    c.loop-index.invariant c.requires.width c.requires.letters c.requires.there (omega (arith, c.loop-index-test.false))).1
