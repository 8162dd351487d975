use Rattle.std.proofs.Common.{refl, subst, sym}
use Rattle.std.specs.Prelude.{IsNone}
use Rattle.numbered_file.specs.OpenLists.{open_lists}
use Rattle.file_copies.specs.Pushing.{state}
use Rattle.file_copies.proofs.PartsToCome.{reached-end, reached-next, reached-none}
use Rattle.file_copies.proofs.model_parts.push_parts.Goals as goal

pub parts-init : goal.parts-init
parts-init c = reached-none
    (state (open_lists c.args.file.now) c.args.parts.tables.now c.args.parts.latches.now c.args.parts.instances.now c.args.letters.now) c.requires

pub push_due-requires-clause-pushing : goal.push_due-requires-clause-pushing
push_due-requires-clause-pushing c = c.parts.invariant.pushing

pub parts-preserved : goal.parts-preserved
parts-preserved c = reached-next
    (state (open_lists c.args.file.now) c.args.parts.tables.now c.args.parts.latches.now c.args.parts.instances.now c.args.letters.now)
    (state (open_lists c.parts.file) c.parts.rest.tables.now c.parts.rest.latches.now c.parts.rest.instances.now c.parts.left.now)
    (state (open_lists c.push_due.new.file) c.push_due.new.rest.tables.now c.push_due.new.rest.latches.now c.push_due.new.rest.instances.now c.in_ok-left.left.now)
    c.parts.invariant c.in_ok-left.ensures

pub returns : goal.returns
returns c =
    let none = c.due.ensures.none (subst IsNone (sym c.in_default.is) refl) in
    reached-end (state (open_lists c.args.file.now) c.args.parts.tables.now c.args.parts.latches.now c.args.parts.instances.now c.args.letters.now)
    (open_lists c.parts.file) c.parts.rest.tables.now c.parts.rest.latches.now c.parts.rest.instances.now c.parts.left.now c.parts.invariant none.0 none.1 none.2
