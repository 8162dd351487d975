use Rattle.std.proofs.Common.{rules, arith, tests, sym, subst}
use Rattle.std.proofs.lemmas.Result.{err_from_is_err_and}
use Rattle.stim_text.specs.Stimuli.{IsStimFaultAt, IsStimulusOf}
use Rattle.stim_text.specs.Rows.{rows}
use Rattle.stim_text.proofs.ReadLines.{start_bits, step, accepted, refused}
use Rattle.stim_text.proofs.reader.read_stim.Goals as goal

pub lines-init : goal.lines-init
lines-init c = start_bits c.args.width c.args.text.now _ (search rules) c.new-bits.ensures.items

pub lines-preserved : goal.lines-preserved
lines-preserved c = step c.args.width c.args.text.now c.lines.number c.lines.rest.now c.in-Some.line.now c.in-Some.more.now c.lines.count c.lines.bits.items c.in_ok-count.field-0 c.read_line.new.bits.items c.lines.invariant c.in-Some.ensures c.in_ok-count.ensures.cycle

pub returns-in_err-count-clause-fault : goal.returns-in_err-count-clause-fault
returns-in_err-count-clause-fault c = λ line kind is.
    let p = err_from_is_err_and c.from_residual.result c.from_residual.ensures.1 in
    let a = p.1 in
    let b = p.2 in
    let f = c.in_err-count.ensures.fault line kind (cc) in
    subst (λ n. IsStimFaultAt c.args.width c.args.text.now n kind) (sym f.0)
    (refused c.args.width c.args.text.now c.lines.number c.lines.rest.now c.in-Some.line.now c.in-Some.more.now (rows c.args.width c.lines.count c.lines.bits.items) kind c.lines.invariant.reads c.in-Some.ensures f.1)

pub returns-clause-stimulus : goal.returns-clause-stimulus
returns-clause-stimulus c =
    subst (IsStimulusOf c.args.width c.args.text.now) (sym c.new.ensures)
    (accepted c.args.width c.args.text.now c.lines.number c.lines.rest.now (rows c.args.width c.lines.count c.lines.bits.items) c.lines.invariant.reads (search (rules, tests)))

pub overflow_add-number : goal.overflow_add-number
overflow_add-number c = omega (arith, c.lines.invariant.reads.fit, c.in-Some.ensures.shorter)

pub lines-smaller : goal.lines-smaller
lines-smaller c = c.in-Some.ensures.shorter
