use Rattle.std.proofs.Common.{◌≡◌, Some, ap, arith, subst, sym, ◌∙◌}
use Rattle.std.proofs.lemmas.Option.{get_or_from_slice_get, slice_get-get_or}
use Rattle.std.specs.Prelude.{[]}
use Rattle.std.specs.Cmp.Lexicographic.{bytes_decides}
use Rattle.deck.specs.Nets.{net_name}
use Rattle.domino_cell.specs.NetsAt.{AreNumbersAt}
use Rattle.domino_cell.proofs.NetsAt.{AreNumbersAt-set}
use Rattle.domino_cell.proofs.numbers.keep_number.Goals as goal

pub returns-then-eq : goal.returns-then-eq
returns-then-eq c nets at here =
    let names = c.args.names.now in
    let at_gate = slice_get-get_or names c.args.gate c.index-names-gate.result (omega arith) ∙ ap Some (sym c.index-names-gate.is) in
    let found : net_name names c.args.gate ≡ c.index-names-gate.result = get_or_from_slice_get names c.args.gate c.index-names-gate.result [] at_gate in
    let same : c.index-names-gate.result ≡ c.args.net.now = (bytes_decides c.index-names-gate.result c.args.net.now).0 (sym c.eq.ensures ∙ c.if-eq.true) in
    subst (AreNumbersAt nets names) (sym c.set_number.ensures)
    (AreNumbersAt-set nets names c.args.numbers.now c.args.gate c.args.number at (here ∙ ap Some (sym (found ∙ same))))
