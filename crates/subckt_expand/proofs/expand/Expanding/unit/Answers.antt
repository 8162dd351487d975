use Rattle.std.proofs.Common.{◌<◌, ◌-◌, ◌∙◌, ap, sym, arith, length, Bor}
use Rattle.std.proofs.lemmas.List.{length-map}
use Rattle.subckt_expand.specs.Definitions.{CallData, no_call}
use Rattle.subckt_expand.specs.Frames.{ExpandingData, call_at}
use Rattle.subckt_expand.proofs.LevelNames.{unit_of-before}
use Rattle.subckt_expand.proofs.Places.{index_or-map}
use Rattle.subckt_expand.proofs.expand.Expanding.unit.Goals as goal

pub returns-else-level-eq0 : goal.returns-else-level-eq0
returns-else-level-eq0 c =
    let at : Bor CallData → CallData = λ r. r.now in
    let all = c.self.inside.calls.items in
    let same = ap (λ (e : ExpandingData). e.calls) c.self.view_is in
    let count = ap length same in
    let inside : 0 < c.args.level = omega (arith, c.if-level-eq0.false) in
    let low : c.args.level - 1 < length all = omega (arith, c.requires, inside, count, length-map all at) in
    ap (λ (d : CallData). d.unit) (c.call.view_is ∙ ap at c.index-call.ensures ∙ sym (index_or-map at all (c.args.level - 1) c.index-call.result.now no_call low) ∙ ap (λ l. call_at l (c.args.level - 1)) same)
    ∙ sym (unit_of-before c.args.self.now.main c.args.self.now.calls c.args.level inside)
