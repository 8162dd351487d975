use Rattle.std.proofs.Common.{rules}
use Rattle.std.proofs.lemmas.List.Sorted.{answers_always}
use Rattle.model_calls.proofs.StableSort.{sorted_in_order}
use Rattle.model_calls.specs.declared.lined.LinedCard.{LinedCard}
use Rattle.model_calls.proofs.lined.sort_by_line.Goals as goal

pub returns : goal.returns
returns c =
    let keys = answers_always _ _ _ (λ f a r next called. search rules) in
    sorted_in_order (λ (p : LinedCard). p.line) c.args.lined.now.items c.sort_by_key.new.self.items
    (c.in_ok-sort_by_key.ensures.sorted (λ (p : LinedCard). p.line) keys) (c.sort_by_key.ensures.stable (λ (p : LinedCard). p.line) keys)
