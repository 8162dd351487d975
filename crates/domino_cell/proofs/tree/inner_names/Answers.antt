use Rattle.std.proofs.Common.{◌≡◌, ◌∷◌, [], ◌+◌, ◌++◌, length, ap, length-append, subst, sym, ◌∙◌}
use Rattle.domino_cell.specs.NamedTrees.{AreInnerNames, inner_net}
use Rattle.domino_cell.proofs.PushedTrees.{AreInnerNames-push}
use Rattle.domino_cell.proofs.tree.inner_names.Goals as goal

pub inners-preserved : goal.inners-preserved
inners-preserved g c =
    let front = c.args.front.now in
    let names = c.inners.names.items in
    let name = c.in_ok-name.name in
    let pushed : c.push.new.self.items ≡ names ++ name ∷ [] = c.in_ok-push.ensures.items in
    record {
      count = ap length pushed ∙ length-append names (name ∷ []) ∙ ap (λ n. n + 1) c.inners.invariant.count;
      named = subst (AreInnerNames front) (sym pushed)
          (AreInnerNames-push front names name c.inners.invariant.named (c.in_ok-name.ensures ∙ ap (inner_net front) (sym c.inners.invariant.count)));
    }
