use Rattle.std.proofs.Common.{◌++◌, ap, codes, ◌∙◌}
use Rattle.std.proofs.lemmas.Result.{IfOk-weaker}
use Rattle.domino_cell.proofs.names.tree_front.Goals as goal

pub returns : goal.returns
returns c =
    IfOk-weaker c.joined_name.result _ _
    (λ front is. is ∙ ap (λ tree. tree ++ codes "_") (c.as_bytes.ensures.bytes ∙ c.in_ok-tree.ensures))
    c.joined_name.ensures
