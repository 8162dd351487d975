use Rattle.std.proofs.Common.{◌++◌, ◌∷◌, ℕ, List, ap, ◌∙◌, append_assoc}
use Rattle.std.specs.Prelude.{codes}
use Rattle.std.specs.Fmt.{decimal}
use Rattle.spice_text.proofs.cells.put_cell_name.Goals as goal

pub returns : goal.returns
returns c =
    c.in_ok-append_number.ensures.digits ∙ ap (λ (l : List ℕ). l ++ decimal c.args.number) c.in_ok-append.ensures.bytes
    ∙ append_assoc c.args.text.now.items (32 ∷ codes "cell-") (decimal c.args.number)
