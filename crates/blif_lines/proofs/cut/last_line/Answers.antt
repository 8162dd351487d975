use Rattle.std.proofs.Common.{subst, sym, ◌∙◌}
use Rattle.blif_lines.specs.Pieces.{IsLast}
use Rattle.blif_lines.proofs.PieceEnds.{last-comment, last-plain}
use Rattle.blif_lines.proofs.cut.last_line.Goals as goal

pub returns-then-has_hash_at : goal.returns-then-has_hash_at
returns-then-has_hash_at c = last-comment c.args.text.now c.args.end c.requires.end (sym c.has_hash_at.ensures ∙ c.if-has_hash_at.true)

pub returns-else-has_hash_at : goal.returns-else-has_hash_at
returns-else-has_hash_at c =
    subst (λ w. IsLast c.args.text.now w c.args.end) (sym c.strip_return.ensures)
    (last-plain c.args.text.now c.args.end c.requires.end (sym c.has_hash_at.ensures ∙ c.if-has_hash_at.false) c.requires.no_blank)
