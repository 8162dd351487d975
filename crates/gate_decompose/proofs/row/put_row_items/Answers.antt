-- A letter more.
use Rattle.std.proofs.Common.{refl, ap, sym, ◌∙◌, append-nil}
use Rattle.blif_ast.specs.declared.letter.Letter.TheVariants.{Zero, One, Any}
use Rattle.gate_decompose.proofs.RowParts.{letter_made}
use Rattle.gate_decompose.proofs.row.put_row_items.Goals as goal
use Rattle.gate_decompose.proofs.row.put_row_items.Goals.{in-One+in_ok-push-in-One, in-Zero+in_ok-push-in-Zero, in-Any}

pub loop-place-preserved : goal.loop-place-preserved
loop-place-preserved c =
    elim c.match-letter.branch [
      | in-One+in_ok-push-in-One w ↦
          letter_made c.args.refs.now c.args.inputs.now c.args.row.now c.args.row.now c.loop-place.place Zero One c.loop-place.items.items c.match-letter.items.items
          refl c.requires.fits c.loop-place-test.true w.in-One.is c.loop-place.invariant (ap (λ v. v.items) w.items-is ∙ w.in_ok-push-in-One.ensures.items)
      | in-Zero+in_ok-push-in-Zero w ↦
          letter_made c.args.refs.now c.args.inputs.now c.args.row.now c.args.row.now c.loop-place.place Zero Zero c.loop-place.items.items c.match-letter.items.items
          refl c.requires.fits c.loop-place-test.true w.in-Zero.is c.loop-place.invariant (ap (λ v. v.items) w.items-is ∙ w.in_ok-push-in-Zero.ensures.items)
      | in-Any w ↦
          letter_made c.args.refs.now c.args.inputs.now c.args.row.now c.args.row.now c.loop-place.place Zero Any c.loop-place.items.items c.match-letter.items.items
          refl c.requires.fits c.loop-place-test.true w.in-Any.is c.loop-place.invariant (ap (λ v. v.items) w.items-is ∙ sym (append-nil c.loop-place.items.items))
    ]
