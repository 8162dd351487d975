use Rattle.std.proofs.Common.{◌≡◌, ◌+◌, length, set, take, ap, sym, ◌∙◌, subst, refl}
use Rattle.std.specs.Prelude.{true}
use Rattle.std.proofs.lemmas.Option.{slice_get_read}
use Rattle.net_flatten.specs.Dependences.{is_table}
use Rattle.model_calls.specs.NumberSets.{IsSetOf}
use Rattle.part_numbers.specs.NumberedFiles.{NumberedPartData}
use Rattle.net_flatten.specs.TableNumbers.{driven_by_tables}
use Rattle.net_flatten.proofs.TableNumbers.{set_at_latch, set_at_table}
use Rattle.net_flatten.proofs.levelling.find_tables.Goals as goal
use Rattle.net_flatten.proofs.levelling.find_tables.Goals.{in-Table, in_default}

pub loop-index-preserved : goal.loop-index-preserved
loop-index-preserved c =
    let at = slice_get_read c.args.parts.now (length c.args.parts.now) c.loop-index.index c.index-parts-index.result refl c.loop-index-test.true c.index-parts-index.is in
    let card : c.part.inside.card ≡ c.index-parts-index.result.card = ap (λ (p : NumberedPartData). p.card) c.part.view_is in
    let drives : c.part.inside.drives ≡ c.index-parts-index.result.drives = ap (λ (p : NumberedPartData). p.drives) c.part.view_is in
    elim c.match-part.branch [
      | in-Table w ↦
          subst (IsSetOf c.args.signals (driven_by_tables (take (c.loop-index.index + 1) c.args.parts.now)))
          (ap (λ k. set c.loop-index.tables k true) (sym drives) ∙ sym w.insert.ensures ∙ sym w.tables-is)
          (set_at_table c.args.parts.now c.loop-index.index c.index-parts-index.result at c.args.signals c.loop-index.tables c.loop-index.invariant (ap is_table (sym card ∙ w.in-Table.is)))
      | in_default w ↦
          subst (IsSetOf c.args.signals (driven_by_tables (take (c.loop-index.index + 1) c.args.parts.now))) (sym w.tables-is)
          (set_at_latch c.args.parts.now c.loop-index.index c.index-parts-index.result at c.args.signals c.loop-index.tables c.loop-index.invariant (ap is_table (sym card ∙ w.in_default.is)))
    ]
