use Rattle.std.proofs.Common.{◌≡◌, ◌++◌, ◌∷◌, [], length, take, ap, sym, ◌∙◌, subst, refl, arith}
use Rattle.std.specs.Prelude.{slice_index_or}
use Rattle.std.proofs.lemmas.List.{take_all}
use Rattle.std.proofs.lemmas.Option.{slice_get_read}
use Rattle.net_flatten.specs.Dependences.{is_table}
use Rattle.net_flatten.specs.LevelledTables.{AreLevelledTables}
use Rattle.part_numbers.specs.NumberedFiles.{NumberedPartData}
use Rattle.net_flatten.specs.TableNumbers.{tables_among}
use Rattle.net_flatten.proofs.LevelledTables.{levelled_with}
use Rattle.net_flatten.proofs.TableNumbers.{tables_at_latch, tables_at_table}
use Rattle.net_flatten.proofs.table_order.levelled_tables.Goals as goal
use Rattle.net_flatten.proofs.table_order.levelled_tables.Goals.{in-Table+in_ok-push, in_default}

pub loop-index-preserved : goal.loop-index-preserved
loop-index-preserved c =
    let at = slice_get_read c.args.parts.now (length c.args.parts.now) c.loop-index.index c.index-parts-index.result refl c.loop-index-test.true c.index-parts-index.is in
    let card : c.part.inside.card ≡ c.index-parts-index.result.card = ap (λ (p : NumberedPartData). p.card) c.part.view_is in
    let drives : c.part.inside.drives ≡ c.index-parts-index.result.drives = ap (λ (p : NumberedPartData). p.drives) c.part.view_is in
    elim c.match-part.branch [
      | in-Table+in_ok-push w ↦
          subst (λ l. AreLevelledTables c.args.levels.now c.args.parts.now l c.match-part.tables.items)
          (sym (tables_at_table c.args.parts.now c.loop-index.index c.index-parts-index.result at (ap is_table (sym card ∙ w.in-Table.is))))
          (subst (AreLevelledTables c.args.levels.now c.args.parts.now (tables_among (take c.loop-index.index c.args.parts.now) ++ c.index-parts-index.result ∷ []))
          (sym (w.in_ok-push.ensures {u = tt}).items ∙ ap (λ v. v.items) (sym w.tables-is))
          (levelled_with c.args.levels.now c.args.parts.now (tables_among (take c.loop-index.index c.args.parts.now)) c.loop-index.tables.items c.loop-index.index
          (slice_index_or c.args.levels.now c.part.inside.drives 0) c.index-parts-index.result at (ap (λ k. slice_index_or c.args.levels.now k 0) drives) c.loop-index.invariant))
      | in_default w ↦
          subst (λ l. AreLevelledTables c.args.levels.now c.args.parts.now l c.match-part.tables.items)
          (sym (tables_at_latch c.args.parts.now c.loop-index.index c.index-parts-index.result at (ap is_table (sym card ∙ w.in_default.is))))
          (subst (λ v. AreLevelledTables c.args.levels.now c.args.parts.now (tables_among (take c.loop-index.index c.args.parts.now)) v.items) (sym w.tables-is) c.loop-index.invariant)
    ]

pub returns : goal.returns
returns c = subst (λ ps. AreLevelledTables c.args.levels.now c.args.parts.now (tables_among ps) c.loop-index.tables.items)
    (take_all c.loop-index.index c.args.parts.now (omega arith)) c.loop-index.invariant
