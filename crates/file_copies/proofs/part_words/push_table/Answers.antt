use Rattle.std.proofs.Common.{◌≡◌, ◌++◌, ◌∷◌, [], All, ap, length, refl, subst, sym, ◌∙◌}
use Rattle.file_copies.specs.FileLetters.{rows_letters}
use Rattle.numbered_file.specs.OpenLists.{OpenLists, open_lists, with_part, with_words}
use Rattle.blif_lines.specs.TextPlaces.{IsFrontOf, IsRestOf}
use Rattle.file_copies.specs.Pushing.{HasRows}
use Rattle.numbered_file.proofs.ListSteps.{words-more}
use Rattle.file_copies.proofs.PartWords.{table-pushed}
use Rattle.file_copies.proofs.part_words.push_table.Goals as goal

pub push_rows-requires-clause-none : goal.push_rows-requires-clause-none
push_rows-requires-clause-none c =
    ap (λ (l : OpenLists). l.rows) (c.in_ok-add_word.ensures.lists ∙ ap (λ l. with_words l (c.output_of.result.now ∷ [])) c.in_ok-push_words.ensures) ∙ c.requires.rows

pub push_rows-requires-clause-width : goal.push_rows-requires-clause-width
push_rows-requires-clause-width c =
    subst (λ rows. All (λ row. length row ≡ length c.inputs_of-inputs.result.now) rows) (sym c.rows_of.ensures)
    (subst (λ inputs. All (λ row. length row ≡ length inputs) c.args.table.now.rows) (sym c.inputs_of-inputs.ensures) c.requires.good.rows)

pub push_rows-requires-clause-letters : goal.push_rows-requires-clause-letters
push_rows-requires-clause-letters c = subst (λ rows. IsFrontOf (rows_letters rows) c.args.letters.now) (sym c.rows_of.ensures) c.requires.letters

pub push_rows-requires-clause-there : goal.push_rows-requires-clause-there
push_rows-requires-clause-there c =
    subst (λ text. IsRestOf text c.args.letters.now)
    (sym (ap (λ (l : OpenLists). l.text) (c.in_ok-add_word.ensures.lists ∙ ap (λ l. with_words l (c.output_of.result.now ∷ [])) c.in_ok-push_words.ensures))) c.requires.there

pub returns-clause-lists : goal.returns-clause-lists
returns-clause-lists c =
    let lists = open_lists c.args.file.now in
    let table = c.args.table.now in
    let one = open_lists c.push_words.new.file in
    let filled = open_lists c.add_word.new.self in
    let rowed = open_lists c.push_rows.new.file in
    let first = c.in_ok-push_words.ensures ∙ ap (with_words lists) c.inputs_of-inputs.ensures in
    let words = words-more lists one filled table.inputs (table.output ∷ []) (table.inputs ++ table.output ∷ []) refl first
    (c.in_ok-add_word.ensures.lists ∙ ap (λ w. with_words one (w ∷ [])) c.output_of.ensures) in
    let rows : HasRows filled rowed (length table.inputs) table.rows =
    subst (λ rows. HasRows filled rowed (length table.inputs) rows) c.rows_of.ensures
    (subst (λ inputs. HasRows filled rowed (length inputs) c.rows_of.result.now) c.inputs_of-inputs.ensures c.in_ok-left.ensures.rows) in
    table-pushed lists filled rowed (open_lists c.add_part.new.self) table c.in_ok-line.line c.in_ok-line.ensures words rows
    (c.in_ok-add_part.ensures.lists ∙ ap (λ k. with_part rowed k c.in_ok-line.line) c.kind_of.ensures) c.requires.words c.requires.rows

pub returns-clause-left : goal.returns-clause-left
returns-clause-left c = c.in_ok-left.ensures.left ∙ ap (λ rows. rows_letters rows ++ c.in_ok-left.left.now) c.rows_of.ensures
