use Rattle.std.proofs.Common.{List, ℕ, sym, subst}
use Rattle.spice_text.specs.Cells.{HasCells}
use Rattle.deck_form.specs.ChosenDecks.{planned}
use Rattle.deck_calls.proofs.CellsReadBack.{read_back}
use Rattle.cell_decks.proofs.SynthCells.{has_cells}
use Rattle.cell_decks.proofs.laws.synth_decks_have_cells.Goals as goal

pub returns-clause-cells : goal.returns-clause-cells
returns-clause-cells c = λ network options circuit is wide high few. has_cells network options circuit is wide high few

pub returns-clause-texts : goal.returns-clause-texts
returns-clause-texts c = λ network options circuit is text wide high few whole written.
    let has = has_cells network options circuit is wide high few in
    read_back circuit _ text record { is = whole.numbered; names = whole.names; good = has.good } has written

pub returns-clause-grouped_cells : goal.returns-clause-grouped_cells
returns-clause-grouped_cells c = λ network options circuit places is wide high few.
    subst (λ (l : List ℕ). HasCells circuit l) (sym is.1) (has_cells network options circuit (planned is.0) wide high few)

pub returns-clause-grouped_texts : goal.returns-clause-grouped_texts
returns-clause-grouped_texts c = λ network options circuit places text is wide high few whole written.
    let has = returns-clause-grouped_cells c network options circuit places is wide high few in
    read_back circuit places text record { is = whole.numbered; names = whole.names; good = has.good } has written
