-- The texts of planned decks, in either version, are right decks.
use Rattle.std.proofs.Common.{◌≤◌, ℕ, List}
use Rattle.deck.specs.CircuitData.{CircuitData}
use Rattle.deck.specs.DeckText.{IsDeckOf}
use Rattle.deck.specs.Whole.{IsWhole}
use Rattle.deck_calls.proofs.CellsReadBack as by_cells
use Rattle.spice_text.proofs.ReadBack as as_one
use Rattle.network.specs.NetworkData.{NetworkData}
use Rattle.deck_form.specs.ChosenDecks.{IsPlannedDeck}
use Rattle.deck_form.specs.DeckGroups.{group_places}
use Rattle.deck_form.specs.DeckOptions.{DeckOptions}
use Rattle.deck_form.specs.DeckTexts.{IsWrittenAs}
use Rattle.deck_form.specs.declared.version.DeckVersion.{DeckVersion}
use Rattle.deck_form.specs.declared.version.DeckVersion.TheVariants.{One as VersionOne, Two as VersionTwo}
use Rattle.deck_law.proofs.RightDecks.{planned_decks_are_right, planned_good}
use Rattle.cell_decks.specs.RightTexts.{PlannedVersionsAreRight}
use Rattle.cell_decks.proofs.SynthCells.{has_cells}

-- the written form of a planned deck reads back as its circuit
pub version_reads_back : (version : DeckVersion) (text : List ℕ) (options : DeckOptions) (network : NetworkData) (circuit : CircuitData)
    → options.width ≤ 8 → options.height ≤ 6 → options.phases ≤ 4
    → (is : IsPlannedDeck network options circuit) → IsWhole circuit → IsWrittenAs version is text → IsDeckOf text circuit
version_reads_back VersionOne text options network circuit wide high few is whole written =
    let good = planned_good network options circuit is few in
    as_one.read_back circuit text (record { is = whole.numbered; names = whole.names; good = good }) written
version_reads_back VersionTwo text options network circuit wide high few is whole written =
    let good = planned_good network options circuit is few in
    by_cells.read_back circuit (group_places is) text (record { is = whole.numbered; names = whole.names; good = good })
    (has_cells network options circuit is wide high few) written

pub versions_are_right : PlannedVersionsAreRight
versions_are_right = λ version blif text options file network circuit is_file is_network wide high some few is whole written.
    planned_decks_are_right blif text options file network circuit is_file is_network some few is
    (version_reads_back version text options network circuit wide high few is whole written)
