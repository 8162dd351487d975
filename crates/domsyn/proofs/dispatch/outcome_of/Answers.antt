use Rattle.std.proofs.Common.{◌≡◌, ◌∙◌, List, [], ℕ, Vec, Global, All, inl, map, ap, refl, subst, sym}
use Rattle.std.proofs.lemmas.Result.{err_from_is_err_and}
use Rattle.dom_io.specs.Asked.{HasAsked}
use Rattle.dom_io.specs.Faults.{Rose}
use Rattle.dom_io.proofs.AskedLemmas.{HasAsked-nothing}
use Rattle.command_words.specs.Asked.{asked_command}
use Rattle.command_words.specs.Commands.{files_of}
use Rattle.domsyn.specs.declared.failure.Failure.TheVariants.{Memory}
use Rattle.domsyn.specs.Failures.{AreUnfetched, IsFailureFor}
use Rattle.domsyn.specs.Fetches.{AreFiles, AsksAt, all_given}
use Rattle.domsyn.proofs.CommandFaults.{command_unfetched, fault_failed, later_fault}
use Rattle.domsyn.proofs.FetchedFiles.{asks_whole, bytes_of, files_untold, name_of}
use Rattle.domsyn.proofs.dispatch.outcome_of.Goals as goal

pub fetch_all-requires : goal.fetch_all-requires
fetch_all-requires g c =
    let names = ap (map name_of) c.deref.ensures.value ∙ c.in_ok-names.ensures in
    record { names = subst (λ (l : List (List ℕ)). All (g.S.Shelf.may_ask c.args.shelf.now) l) (sym names) c.requires.names }

pub returns-in_err-names-clause-asked_failed : goal.returns-in_err-names-clause-asked_failed
returns-in_err-names-clause-asked_failed g c failure is =
    let p = err_from_is_err_and c.from_residual.result c.from_residual.ensures.1 in
    let a = p.1 in
    let b = p.2 in
    let files = g.S.Shelf.files c.args.shelf.now in
    let asked = g.S.Shelf.asked c.args.shelf.now in
    let memory : Memory ≡ failure = cc in
    subst (AsksAt files (files_of (asked_command c.args.command.now)) (HasAsked asked asked)) memory ([], HasAsked-nothing asked, inl refl)

pub returns-in_err-files-clause-failed : goal.returns-in_err-files-clause-failed
returns-in_err-files-clause-failed g c failure is =
    let p = err_from_is_err_and c.from_residual-in_err-files.result c.from_residual-in_err-files.ensures.1 in
    let a = p.1 in
    let b = p.2 in
    let names = ap (map name_of) c.deref.ensures.value ∙ c.in_ok-names.ensures in
    let files = g.S.Shelf.files c.args.shelf.now in
    let Rises = Rose (g.S.Shelf.faults c.args.shelf.now) (g.S.Shelf.faults c.fetch_all.new.shelf) in
    command_unfetched files (asked_command c.args.command.now) Rises failure
    (subst (λ (l : List (List ℕ)). AreUnfetched files l Rises failure) names (c.in_err-files.ensures.failed failure (cc)))

pub returns-in_err-files-clause-asked_failed : goal.returns-in_err-files-clause-asked_failed
returns-in_err-files-clause-asked_failed g c failure is =
    let p = err_from_is_err_and c.from_residual-in_err-files.result c.from_residual-in_err-files.ensures.1 in
    let a = p.1 in
    let b = p.2 in
    let names = ap (map name_of) c.deref.ensures.value ∙ c.in_ok-names.ensures in
    let files = g.S.Shelf.files c.args.shelf.now in
    let HasAskedHere = HasAsked (g.S.Shelf.asked c.args.shelf.now) (g.S.Shelf.asked c.fetch_all.new.shelf) in
    subst (λ (l : List (List ℕ)). AsksAt files l HasAskedHere failure) names (c.in_err-files.ensures.asked_failed failure (cc))

pub returns-in_err-files-clause-unfetched : goal.returns-in_err-files-clause-unfetched
returns-in_err-files-clause-unfetched g c = λ none.
    let names = ap (map name_of) c.deref.ensures.value ∙ c.in_ok-names.ensures in
    c.in_err-files.ensures.unfetched (names ∙ none)

pub answer_of-requires-clause-given : goal.answer_of-requires-clause-given
answer_of-requires-clause-given g c =
    let names = ap (map name_of) c.deref.ensures.value ∙ c.in_ok-names.ensures in
    let files = g.S.Shelf.files c.args.shelf.now in
    files_untold files (files_of (asked_command c.args.command.now)) (map bytes_of c.deref-2.result.now)
    (subst (λ (vs : List (Vec ℕ Global)). AreFiles files (files_of (asked_command c.args.command.now)) (map bytes_of vs)) (sym c.deref-2.ensures.value)
    (subst (λ (l : List (List ℕ)). AreFiles files l (map bytes_of c.in_ok-files.files.items)) names c.in_ok-files.ensures.bytes))

pub returns-in-Ok-clause-text : goal.returns-in-Ok-clause-text
returns-in-Ok-clause-text g c =
    let names = ap (map name_of) c.deref.ensures.value ∙ c.in_ok-names.ensures in
    let files = g.S.Shelf.files c.args.shelf.now in
    c.in-Ok.ensures.text files
    (subst (λ (vs : List (Vec ℕ Global)). AreFiles files (files_of (asked_command c.args.command.now)) (map bytes_of vs)) (sym c.deref-2.ensures.value)
    (subst (λ (l : List (List ℕ)). AreFiles files l (map bytes_of c.in_ok-files.files.items)) names c.in_ok-files.ensures.bytes))

pub returns-in-Ok-clause-right : goal.returns-in-Ok-clause-right
returns-in-Ok-clause-right g c =
    let names = ap (map name_of) c.deref.ensures.value ∙ c.in_ok-names.ensures in
    let files = g.S.Shelf.files c.args.shelf.now in
    c.in-Ok.ensures.right files
    (subst (λ (vs : List (Vec ℕ Global)). AreFiles files (files_of (asked_command c.args.command.now)) (map bytes_of vs)) (sym c.deref-2.ensures.value)
    (subst (λ (l : List (List ℕ)). AreFiles files l (map bytes_of c.in_ok-files.files.items)) names c.in_ok-files.ensures.bytes))

pub returns-in-Ok-clause-asked : goal.returns-in-Ok-clause-asked
returns-in-Ok-clause-asked g c =
    let names = ap (map name_of) c.deref.ensures.value ∙ c.in_ok-names.ensures in
    let files = g.S.Shelf.files c.args.shelf.now in
    let bytes = map bytes_of c.in_ok-files.files.items in
    let HasAskedHere = HasAsked (g.S.Shelf.asked c.args.shelf.now) (g.S.Shelf.asked c.fetch_all.new.shelf) in (
      all_given (files_of (asked_command c.args.command.now)) bytes,
      subst (λ (l : List (List ℕ)). HasAskedHere (all_given l bytes)) names c.in_ok-files.ensures.asked,
      record { bytes = bytes; asked_are = refl; read = subst (λ (l : List (List ℕ)). AreFiles files l bytes) names c.in_ok-files.ensures.bytes },
    )

pub returns-in-Ok-clause-unfetched : goal.returns-in-Ok-clause-unfetched
returns-in-Ok-clause-unfetched g c = λ none.
    let names = ap (map name_of) c.deref.ensures.value ∙ c.in_ok-names.ensures in
    c.in_ok-files.ensures.unfetched (names ∙ none)

pub returns-clause-failed : goal.returns-clause-failed
returns-clause-failed g c failure is =
    let same : c.failure_of.result ≡ failure = cc in
    let names = ap (map name_of) c.deref.ensures.value ∙ c.in_ok-names.ensures in
    let files = g.S.Shelf.files c.args.shelf.now in
    let Rises = Rose (g.S.Shelf.faults c.args.shelf.now) (g.S.Shelf.faults c.fetch_all.new.shelf) in
    fault_failed files (asked_command c.args.command.now) Rises c.in-Err.fault failure
    (c.in-Err.ensures.refused c.in-Err.fault refl files
    (subst (λ (vs : List (Vec ℕ Global)). AreFiles files (files_of (asked_command c.args.command.now)) (map bytes_of vs)) (sym c.deref-2.ensures.value)
    (subst (λ (l : List (List ℕ)). AreFiles files l (map bytes_of c.in_ok-files.files.items)) names c.in_ok-files.ensures.bytes)))
    (subst (IsFailureFor (asked_command c.args.command.now) c.in-Err.fault) same c.failure_of.ensures)

pub returns-clause-asked_failed : goal.returns-clause-asked_failed
returns-clause-asked_failed g c failure is =
    let same : c.failure_of.result ≡ failure = cc in
    let names = ap (map name_of) c.deref.ensures.value ∙ c.in_ok-names.ensures in
    let files = g.S.Shelf.files c.args.shelf.now in
    let bytes = map bytes_of c.in_ok-files.files.items in
    let before = g.S.Shelf.asked c.args.shelf.now in
    let after = g.S.Shelf.asked c.fetch_all.new.shelf in
    asks_whole files before after (files_of (asked_command c.args.command.now)) bytes
    (subst (λ (l : List (List ℕ)). AreFiles files l bytes) names c.in_ok-files.ensures.bytes)
    (subst (λ (l : List (List ℕ)). HasAsked before after (all_given l bytes)) names c.in_ok-files.ensures.asked) failure
    (later_fault (asked_command c.args.command.now) c.in-Err.fault failure (subst (IsFailureFor (asked_command c.args.command.now) c.in-Err.fault) same c.failure_of.ensures))

pub returns-clause-unfetched : goal.returns-clause-unfetched
returns-clause-unfetched g c = λ none.
    let names = ap (map name_of) c.deref.ensures.value ∙ c.in_ok-names.ensures in
    c.in_ok-files.ensures.unfetched (names ∙ none)
