use Rattle.std.proofs.Common.{◌≡◌, ◌∙◌, ◌++◌, ℕ, List, [], ◌∷◌, Bor, map, take, drop, slice_index_or, ap, subst, sym, suc, arith}
use Rattle.std.proofs.lemmas.List.{get_or-map, length-map, map-append}
use Rattle.std.proofs.lemmas.List.Elements.{All-get_or}
use Rattle.std.proofs.lemmas.Result.{err_from_is_err_and}
use Rattle.dom_io.specs.Asked.{HasAsked}
use Rattle.dom_io.specs.Faults.{Rose}
use Rattle.domsyn.specs.declared.failure.Failure.TheVariants.{Memory}
use Rattle.domsyn.specs.Failures.{AreUnfetched, IsUnfetched}
use Rattle.domsyn.specs.Fetches.{AreFiles, AsksAt, all_given}
use Rattle.domsyn.specs.Outcomes.{Files, IsFile}
use Rattle.domsyn.proofs.FetchedFiles.{asks_behind, asks_forgotten, asks_then, bytes_of, files_then, name_of, names_split, more_split, one_more, unfetched_behind}
use Rattle.domsyn.proofs.fetch.fetch_all.Goals as goal

-- the name that a place has where there is none
abbrev nowhere : Bor (List ℕ)
nowhere = record { ref_ptr = (0, 0); now = [] }

pub fetch-requires : goal.fetch-requires
fetch-requires g c =
    let i = c.loop-name.name-index in
    let names = c.args.names.now in
    let lt = c.loop-name-test.true in
    let same = get_or-map name_of names i nowhere [] lt in
    let asked = All-get_or (g.S.Shelf.may_ask c.args.shelf.now) (map name_of names) i [] (omega (arith, length-map names name_of, lt)) c.requires.names in
    record { name = (c.loop-name.invariant.same_names (name_of (slice_index_or names i nowhere))).1 (subst (g.S.Shelf.may_ask c.args.shelf.now) same asked) }

pub returns-in_err-bytes-clause-failed : goal.returns-in_err-bytes-clause-failed
returns-in_err-bytes-clause-failed g c failure is =
    let p = err_from_is_err_and c.from_residual.result c.from_residual.ensures.1 in
    let a = p.1 in
    let b = p.2 in
    let inv = c.loop-name.invariant in
    let i = c.loop-name.name-index in
    let names = c.args.names.now in
    let files = g.S.Shelf.files c.args.shelf.now in
    let name = name_of (slice_index_or names i nowhere) in
    let split = names_split name_of names i nowhere c.loop-name-test.true in
    let Rises = Rose (g.S.Shelf.faults c.args.shelf.now) (g.S.Shelf.faults c.fetch.new.shelf) in
    let RisesHere = Rose (g.S.Shelf.faults c.loop-name.shelf) (g.S.Shelf.faults c.fetch.new.shelf) in
    let later = inv.later in
    let here : IsUnfetched files name RisesHere failure =
    subst (λ (known : Files). IsUnfetched known name RisesHere failure) inv.same_files (c.in_err-bytes.ensures.failed failure (cc)) in
    subst (λ (l : List (List ℕ)). AreUnfetched files l Rises failure) (sym split)
    (unfetched_behind files (map name_of (take i names)) (map bytes_of c.loop-name.files.items) (map name_of (drop (suc i) names)) name inv.read Rises RisesHere failure
    (λ rose. omega (arith, later, rose)) here)

pub returns-in_err-bytes-clause-asked_failed : goal.returns-in_err-bytes-clause-asked_failed
returns-in_err-bytes-clause-asked_failed g c failure is =
    let p = err_from_is_err_and c.from_residual.result c.from_residual.ensures.1 in
    let a = p.1 in
    let b = p.2 in
    let inv = c.loop-name.invariant in
    let i = c.loop-name.name-index in
    let names = c.args.names.now in
    let files = g.S.Shelf.files c.args.shelf.now in
    let start = g.S.Shelf.asked c.args.shelf.now in
    let middle = g.S.Shelf.asked c.loop-name.shelf in
    let end = g.S.Shelf.asked c.fetch.new.shelf in
    let name = name_of (slice_index_or names i nowhere) in
    let split = names_split name_of names i nowhere c.loop-name-test.true in
    let RisesHere = Rose (g.S.Shelf.faults c.loop-name.shelf) (g.S.Shelf.faults c.fetch.new.shelf) in
    let here : IsUnfetched files name RisesHere failure =
    subst (λ (known : Files). IsUnfetched known name RisesHere failure) inv.same_files (c.in_err-bytes.ensures.failed failure (cc)) in
    subst (λ (l : List (List ℕ)). AsksAt files l (HasAsked start end) failure) (sym split)
    (asks_behind files start middle (map name_of (take i names)) (map bytes_of c.loop-name.files.items) inv.read inv.asked end (map name_of (drop (suc i) names)) name RisesHere failure here
    (c.in_err-bytes.ensures.asked_failed failure (cc)))

pub returns-in_err-push-clause-asked_failed : goal.returns-in_err-push-clause-asked_failed
returns-in_err-push-clause-asked_failed g c failure is =
    let p = err_from_is_err_and c.from_residual-in_err-push.result c.from_residual-in_err-push.ensures.1 in
    let a = p.1 in
    let b = p.2 in
    let inv = c.loop-name.invariant in
    let i = c.loop-name.name-index in
    let names = c.args.names.now in
    let files = g.S.Shelf.files c.args.shelf.now in
    let start = g.S.Shelf.asked c.args.shelf.now in
    let middle = g.S.Shelf.asked c.loop-name.shelf in
    let end = g.S.Shelf.asked c.fetch.new.shelf in
    let before = map name_of (take i names) in
    let read = map bytes_of c.loop-name.files.items in
    let name = name_of (slice_index_or names i nowhere) in
    let bytes = c.in_ok-bytes.bytes.items in
    let lt = c.loop-name-test.true in
    let more = one_more name_of names i nowhere lt in
    let is_file : IsFile files name bytes = subst (λ (known : Files). IsFile known name bytes) inv.same_files c.in_ok-bytes.ensures.bytes in
    let memory : Memory ≡ failure = cc in
    subst (AsksAt files (map name_of names) (HasAsked start end)) memory
    (subst (λ (l : List (List ℕ)). AsksAt files l (HasAsked start end) Memory) (sym (more_split name_of names i nowhere lt))
    (subst (λ (l : List (List ℕ)). AsksAt files (l ++ map name_of (drop (suc i) names)) (HasAsked start end) Memory) (sym more)
    (asks_forgotten files start end (before ++ (name ∷ [])) (read ++ (bytes ∷ [])) (files_then files before read name bytes inv.read is_file)
    (asks_then files start middle end before read name bytes inv.read inv.asked c.in_ok-bytes.ensures.asked) (map name_of (drop (suc i) names)))))

pub loop-name-preserved : goal.loop-name-preserved
loop-name-preserved g c =
    let inv = c.loop-name.invariant in
    let i = c.loop-name.name-index in
    let names = c.args.names.now in
    let files = g.S.Shelf.files c.args.shelf.now in
    let start = g.S.Shelf.asked c.args.shelf.now in
    let middle = g.S.Shelf.asked c.loop-name.shelf in
    let end = g.S.Shelf.asked c.fetch.new.shelf in
    let before = map name_of (take i names) in
    let read = map bytes_of c.loop-name.files.items in
    let name = name_of (slice_index_or names i nowhere) in
    let bytes = c.in_ok-bytes.bytes.items in
    let more = one_more name_of names i nowhere c.loop-name-test.true in
    let is_file : IsFile files name bytes = subst (λ (known : Files). IsFile known name bytes) inv.same_files c.in_ok-bytes.ensures.bytes in
    let pushed : map bytes_of c.push.new.self.items ≡ read ++ (bytes ∷ []) = ap (map bytes_of) c.in_ok-push.ensures.items ∙ map-append bytes_of c.loop-name.files.items (c.in_ok-bytes.bytes ∷ []) in
    let later = inv.later in
    let later_here = c.in_ok-bytes.ensures.later in
    record {
      read =
          subst (λ (l : List (List ℕ)). AreFiles files l (map bytes_of c.push.new.self.items)) (sym more)
          (subst (AreFiles files (before ++ (name ∷ []))) (sym pushed) (files_then files before read name bytes inv.read is_file));
      asked =
          subst (λ (l : List (List ℕ)). HasAsked start end (all_given l (map bytes_of c.push.new.self.items))) (sym more)
          (subst (λ (bs : List (List ℕ)). HasAsked start end (all_given (before ++ (name ∷ [])) bs)) (sym pushed)
          (asks_then files start middle end before read name bytes inv.read inv.asked c.in_ok-bytes.ensures.asked));
      same_files = c.in_ok-bytes.ensures.same_files ∙ inv.same_files;
      same_names = λ n.
          let here = c.in_ok-bytes.ensures.same_names n in
          let there = inv.same_names n in ((λ x. there.0 (here.0 x)), (λ x. here.1 (there.1 x)));
      later = omega (arith, later, later_here);
      untouched = λ none. absurd (omega (arith, none));
    }
