use Rattle.std.proofs.Common.{map, inl, refl}
use Rattle.std.specs.String.{string_bytes}
use Rattle.std.specs.Io.KnownBytes.{Appends}
use Rattle.command_words.specs.Asked.{asked_command}
use Rattle.dom_io.specs.Asked.{HasAsked}
use Rattle.dom_io.specs.Faults.{Rose}
use Rattle.dom_io.proofs.AskedLemmas.{HasAsked-nothing}
use Rattle.command_words.proofs.AskedOnce.{asks_in_range}
use Rattle.domsyn.specs.Top.{IsText}
use Rattle.domsyn.proofs.Answered.{answers_memory, answers_nothing, answers_outcome}
use Rattle.domsyn.proofs.AuditClauses.{finished_audited}
use Rattle.domsyn.proofs.OwnAnswers.{finished_own, reported_own}
use Rattle.domsyn.proofs.OwnAudits.{finished_yes, reported_yes}
use Rattle.domsyn.proofs.OwnTraces.{finished_sim, reported_sim}
use Rattle.domsyn.proofs.BenchClauses.{finished_bench, finished_same, reported_bench}
use Rattle.domsyn.proofs.FlatTexts.{finished_flat}
use Rattle.domsyn.proofs.HeadlineClauses.{finished_right}
use Rattle.domsyn.proofs.TopClauses.{asks_found, asks_none, asks_some, finished_complete}
use Rattle.domsyn.proofs.Rooms.{room_for_failure, room_of}
use Rattle.domsyn.proofs.ReportedFailures.{failure_reported, reported_cause, reported_complete, reported_unread}
use Rattle.domsyn.proofs.ReportedFetches.{asks_all, bench_asks_none, failed_as, finished_known, first_asks, refused_asks, unread_asks}
use Rattle.domsyn.proofs.program.top.Goals as goal

pub put_line-requires : goal.put_line-requires
put_line-requires g c = c.requires.err_room 2

pub returns-in-Err-clause-usage : goal.returns-in-Err-clause-usage
returns-in-Err-clause-usage g c = λ none. absurd (asks_some (map string_bytes c.args.words.now) c.in-Err.ensures.wanted none)

pub outcome_of-requires-clause-good_options : goal.outcome_of-requires-clause-good_options
outcome_of-requires-clause-good_options g c =
    let words = map string_bytes c.args.words.now in
    let asks = asks_found words c.in-Ok-Some.field-0 c.in-Ok-Some.command c.in-Ok-Some.field-0-is c.in-Ok-Some.ensures.command in
    asks_in_range words (asked_command c.in-Ok-Some.command) asks

pub finish-requires-clause-out_room : goal.finish-requires-clause-out_room
finish-requires-clause-out_room g c =
    let words = map string_bytes c.args.words.now in
    let asks = asks_found words c.in-Ok-Some.field-0 c.in-Ok-Some.command c.in-Ok-Some.field-0-is c.in-Ok-Some.ensures.command in
    room_of _ (IsText words) (g.K.Sink.has_room c.args.out.now) c.requires.out_room c.in-Ok.answer.text.items
    (_, record { command = asked_command c.in-Ok-Some.command; asks = asks; outcome_is = c.in-Ok.ensures.text })

pub returns-in-Ok-clause-complete : goal.returns-in-Ok-clause-complete
returns-in-Ok-clause-complete g c =
    let words = map string_bytes c.args.words.now in
    let asks = asks_found words c.in-Ok-Some.field-0 c.in-Ok-Some.command c.in-Ok-Some.field-0-is c.in-Ok-Some.ensures.command in
    finished_complete c.in-Ok.answer.text.items _ (record { command = asked_command c.in-Ok-Some.command; asks = asks; outcome_is = c.in-Ok.ensures.text }) c.finish.ensures.known c.finish.ensures.cannot_write

pub report_failure-requires-clause-failure_room : goal.report_failure-requires-clause-failure_room
report_failure-requires-clause-failure_room g c =
    let words = map string_bytes c.args.words.now in
    let asks = asks_found words c.in-Ok-Some.field-0 c.in-Ok-Some.command c.in-Ok-Some.field-0-is c.in-Ok-Some.ensures.command in
    room_for_failure (g.S.Shelf.files c.args.shelf.now) words (asked_command c.in-Ok-Some.command) _ c.in-Err-outcome_of.failure (g.E.Sink.has_room c.args.err.now)
    asks (c.in-Err-outcome_of.ensures.failed c.in-Err-outcome_of.failure refl) c.requires.refusal_room c.requires.unread_room

pub returns-clause-cannot_read : goal.returns-clause-cannot_read
returns-clause-cannot_read g c =
    let words = map string_bytes c.args.words.now in
    let asks = asks_found words c.in-Ok-Some.field-0 c.in-Ok-Some.command c.in-Ok-Some.field-0-is c.in-Ok-Some.ensures.command in
    λ three. (reported_unread {words = words} (failure_reported (asked_command c.in-Ok-Some.command) c.in-Err-outcome_of.failure asks (c.in-Err-outcome_of.ensures.failed c.in-Err-outcome_of.failure refl) c.report_failure.ensures.reported) three).0

pub returns-clause-cause : goal.returns-clause-cause
returns-clause-cause g c =
    let words = map string_bytes c.args.words.now in
    let asks = asks_found words c.in-Ok-Some.field-0 c.in-Ok-Some.command c.in-Ok-Some.field-0-is c.in-Ok-Some.ensures.command in
    reported_cause (failure_reported (asked_command c.in-Ok-Some.command) c.in-Err-outcome_of.failure asks (c.in-Err-outcome_of.ensures.failed c.in-Err-outcome_of.failure refl) c.report_failure.ensures.reported)

pub returns-clause-complete : goal.returns-clause-complete
returns-clause-complete g c =
    let words = map string_bytes c.args.words.now in
    let asks = asks_found words c.in-Ok-Some.field-0 c.in-Ok-Some.command c.in-Ok-Some.field-0-is c.in-Ok-Some.ensures.command in
    reported_complete _ (failure_reported (asked_command c.in-Ok-Some.command) c.in-Err-outcome_of.failure asks (c.in-Err-outcome_of.ensures.failed c.in-Err-outcome_of.failure refl) c.report_failure.ensures.reported)

pub returns-in-Ok-clause-bench : goal.returns-in-Ok-clause-bench
returns-in-Ok-clause-bench g c =
    let words = map string_bytes c.args.words.now in
    let asks = asks_found words c.in-Ok-Some.field-0 c.in-Ok-Some.command c.in-Ok-Some.field-0-is c.in-Ok-Some.ensures.command in
    finished_bench (g.S.Shelf.files c.args.shelf.now) words (asked_command c.in-Ok-Some.command) asks _ c.in-Ok.answer.text.items c.in-Ok.ensures.right _ c.finish.ensures.known

pub returns-in-Ok-clause-headline : goal.returns-in-Ok-clause-headline
returns-in-Ok-clause-headline g c zero =
    let words = map string_bytes c.args.words.now in
    let asks = asks_found words c.in-Ok-Some.field-0 c.in-Ok-Some.command c.in-Ok-Some.field-0-is c.in-Ok-Some.ensures.command in
    finished_right (g.S.Shelf.files c.args.shelf.now) words (asked_command c.in-Ok-Some.command) asks _ c.in-Ok.answer.text.items c.in-Ok.ensures.right _ _ zero c.finish.ensures.done

pub returns-in-Ok-clause-flat_reads_back : goal.returns-in-Ok-clause-flat_reads_back
returns-in-Ok-clause-flat_reads_back g c zero =
    let words = map string_bytes c.args.words.now in
    let asks = asks_found words c.in-Ok-Some.field-0 c.in-Ok-Some.command c.in-Ok-Some.field-0-is c.in-Ok-Some.ensures.command in
    let Puts = Appends (g.K.Sink.taken c.args.out.now) (g.K.Sink.taken c.finish.new.out) in
    finished_flat (g.S.Shelf.files c.args.shelf.now) words _ c.in-Ok.answer.text.items
    (record { command = asked_command c.in-Ok-Some.command; asks = asks; outcome_is = c.in-Ok.ensures.text }) _ Puts zero c.finish.ensures.done

pub returns-in-Ok-clause-same : goal.returns-in-Ok-clause-same
returns-in-Ok-clause-same g c zero =
    let words = map string_bytes c.args.words.now in
    let asks = asks_found words c.in-Ok-Some.field-0 c.in-Ok-Some.command c.in-Ok-Some.field-0-is c.in-Ok-Some.ensures.command in
    finished_same (g.S.Shelf.files c.args.shelf.now) words (asked_command c.in-Ok-Some.command) asks _ c.in-Ok.answer.text.items c.in-Ok.ensures.right _ _ zero c.finish.ensures.done

pub returns-clause-bench : goal.returns-clause-bench
returns-clause-bench g c =
    let words = map string_bytes c.args.words.now in
    let asks = asks_found words c.in-Ok-Some.field-0 c.in-Ok-Some.command c.in-Ok-Some.field-0-is c.in-Ok-Some.ensures.command in
    reported_bench {words = words} (failure_reported (asked_command c.in-Ok-Some.command) c.in-Err-outcome_of.failure asks (c.in-Err-outcome_of.ensures.failed c.in-Err-outcome_of.failure refl) c.report_failure.ensures.reported)

pub returns-in-Err-clause-asked_first : goal.returns-in-Err-clause-asked_first
returns-in-Err-clause-asked_first g c = λ five. inl (HasAsked-nothing (g.S.Shelf.asked c.args.shelf.now))

pub returns-in-Ok-clause-asked_all : goal.returns-in-Ok-clause-asked_all
returns-in-Ok-clause-asked_all g c =
    let words = map string_bytes c.args.words.now in
    let asks = asks_found words c.in-Ok-Some.field-0 c.in-Ok-Some.command c.in-Ok-Some.field-0-is c.in-Ok-Some.ensures.command in
    let HasAskedHere = HasAsked (g.S.Shelf.asked c.args.shelf.now) (g.S.Shelf.asked c.outcome_of.new.shelf) in
    λ one two three five. asks_all (g.S.Shelf.files c.args.shelf.now) words HasAskedHere (asked_command c.in-Ok-Some.command) asks c.in-Ok.ensures.asked

pub returns-in-Ok-clause-bench_unfetched : goal.returns-in-Ok-clause-bench_unfetched
returns-in-Ok-clause-bench_unfetched g c =
    let words = map string_bytes c.args.words.now in
    let asks = asks_found words c.in-Ok-Some.field-0 c.in-Ok-Some.command c.in-Ok-Some.field-0-is c.in-Ok-Some.ensures.command in
    bench_asks_none words _ (asked_command c.in-Ok-Some.command) asks c.in-Ok.ensures.unfetched

pub returns-clause-refused : goal.returns-clause-refused
returns-clause-refused g c =
    let words = map string_bytes c.args.words.now in
    let asks = asks_found words c.in-Ok-Some.field-0 c.in-Ok-Some.command c.in-Ok-Some.field-0-is c.in-Ok-Some.ensures.command in
    let HasAskedHere = HasAsked (g.S.Shelf.asked c.args.shelf.now) (g.S.Shelf.asked c.outcome_of.new.shelf) in
    let failed = c.in-Err-outcome_of.ensures.failed c.in-Err-outcome_of.failure refl in
    let there = c.in-Err-outcome_of.ensures.asked_failed c.in-Err-outcome_of.failure refl in
    let Rises = Rose (g.S.Shelf.faults c.args.shelf.now) (g.S.Shelf.faults c.outcome_of.new.shelf) in
    refused_asks {HasAsked = HasAskedHere} Rises _ (asked_command c.in-Ok-Some.command) c.in-Err-outcome_of.failure asks failed there c.report_failure.ensures.reported

pub returns-clause-unread : goal.returns-clause-unread
returns-clause-unread g c =
    let words = map string_bytes c.args.words.now in
    let asks = asks_found words c.in-Ok-Some.field-0 c.in-Ok-Some.command c.in-Ok-Some.field-0-is c.in-Ok-Some.ensures.command in
    let HasAskedHere = HasAsked (g.S.Shelf.asked c.args.shelf.now) (g.S.Shelf.asked c.outcome_of.new.shelf) in
    let failed = c.in-Err-outcome_of.ensures.failed c.in-Err-outcome_of.failure refl in
    let there = c.in-Err-outcome_of.ensures.asked_failed c.in-Err-outcome_of.failure refl in
    let Rises = Rose (g.S.Shelf.faults c.args.shelf.now) (g.S.Shelf.faults c.outcome_of.new.shelf) in
    unread_asks {HasAsked = HasAskedHere} Rises _ (asked_command c.in-Ok-Some.command) c.in-Err-outcome_of.failure asks failed there c.report_failure.ensures.reported

pub returns-clause-asked_first : goal.returns-clause-asked_first
returns-clause-asked_first g c =
    let words = map string_bytes c.args.words.now in
    let asks = asks_found words c.in-Ok-Some.field-0 c.in-Ok-Some.command c.in-Ok-Some.field-0-is c.in-Ok-Some.ensures.command in
    let HasAskedHere = HasAsked (g.S.Shelf.asked c.args.shelf.now) (g.S.Shelf.asked c.outcome_of.new.shelf) in
    let failed = c.in-Err-outcome_of.ensures.failed c.in-Err-outcome_of.failure refl in
    let there = c.in-Err-outcome_of.ensures.asked_failed c.in-Err-outcome_of.failure refl in
    λ five. first_asks {HasAsked = HasAskedHere} (asked_command c.in-Ok-Some.command) c.in-Err-outcome_of.failure asks there

pub returns-clause-asked_all : goal.returns-clause-asked_all
returns-clause-asked_all g c = λ one two three five. absurd (failed_as _ c.in-Err-outcome_of.failure c.report_failure.ensures.reported one three five)

pub returns-clause-bench_unfetched : goal.returns-clause-bench_unfetched
returns-clause-bench_unfetched g c =
    let words = map string_bytes c.args.words.now in
    let asks = asks_found words c.in-Ok-Some.field-0 c.in-Ok-Some.command c.in-Ok-Some.field-0-is c.in-Ok-Some.ensures.command in
    bench_asks_none words _ (asked_command c.in-Ok-Some.command) asks c.in-Err-outcome_of.ensures.unfetched

pub returns-in-Err-clause-asked_all : goal.returns-in-Err-clause-asked_all
returns-in-Err-clause-asked_all g c = λ one two three five. absurd (five c.report_memory.ensures.status)

pub returns-in-Ok-None-clause-asked_all : goal.returns-in-Ok-None-clause-asked_all
returns-in-Ok-None-clause-asked_all g c =
    λ one two three five. absurd (two refl)

pub returns-in-Ok-clause-asked_first : goal.returns-in-Ok-clause-asked_first
returns-in-Ok-clause-asked_first g c =
    λ five. absurd (finished_known c.in-Ok.answer.ending _ c.finish.ensures.known five)

pub returns-in-Ok-clause-own : goal.returns-in-Ok-clause-own
returns-in-Ok-clause-own g c =
    let words = map string_bytes c.args.words.now in
    let asks = asks_found words c.in-Ok-Some.field-0 c.in-Ok-Some.command c.in-Ok-Some.field-0-is c.in-Ok-Some.ensures.command in
    let Puts = Appends (g.K.Sink.taken c.args.out.now) (g.K.Sink.taken c.finish.new.out) in
    finished_own (g.S.Shelf.files c.args.shelf.now) words _ c.in-Ok.answer.text.items
    (record { command = asked_command c.in-Ok-Some.command; asks = asks; outcome_is = c.in-Ok.ensures.text }) _ Puts c.finish.ensures.known c.finish.ensures.done

pub returns-clause-own : goal.returns-clause-own
returns-clause-own g c =
    let words = map string_bytes c.args.words.now in
    let asks = asks_found words c.in-Ok-Some.field-0 c.in-Ok-Some.command c.in-Ok-Some.field-0-is c.in-Ok-Some.ensures.command in
    let Puts = Appends (g.K.Sink.taken c.args.out.now) (g.K.Sink.taken c.args.out.now) in
    reported_own {words = words} Puts (failure_reported (asked_command c.in-Ok-Some.command) c.in-Err-outcome_of.failure asks (c.in-Err-outcome_of.ensures.failed c.in-Err-outcome_of.failure refl) c.report_failure.ensures.reported)

pub returns-in-Ok-clause-own_sim : goal.returns-in-Ok-clause-own_sim
returns-in-Ok-clause-own_sim g c =
    let words = map string_bytes c.args.words.now in
    let asks = asks_found words c.in-Ok-Some.field-0 c.in-Ok-Some.command c.in-Ok-Some.field-0-is c.in-Ok-Some.ensures.command in
    let Puts = Appends (g.K.Sink.taken c.args.out.now) (g.K.Sink.taken c.finish.new.out) in
    finished_sim (g.S.Shelf.files c.args.shelf.now) words _ c.in-Ok.answer.text.items
    (record { command = asked_command c.in-Ok-Some.command; asks = asks; outcome_is = c.in-Ok.ensures.text }) _ Puts c.finish.ensures.known c.finish.ensures.done

pub returns-clause-own_sim : goal.returns-clause-own_sim
returns-clause-own_sim g c =
    let words = map string_bytes c.args.words.now in
    let asks = asks_found words c.in-Ok-Some.field-0 c.in-Ok-Some.command c.in-Ok-Some.field-0-is c.in-Ok-Some.ensures.command in
    let Puts = Appends (g.K.Sink.taken c.args.out.now) (g.K.Sink.taken c.args.out.now) in
    reported_sim {words = words} Puts (failure_reported (asked_command c.in-Ok-Some.command) c.in-Err-outcome_of.failure asks (c.in-Err-outcome_of.ensures.failed c.in-Err-outcome_of.failure refl) c.report_failure.ensures.reported)

pub returns-in-Ok-clause-audited : goal.returns-in-Ok-clause-audited
returns-in-Ok-clause-audited g c zero =
    let words = map string_bytes c.args.words.now in
    let asks = asks_found words c.in-Ok-Some.field-0 c.in-Ok-Some.command c.in-Ok-Some.field-0-is c.in-Ok-Some.ensures.command in
    let Puts = Appends (g.K.Sink.taken c.args.out.now) (g.K.Sink.taken c.finish.new.out) in
    finished_audited (g.S.Shelf.files c.args.shelf.now) words (asked_command c.in-Ok-Some.command) asks _ c.in-Ok.answer.text.items c.in-Ok.ensures.right _ Puts zero
    c.finish.ensures.known c.finish.ensures.done

pub returns-in-Ok-clause-own_audit : goal.returns-in-Ok-clause-own_audit
returns-in-Ok-clause-own_audit g c =
    let words = map string_bytes c.args.words.now in
    let asks = asks_found words c.in-Ok-Some.field-0 c.in-Ok-Some.command c.in-Ok-Some.field-0-is c.in-Ok-Some.ensures.command in
    let Puts = Appends (g.K.Sink.taken c.args.out.now) (g.K.Sink.taken c.finish.new.out) in
    finished_yes (g.S.Shelf.files c.args.shelf.now) words _ c.in-Ok.answer.text.items
    (record { command = asked_command c.in-Ok-Some.command; asks = asks; outcome_is = c.in-Ok.ensures.text }) _ Puts c.finish.ensures.known c.finish.ensures.done

pub returns-clause-own_audit : goal.returns-clause-own_audit
returns-clause-own_audit g c =
    let words = map string_bytes c.args.words.now in
    let asks = asks_found words c.in-Ok-Some.field-0 c.in-Ok-Some.command c.in-Ok-Some.field-0-is c.in-Ok-Some.ensures.command in
    let Puts = Appends (g.K.Sink.taken c.args.out.now) (g.K.Sink.taken c.args.out.now) in
    reported_yes {words = words} Puts (failure_reported (asked_command c.in-Ok-Some.command) c.in-Err-outcome_of.failure asks (c.in-Err-outcome_of.ensures.failed c.in-Err-outcome_of.failure refl) c.report_failure.ensures.reported)

pub returns-in-Err-clause-answered : goal.returns-in-Err-clause-answered
returns-in-Err-clause-answered g c = answers_memory _ (map string_bytes c.args.words.now) _ _ _ c.report_memory.ensures.status

pub returns-in-Ok-None-clause-answered : goal.returns-in-Ok-None-clause-answered
returns-in-Ok-None-clause-answered g c = answers_nothing _ (map string_bytes c.args.words.now) _ _ _ (asks_none (map string_bytes c.args.words.now) c.in-Ok-None.field-0 c.in-Ok-None.field-0-is c.in-Ok-None.ensures.command)

pub returns-in-Ok-clause-answered : goal.returns-in-Ok-clause-answered
returns-in-Ok-clause-answered g c =
    let words = map string_bytes c.args.words.now in
    let asks = asks_found words c.in-Ok-Some.field-0 c.in-Ok-Some.command c.in-Ok-Some.field-0-is c.in-Ok-Some.ensures.command in
    answers_outcome _ words _ _ _ (finished_complete c.in-Ok.answer.text.items _ (record { command = asked_command c.in-Ok-Some.command; asks = asks; outcome_is = c.in-Ok.ensures.text }) c.finish.ensures.known c.finish.ensures.cannot_write)

pub returns-clause-answered : goal.returns-clause-answered
returns-clause-answered g c =
    let words = map string_bytes c.args.words.now in
    let asks = asks_found words c.in-Ok-Some.field-0 c.in-Ok-Some.command c.in-Ok-Some.field-0-is c.in-Ok-Some.ensures.command in
    answers_outcome _ words _ _ _ (reported_complete _ (failure_reported (asked_command c.in-Ok-Some.command) c.in-Err-outcome_of.failure asks (c.in-Err-outcome_of.ensures.failed c.in-Err-outcome_of.failure refl) c.report_failure.ensures.reported))
