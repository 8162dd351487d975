-- Why a command has no text, and what is reported of it.
use Rattle.std.specs.Prelude.{ℕ, ◌≡◌, ◌⊎◌, List, [], None, Some, length}
use Rattle.command_words.specs.Commands.{Command, Synth, Flat, Run, Sim, Cosim, Report, Bench, Audit}
use Rattle.domsyn.specs.declared.failure.Failure.{Failure}
use Rattle.domsyn.specs.declared.failure.Failure.TheVariants as failure
use Rattle.domsyn.specs.declared.refusal.Refusal.{Refusal}
use Rattle.domsyn.specs.declared.refusal.Refusal.TheVariants.{TooLong}
use Rattle.domsyn.specs.Outcomes.{Files, IsFirstTooLong, IsOutcome, IsTooLong, IsUnread, IsUnreadOf, Refused as RefusedFor}
use Rattle.domsyn.specs.Refusals.{about, cause_of, refusal_line}
use Rattle.domsyn.specs.Top.{line_of, unread_line}
use Rattle.command_answers.specs.declared.fault.Fault.{Fault}

-- why a command has no text over these files: a file is refused, or one can't be read, and the shelf's count rose;
-- that it's out of memory has no cause
abbrev pub IsFailureOf : Files → Command → Type 0 → Failure → Type 0
IsFailureOf files command Rises (failure.Refused file why) = IsOutcome files command (RefusedFor file.now why)
IsFailureOf files command Rises (failure.Unread file) = IsUnread files command file.now × Rises
IsFailureOf files command Rises failure.Memory = Unit {0}

-- why a file has no bytes: it has too many, or it can't be read, and the shelf's count rose; or out of memory
abbrev pub IsUnfetched : Files → List ℕ → Type 0 → Failure → Type 0
IsUnfetched files name Rises (failure.Refused file why) = (file.now ≡ name) × (why ≡ TooLong) × IsTooLong files name
IsUnfetched files name Rises (failure.Unread file) = (file.now ≡ name) × Rises
IsUnfetched files name Rises failure.Memory = Unit {0}

-- why not all of these files have bytes, which are fetched in order: one has too many, or can't be read, and the shelf's count rose
abbrev pub AreUnfetched : Files → List (List ℕ) → Type 0 → Failure → Type 0
AreUnfetched files names Rises (failure.Refused file why) = (why ≡ TooLong) × IsFirstTooLong files names file.now
AreUnfetched files names Rises (failure.Unread file) = IsUnreadOf files names file.now × Rises
AreUnfetched files names Rises failure.Memory = Unit {0}

-- the file of a command that a cause is about
abbrev pub about_of : Command → Refusal → List ℕ
about_of (Synth file options method) why = about file file file why
about_of (Flat file) why = about file file file why
about_of (Run file stim) why = about file file stim why
about_of (Sim deck stim options clocking) why = about deck deck stim why
about_of (Cosim file deck stim order seed) why = about file deck stim why
about_of (Report file options) why = about file file file why
about_of (Bench seed size options) why = []
about_of (Audit deck) why = about deck deck deck why

-- why a command has no text over these files: the cause that is reported of a fault is its outcome; want of memory has no cause
abbrev pub IsCommandFault : Files → Command → Fault → Type 0
IsCommandFault files command fault =
    (why : Refusal) → cause_of fault ≡ Some why → IsOutcome files command (RefusedFor (about_of command why) why)

-- what is reported of a fault of a file, a deck and a stimulus of these names: a cause, of the one that it is about
abbrev pub IsFailureNamed : (file deck stim : List ℕ) → Fault → Failure → Type 0
IsFailureNamed file deck stim fault (failure.Refused name why) = (cause_of fault ≡ Some why) × (name.now ≡ about file deck stim why)
IsFailureNamed file deck stim fault (failure.Unread name) = ⊥
IsFailureNamed file deck stim fault failure.Memory = cause_of fault ≡ None

-- what is reported of a fault of a command: a cause, of the file of the command that it is about
abbrev pub IsFailureFor : Command → Fault → Failure → Type 0
IsFailureFor command fault (failure.Refused name why) = (cause_of fault ≡ Some why) × (name.now ≡ about_of command why)
IsFailureFor command fault (failure.Unread name) = ⊥
IsFailureFor command fault failure.Memory = cause_of fault ≡ None

-- room for the line that reports a failure
abbrev pub HasRoomForFailure : Failure → (ℕ → Type 0) → Type 0
HasRoomForFailure (failure.Refused file why) room = room (length (refusal_line file.now why))
HasRoomForFailure (failure.Unread file) room = room (length (unread_line file.now))
HasRoomForFailure failure.Memory room = Unit {0}

-- the status of a failure and the line that reports it; it may run out of memory in the place of a refusal
abbrev pub IsReportedAt : Failure → ℕ → (List ℕ → Type 0) → Type 0
IsReportedAt (failure.Refused file why) status Reports =
    ((status ≡ 1) × Reports (refusal_line file.now why)) ⊎ ((status ≡ 5) × Reports (line_of 5))
IsReportedAt (failure.Unread file) status Reports = (status ≡ 3) × Reports (unread_line file.now)
IsReportedAt failure.Memory status Reports = (status ≡ 5) × Reports (line_of 5)
