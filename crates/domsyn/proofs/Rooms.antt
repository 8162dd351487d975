-- Room for the text that the words ask for, and for the line of a failure.
use Rattle.std.proofs.Common.{ℕ, List, None, Some, refl, length}
use Rattle.domsyn.specs.declared.failure.Failure.{Failure}
use Rattle.domsyn.specs.declared.failure.Failure.TheVariants as failure
use Rattle.command_words.specs.Commands.{Asks, Command}
use Rattle.domsyn.specs.Outcomes.{Files}
use Rattle.domsyn.specs.Failures.{HasRoomForFailure, IsFailureOf}
use Rattle.domsyn.specs.Refusals.{refusal_line}
use Rattle.domsyn.specs.Top.{HasRoomFor, IsRefusalLine, MeetsUnread, unread_line}

pub room_of : (files : Files) (Any : Files → List ℕ → Type 0) (room : ℕ → Type 0) → HasRoomFor files Any room → (bytes : List ℕ) → Any files bytes → room (length bytes)
room_of None Any room has bytes any = has (length bytes)
room_of (Some told) Any room has bytes any = has bytes any

pub room_for_failure : (files : Files) (words : List (List ℕ)) (command : Command) (Rises : Type 0) (why : Failure) (room : ℕ → Type 0) → Asks words command → IsFailureOf files command Rises why
    → HasRoomFor files (IsRefusalLine words) room → ((file : List ℕ) → MeetsUnread files words file → room (length (unread_line file))) → HasRoomForFailure why room
room_for_failure files words command Rises (failure.Refused file why) room asks is refusal unread =
    room_of files (IsRefusalLine words) room refusal (refusal_line file.now why) (file.now, (why, record { command = command; asks = asks; outcome_is = is }, refl))
room_for_failure files words command Rises (failure.Unread file) room asks is refusal unread = unread file.now (record { command = command; asks = asks; unread = is.0 })
room_for_failure files words command Rises failure.Memory room asks is refusal unread = tt
