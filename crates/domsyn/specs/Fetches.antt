-- Which files a command asks for: those of its words in their order, each once, and none after one that isn't given or is too long.
use Rattle.std.specs.Prelude.{ℕ, ◌<◌, ◌≡◌, ◌≢◌, ◌⊎◌, ◌++◌, List, [], ◌∷◌, Option, None, Some, length, map}
use Rattle.std.specs.List.{zip}
use Rattle.dom_io.specs.Asked.{Asking}
use Rattle.dom_io.specs.Held.{file_limit}
use Rattle.command_words.specs.Commands.{Asks, Command, files_of}
use Rattle.domsyn.specs.declared.failure.Failure.{Failure}
use Rattle.domsyn.specs.declared.failure.Failure.TheVariants as failure
use Rattle.domsyn.specs.declared.refusal.Refusal.{Refusal}
use Rattle.domsyn.specs.declared.refusal.Refusal.TheVariants.{TooLong}
use Rattle.domsyn.specs.Outcomes.{Files, IsFile}

-- the files of these names have these bytes, none more than a file may have
abbrev pub AreFiles : Files → List (List ℕ) → List (List ℕ) → Type 0
AreFiles files [] [] = Unit {0}
AreFiles files [] (bytes ∷ more) = ⊥
AreFiles files (name ∷ names) [] = ⊥
AreFiles files (name ∷ names) (bytes ∷ more) = IsFile files name bytes × AreFiles files names more

-- bytes for each file of a command, in order, none more than a file may have
abbrev pub IsFiles : Command → List (List ℕ) → Type 0
IsFiles command bytes = AreFiles None (files_of command) bytes

-- these names were asked for, and of each so many bytes were given as these are
abbrev pub all_given : List (List ℕ) → List (List ℕ) → List Asking
all_given names bytes = zip names (map (λ (b : List ℕ). Some (length b)) bytes)

-- of the names of files the first ones were asked for, in order, up to this one, of whose file so many bytes were given, or none; that
-- of each before it was given, and isn't too long
pub record IsAskedUpTo (files : Files) (names : List (List ℕ)) (asked : List Asking) (last : List ℕ) (given : Option ℕ) : Type 0 where
  pub before : List (List ℕ)
  pub bytes : List (List ℕ)
  pub after : List (List ℕ)
  pub names_are : names ≡ before ++ (last ∷ after)
  pub asked_are : asked ≡ all_given before bytes ++ ((last, given) ∷ [])
  pub read : AreFiles files before bytes

-- all of them were asked for, in order; the file of each was given, and isn't too long
pub record AreAllAsked (files : Files) (names : List (List ℕ)) (asked : List Asking) : Type 0 where
  pub bytes : List (List ℕ)
  pub asked_are : asked ≡ all_given names bytes
  pub read : AreFiles files names bytes

-- none of them was asked for, or those up to one
abbrev pub AreAskedInOrder : Files → List (List ℕ) → List Asking → Type 0
AreAskedInOrder files names asked = (asked ≡ []) ⊎ ((last : List ℕ) × ((given : Option ℕ) × IsAskedUpTo files names asked last given))

-- those up to this one, of which more bytes were given than a file may have
pub record IsAskedUpToLong (files : Files) (names : List (List ℕ)) (asked : List Asking) (last : List ℕ) : Type 0 where
  pub given : ℕ
  pub long : file_limit < given
  pub up_to : IsAskedUpTo files names asked last (Some given)

-- where a file is refused: those up to it, if it is too long, and else all
abbrev pub AreAskedAtRefusal : Files → List (List ℕ) → List Asking → List ℕ → Refusal → Type 0
AreAskedAtRefusal files names asked file why =
    ((why ≡ TooLong) × IsAskedUpToLong files names asked file) ⊎ ((why ≢ TooLong) × AreAllAsked files names asked)

-- where a command on these files has no text: as its file is refused; up to the file that can't be read, which wasn't given; and some
-- of the first where memory did not suffice
abbrev pub AreAskedAt : Files → List (List ℕ) → List Asking → Failure → Type 0
AreAskedAt files names asked (failure.Refused file why) = AreAskedAtRefusal files names asked file.now why
AreAskedAt files names asked (failure.Unread file) = IsAskedUpTo files names asked file.now None
AreAskedAt files names asked failure.Memory = AreAskedInOrder files names asked

-- how it was asked for a file that has no bytes for a command: more were given than a file may have, or none; where memory did not
-- suffice, there may be no record of it
abbrev pub AsksOnce : List ℕ → (List Asking → Type 0) → Failure → Type 0
AsksOnce name HasAsked (failure.Refused file why) = (given : ℕ) × (file_limit < given) × HasAsked ((name, Some given) ∷ [])
AsksOnce name HasAsked (failure.Unread file) = HasAsked ((name, None) ∷ [])
AsksOnce name HasAsked failure.Memory = HasAsked [] ⊎ HasAsked ((name, None) ∷ [])

-- so it was asked, which `HasAsked` tells of each list
abbrev pub AsksAt : Files → List (List ℕ) → (List Asking → Type 0) → Failure → Type 0
AsksAt files names HasAsked why = (asked : List Asking) × HasAsked asked × AreAskedAt files names asked why

-- all of them were asked for, in order, and each was given
abbrev pub AsksEach : Files → List (List ℕ) → (List Asking → Type 0) → Type 0
AsksEach files names HasAsked = (asked : List Asking) × HasAsked asked × AreAllAsked files names asked

-- this holds of the files that the words ask for
pub record OfFiles (words : List (List ℕ)) (Holds : List (List ℕ) → Type 0) : Type 0 where
  pub command : Command
  pub asks : Asks words command
  pub holds : Holds (files_of command)

-- all the files that the words ask for were asked for, in order, and each was given
abbrev pub AsksAll : Files → List (List ℕ) → (List Asking → Type 0) → Type 0
AsksAll files words HasAsked = (command : Command) → Asks words command → AsksEach files (files_of command) HasAsked

-- of the files that the words ask for some of the first were asked for, or none
abbrev pub AsksFirst : Files → List (List ℕ) → (List Asking → Type 0) → Type 0
AsksFirst files words HasAsked =
    HasAsked [] ⊎ ((asked : List Asking) × HasAsked asked × OfFiles words (λ names. AreAskedInOrder files names asked))

-- those up to this one, which is the last that was asked for, and wasn't given
abbrev pub AsksUpTo : Files → List (List ℕ) → (List Asking → Type 0) → List ℕ → Type 0
AsksUpTo files words HasAsked last =
    (asked : List Asking) × HasAsked asked × OfFiles words (λ names. IsAskedUpTo files names asked last None)

-- those for which a command asks whose file is refused for this cause
abbrev pub AsksAtRefusal : Files → List (List ℕ) → (List Asking → Type 0) → List ℕ → Refusal → Type 0
AsksAtRefusal files words HasAsked file why =
    (asked : List Asking) × HasAsked asked × OfFiles words (λ names. AreAskedAtRefusal files names asked file why)
