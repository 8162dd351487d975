-- The files of a command that were fetched, and which were asked for.
use Rattle.std.proofs.Common.{◌≡◌, ◌∙◌, ◌≢◌, ◌<◌, ◌+◌, ℕ, List, Bor, Vec, Global, [], ◌∷◌, ◌++◌, Option, None, Some, length, zero, suc, inl, inr, ap, refl, sym, subst, arith, append-nil, append_assoc, map, take, drop, slice_index_or}
use Rattle.std.specs.Prelude.{get_or}
use Rattle.std.proofs.Math.Seq.{drop-cons}
use Rattle.std.proofs.lemmas.List.{map-append, take-append-drop, take_more}
use Rattle.dom_io.specs.Asked.{Asking, HasAsked}
use Rattle.dom_io.proofs.AskedLemmas.{HasAsked-then}
use Rattle.command_words.specs.Commands.{Command, files_of}
use Rattle.domsyn.specs.declared.failure.Failure.{Failure}
use Rattle.domsyn.specs.declared.failure.Failure.TheVariants as failure
use Rattle.domsyn.specs.declared.refusal.Refusal.{Refusal}
use Rattle.domsyn.specs.declared.refusal.Refusal.TheVariants.{TooLong}
use Rattle.domsyn.specs.Outcomes.{Files, IsFile, IsFirstTooLong, IsUnreadOf}
use Rattle.domsyn.specs.Failures.{AreUnfetched, IsUnfetched}
use Rattle.domsyn.specs.Fetches.{AreAskedAt, AreAskedAtRefusal, AreAskedInOrder, AreFiles, AsksAt, AsksOnce, IsAskedUpTo, IsFiles, all_given}

-- the name behind a reference, and the bytes of a vector of them
abbrev pub name_of : Bor (List ℕ) → List ℕ
name_of name = name.now

abbrev pub bytes_of : Vec ℕ Global → List ℕ
bytes_of v = v.items

-- names that are seen through something else, as the list's front, one and the rest
module _ {X : Type 0} (f : X → List ℕ) (xs : List X) (i : ℕ) (d : X) (lt : i < length xs) where
  pub one_more : map f (take (i + 1) xs) ≡ map f (take i xs) ++ (f (slice_index_or xs i d) ∷ [])
  one_more = ap (map f) (take_more xs i d lt) ∙ map-append f (take i xs) (slice_index_or xs i d ∷ [])

  pub names_split : map f xs ≡ map f (take i xs) ++ (f (slice_index_or xs i d) ∷ map f (drop (suc i) xs))
  names_split =
      ap (map f) (sym (take-append-drop i xs) ∙ ap (λ (l : List X). take i xs ++ l) (drop-cons xs i d lt))
      ∙ map-append f (take i xs) (slice_index_or xs i d ∷ drop (suc i) xs)

  pub more_split : map f xs ≡ map f (take (i + 1) xs) ++ map f (drop (suc i) xs)
  more_split =
      names_split
      ∙ sym (append_assoc (map f (take i xs)) (f (slice_index_or xs i d) ∷ []) (map f (drop (suc i) xs)))
      ∙ ap (λ (l : List (List ℕ)). l ++ map f (drop (suc i) xs)) (sym one_more)

-- as many as there are names
pub files_count : (files : Files) (names bytes : List (List ℕ)) → AreFiles files names bytes → length bytes ≡ length names
files_count files [] [] are = refl
files_count files [] (file ∷ bytes) are = absurd are
files_count files (name ∷ names) [] are = absurd are
files_count files (name ∷ names) (file ∷ bytes) are = ap suc (files_count files names bytes are.1)

-- whatever files are known
pub files_untold : (files : Files) (names bytes : List (List ℕ)) → AreFiles files names bytes → AreFiles None names bytes
files_untold files [] [] are = tt
files_untold files [] (file ∷ bytes) are = absurd are
files_untold files (name ∷ names) [] are = absurd are
files_untold files (name ∷ names) (file ∷ bytes) are = (record { holds = tt; within = are.0.within }, files_untold files names bytes are.1)

-- the file at a place
pub file_at : (files : Files) (names bytes : List (List ℕ)) (i : ℕ) (d e : List ℕ) → AreFiles files names bytes → i < length bytes → IsFile files (get_or names i d) (get_or bytes i e)
file_at files [] [] i d e are lt = absurd (omega (arith, lt))
file_at files [] (file ∷ bytes) i d e are lt = absurd are
file_at files (name ∷ names) [] i d e are lt = absurd are
file_at files (name ∷ names) (file ∷ bytes) zero d e are lt = are.0
file_at files (name ∷ names) (file ∷ bytes) (suc i) d e are lt = file_at files names bytes i d e are.1 (omega (arith, lt))

-- those of a command are those of the same command
pub files_moved : (files : Files) (command other : Command) (bytes : List (List ℕ)) → command ≡ other → AreFiles files (files_of command) bytes → AreFiles files (files_of other) bytes
files_moved files command other bytes is are = subst (λ (k : Command). AreFiles files (files_of k) bytes) is are

-- and a place among them is one among their bytes
pub place_within : (command other : Command) (bytes : List (List ℕ)) (n i : ℕ) → command ≡ other → IsFiles command bytes → length bytes ≡ n → i < length (files_of other) → i < n
place_within command other bytes n i is are count lt =
    let same = files_count None (files_of command) bytes are in
    let names = ap (λ (k : Command). length (files_of k)) is in
    omega (arith, same, names, count, lt)

-- a file more
pub files_then : (files : Files) (names bytes : List (List ℕ)) (name file : List ℕ) → AreFiles files names bytes → IsFile files name file
    → AreFiles files (names ++ (name ∷ [])) (bytes ++ (file ∷ []))
files_then files [] [] name file are is = (is, tt)
files_then files [] (b ∷ bytes) name file are is = absurd are
files_then files (n ∷ names) [] name file are is = absurd are
files_then files (n ∷ names) (b ∷ bytes) name file are is = (are.0, files_then files names bytes name file are.1 is)

pub given_then : (files : Files) (names bytes : List (List ℕ)) (name file : List ℕ) → AreFiles files names bytes
    → all_given (names ++ (name ∷ [])) (bytes ++ (file ∷ [])) ≡ all_given names bytes ++ ((name, Some (length file)) ∷ [])
given_then files [] [] name file are = refl
given_then files [] (b ∷ bytes) name file are = absurd are
given_then files (n ∷ names) [] name file are = absurd are
given_then files (n ∷ names) (b ∷ bytes) name file are = ap (λ (l : List Asking). (n, Some (length b)) ∷ l) (given_then files names bytes name file are.1)

-- some files can be read, and of those behind them one has no bytes
too_long_behind : (files : Files) (names bytes more : List (List ℕ)) (name : List ℕ) → AreFiles files names bytes → IsFirstTooLong files more name → IsFirstTooLong files (names ++ more) name
too_long_behind files [] [] more name are is = is
too_long_behind files [] (b ∷ bytes) more name are is = absurd are
too_long_behind files (n ∷ names) [] more name are is = absurd are
too_long_behind files (n ∷ names) (b ∷ bytes) more name are is = inr (b, are.0, too_long_behind files names bytes more name are.1 is)

unread_behind : (files : Files) (names bytes more : List (List ℕ)) (name : List ℕ) → AreFiles files names bytes → IsUnreadOf files more name → IsUnreadOf files (names ++ more) name
unread_behind files [] [] more name are is = is
unread_behind files [] (b ∷ bytes) more name are is = absurd are
unread_behind files (n ∷ names) [] more name are is = absurd are
unread_behind files (n ∷ names) (b ∷ bytes) more name are is = inr (b, are.0, unread_behind files names bytes more name are.1 is)

module _ (files : Files) (names bytes more : List (List ℕ)) (name : List ℕ) (are : AreFiles files names bytes) where
  -- the file of a name has no bytes, where the shelf's count rises by this or a later fetch
  pub unfetched_behind : (Rises RisesHere : Type 0) (s : Failure) → (RisesHere → Rises) → IsUnfetched files name RisesHere s → AreUnfetched files (names ++ (name ∷ more)) Rises s
  unfetched_behind Rises RisesHere (failure.Refused file why) rises is =
      (is.1, too_long_behind files names bytes (name ∷ more) file.now are (inl (is.0, is.2)))
  unfetched_behind Rises RisesHere (failure.Unread file) rises is = (unread_behind files names bytes (name ∷ more) file.now are (inl is.0), rises is.1)
  unfetched_behind Rises RisesHere failure.Memory rises is = tt

  up_to : (last : List ℕ) (given : Option ℕ) → last ≡ name → IsAskedUpTo files (names ++ (name ∷ more)) (all_given names bytes ++ ((name, given) ∷ [])) last given
  up_to last given same = record {
    before = names;
    bytes = bytes;
    after = more;
    names_are = ap (λ (n : List ℕ). names ++ (n ∷ more)) (sym same);
    asked_are = ap (λ (n : List ℕ). all_given names bytes ++ ((n, given) ∷ [])) (sym same);
    read = are;
  }

-- one file more was given, before some that were asked for in order
in_order_later : (files : Files) (name file : List ℕ) (names : List (List ℕ)) (asked : List Asking) → IsFile files name file → AreAskedInOrder files names asked
    → AreAskedInOrder files (name ∷ names) ((name, Some (length file)) ∷ asked)
in_order_later files name file names asked is (inl none) =
    inr (
      name,
      (
        Some (length file),
        record {
          before = [];
          bytes = [];
          after = names;
          names_are = refl;
          asked_are = ap (λ (l : List Asking). (name, Some (length file)) ∷ l) none;
          read = tt;
        },
      ),
    )
in_order_later files name file names asked is (inr up) =
    let u = up.1.1 in
    inr (
      up.0,
      (
        up.1.0,
        record {
          before = name ∷ u.before;
          bytes = file ∷ u.bytes;
          after = u.after;
          names_are = ap (λ (l : List (List ℕ)). name ∷ l) u.names_are;
          asked_are = ap (λ (l : List Asking). (name, Some (length file)) ∷ l) u.asked_are;
          read = (is, u.read);
        },
      ),
    )

-- some of the first were given
given_in_order : (files : Files) (names bytes more : List (List ℕ)) → AreFiles files names bytes → AreAskedInOrder files (names ++ more) (all_given names bytes)
given_in_order files [] [] more are = inl refl
given_in_order files [] (b ∷ bytes) more are = absurd are
given_in_order files (n ∷ names) [] more are = absurd are
given_in_order files (n ∷ names) (b ∷ bytes) more are = in_order_later files n b (names ++ more) (all_given names bytes) are.0 (given_in_order files names bytes more are.1)

-- a failure that isn't one of a fetch
abbrev pub IsLater : Failure → Type 0
IsLater (failure.Refused file why) = why ≢ TooLong
IsLater (failure.Unread file) = ⊥
IsLater failure.Memory = Unit {0}

module _ (files : Files) (a b : Option (List Asking)) (names bytes : List (List ℕ)) (are : AreFiles files names bytes) (has : HasAsked a b (all_given names bytes)) where
  -- memory did not suffice behind some files
  pub asks_forgotten : (more : List (List ℕ)) → AsksAt files (names ++ more) (HasAsked a b) failure.Memory
  asks_forgotten more = (all_given names bytes, has, given_in_order files names bytes more are)

  -- the file of a name behind them has no bytes
  pub asks_behind : (c : Option (List Asking)) (more : List (List ℕ)) (name : List ℕ) (Rises : Type 0) (s : Failure) → IsUnfetched files name Rises s → AsksOnce name (HasAsked b c) s
      → AsksAt files (names ++ (name ∷ more)) (HasAsked a c) s
  asks_behind c more name Rises (failure.Refused file why) is once =
      let asked : List Asking = (name, Some once.0) ∷ [] in (
        all_given names bytes ++ asked,
        HasAsked-then a b c (all_given names bytes) asked has once.2,
        inl (is.1, record { given = once.0; long = once.1; up_to = up_to files names bytes more name are file.now (Some once.0) is.0 }),
      )
  asks_behind c more name Rises (failure.Unread file) is once =
      let asked : List Asking = (name, None) ∷ [] in
      (all_given names bytes ++ asked, HasAsked-then a b c (all_given names bytes) asked has once, up_to files names bytes more name are file.now None is.0)
  asks_behind c more name Rises failure.Memory is (inl none) =
      let same = append-nil (all_given names bytes) in
      (all_given names bytes, subst (HasAsked a c) same (HasAsked-then a b c (all_given names bytes) [] has none), given_in_order files names bytes (name ∷ more) are)
  asks_behind c more name Rises failure.Memory is (inr once) =
      let asked : List Asking = (name, None) ∷ [] in
      (all_given names bytes ++ asked, HasAsked-then a b c (all_given names bytes) asked has once, inr (name, (None, up_to files names bytes more name are name None refl)))

  -- a failure that isn't one of a fetch, where all were asked for
  pub asks_whole : (s : Failure) → IsLater s → AsksAt files names (HasAsked a b) s
  asks_whole (failure.Refused file why) later = (all_given names bytes, has, inr (later, record { bytes = bytes; asked_are = refl; read = are }))
  asks_whole (failure.Unread file) later = absurd later
  asks_whole failure.Memory later =
      (all_given names bytes, has, subst (λ (l : List (List ℕ)). AreAskedInOrder files l (all_given names bytes)) (append-nil names) (given_in_order files names bytes [] are))

-- a file more was given
pub asks_then : (files : Files) (a b c : Option (List Asking)) (names bytes : List (List ℕ)) (name file : List ℕ) → AreFiles files names bytes → HasAsked a b (all_given names bytes)
    → HasAsked b c ((name, Some (length file)) ∷ []) → HasAsked a c (all_given (names ++ (name ∷ [])) (bytes ++ (file ∷ [])))
asks_then files a b c names bytes name file are has more =
    subst (HasAsked a c) (sym (given_then files names bytes name file are)) (HasAsked-then a b c (all_given names bytes) ((name, Some (length file)) ∷ []) has more)

-- all that was asked for, whatever failed, is in order
refusal_in_order : (files : Files) (names : List (List ℕ)) (asked : List Asking) (file : List ℕ) (why : Refusal) → AreAskedAtRefusal files names asked file why → AreAskedInOrder files names asked
refusal_in_order files names asked file why (inl up) = inr (file, (Some up.1.given, up.1.up_to))
refusal_in_order files names asked file why (inr all) =
    subst (AreAskedInOrder files names) (sym all.1.asked_are)
    (subst (λ (l : List (List ℕ)). AreAskedInOrder files l (all_given names all.1.bytes)) (append-nil names) (given_in_order files names all.1.bytes [] all.1.read))

pub in_order_at : (files : Files) (names : List (List ℕ)) (asked : List Asking) (s : Failure) → AreAskedAt files names asked s → AreAskedInOrder files names asked
in_order_at files names asked (failure.Refused file why) is = refusal_in_order files names asked file.now why is
in_order_at files names asked (failure.Unread file) is = inr (file.now, (None, is))
in_order_at files names asked failure.Memory is = is
