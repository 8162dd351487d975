-- What an option gives, and several things that must all be there.
use Rattle.std.specs.Prelude.{ℕ, Bool, true, false, List, [], ◌∷◌, Option, Some, None}
use Rattle.std.specs.Option.{option_and_then, option_map}
use Rattle.command_words.specs.Written.{Written, flags_of}

-- what an option gives by its values: its default where it has none, and else what its one value gives; it isn't given twice
abbrev pub given : {X : Type 0} → (List ℕ → Option X) → X → List (List ℕ) → Option X
given read default [] = Some default
given read default (value ∷ []) = read value
given read default (value ∷ another ∷ values) = None

-- whether an option without a value is given; it isn't given twice
abbrev pub flag_given : List ℕ → List Written → Option Bool
flag_given name words = given (λ found. Some true) false (flags_of name words)

-- what a function gives of two things, of three, of four, where all are there
abbrev pub with_two : {A B R : Type 0} → (A → B → R) → Option A → Option B → Option R
with_two f a b = option_and_then (λ x. option_map (f x) b) a

abbrev pub with_three : {A B C R : Type 0} → (A → B → C → R) → Option A → Option B → Option C → Option R
with_three f a b c = option_and_then (λ x. with_two (f x) b c) a

abbrev pub with_four : {A B C D R : Type 0} → (A → B → C → D → R) → Option A → Option B → Option C → Option D → Option R
with_four f a b c d = option_and_then (λ x. with_three (f x) b c d) a

-- what a function gives of exactly one word, of two, of three
abbrev pub of_one : {R : Type 0} → (List ℕ → Option R) → List (List ℕ) → Option R
of_one f [] = None
of_one f (a ∷ []) = f a
of_one f (a ∷ b ∷ more) = None

abbrev pub of_two : {R : Type 0} → (List ℕ → List ℕ → Option R) → List (List ℕ) → Option R
of_two f [] = None
of_two f (a ∷ words) = of_one (f a) words

abbrev pub of_three : {R : Type 0} → (List ℕ → List ℕ → List ℕ → Option R) → List (List ℕ) → Option R
of_three f [] = None
of_three f (a ∷ words) = of_two (f a) words
