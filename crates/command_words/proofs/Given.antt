-- What an option gives, by the values that are found.
use Rattle.std.proofs.Common.{◌≡◌, ℕ, List, [], ◌∷◌, Option, Some, None, ap}
use Rattle.command_words.specs.Given.{given}
use Rattle.command_words.specs.Items.{AreSeveral}

pub given-several : {X : Type 0} (read : List ℕ → Option X) (default : X) (all : List (List ℕ)) → AreSeveral all → given read default all ≡ None
given-several read default all h = ap (given read default) h.all_are

pub given-once : {X : Type 0} (read : List ℕ → Option X) (default : X) (all : List (List ℕ)) (value : List ℕ) → all ≡ value ∷ [] → given read default all ≡ read value
given-once read default all value e = ap (given read default) e

pub given-default : {X : Type 0} (read : List ℕ → Option X) (default : X) (all : List (List ℕ)) → all ≡ [] → given read default all ≡ Some default
given-default read default all e = ap (given read default) e

pub ruleset given_rules = (given-several, given-once, given-default)
